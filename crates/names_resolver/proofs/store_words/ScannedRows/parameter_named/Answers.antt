-- `parameter_named` goes along the parameters, one at a time.
use Rattle.std.proofs.Common.{◌≡◌, ℕ, ◌+◌, ◌-◌, sym, ap, ◌∙◌, arith}
use Rattle.words.specs.Links.{link}
use Rattle.check_structure.specs.LinkLaws.{part-inside}
use Rattle.names.specs.Names.{parameter_from}
use Rattle.names.proofs.ScopeLaws.{parameter-outside}
use Rattle.names_resolver.specs.MeantLaws.{named-nothing, named_here, named-along, named-inside}
use Rattle.names_resolver.proofs.store_words.ScannedRows.parameter_named.Goals as goal

pub returns-then-definition-eq0 : goal.returns-then-definition-eq0
returns-then-definition-eq0 c = sym (parameter-outside _ _ _ c.if-definition-eq0.true)

pub loop-passed-init : goal.loop-passed-init
loop-passed-init c =
    let rows = c.args.self.now.rows.now in (
      part-inside rows c.args.self.now.scanned.tree c.args.definition 2 _ c.requires (omega arith) c.link-parameter.ensures,
      named-inside rows c.args.definition c.args.number c.if-definition-eq0.false ∙ ap (λ (p : ℕ). parameter_from 64 rows p c.args.number) (sym c.link-parameter.ensures),
    )

pub returns-then-not-is_declaration : goal.returns-then-not-is_declaration
returns-then-not-is_declaration c = sym (c.loop-passed.invariant.1 ∙ named-nothing _ _ _ _ (sym c.is_declaration.ensures ∙ c.if-not-is_declaration.true))

pub returns-then-number_at-number : goal.returns-then-number_at-number
returns-then-number_at-number c =
    sym (c.loop-passed.invariant.1 ∙ named_here _ _ _ _ (omega arith) (sym c.is_declaration.ensures ∙ c.if-not-is_declaration.false) (sym c.number_at.ensures ∙ c.if-number_at-number.true))

pub loop-passed-preserved : goal.loop-passed-preserved
loop-passed-preserved c =
    let at = c.loop-passed in
    let rows = c.args.self.now.rows.now in
    let one_less : 64 - at._passed - 1 ≡ 64 - (at._passed + 1) = omega arith in (
      part-inside rows c.args.self.now.scanned.tree at.parameter 5 _ at.invariant.0 (omega arith) c.link-parameter-in-loop-passed.ensures,
      at.invariant.1
          ∙ named-along rows (64 - at._passed) at.parameter c.args.number (omega arith) (sym c.is_declaration.ensures ∙ c.if-not-is_declaration.false) (λ q. c.if-number_at-number.false (c.number_at.ensures ∙ q))
          ∙ ap (λ (k : ℕ). parameter_from k rows (link rows at.parameter 5) c.args.number) one_less
          ∙ ap (λ (p : ℕ). parameter_from (64 - (at._passed + 1)) rows p c.args.number) (sym c.link-parameter-in-loop-passed.ensures),
    )

pub returns : goal.returns
unfolding parameter_from
returns c =
    let at = c.loop-passed in
    let none : 64 - at._passed ≡ 0 = omega arith in
    sym (at.invariant.1 ∙ ap (λ (k : ℕ). parameter_from k c.args.self.now.rows.now at.parameter c.args.number) none)
