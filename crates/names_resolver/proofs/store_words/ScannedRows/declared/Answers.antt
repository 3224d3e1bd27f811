-- `declared` goes outward from the row's scope, one declaration at a time.
use Rattle.std.proofs.Common.{◌≡◌, ℕ, ◌+◌, ◌-◌, sym, ap, ◌∙◌, arith}
use Rattle.names.specs.Names.{scope_at, meant_from}
use Rattle.names_resolver.specs.ScanLaws.{scope-is, scope-inside}
use Rattle.names_resolver.specs.MeantLaws.{meant-nothing, meant-here, meant-outward}
use Rattle.names_resolver.proofs.store_words.ScannedRows.declared.Goals as goal

pub loop-outward-init : goal.loop-outward-init
loop-outward-init c =
    let s = c.args.self.now.scanned in
    let e = c.wide-declaration.ensures in
    (omega (arith, e, scope-inside s c.args.row c.requires), ap (λ (d : ℕ). meant_from 64 c.args.self.now.rows.now d c.args.number) (sym (e ∙ scope-is s _ c.requires)))

pub returns-then-declaration-eq0 : goal.returns-then-declaration-eq0
returns-then-declaration-eq0 c = sym (c.loop-outward.invariant.1 ∙ meant-nothing _ _ _ _ c.if-declaration-eq0.true)

pub returns-then-number_at-number : goal.returns-then-number_at-number
returns-then-number_at-number c =
    sym (c.loop-outward.invariant.1 ∙ meant-here _ _ _ _ (omega arith) (sym c.number_at.ensures ∙ c.if-number_at-number.true))

pub loop-outward-preserved : goal.loop-outward-preserved
loop-outward-preserved c =
    let at = c.loop-outward in
    let s = c.args.self.now.scanned in
    let rows = c.args.self.now.rows.now in
    let e = c.wide-declaration-in-loop-outward.ensures in
    let scope = e ∙ scope-is s at.declaration at.invariant.0 in
    let one_less : 64 - at._outward - 1 ≡ 64 - (at._outward + 1) = omega arith in (
      omega (arith, e, scope-inside s at.declaration at.invariant.0),
      at.invariant.1
          ∙ meant-outward rows (64 - at._outward) at.declaration c.args.number (omega arith) c.if-declaration-eq0.false (λ q. c.if-number_at-number.false (c.number_at.ensures ∙ q))
          ∙ ap (λ (k : ℕ). meant_from k rows (scope_at rows at.declaration) c.args.number) one_less
          ∙ ap (λ (d : ℕ). meant_from (64 - (at._outward + 1)) rows d c.args.number) (sym scope),
    )

pub returns : goal.returns
unfolding meant_from
returns c =
    let at = c.loop-outward in
    let none : 64 - at._outward ≡ 0 = omega arith in
    sym (at.invariant.1 ∙ ap (λ (k : ℕ). meant_from k c.args.self.now.rows.now at.declaration c.args.number) none)
