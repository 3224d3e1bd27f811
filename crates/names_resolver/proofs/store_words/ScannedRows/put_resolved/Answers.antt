-- `put_resolved` writes one word after the other.
use Rattle.std.proofs.Common.{◌≡◌, ℕ, length, ap, ◌∙◌, arith}
use Rattle.words.specs.Laws.{back}
use Rattle.words.specs.Over.{over}
use Rattle.words.specs.OverLaws.{over_none}
use Rattle.names.specs.Names.{table_of, resolved_word, resolved}
use Rattle.names_resolver.specs.WordLaws.{fill_more}
use Rattle.names_resolver.proofs.store_words.ScannedRows.put_resolved.Goals as goal

pub loop-word-init : goal.loop-word-init
loop-word-init c = over_none _

pub loop-word-preserved : goal.loop-word-preserved
loop-word-preserved c =
    let word = resolved_word c.args.self.now.store c.args.self.now.rows.now in
    fill_more word c.args.out.now c.loop-word.out c.loop-word.word _ c.loop-word.invariant (omega (arith, c.requires)) (back _ c.resolved_word.type_inv ∙ c.resolved_word.ensures)

pub returns : goal.returns
unfolding resolved
returns c =
    let e : c.loop-word.word ≡ length c.args.self.now.rows.now = omega arith in
    c.loop-word.invariant ∙ ap (λ (n : ℕ). over (table_of (resolved_word c.args.self.now.store c.args.self.now.rows.now) n) c.args.out.now) e
