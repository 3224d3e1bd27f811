-- `put_words` writes one word after the other.
use Rattle.std.proofs.Common.{◌≡◌, ℕ, ap, ◌∙◌, arith}
use Rattle.words.specs.Laws.{back}
use Rattle.words.specs.Over.{over}
use Rattle.words.specs.OverLaws.{over_none}
use Rattle.check_grammar.specs.Grammar.{tabulate}
use Rattle.join.specs.Join.{placed_word}
use Rattle.join_rows.specs.RowLaws.{word_more}
use Rattle.join_rows.specs.Standings.{placement_of}
use Rattle.join_rows.proofs.placed.Placed.put_words.Goals as goal

pub loop-field-init : goal.loop-field-init
loop-field-init c = over_none _

pub loop-field-preserved : goal.loop-field-preserved
loop-field-preserved c =
    let entry = placed_word (placement_of c.args.self.now.standing) c.args.self.now.rows.now c.args.row in
    let room = c.requires.1 in
    word_more entry c.args.out.now c.loop-field.out c.loop-field.field _ c.loop-field.invariant (omega arith) (back _ c.placed_word.type_inv ∙ c.placed_word.ensures)

pub returns : goal.returns
returns c =
    let entry = placed_word (placement_of c.args.self.now.standing) c.args.self.now.rows.now c.args.row in
    let e : c.loop-field.field ≡ 6 = omega arith in
    c.loop-field.invariant ∙ ap (λ (n : ℕ). over (tabulate entry 0 n) c.args.out.now) e
