-- `is_case` tests the kind by its number, and then the value by its bits.
use mathlib.Core.Path.{sym, ap, ◌∙◌}
use borrow.Author.Tests.{ne_eqb}
use Rattle.words.specs.Word.{same_word}
use Rattle.words.specs.Laws.{same_word-bits}
use Rattle.language.specs.Trees.{same_mark}
use Rattle.words.specs.declared.MarkKind.TheVariants.{Case}
use Rattle.machine_flows.proofs.Items.{case-is, case-not, number-case, other-mark}
use Rattle.machine_flows.proofs.lists.is_case.Goals as goal

pub returns-then-number_at-eq48 : goal.returns-then-number_at-eq48
unfolding same_mark
returns-then-number_at-eq48 c =
    let past-number-at = c.number_at in
    same_word-bits c.args.value c.word_at.result c.ranges.value.sfits c.word_at.type_inv ∙ ap (same_word c.args.value) c.word_at.ensures
    ∙ sym (case-is c.requires c.args.value (number-case _ _ past-number-at.ensures c.if-number_at-eq48.true))

pub returns-else-number_at-eq48 : goal.returns-else-number_at-eq48
returns-else-number_at-eq48 c =
    rw (ne_eqb _ _ c.if-number_at-eq48.false) (sym (case-not c.requires c.args.value (other-mark _ _ c.number_at.ensures Case c.if-number_at-eq48.false)))
