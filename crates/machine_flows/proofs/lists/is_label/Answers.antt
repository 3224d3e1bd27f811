-- `is_label` tests the kind by its number, and then the label's number.
use mathlib.Core.Path.{sym, ap, ◌∙◌}
use borrow.Author.Tests.{ne_eqb}
use lib.Dec.{eqb}
use Rattle.language.specs.Trees.{same_mark}
use Rattle.words.specs.declared.MarkKind.TheVariants.{Label}
use Rattle.machine_flows.proofs.Items.{label_is, label-not, number-label, other-mark}
use Rattle.machine_flows.proofs.lists.is_label.Goals as goal

pub returns-then-number_at-eq53 : goal.returns-then-number_at-eq53
unfolding same_mark
returns-then-number_at-eq53 c =
    let past-number-at = c.number_at in
    ap (eqb c.args.label) c.number_at-then-number_at-eq53.ensures ∙ sym (label_is c.requires c.args.label (number-label _ _ past-number-at.ensures c.if-number_at-eq53.true))

pub returns-else-number_at-eq53 : goal.returns-else-number_at-eq53
returns-else-number_at-eq53 c =
    rw (ne_eqb _ _ c.if-number_at-eq53.false) (sym (label-not c.requires c.args.label (other-mark _ _ c.number_at.ensures Label c.if-number_at-eq53.false)))
