-- `is_mark` goes by the sort of the mark.
use mathlib.Core.Path.{sym, ap, ◌∙◌}
use lib.IntN.{ℤ}
use Rattle.words.specs.Laws.{back}
use Rattle.language.specs.Trees.{case}
use Rattle.language.specs.Decode.{items_at}
use Rattle.machine_flows.specs.Lists.{mark_of, marks}
use Rattle.machine_flows.specs.declared.SoughtMark.{SoughtMark}
use Rattle.machine_flows.proofs.lists.is_mark.Goals as goal

pub returns-in-Case : goal.returns-in-Case
returns-in-Case c =
    c.is_case.ensures ∙ ap (λ (z : ℤ). marks (case z) (items_at c.args.rows.now c.args.row)) (back c.in-Case.value c.in-Case.known_told-1-own.given.0.1) ∙ ap (λ (m : SoughtMark). marks (mark_of m) (items_at c.args.rows.now c.args.row)) (sym c.in-Case.is)

pub returns-in-Default : goal.returns-in-Default
returns-in-Default c =
    c.is_default.ensures ∙ ap (λ (m : SoughtMark). marks (mark_of m) (items_at c.args.rows.now c.args.row)) (sym c.in-Default.is)

pub returns-in-Label : goal.returns-in-Label
returns-in-Label c =
    c.is_label.ensures ∙ ap (λ (m : SoughtMark). marks (mark_of m) (items_at c.args.rows.now c.args.row)) (sym c.in-Label.is)
