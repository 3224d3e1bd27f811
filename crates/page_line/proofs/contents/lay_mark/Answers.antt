-- `lay_mark`: no mark but a label is printed.
use mathlib.Core.Path.{ap}
use mathlib.Core.List.{List, []}
use Prim.Native.Nat.{ℕ}
use Rattle.page.specs.Page.{mark_words, parted}
use Rattle.language_shapes.specs.Shapes.{mark_tree}
use Rattle.language_shapes.specs.declared.MarkShape.{MarkShape}
use Rattle.page_line.specs.LaidLaws.{laid_as, laid_of, laid-nothing}
use Rattle.page_line.specs.ContentLaws.{label-bytes}
use Rattle.page_line.proofs.contents.lay_mark.Goals as goal
use Rattle.page_line.proofs.contents.lay_mark.Goals.{Start}

abbrev bytes : Start → MarkShape → List ℕ
bytes c m = parted (mark_words c.args.sizes (mark_tree [] m))

pub lay_label-requires : goal.lay_label-requires
lay_label-requires c =
    rw (c.in-Label.is, ← label-bytes c.args.sizes c.in-Label.number) at c.requires

pub returns-in-Case : goal.returns-in-Case
unfolding parted
returns-in-Case c =
    laid-nothing _ _ _ (ap (bytes (goal.at.returns-in-Case c).Start) c.in-Case.is) c.requires

pub returns-in-Default : goal.returns-in-Default
unfolding parted
returns-in-Default c =
    laid-nothing _ _ _ (ap (bytes (goal.at.returns-in-Default c).Start) c.in-Default.is) c.requires

pub returns-in-Label : goal.returns-in-Label
returns-in-Label c =
    laid_of (bytes (goal.at.returns-in-Label c).Start) c.in-Label.is (laid_as (label-bytes c.args.sizes c.in-Label.number) c.lay_label.ensures)
