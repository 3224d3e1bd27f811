-- `lay_assignment`: by what stands at the row.
use mathlib.Core.Path.{ap, ◌∙◌}
use mathlib.Core.List.{List}
use Prim.Native.Nat.{ℕ}
use Rattle.language.specs.Trees.{Expression}
use Rattle.page.specs.Page.{assignment_words, parted}
use Rattle.page_line.specs.LaidLaws.{laid_of, laid-nothing}
use Rattle.page_line.specs.ReadsLaws.{read_as}
use Rattle.page_line.specs.ContentLaws.{no-assignment-chosen}
use Rattle.page_line.proofs.expressions.lay_assignment.Goals as goal
use Rattle.page_line.proofs.expressions.lay_assignment.Goals.{Start}

abbrev bytes : Start → Expression → List ℕ
bytes c e = parted (assignment_words c.args.sizes e)

pub lay_operated-requires : goal.lay_operated-requires
lay_operated-requires c =
    let f = read_as c.expression_at-shape.ensures.0 c.in-Operation.is in
    record { readable = (c.requires.readable.0, f.inside); operation_in_bounds = rw f.is at c.requires.row_in_bounds }

pub returns-in-Number : goal.returns-in-Number
unfolding parted
returns-in-Number c =
    let f = read_as c.expression_at-shape.ensures.0 c.in-Number.is in
    laid-nothing _ _ _ (ap (bytes (goal.at.returns-in-Number c).Start) f.is) c.requires.row_in_bounds

pub returns-in-Read : goal.returns-in-Read
unfolding parted
returns-in-Read c =
    let f = read_as c.expression_at-shape.ensures.0 c.in-Read.is in
    laid-nothing _ _ _ (ap (bytes (goal.at.returns-in-Read c).Start) f.is) c.requires.row_in_bounds

pub returns-in-Operation : goal.returns-in-Operation
returns-in-Operation c =
    let f = read_as c.expression_at-shape.ensures.0 c.in-Operation.is in
    laid_of (bytes (goal.at.returns-in-Operation c).Start) f.is c.lay_operated.ensures

pub returns-in-Choice : goal.returns-in-Choice
returns-in-Choice c =
    let f = read_as c.expression_at-shape.ensures.0 c.in-Choice.is in
    laid-nothing _ _ _ (ap (bytes (goal.at.returns-in-Choice c).Start) f.is ∙ no-assignment-chosen c.args.sizes c.args.rows.now c.in-Choice.field-0) c.requires.row_in_bounds

pub returns-in-Call : goal.returns-in-Call
unfolding parted
returns-in-Call c =
    let f = read_as c.expression_at-shape.ensures.0 c.in-Call.is in
    laid-nothing _ _ _ (ap (bytes (goal.at.returns-in-Call c).Start) f.is) c.requires.row_in_bounds
