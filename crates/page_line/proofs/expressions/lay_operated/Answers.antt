-- `lay_operated`: no operation but assign is a statement of the kernel.
use mathlib.Core.Path.{subst, ap}
use mathlib.Core.List.{List}
use Prim.Native.Nat.{ℕ}
use Rattle.words.specs.Table.{row_count}
use Rattle.page.specs.Page.{assignment_words, parted}
use Rattle.language_shapes.specs.Shapes.{operation_tree}
use Rattle.language_shapes.specs.declared.OperationShape.{OperationShape}
use Rattle.page_line.specs.Reads.{OperationInside}
use Rattle.page_line.specs.LaidLaws.{laid_of, laid-nothing}
use Rattle.page_line.proofs.expressions.lay_operated.Goals as goal
use Rattle.page_line.proofs.expressions.lay_operated.Goals.{Start}

abbrev bytes : Start → OperationShape → List ℕ
bytes c o = parted (assignment_words c.args.sizes (operation_tree c.args.rows.now o))

pub lay_stored-requires : goal.lay_stored-requires
lay_stored-requires c =
    let inside = subst (λ (o : OperationShape). OperationInside (row_count c.args.rows.now) o) c.in-Assign.is c.requires.readable.1 in
    record { readable = (c.requires.readable.0, inside.0, inside.1); value_in_bounds = rw c.in-Assign.is at c.requires.operation_in_bounds }

pub returns-in-Assign : goal.returns-in-Assign
returns-in-Assign c =
    laid_of (bytes (goal.at.returns-in-Assign c).Start) c.in-Assign.is c.lay_stored.ensures

pub returns-in-Minus : goal.returns-in-Minus
unfolding parted
returns-in-Minus c =
    laid-nothing _ _ _ (ap (bytes (goal.at.returns-in-Minus c).Start) c.in-Minus.is) c.requires.operation_in_bounds

pub returns-in-Not : goal.returns-in-Not
unfolding parted
returns-in-Not c =
    laid-nothing _ _ _ (ap (bytes (goal.at.returns-in-Not c).Start) c.in-Not.is) c.requires.operation_in_bounds

pub returns-in-Binary : goal.returns-in-Binary
unfolding parted
returns-in-Binary c =
    laid-nothing _ _ _ (ap (bytes (goal.at.returns-in-Binary c).Start) c.in-Binary.is) c.requires.operation_in_bounds

pub returns-in-Comma : goal.returns-in-Comma
unfolding parted
returns-in-Comma c =
    laid-nothing _ _ _ (ap (bytes (goal.at.returns-in-Comma c).Start) c.in-Comma.is) c.requires.operation_in_bounds

pub returns-in-Compound : goal.returns-in-Compound
unfolding parted
returns-in-Compound c =
    laid-nothing _ _ _ (ap (bytes (goal.at.returns-in-Compound c).Start) c.in-Compound.is) c.requires.operation_in_bounds

pub returns-in-Prefix : goal.returns-in-Prefix
unfolding parted
returns-in-Prefix c =
    laid-nothing _ _ _ (ap (bytes (goal.at.returns-in-Prefix c).Start) c.in-Prefix.is) c.requires.operation_in_bounds

pub returns-in-Postfix : goal.returns-in-Postfix
unfolding parted
returns-in-Postfix c =
    laid-nothing _ _ _ (ap (bytes (goal.at.returns-in-Postfix c).Start) c.in-Postfix.is) c.requires.operation_in_bounds
