-- `lay_operation`: minus and the binary operations; no other is assigned in the kernel.
use mathlib.Core.Path.{subst, ap}
use mathlib.Core.List.{List}
use Prim.Native.Nat.{ℕ}
use Rattle.words.specs.Table.{row_count}
use Rattle.page.specs.Page.{ended, value_words}
use Rattle.language_shapes.specs.Shapes.{operation_tree}
use Rattle.language_shapes.specs.declared.OperationShape.{OperationShape}
use Rattle.page_line.specs.Contents.{led}
use Rattle.page_line.specs.Reads.{OperationInside}
use Rattle.page_line.specs.LaidLaws.{laid_of, laid-nothing}
use Rattle.page_line.proofs.expressions.lay_operation.Goals as goal
use Rattle.page_line.proofs.expressions.lay_operation.Goals.{Start}

abbrev bytes : Start → OperationShape → List ℕ
bytes c o = led (ended (value_words c.args.sizes (operation_tree c.args.rows.now o)))

pub lay_minus-requires : goal.lay_minus-requires
lay_minus-requires c =
    record { readable = (c.requires.readable.0, subst (λ (o : OperationShape). OperationInside (row_count c.args.rows.now) o) c.in-Minus.is c.requires.readable.1); operand_in_bounds = rw c.in-Minus.is at c.requires.operation_in_bounds }

pub lay_binary-requires : goal.lay_binary-requires
lay_binary-requires c =
    let inside = subst (λ (o : OperationShape). OperationInside (row_count c.args.rows.now) o) c.in-Binary.is c.requires.readable.1 in
    record { readable = (c.requires.readable.0, inside.0, inside.1); right_in_bounds = rw c.in-Binary.is at c.requires.operation_in_bounds }

pub returns-in-Minus : goal.returns-in-Minus
returns-in-Minus c =
    laid_of (bytes (goal.at.returns-in-Minus c).Start) c.in-Minus.is c.lay_minus.ensures

pub returns-in-Binary : goal.returns-in-Binary
returns-in-Binary c =
    laid_of (bytes (goal.at.returns-in-Binary c).Start) c.in-Binary.is c.lay_binary.ensures

pub returns-in-Not : goal.returns-in-Not
unfolding ended
returns-in-Not c =
    laid-nothing _ _ _ (ap (bytes (goal.at.returns-in-Not c).Start) c.in-Not.is) c.requires.operation_in_bounds

pub returns-in-Comma : goal.returns-in-Comma
unfolding ended
returns-in-Comma c =
    laid-nothing _ _ _ (ap (bytes (goal.at.returns-in-Comma c).Start) c.in-Comma.is) c.requires.operation_in_bounds

pub returns-in-Assign : goal.returns-in-Assign
unfolding ended
returns-in-Assign c =
    laid-nothing _ _ _ (ap (bytes (goal.at.returns-in-Assign c).Start) c.in-Assign.is) c.requires.operation_in_bounds

pub returns-in-Compound : goal.returns-in-Compound
unfolding ended
returns-in-Compound c =
    laid-nothing _ _ _ (ap (bytes (goal.at.returns-in-Compound c).Start) c.in-Compound.is) c.requires.operation_in_bounds

pub returns-in-Prefix : goal.returns-in-Prefix
unfolding ended
returns-in-Prefix c =
    laid-nothing _ _ _ (ap (bytes (goal.at.returns-in-Prefix c).Start) c.in-Prefix.is) c.requires.operation_in_bounds

pub returns-in-Postfix : goal.returns-in-Postfix
unfolding ended
returns-in-Postfix c =
    laid-nothing _ _ _ (ap (bytes (goal.at.returns-in-Postfix c).Start) c.in-Postfix.is) c.requires.operation_in_bounds
