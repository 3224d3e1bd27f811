-- `is_out_of_order` looks up the definition with the row's number.
use Rattle.check_function_causes.specs.Causes.{out_of_order}
use borrow.Author.Rules.{rules}
use Rattle.check_functions.proofs.breaks.is_out_of_order.Goals as goal

pub returns-then-is_definition : goal.returns-then-is_definition
unfolding out_of_order
returns-then-is_definition c =
    rw (← c.is_definition.ensures, c.if-is_definition.true, ← c.number_at.ensures, ← c.function_of.ensures)

pub returns : goal.returns
unfolding out_of_order
returns c =
    rw (← c.is_definition.ensures, c.if-is_definition.false)
