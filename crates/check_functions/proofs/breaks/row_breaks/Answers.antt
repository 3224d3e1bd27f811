-- `row_breaks` takes the cause's own test.
use Rattle.check_functions.specs.Passes.{breaks}
use borrow.Author.Rules.{rules}
use Rattle.check_functions.proofs.breaks.row_breaks.Goals as goal

pub returns-in-ReturnsOutside : goal.returns-in-ReturnsOutside
unfolding breaks
returns-in-ReturnsOutside c =
    rw c.in-ReturnsOutside.is c.returns_outside.ensures

pub returns-in-OutOfOrder : goal.returns-in-OutOfOrder
unfolding breaks
returns-in-OutOfOrder c =
    rw c.in-OutOfOrder.is c.is_out_of_order.ensures

pub returns-in-WrongCall : goal.returns-in-WrongCall
unfolding breaks
returns-in-WrongCall c =
    rw c.in-WrongCall.is c.calls_wrongly.ensures
