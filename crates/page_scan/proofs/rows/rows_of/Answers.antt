-- `rows_of`: an assignment has the rows of its value, and three.
use mathlib.Core.Path.{ap}
use Prim.Native.Nat.{ℕ, ◌+◌}
use native.Mathlib.Omega.{arith}
use borrow.Author.Rules.{rules}
use Rattle.page_scan.proofs.rows.rows_of.Goals as goal

pub returns-in-Empty : goal.returns-in-Empty
returns-in-Empty c = record { value = rw c.in-Empty.is; upper_bound = omega arith }

pub returns-in-Abort : goal.returns-in-Abort
returns-in-Abort c = record { value = rw c.in-Abort.is; upper_bound = omega arith }

pub returns-in-Goto : goal.returns-in-Goto
returns-in-Goto c = record { value = rw c.in-Goto.is; upper_bound = omega arith }

pub returns-in-Label : goal.returns-in-Label
returns-in-Label c = record { value = rw c.in-Label.is; upper_bound = omega arith }

pub returns-in-Store : goal.returns-in-Store
returns-in-Store c = record { value = rw c.in-Store.is (ap (λ (n : ℕ). 3 + n) c.value_rows.ensures.value); upper_bound = omega (arith, c.value_rows.ensures.upper_bound) }

pub returns-in-Put : goal.returns-in-Put
returns-in-Put c = record { value = rw c.in-Put.is; upper_bound = omega arith }

pub returns-in-Opens : goal.returns-in-Opens
returns-in-Opens c = record { value = rw c.in-Opens.is; upper_bound = omega arith }

pub returns-in-While : goal.returns-in-While
returns-in-While c = record { value = rw c.in-While.is; upper_bound = omega arith }

pub returns-in-If : goal.returns-in-If
returns-in-If c = record { value = rw c.in-If.is; upper_bound = omega arith }

pub returns-in-Turns : goal.returns-in-Turns
returns-in-Turns c = record { value = rw c.in-Turns.is; upper_bound = omega arith }

pub returns-in-Closes : goal.returns-in-Closes
returns-in-Closes c = record { value = rw c.in-Closes.is; upper_bound = omega arith }

pub returns-in-Return : goal.returns-in-Return
returns-in-Return c = record { value = rw c.in-Return.is; upper_bound = omega arith }

pub returns-in-OpensCall : goal.returns-in-OpensCall
returns-in-OpensCall c = record { value = rw c.in-OpensCall.is; upper_bound = omega arith }

pub returns-in-Argument : goal.returns-in-Argument
returns-in-Argument c = record { value = rw c.in-Argument.is; upper_bound = omega arith }

pub returns-in-LastArgument : goal.returns-in-LastArgument
returns-in-LastArgument c = record { value = rw c.in-LastArgument.is; upper_bound = omega arith }

pub returns-in-OpensFunction : goal.returns-in-OpensFunction
returns-in-OpensFunction c = record { value = rw c.in-OpensFunction.is; upper_bound = omega arith }

pub returns-in-OpensParameters : goal.returns-in-OpensParameters
returns-in-OpensParameters c = record { value = rw c.in-OpensParameters.is; upper_bound = omega arith }

pub returns-in-Parameter : goal.returns-in-Parameter
returns-in-Parameter c = record { value = rw c.in-Parameter.is; upper_bound = omega arith }

pub returns-in-LastParameter : goal.returns-in-LastParameter
returns-in-LastParameter c = record { value = rw c.in-LastParameter.is; upper_bound = omega arith }
