-- `left_before`, by the sort of the line.
use mathlib.Core.Path.{ap, ◌∙◌}
use mathlib.Core.Bool.{false}
use mathlib.Core.List.{◌∷◌}
use Prim.Native.Nat.{ℕ, ◌+◌}
use native.Mathlib.Omega.{arith}
use Rattle.page_scan.specs.Stacks.{stack_of}
use Rattle.page_rows.specs.Rows.{Left}
use Rattle.page_reader.proofs.WaitingRows.{pick-most, popped-is}
use borrow.Author.Rules.{rules}
use Rattle.page_reader.proofs.waiting.left_before.Goals as goal

pub set_aside-requires-in-Closes : goal.set_aside-requires-in-Closes
set_aside-requires-in-Closes c =
    (omega (arith, c.behind.ensures, pick-most c.args.follows c.args.base, c.requires.0), c.requires.1, c.requires.2)

pub set_aside-requires-in-LastArgument : goal.set_aside-requires-in-LastArgument
set_aside-requires-in-LastArgument c =
    (omega (arith, c.behind-in-LastArgument.ensures, pick-most c.args.follows (c.args.base + 2), c.requires.0), c.requires.1, c.requires.2)

pub set_aside-requires-in-LastParameter : goal.set_aside-requires-in-LastParameter
set_aside-requires-in-LastParameter c =
    (omega (arith, c.requires.0), c.requires.1, c.requires.2)

pub returns-in-Empty : goal.returns-in-Empty
returns-in-Empty c =
    record { waiting_after = rw c.in-Empty.is; depth_bound = (omega arith, c.requires.2) }

pub returns-in-Abort : goal.returns-in-Abort
returns-in-Abort c =
    record { waiting_after = rw c.in-Abort.is; depth_bound = (omega arith, c.requires.2) }

pub returns-in-Goto : goal.returns-in-Goto
returns-in-Goto c =
    record { waiting_after = rw c.in-Goto.is; depth_bound = (omega arith, c.requires.2) }

pub returns-in-Label : goal.returns-in-Label
returns-in-Label c =
    record { waiting_after = rw c.in-Label.is; depth_bound = (omega arith, c.requires.2) }

pub returns-in-Store : goal.returns-in-Store
returns-in-Store c =
    record { waiting_after = rw c.in-Store.is; depth_bound = (omega arith, c.requires.2) }

pub returns-in-Put : goal.returns-in-Put
returns-in-Put c =
    record { waiting_after = rw c.in-Put.is; depth_bound = (omega arith, c.requires.2) }

pub returns-in-Opens : goal.returns-in-Opens
returns-in-Opens c =
    record { waiting_after = rw c.in-Opens.is (popped-is 1 c.args.depth c.args.waiting.now _ c.less.ensures); depth_bound = (omega (arith, c.less.ensures), c.requires.2) }

pub returns-in-While : goal.returns-in-While
returns-in-While c =
    record { waiting_after = rw c.in-While.is (popped-is 1 c.args.depth c.args.waiting.now _ c.less-in-While.ensures); depth_bound = (omega (arith, c.less-in-While.ensures), c.requires.2) }

pub returns-in-If : goal.returns-in-If
returns-in-If c =
    record { waiting_after = rw c.in-If.is (popped-is 2 c.args.depth c.args.waiting.now _ c.less-in-If.ensures); depth_bound = (omega (arith, c.less-in-If.ensures), c.requires.2) }

pub returns-in-Turns : goal.returns-in-Turns
returns-in-Turns c =
    record { waiting_after = rw c.in-Turns.is c.set_aside.ensures.waiting_after; depth_bound = c.set_aside.ensures.depth_bound }

pub returns-in-Closes : goal.returns-in-Closes
returns-in-Closes c =
    record { waiting_after = rw c.in-Closes.is (c.set_aside-in-Closes.ensures.waiting_after ∙ ap (λ (n : ℕ). record { follows = false; waiting = n ∷ stack_of c.args.depth c.args.waiting.now }) c.behind.ensures); depth_bound = c.set_aside-in-Closes.ensures.depth_bound }

pub returns-in-Return : goal.returns-in-Return
returns-in-Return c =
    record { waiting_after = rw c.in-Return.is; depth_bound = (omega arith, c.requires.2) }

pub returns-in-OpensCall : goal.returns-in-OpensCall
returns-in-OpensCall c =
    record { waiting_after = rw c.in-OpensCall.is (popped-is 1 c.args.depth c.args.waiting.now _ c.less-in-OpensCall.ensures); depth_bound = (omega (arith, c.less-in-OpensCall.ensures), c.requires.2) }

pub returns-in-Argument : goal.returns-in-Argument
returns-in-Argument c =
    record { waiting_after = rw c.in-Argument.is; depth_bound = (omega arith, c.requires.2) }

pub returns-in-LastArgument : goal.returns-in-LastArgument
returns-in-LastArgument c =
    record { waiting_after = rw c.in-LastArgument.is (c.set_aside-in-LastArgument.ensures.waiting_after ∙ ap (λ (n : ℕ). record { follows = false; waiting = n ∷ stack_of c.args.depth c.args.waiting.now }) c.behind-in-LastArgument.ensures); depth_bound = c.set_aside-in-LastArgument.ensures.depth_bound }

pub returns-in-OpensFunction : goal.returns-in-OpensFunction
returns-in-OpensFunction c =
    record { waiting_after = rw c.in-OpensFunction.is (popped-is 1 c.args.depth c.args.waiting.now _ c.less-in-OpensFunction.ensures); depth_bound = (omega (arith, c.less-in-OpensFunction.ensures), c.requires.2) }

pub returns-in-OpensParameters : goal.returns-in-OpensParameters
returns-in-OpensParameters c =
    record { waiting_after = rw c.in-OpensParameters.is (popped-is 2 c.args.depth c.args.waiting.now _ c.less-in-OpensParameters.ensures); depth_bound = (omega (arith, c.less-in-OpensParameters.ensures), c.requires.2) }

pub returns-in-Parameter : goal.returns-in-Parameter
returns-in-Parameter c =
    record { waiting_after = rw c.in-Parameter.is; depth_bound = (omega arith, c.requires.2) }

pub returns-in-LastParameter : goal.returns-in-LastParameter
returns-in-LastParameter c =
    record { waiting_after = rw c.in-LastParameter.is c.set_aside-in-LastParameter.ensures.waiting_after; depth_bound = c.set_aside-in-LastParameter.ensures.depth_bound }
