-- `level_of`: lines that close or turn stand one level out.
use borrow.Author.Rules.{rules}
use Rattle.page_frame.proofs.level_of.Goals as goal

pub returns-in-Closes : goal.returns-in-Closes
returns-in-Closes c =
    rw c.in-Closes.is c.one_less.ensures

pub returns-in-Turns : goal.returns-in-Turns
returns-in-Turns c =
    rw c.in-Turns.is c.one_less-in-Turns.ensures

pub returns-in-Empty : goal.returns-in-Empty
returns-in-Empty c =
    rw c.in-Empty.is

pub returns-in-Abort : goal.returns-in-Abort
returns-in-Abort c =
    rw c.in-Abort.is

pub returns-in-Goto : goal.returns-in-Goto
returns-in-Goto c =
    rw c.in-Goto.is

pub returns-in-Label : goal.returns-in-Label
returns-in-Label c =
    rw c.in-Label.is

pub returns-in-Store : goal.returns-in-Store
returns-in-Store c =
    rw c.in-Store.is

pub returns-in-Put : goal.returns-in-Put
returns-in-Put c =
    rw c.in-Put.is

pub returns-in-Opens : goal.returns-in-Opens
returns-in-Opens c =
    rw c.in-Opens.is

pub returns-in-While : goal.returns-in-While
returns-in-While c =
    rw c.in-While.is

pub returns-in-If : goal.returns-in-If
returns-in-If c =
    rw c.in-If.is

pub returns-in-Return : goal.returns-in-Return
returns-in-Return c =
    rw c.in-Return.is

pub returns-in-OpensCall : goal.returns-in-OpensCall
returns-in-OpensCall c =
    rw c.in-OpensCall.is

pub returns-in-Argument : goal.returns-in-Argument
returns-in-Argument c =
    rw c.in-Argument.is

pub returns-in-LastArgument : goal.returns-in-LastArgument
returns-in-LastArgument c =
    rw c.in-LastArgument.is

pub returns-in-OpensFunction : goal.returns-in-OpensFunction
returns-in-OpensFunction c =
    rw c.in-OpensFunction.is

pub returns-in-OpensParameters : goal.returns-in-OpensParameters
returns-in-OpensParameters c =
    rw c.in-OpensParameters.is

pub returns-in-Parameter : goal.returns-in-Parameter
returns-in-Parameter c =
    rw c.in-Parameter.is

pub returns-in-LastParameter : goal.returns-in-LastParameter
returns-in-LastParameter c =
    rw c.in-LastParameter.is
