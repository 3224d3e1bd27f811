-- `put_line`, by the sort of the line.
use native.Mathlib.Omega.{arith}
use Rattle.words.specs.OverLaws.{over_none}
use Rattle.page_rows.proofs.Steps.{line-room, line-fit, while-line, if-line, return-line, argument-line, last-argument-line, call_line}
use borrow.Author.Rules.{rules}
use Rattle.page_rows.proofs.lines.put_line.Goals as goal

pub put_empty-requires : goal.put_empty-requires
put_empty-requires c =
    line-room _ _ c.in-Empty.is _ _ c.requires.0

pub put_abort-requires : goal.put_abort-requires
put_abort-requires c =
    line-room _ _ c.in-Abort.is _ _ c.requires.0

pub put_goto-requires : goal.put_goto-requires
put_goto-requires c =
    (line-room _ _ c.in-Goto.is _ _ c.requires.0, omega (arith, line-fit _ _ c.in-Goto.is c.requires.4))

pub put_label-requires : goal.put_label-requires
put_label-requires c =
    (line-room _ _ c.in-Label.is _ _ c.requires.0, omega (arith, line-fit _ _ c.in-Label.is c.requires.4))

pub put_named-requires : goal.put_named-requires
put_named-requires c =
    let fits = line-fit _ _ c.in-Store.is c.requires.4 in
    (line-room _ _ c.in-Store.is _ _ c.requires.0, c.requires.1, fits.0, fits.1)

pub put_element-requires : goal.put_element-requires
put_element-requires c =
    let fits = line-fit _ _ c.in-Put.is c.requires.4 in
    (line-room _ _ c.in-Put.is _ _ c.requires.0, c.requires.1, fits.0, fits.1)

pub put_block_row-requires : goal.put_block_row-requires
put_block_row-requires c =
    (line-room _ _ c.in-Opens.is _ _ c.requires.0, c.requires.2)

pub kernel_atom-requires : goal.kernel_atom-requires
kernel_atom-requires c =
    (c.requires.1, line-fit _ _ c.in-While.is c.requires.4)

pub put_while-requires : goal.put_while-requires
put_while-requires c =
    (line-room _ _ c.in-While.is _ _ c.requires.0, c.requires.2, c.kernel_atom.ensures.1)

pub kernel_atom-requires-in-If : goal.kernel_atom-requires-in-If
kernel_atom-requires-in-If c =
    (c.requires.1, line-fit _ _ c.in-If.is c.requires.4)

pub put_branch-requires : goal.put_branch-requires
put_branch-requires c =
    (line-room _ _ c.in-If.is _ _ c.requires.0, c.requires.2, c.requires.3, c.kernel_atom-in-If.ensures.1)

pub put_block_row-requires-in-Turns : goal.put_block_row-requires-in-Turns
put_block_row-requires-in-Turns c =
    (line-room _ _ c.in-Turns.is _ _ c.requires.0, omega arith)

pub kernel_atom-requires-in-Return : goal.kernel_atom-requires-in-Return
kernel_atom-requires-in-Return c =
    (c.requires.1, line-fit _ _ c.in-Return.is c.requires.4)

pub put_return-requires : goal.put_return-requires
put_return-requires c =
    (line-room _ _ c.in-Return.is _ _ c.requires.0, c.kernel_atom-in-Return.ensures.1)

pub variable_number-requires : goal.variable_number-requires
variable_number-requires c =
    (c.requires.1, (line-fit _ _ c.in-OpensCall.is c.requires.4).0)

pub put_call-requires : goal.put_call-requires
put_call-requires c =
    let fits = line-fit _ _ c.in-OpensCall.is c.requires.4 in
    (line-room _ _ c.in-OpensCall.is _ _ c.requires.0, c.variable_number.ensures.1, omega (arith, fits.1), c.requires.2)

pub kernel_atom-requires-in-Argument : goal.kernel_atom-requires-in-Argument
kernel_atom-requires-in-Argument c =
    (c.requires.1, line-fit _ _ c.in-Argument.is c.requires.4)

pub overflow_add-base : goal.overflow_add-base
overflow_add-base c =
    omega (arith, (line-room _ _ c.in-Argument.is _ _ c.requires.0).low)

pub put_argument-requires : goal.put_argument-requires
put_argument-requires c =
    let room = line-room _ _ c.in-Argument.is _ _ c.requires.0 in
    (room, omega (arith, room.low), c.kernel_atom-in-Argument.ensures.1)

pub kernel_atom-requires-in-LastArgument : goal.kernel_atom-requires-in-LastArgument
kernel_atom-requires-in-LastArgument c =
    (c.requires.1, line-fit _ _ c.in-LastArgument.is c.requires.4)

pub put_argument-requires-in-LastArgument : goal.put_argument-requires-in-LastArgument
put_argument-requires-in-LastArgument c =
    (line-room _ _ c.in-LastArgument.is _ _ c.requires.0, omega arith, c.kernel_atom-in-LastArgument.ensures.1)

pub put_function-requires : goal.put_function-requires
put_function-requires c =
    (line-room _ _ c.in-OpensFunction.is _ _ c.requires.0, omega (arith, line-fit _ _ c.in-OpensFunction.is c.requires.4), c.requires.2)

pub put_parameters-requires : goal.put_parameters-requires
put_parameters-requires c =
    (line-room _ _ c.in-OpensParameters.is _ _ c.requires.0, omega (arith, line-fit _ _ c.in-OpensParameters.is c.requires.4), c.requires.2, c.requires.3)

pub put_parameter-requires : goal.put_parameter-requires
put_parameter-requires c =
    (line-room _ _ c.in-Parameter.is _ _ c.requires.0, omega (arith, line-fit _ _ c.in-Parameter.is c.requires.4, c.requires.1.small_store))

pub put_last_parameter-requires : goal.put_last_parameter-requires
put_last_parameter-requires c =
    (line-room _ _ c.in-LastParameter.is _ _ c.requires.0, omega (arith, line-fit _ _ c.in-LastParameter.is c.requires.4, c.requires.1.small_store))

pub returns-in-Empty : goal.returns-in-Empty
returns-in-Empty c =
    rw c.in-Empty.is c.put_empty.ensures

pub returns-in-Abort : goal.returns-in-Abort
returns-in-Abort c =
    rw c.in-Abort.is c.put_abort.ensures

pub returns-in-Goto : goal.returns-in-Goto
returns-in-Goto c =
    rw c.in-Goto.is c.put_goto.ensures

pub returns-in-Label : goal.returns-in-Label
returns-in-Label c =
    rw c.in-Label.is c.put_label.ensures

pub returns-in-Store : goal.returns-in-Store
returns-in-Store c =
    rw c.in-Store.is c.put_named.ensures

pub returns-in-Put : goal.returns-in-Put
returns-in-Put c =
    rw c.in-Put.is c.put_element.ensures

pub returns-in-Opens : goal.returns-in-Opens
returns-in-Opens c =
    rw c.in-Opens.is c.put_block_row.ensures

pub returns-in-While : goal.returns-in-While
returns-in-While c =
    while-line _ _ c.args.sizes c.args.base c.args.follows c.args.first c.args.second c.args.line _ c.kernel_atom.result c.kernel_atom.ensures.0 c.in-While.is c.put_while.ensures

pub returns-in-If : goal.returns-in-If
returns-in-If c =
    if-line _ _ c.args.sizes c.args.base c.args.follows c.args.first c.args.second c.args.line _ c.kernel_atom-in-If.result c.kernel_atom-in-If.ensures.0 c.in-If.is c.put_branch.ensures

pub returns-in-Turns : goal.returns-in-Turns
returns-in-Turns c =
    rw c.in-Turns.is c.put_block_row-in-Turns.ensures

pub returns-in-Closes : goal.returns-in-Closes
returns-in-Closes c =
    rw c.in-Closes.is (over_none _)

pub returns-in-Return : goal.returns-in-Return
returns-in-Return c =
    let a = c.args in
    return-line _ _ a.sizes a.base a.follows a.first a.second a.line _ c.kernel_atom-in-Return.result c.kernel_atom-in-Return.ensures.0 c.in-Return.is c.put_return.ensures

pub returns-in-OpensCall : goal.returns-in-OpensCall
returns-in-OpensCall c =
    let a = c.args in
    call_line _ _ a.sizes a.base a.follows a.first a.second a.line _ c.variable_number.result _ c.in-OpensCall.is c.variable_number.ensures.0 c.put_call.ensures

pub returns-in-Argument : goal.returns-in-Argument
returns-in-Argument c =
    let a = c.args in
    argument-line _ _ a.sizes a.base a.follows a.first a.second a.line _ c.kernel_atom-in-Argument.result c.kernel_atom-in-Argument.ensures.0 c.in-Argument.is c.put_argument.ensures

pub returns-in-LastArgument : goal.returns-in-LastArgument
returns-in-LastArgument c =
    let a = c.args in
    last-argument-line _ _ a.sizes a.base a.follows a.first a.second a.line _ c.kernel_atom-in-LastArgument.result c.kernel_atom-in-LastArgument.ensures.0 c.in-LastArgument.is c.put_argument-in-LastArgument.ensures

pub returns-in-OpensFunction : goal.returns-in-OpensFunction
returns-in-OpensFunction c =
    rw c.in-OpensFunction.is c.put_function.ensures

pub returns-in-OpensParameters : goal.returns-in-OpensParameters
returns-in-OpensParameters c =
    rw c.in-OpensParameters.is c.put_parameters.ensures

pub returns-in-Parameter : goal.returns-in-Parameter
returns-in-Parameter c =
    rw c.in-Parameter.is c.put_parameter.ensures

pub returns-in-LastParameter : goal.returns-in-LastParameter
returns-in-LastParameter c =
    rw c.in-LastParameter.is c.put_last_parameter.ensures
