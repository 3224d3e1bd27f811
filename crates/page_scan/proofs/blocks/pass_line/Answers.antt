-- `pass_line`: by the sort of the line.
use Rattle.page_scan.specs.StackLaws.{item-moves, argument-moves, parameter-moves}
use Rattle.page_scan.specs.declared.blocks.Among.TheVariants.{Items, Arguments, Parameters}
use borrow.Author.Rules.{rules}
use Rattle.page_scan.proofs.blocks.pass_line.Goals as goal

pub returns-in-Empty : goal.returns-in-Empty
returns-in-Empty c = record { around_after = rw (c.in-Empty.is, c.after_item.ensures) (item-moves c.args.among Items c.args.depth c.args.around.now c.requires.1).0; result_bound = rw c.after_item.ensures (item-moves c.args.among Items c.args.depth c.args.around.now c.requires.1).1 }

pub returns-in-Abort : goal.returns-in-Abort
returns-in-Abort c = record { around_after = rw (c.in-Abort.is, c.after_item-in-Abort.ensures) (item-moves c.args.among Items c.args.depth c.args.around.now c.requires.1).0; result_bound = rw c.after_item-in-Abort.ensures (item-moves c.args.among Items c.args.depth c.args.around.now c.requires.1).1 }

pub returns-in-Goto : goal.returns-in-Goto
returns-in-Goto c = record { around_after = rw (c.in-Goto.is, c.after_item-in-Goto.ensures) (item-moves c.args.among Items c.args.depth c.args.around.now c.requires.1).0; result_bound = rw c.after_item-in-Goto.ensures (item-moves c.args.among Items c.args.depth c.args.around.now c.requires.1).1 }

pub returns-in-Label : goal.returns-in-Label
returns-in-Label c = record { around_after = rw (c.in-Label.is, c.after_item-in-Label.ensures) (item-moves c.args.among Items c.args.depth c.args.around.now c.requires.1).0; result_bound = rw c.after_item-in-Label.ensures (item-moves c.args.among Items c.args.depth c.args.around.now c.requires.1).1 }

pub returns-in-Store : goal.returns-in-Store
returns-in-Store c = record { around_after = rw (c.in-Store.is, c.after_item-in-Store.ensures) (item-moves c.args.among Items c.args.depth c.args.around.now c.requires.1).0; result_bound = rw c.after_item-in-Store.ensures (item-moves c.args.among Items c.args.depth c.args.around.now c.requires.1).1 }

pub returns-in-Put : goal.returns-in-Put
returns-in-Put c = record { around_after = rw (c.in-Put.is, c.after_item-in-Put.ensures) (item-moves c.args.among Items c.args.depth c.args.around.now c.requires.1).0; result_bound = rw c.after_item-in-Put.ensures (item-moves c.args.among Items c.args.depth c.args.around.now c.requires.1).1 }

pub returns-in-Opens : goal.returns-in-Opens
returns-in-Opens c = record { around_after = rw c.in-Opens.is c.open_block.ensures.around_after; result_bound = c.open_block.ensures.result_bound }

pub returns-in-While : goal.returns-in-While
returns-in-While c = record { around_after = rw c.in-While.is c.open_block-in-While.ensures.around_after; result_bound = c.open_block-in-While.ensures.result_bound }

pub returns-in-If : goal.returns-in-If
returns-in-If c = record { around_after = rw c.in-If.is c.open_block-in-If.ensures.around_after; result_bound = c.open_block-in-If.ensures.result_bound }

pub returns-in-Turns : goal.returns-in-Turns
returns-in-Turns c = record { around_after = rw c.in-Turns.is c.turn_item.ensures.around_after; result_bound = c.turn_item.ensures.result_bound }

pub returns-in-Closes : goal.returns-in-Closes
returns-in-Closes c = record { around_after = rw c.in-Closes.is c.shut_item.ensures.around_after; result_bound = c.shut_item.ensures.result_bound }

pub returns-in-Return : goal.returns-in-Return
returns-in-Return c = record { around_after = rw (c.in-Return.is, c.after_item-in-Return.ensures) (item-moves c.args.among Items c.args.depth c.args.around.now c.requires.1).0; result_bound = rw c.after_item-in-Return.ensures (item-moves c.args.among Items c.args.depth c.args.around.now c.requires.1).1 }

pub returns-in-OpensCall : goal.returns-in-OpensCall
returns-in-OpensCall c = record { around_after = rw (c.in-OpensCall.is, c.after_item-in-OpensCall.ensures) (item-moves c.args.among Arguments c.args.depth c.args.around.now c.requires.1).0; result_bound = rw c.after_item-in-OpensCall.ensures (item-moves c.args.among Arguments c.args.depth c.args.around.now c.requires.1).1 }

pub returns-in-Argument : goal.returns-in-Argument
returns-in-Argument c = record { around_after = rw (c.in-Argument.is, c.after_argument.ensures) (argument-moves c.args.among Arguments c.args.depth c.args.around.now c.requires.1).0; result_bound = rw c.after_argument.ensures (argument-moves c.args.among Arguments c.args.depth c.args.around.now c.requires.1).1 }

pub returns-in-LastArgument : goal.returns-in-LastArgument
returns-in-LastArgument c = record { around_after = rw (c.in-LastArgument.is, c.after_argument-in-LastArgument.ensures) (argument-moves c.args.among Items c.args.depth c.args.around.now c.requires.1).0; result_bound = rw c.after_argument-in-LastArgument.ensures (argument-moves c.args.among Items c.args.depth c.args.around.now c.requires.1).1 }

pub returns-in-OpensFunction : goal.returns-in-OpensFunction
returns-in-OpensFunction c = record { around_after = rw c.in-OpensFunction.is c.open_block-in-OpensFunction.ensures.around_after; result_bound = c.open_block-in-OpensFunction.ensures.result_bound }

pub returns-in-OpensParameters : goal.returns-in-OpensParameters
returns-in-OpensParameters c = record { around_after = rw (c.in-OpensParameters.is, c.after_item-in-OpensParameters.ensures) (item-moves c.args.among Parameters c.args.depth c.args.around.now c.requires.1).0; result_bound = rw c.after_item-in-OpensParameters.ensures (item-moves c.args.among Parameters c.args.depth c.args.around.now c.requires.1).1 }

pub returns-in-Parameter : goal.returns-in-Parameter
returns-in-Parameter c = record { around_after = rw (c.in-Parameter.is, c.after_parameter.ensures) (parameter-moves c.args.among c.args.depth c.args.around.now c.requires.1).0; result_bound = rw c.after_parameter.ensures (parameter-moves c.args.among c.args.depth c.args.around.now c.requires.1).1 }

pub returns-in-LastParameter : goal.returns-in-LastParameter
returns-in-LastParameter c = record { around_after = rw c.in-LastParameter.is c.open_function.ensures.around_after; result_bound = c.open_function.ensures.result_bound }
