-- `request_answer`: an arm for each request.
use native.Mathlib.Omega.{arith}
use Rattle.command_answer.specs.Output.{request_output}
use Rattle.command_text.proofs.Printing.{roomy-any}
use borrow.Author.Rules.{rules}
use Rattle.command_answer.proofs.answer.request_answer.Goals as goal

pub question_answer-requires : goal.question_answer-requires
question_answer-requires c = record { roomy = roomy-any _ c.requires.roomy; output_room_in_bounds = c.requires.output_room_in_bounds }

pub translation_answer-requires : goal.translation_answer-requires
translation_answer-requires c = record { roomy = c.requires.roomy; output_room_in_bounds = c.requires.output_room_in_bounds }

pub start_answer-requires : goal.start_answer-requires
start_answer-requires c = record { roomy = roomy-any _ c.requires.roomy; stored_len_bound = c.requires.stored_len_bound; output_room_in_bounds = c.requires.output_room_in_bounds }

pub join_answer-requires : goal.join_answer-requires
join_answer-requires c = c.requires.output_room_in_bounds

pub usage_line-requires : goal.usage_line-requires
usage_line-requires c = omega (arith, c.requires.output_room_in_bounds)

pub wrong_budget_line-requires : goal.wrong_budget_line-requires
wrong_budget_line-requires c = omega (arith, c.requires.output_room_in_bounds)

pub returns-in-Ask : goal.returns-in-Ask
unfolding request_output
returns-in-Ask c = rw c.in-Ask.is c.question_answer.ensures

pub returns-in-Translate : goal.returns-in-Translate
unfolding request_output
returns-in-Translate c = rw c.in-Translate.is c.translation_answer.ensures

pub returns-in-Start : goal.returns-in-Start
unfolding request_output
returns-in-Start c = rw c.in-Start.is c.start_answer.ensures

pub returns-in-Join : goal.returns-in-Join
unfolding request_output
returns-in-Join c = rw c.in-Join.is c.join_answer.ensures

pub returns-in-WrongArguments : goal.returns-in-WrongArguments
unfolding request_output
returns-in-WrongArguments c = rw c.in-WrongArguments.is c.usage_line.ensures

pub returns-in-WrongBudget : goal.returns-in-WrongBudget
unfolding request_output
returns-in-WrongBudget c = rw c.in-WrongBudget.is c.wrong_budget_line.ensures
