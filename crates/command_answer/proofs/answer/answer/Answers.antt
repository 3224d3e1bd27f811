-- `answer`: the limits, then the request.
use native.Mathlib.Omega.{arith}
use borrow.Author.Tests.{le-leb, lt-leb}
use Rattle.command_answer.specs.Output.{command_output}
use borrow.Author.Rules.{rules}
use Rattle.command_answer.proofs.answer.answer.Goals as goal

pub long_text_line-requires : goal.long_text_line-requires
long_text_line-requires c = omega (arith, c.requires.output_room_in_bounds)

pub returns-then-text-gt2097152 : goal.returns-then-text-gt2097152
unfolding command_output
returns-then-text-gt2097152 c = rw (lt-leb _ _ c.if-text-gt2097152.true) c.long_text_line.ensures

pub long_store_line-requires : goal.long_store_line-requires
long_store_line-requires c = omega (arith, c.requires.output_room_in_bounds)

pub returns-then-stored-gt197376 : goal.returns-then-stored-gt197376
unfolding command_output
returns-then-stored-gt197376 c = rw (le-leb _ _ c.if-text-gt2097152.false, lt-leb _ _ c.if-stored-gt197376.true) c.long_store_line.ensures

pub request_answer-requires : goal.request_answer-requires
request_answer-requires c = record { roomy = c.requires.roomy; stored_len_bound = c.if-stored-gt197376.false; output_room_in_bounds = c.requires.output_room_in_bounds }

pub returns : goal.returns
unfolding command_output
returns c = rw (le-leb _ _ c.if-text-gt2097152.false, le-leb _ _ c.if-stored-gt197376.false) c.request_answer.ensures
