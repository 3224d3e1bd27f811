-- `question_answer`: the refusal of the reader, or the answer for what it read.
use Rattle.text_numbers.specs.PutLaws.{put_as}
use Rattle.command_questions.specs.Questions.{question_lines, question_output}
use borrow.Author.Rules.{rules}
use Rattle.command_questions.proofs.questions.question_answer.Goals as goal

pub slice_bounds-put_question-end : goal.slice_bounds-put_question-end
slice_bounds-put_question-end c = (rw c.in-Ok.is at c.read_question-answer.ensures).header_inside

pub slice_bounds-put_question-end-in-Ok : goal.slice_bounds-put_question-end-in-Ok
slice_bounds-put_question-end-in-Ok c = (rw c.in-Ok.is at c.read_question-answer.ensures).rows_inside

pub returns-in-Err : goal.returns-in-Err
unfolding question_output
returns-in-Err c = put_as ((rw c.in-Err.is at c.read_question-answer.ensures) (question_lines c.args.question)) c.refused_line.ensures

pub returns-in-Ok : goal.returns-in-Ok
unfolding question_output
returns-in-Ok c = put_as ((rw c.in-Ok.is at c.read_question-answer.ensures).is (question_lines c.args.question)) c.put_question.ensures
