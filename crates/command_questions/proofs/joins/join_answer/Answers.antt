-- `join_answer`: the refusal of the reader, or the join of what it read.
use Rattle.words.specs.declared.Form.TheVariants.{Source}
use Rattle.text_numbers.specs.PutLaws.{put_as}
use Rattle.command_questions.specs.Joins.{second_output, join_output}
use Rattle.command_text.proofs.Readings.{refused-text, read-text}
use Rattle.command_text.proofs.Printing.{source-roomy}
use borrow.Author.Rules.{rules}
use Rattle.command_questions.proofs.joins.join_answer.Goals as goal

pub slice_bounds-join_second-end : goal.slice_bounds-join_second-end
slice_bounds-join_second-end c =
    (read-text Source c.args.text.now source-roomy (rw c.in-Ok.is at c.read-answer.ensures)).header_inside

pub slice_bounds-join_second-end-in-Ok : goal.slice_bounds-join_second-end-in-Ok
slice_bounds-join_second-end-in-Ok c =
    (read-text Source c.args.text.now source-roomy (rw c.in-Ok.is at c.read-answer.ensures)).rows_inside

pub returns-in-Err : goal.returns-in-Err
unfolding join_output
returns-in-Err c =
    put_as (refused-text Source c.args.text.now source-roomy _ _ _ (rw c.in-Err.is at c.read-answer.ensures) (second_output c.args.second.now)) c.refused_line.ensures

pub returns-in-Ok : goal.returns-in-Ok
unfolding join_output
returns-in-Ok c =
    put_as ((read-text Source c.args.text.now source-roomy (rw c.in-Ok.is at c.read-answer.ensures)).is (second_output c.args.second.now)) c.join_second.ensures
