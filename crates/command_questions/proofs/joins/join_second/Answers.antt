-- `join_second`: the refusal of the second text, behind the first program's own, or the join with what was read.
use mathlib.Core.Path.{ap, ◌∙◌}
use Rattle.words.specs.declared.Form.TheVariants.{Source}
use Rattle.text_numbers.specs.PutLaws.{put_as}
use Rattle.program_runs.specs.Runs.{refusal_of}
use Rattle.command_questions.specs.Joins.{after_check, join_text, second_output}
use Rattle.command_text.proofs.Readings.{refused-text, read-text}
use Rattle.command_text.proofs.Printing.{source-roomy}
use Rattle.command_questions.proofs.JoinedTexts.{after-check}
use borrow.Author.Rules.{rules}
use Rattle.command_questions.proofs.joins.join_second.Goals as goal

pub slice_bounds-put_join_text-end : goal.slice_bounds-put_join_text-end
slice_bounds-put_join_text-end c =
    (read-text Source c.args.text.now source-roomy (rw c.in-Ok.is at c.read-answer.ensures)).header_inside

pub slice_bounds-put_join_text-end-in-Ok : goal.slice_bounds-put_join_text-end-in-Ok
slice_bounds-put_join_text-end-in-Ok c =
    (read-text Source c.args.text.now source-roomy (rw c.in-Ok.is at c.read-answer.ensures)).rows_inside

pub returns-in-Err : goal.returns-in-Err
unfolding second_output
returns-in-Err c =
    put_as (ap (after_check (refusal_of Source c.args.header.now c.args.rows.now)) (refused-text Source c.args.text.now source-roomy _ _ _ (rw c.in-Err.is at c.read-answer.ensures) (join_text c.args.header.now c.args.rows.now))) c.put_refused.ensures

pub returns-in-Ok : goal.returns-in-Ok
unfolding second_output
returns-in-Ok c =
    put_as (after-check c.args.header.now c.args.rows.now _ _ ∙ ap (after_check (refusal_of Source c.args.header.now c.args.rows.now)) ((read-text Source c.args.text.now source-roomy (rw c.in-Ok.is at c.read-answer.ensures)).is (join_text c.args.header.now c.args.rows.now))) c.put_join_text.ensures
