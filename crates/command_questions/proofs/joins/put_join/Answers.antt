-- `put_join`: the refusal of the join, or the text of what it wrote.
use Rattle.text_numbers.specs.PutLaws.{put_as}
use Rattle.command_questions.proofs.JoinedTexts.{refused-join, joined_made}
use borrow.Author.Rules.{rules}
use Rattle.command_questions.proofs.joins.put_join.Goals as goal

pub slice_bounds-put_program-end : goal.slice_bounds-put_program-end
slice_bounds-put_program-end c =
    (joined_made c.args.header.now c.args.rows.now c.args.second_header.now c.args.second_rows.now c.args.table.now c.requires.table_len _ _ (rw c.in-Ok.is at c.join-answer.ensures.out_rows_after) (rw c.in-Ok.is at c.join-answer.ensures.writes_join)).rows_inside

pub put_program-requires : goal.put_program-requires
put_program-requires c =
    record { printable = (joined_made c.args.header.now c.args.rows.now c.args.second_header.now c.args.second_rows.now c.args.table.now c.requires.table_len _ _ (rw c.in-Ok.is at c.join-answer.ensures.out_rows_after) (rw c.in-Ok.is at c.join-answer.ensures.writes_join)).printable; output_room_in_bounds = c.requires.output_room_in_bounds }

pub returns-in-Err : goal.returns-in-Err
returns-in-Err c =
    put_as (refused-join c.args.header.now c.args.rows.now c.args.second_header.now c.args.second_rows.now c.args.table.now c.requires.table_len _ _ (rw c.in-Err.is at c.join-answer.ensures.out_rows_after)) c.refused_line.ensures

pub returns-in-Ok : goal.returns-in-Ok
returns-in-Ok c =
    put_as (joined_made c.args.header.now c.args.rows.now c.args.second_header.now c.args.second_rows.now c.args.table.now c.requires.table_len _ _ (rw c.in-Ok.is at c.join-answer.ensures.out_rows_after) (rw c.in-Ok.is at c.join-answer.ensures.writes_join)).is c.put_program.ensures
