-- `put_list`: the refusal of the flattening, or the text of its list.
use Rattle.text_numbers.specs.PutLaws.{put_as}
use Rattle.command_flat.proofs.FlattenedTexts.{list-made, list-refused}
use borrow.Author.Rules.{rules}
use Rattle.command_flat.proofs.flattenings.put_list.Goals as goal

pub slice_bounds-put_table-end : goal.slice_bounds-put_table-end
slice_bounds-put_table-end c = (list-made c.args.header.now c.args.rows.now c.args.list.now c.requires.list_len (rw c.in-Ok.is at c.flatten-answer.ensures.list_after)).inside

pub put_table-requires : goal.put_table-requires
put_table-requires c = record { tabled = (list-made c.args.header.now c.args.rows.now c.args.list.now c.requires.list_len (rw c.in-Ok.is at c.flatten-answer.ensures.list_after)).printable; output_room_in_bounds = c.requires.output_room_in_bounds }

pub returns-in-Err : goal.returns-in-Err
returns-in-Err c = put_as (list-refused c.args.header.now c.args.rows.now c.args.list.now c.requires.list_len _ _ (rw c.in-Err.is at c.flatten-answer.ensures.list_after)) c.refused_line.ensures

pub returns-in-Ok : goal.returns-in-Ok
returns-in-Ok c = put_as (list-made c.args.header.now c.args.rows.now c.args.list.now c.requires.list_len (rw c.in-Ok.is at c.flatten-answer.ensures.list_after)).is c.put_table.ensures
