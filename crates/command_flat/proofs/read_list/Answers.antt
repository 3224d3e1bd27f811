-- `read_list`: the answer of the reader, by what is printed for it.
use native.Mathlib.Omega.{arith}
use borrow.Rule.Slice.PartMut.{mid_len}
use Rattle.command_flat.specs.Lists.{list_output}
use Rattle.command_flat.proofs.ListReadings.{list-for, whole-table}
use borrow.Author.Rules.{rules}
use Rattle.command_flat.proofs.read_list.Goals as goal

pub returns : goal.returns
returns c =
    let room = c.list_room-room in
    let read = c.read in
    let size = mid_len 0 room.result c.args.list.now (omega (arith, room.ensures, c.requires.rows_room)) in
    whole-table (list_output c.args.text.now) read.result _ c.args.list.now _ room.result
    (list-for c.args.text.now c.args.header.now _ (omega (arith, c.requires.header_room)) (omega (arith, room.ensures, size)) read.result _ _ read.ensures)
