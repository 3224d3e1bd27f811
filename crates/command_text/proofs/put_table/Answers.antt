-- `put_table`: the sizes of both tables add up to the bytes of the text, which have room.
use Prim.Native.Nat.{◌+◌}
use native.Mathlib.Omega.{arith}
use Rattle.command_text.proofs.Printing.{few_bytes, sizes-fill, put_first}
use Rattle.command_text.proofs.put_table.Goals as goal

pub size_of-requires : goal.size_of-requires
size_of-requires c = omega (arith, c.requires.tabled.header_few)

pub size_of-requires-2 : goal.size_of-requires-2
size_of-requires-2 c = c.requires.tabled.rows_few

pub overflow_add-size : goal.overflow_add-size
overflow_add-size c = omega (arith, few_bytes c.requires.tabled c.size_of.ensures c.size_of-2.ensures)

pub slice_bounds-put_text-end : goal.slice_bounds-put_text-end
slice_bounds-put_text-end c = omega (arith, few_bytes c.requires.tabled c.size_of.ensures c.size_of-2.ensures, c.requires.output_room_in_bounds)

pub put_text-requires : goal.put_text-requires
put_text-requires c =
    sizes-fill c.requires.tabled c.size_of.ensures c.size_of-2.ensures c.args.out.now c.requires.output_room_in_bounds

pub returns : goal.returns
returns c =
    let header_size = c.size_of in
    let rows_size = c.size_of-2 in
    put_first _ c.args.out.now (header_size.result + rows_size.result) _ _
    (sizes-fill c.requires.tabled header_size.ensures rows_size.ensures c.args.out.now c.requires.output_room_in_bounds).room c.put_text.ensures
