-- `put_program`: a table of rows of six words.
use Rattle.command_text.proofs.Printing.{printable-table}
use Rattle.command_text.proofs.put_program.Goals as goal

pub put_table-requires : goal.put_table-requires
put_table-requires c = record { tabled = printable-table c.requires.printable; output_room_in_bounds = c.requires.output_room_in_bounds }
