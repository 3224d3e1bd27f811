-- `write_sized` fills the tables of lines, from zeros, and writes by them.
use native.Mathlib.Omega.{arith}
use Rattle.flattener.proofs.FlatteningLaws.{rows_few, zeros-room, zeros-first}
use borrow.Author.Rules.{rules}
use Rattle.flattener.proofs.write_sized.Reads as reads
use Rattle.flattener.proofs.write_sized.Lts as lts
use Rattle.flat_lines.proofs.rows.put_rows.Reads as put-rows-reads
use Rattle.flat_sizes.proofs.places.place_rows.Reads as place-rows-reads
use Rattle.flattener.proofs.write_sized.Goals as goal

pub place_rows-requires : goal.place_rows-requires
place_rows-requires c =
    let p = c.requires in
    (p.0, p.1, zeros-room 40980 _ (rows_few p.0), zeros-first 40980 (omega arith), zeros-room 40980 40980 (omega arith))
