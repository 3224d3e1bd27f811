-- `put_while_row`: the body's lines are in the table of sizes.
use native.Mathlib.Omega.{arith}
use Rattle.flat_lines.specs.Rows.{loop-room, while-at, while-own}
use borrow.Author.Rules.{rules}
use Rattle.flat_lines.proofs.rows.put_while_row.Reads as reads
use Rattle.flat_lines.proofs.rows.put_while_row.Lts as lts
use Rattle.flat_lines.proofs.tests.put_while.Reads as put-while-reads
use Rattle.flat_sizes.proofs.sizes.slot_at.Reads as slot-at-reads
use Rattle.words.proofs.table.number_at.Reads as number-at-reads
use Rattle.flat_lines.proofs.rows.put_while_row.Goals as goal

pub slot_at-body-requires : goal.slot_at-body-requires
slot_at-body-requires c =
    omega (arith, loop-room c.requires.0 c.requires.2 c.requires.1, c.number_at.ensures)

pub put_while-requires : goal.put_while-requires
put_while-requires c =
    let w = while-at c.requires.0 c.requires.2 c.requires.1 _ _ _ c.number_at-test.ensures c.number_at.ensures c.slot_at-body.ensures.0 in
    (c.requires.0.table, w.inside, w.atom, w.room, w.few)

pub returns : goal.returns
returns c =
    while-own c.requires.0 c.requires.2 c.requires.1 _ _ _ c.number_at-test.ensures c.number_at.ensures c.slot_at-body.ensures.0 _ c.put_while.ensures
