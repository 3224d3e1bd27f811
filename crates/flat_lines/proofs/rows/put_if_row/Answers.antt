-- `put_if_row`: the branches' lines are in the table of sizes.
use native.Mathlib.Omega.{arith}
use Rattle.flat_lines.specs.Rows.{yes-room, no_room, if-at, if-own}
use borrow.Author.Rules.{rules}
use Rattle.flat_lines.proofs.rows.put_if_row.Reads as reads
use Rattle.flat_lines.proofs.rows.put_if_row.Lts as lts
use Rattle.flat_lines.proofs.tests.put_if.Reads as put-if-reads
use Rattle.flat_sizes.proofs.sizes.slot_at.Reads as slot-at-reads
use Rattle.words.proofs.table.number_at.Reads as number-at-reads
use Rattle.flat_lines.proofs.rows.put_if_row.Goals as goal

pub slot_at-yes-requires : goal.slot_at-yes-requires
slot_at-yes-requires c =
    omega (arith, yes-room c.requires.0 c.requires.2 c.requires.1, c.number_at.ensures)

pub slot_at-no-requires : goal.slot_at-no-requires
slot_at-no-requires c =
    omega (arith, no_room c.requires.0 c.requires.2 c.requires.1, c.number_at-2.ensures)

pub put_if-requires : goal.put_if-requires
put_if-requires c =
    let i = if-at c.requires.0 c.requires.2 c.requires.1 _ _ _ _ _ c.number_at-test.ensures c.number_at.ensures c.slot_at-yes.ensures.0 c.number_at-2.ensures c.slot_at-no.ensures.0 in
    (c.requires.0.table, i.inside, i.atom, i.room, i.few)

pub returns : goal.returns
returns c =
    if-own c.requires.0 c.requires.2 c.requires.1 _ _ _ _ _ c.number_at-test.ensures c.number_at.ensures c.slot_at-yes.ensures.0 c.number_at-2.ensures c.slot_at-no.ensures.0 _ c.put_if.ensures
