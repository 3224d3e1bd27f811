-- `put_assignment`: a variable takes a value, an element an atom.
use native.Mathlib.Omega.{arith}
use Rattle.flat_lines.specs.Values.{place_here, is-element, assigning, fits-here, assigned-as}
use borrow.Author.Rules.{rules}
use Rattle.flat_lines.proofs.operations.put_assignment.Reads as reads
use Rattle.flat_lines.proofs.operations.put_assignment.Lts as lts
use Rattle.flat_lines.proofs.operations.put_store.Reads as put-store-reads
use Rattle.flat_lines.proofs.operations.put_value.Reads as put-value-reads
use Rattle.words.proofs.table.number_at.Reads as number-at-reads
use Rattle.flat_lines.proofs.operations.put_assignment.Goals as goal

pub number_at-requires : goal.number_at-requires
number_at-requires c =
    omega (arith, place_here c.requires.0 _ c.requires.1 c.requires.2 _ c.number_at-place.ensures)

pub number_at-target-requires : goal.number_at-target-requires
number_at-target-requires c =
    omega (arith, place_here c.requires.0 _ c.requires.1 c.requires.2 _ c.number_at-place.ensures)

pub put_value-requires : goal.put_value-requires
put_value-requires c = (
  assigning c.requires.0 _ c.requires.1 c.requires.2 _ c.number_at-place.ensures _ _ _ c.number_at-then-number_at-eq2.ensures c.number_at-target.ensures c.number_at.ensures c.if-number_at-eq2.true c.requires.3,
  fits-here c.requires.0 _ c.requires.1 c.requires.2 _ c.number_at-place.ensures _ _ _ c.number_at-then-number_at-eq2.ensures c.number_at-target.ensures c.number_at.ensures c.if-number_at-eq2.true,
)

pub returns-then-number_at-eq2 : goal.returns-then-number_at-eq2
returns-then-number_at-eq2 c =
    assigned-as c.requires.0 _ c.requires.1 c.requires.2 _ c.number_at-place.ensures _ _ _ c.number_at-then-number_at-eq2.ensures c.number_at-target.ensures c.number_at.ensures c.if-number_at-eq2.true _ _ _ c.put_value.ensures

pub put_store-requires : goal.put_store-requires
put_store-requires c =
    (c.requires.0, c.requires.1, c.requires.2, is-element c.requires.0 _ c.requires.1 c.requires.2 _ c.number_at-place.ensures _ c.number_at.ensures c.if-number_at-eq2.false, c.requires.3)
