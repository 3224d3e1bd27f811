-- The place by a link.
use native.Mathlib.Omega.{arith}
use Rattle.write_sets_programs.proofs.ArrayLaws.{from_less, stored-none, stored_some}
use Rattle.write_sets_programs.proofs.arrays.stored.Goals as goal

pub returns-then-place-eq0 : goal.returns-then-place-eq0
returns-then-place-eq0 c = stored-none c.args.rows.now c.args.place c.if-place-eq0.true

pub place_arrays-requires : goal.place_arrays-requires
place_arrays-requires c = let on = c.requires.1 (omega (arith, c.if-place-eq0.false)) in (from_less _ c.requires.0 (omega (arith, on.0)), on.1)

pub returns : goal.returns
returns c = stored_some c.args.rows.now c.args.place (omega (arith, c.if-place-eq0.false)) c.place_arrays.ensures
