-- The word that a link leads to.
use native.Mathlib.Omega.{arith}
use Rattle.write_sets_programs.proofs.ArrayLaws.{at_some}
use Rattle.write_sets_programs.proofs.table.linked.Goals as goal

pub offset_bounds-arrays-link : goal.offset_bounds-arrays-link
offset_bounds-arrays-link c = omega (arith, c.requires (omega (arith, c.if-link-eq0.false)), c.well_formed)

pub bounds-arrays-link : goal.bounds-arrays-link
bounds-arrays-link c = c.requires (omega (arith, c.if-link-eq0.false))

pub returns : goal.returns
returns c = at_some c.args.arrays.now c.args.link (omega (arith, c.if-link-eq0.false))
