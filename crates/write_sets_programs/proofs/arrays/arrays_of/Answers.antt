-- What an expression writes: what it stores to, and what its operands write.
use native.Mathlib.Omega.{arith}
use Rattle.write_sets_programs.proofs.ArrayLaws.{found-onward, from_less, links-held, row-arrays-are}
use Rattle.write_sets_programs.proofs.arrays.arrays_of.Goals as goal

pub stored-own-requires : goal.stored-own-requires
stored-own-requires c = (c.requires.0, λ h. let on = (found-onward c.expression_at-shape.ensures c.links_of-links.ensures).place h in (on.later, on.inside))

pub argument_arrays-passed-requires : goal.argument_arrays-passed-requires
argument_arrays-passed-requires c = λ h. let on = (found-onward c.expression_at-shape.ensures c.links_of-links.ensures).arguments h in (from_less _ c.requires.0 (omega (arith, on.later)), on.inside)

pub operand_arrays-requires : goal.operand_arrays-requires
operand_arrays-requires c = links-held c.requires.0 (found-onward c.expression_at-shape.ensures c.links_of-links.ensures)

pub returns : goal.returns
returns c = row-arrays-are c.requires.0 c.expression_at-shape.ensures c.links_of-links.ensures c.stored-own.ensures c.operand_arrays.ensures c.argument_arrays-passed.ensures c.join_arrays.ensures c.join_arrays-2.ensures
