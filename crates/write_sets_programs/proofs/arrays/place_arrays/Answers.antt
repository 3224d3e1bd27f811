-- What an update of a place writes.
use Rattle.language_shapes.specs.ShapeLaws.{placed}
use Rattle.write_sets_programs.proofs.ArrayLaws.{link-held, variable-arrays, element-arrays}
use Rattle.write_sets_programs.proofs.arrays.place_arrays.Goals as goal

pub array_bit-requires : goal.array_bit-requires
array_bit-requires c = (placed c.place_at-place.ensures c.in-Element.is).onward.0

pub linked-requires : goal.linked-requires
linked-requires c = link-held c.requires.0 (λ h. (placed c.place_at-place.ensures c.in-Element.is).onward.1)

pub returns-in-Variable : goal.returns-in-Variable
returns-in-Variable c = variable-arrays (placed c.place_at-place.ensures c.in-Variable.is)

pub returns-in-Element : goal.returns-in-Element
returns-in-Element c = element-arrays c.requires.0 (placed c.place_at-place.ensures c.in-Element.is) c.array_bit.ensures c.linked.ensures c.join_arrays.ensures
