-- `put_line`: the name, the numbers in the part behind it, and a newline.
use native.Mathlib.Omega.{arith}
use mathlib.Core.List.{◌++◌}
use Prim.Native.Nat.{◌+◌, ◌*◌}
use lib.ListN.{length-set}
use Rattle.words.specs.OverLaws.{back_in}
use Rattle.text_numbers.specs.PutLaws.{put_byte}
use Rattle.text_report.proofs.Spacing.{SoFar, far-below, far-length, far-inside, far-space, far-next}
use Rattle.command_written_lines.specs.Lines.{numbers, name_of, bits_of, is_in, written_line}
use Rattle.command_written_lines.proofs.NumberLaws.{name-few}
use Rattle.command_written_lines.proofs.put_line.Goals as goal
use Rattle.command_written_lines.proofs.put_line.Goals.{After-slice_known-2-1, After-slice_known-3-1}

pub put_name-named-requires : goal.put_name-named-requires
put_name-named-requires c = omega (arith, c.requires)

-- the name, then the numbers, and their room
named : (c : After-slice_known-2-1) → SoFar 9 (name_of c.args.sort) c.args.text.now c.put_name-named.result c.put_name-named.new.text
named c = record { put = c.put_name-named.ensures; few = name-few c.args.sort; room = omega (arith, c.requires) }

pub slice_bounds-put_numbers-count : goal.slice_bounds-put_numbers-count
slice_bounds-put_numbers-count c = far-inside (named c)

pub slice_bounds-put_numbers-start : goal.slice_bounds-put_numbers-start
slice_bounds-put_numbers-start c = omega (arith, far-inside (named c))

pub put_numbers-requires : goal.put_numbers-requires
put_numbers-requires c = far-space (named (goal.at.put_numbers-requires c).After-slice_known-2-1) _ (omega (arith, c.requires))

numbered : (c : After-slice_known-3-1) → SoFar (9 + 21 * bits_of c.args.sort) (name_of c.args.sort ++ numbers (bits_of c.args.sort) (is_in c.args.set c.args.arrays c.args.sort)) c.args.text.now (c.put_name-named.result + c.put_numbers.result) (back_in c.put_name-named.result c.put_name-named.new.text c.put_numbers.new.text)
numbered c = far-next (named (goal.at.After-slice_known-3-1 c).After-slice_known-2-1) _ (21 * bits_of c.args.sort) (omega (arith, c.put_numbers.ensures.put.size, c.put_numbers.ensures.upper_bound)) (omega (arith, c.requires)) _ _ c.put_numbers.ensures.put

pub overflow_add-end : goal.overflow_add-end
overflow_add-end c = omega (arith, far-below (numbered c), c.requires, c.well_formed)

pub bounds-text-end : goal.bounds-text-end
bounds-text-end c = omega (arith, far-below (numbered c), far-length (numbered c), c.requires)

pub overflow_add-result : goal.overflow_add-result
overflow_add-result c = omega (arith, far-below (numbered c), c.requires, c.well_formed)

pub shape_of-text : goal.shape_of-text
shape_of-text c = simp length-set (far-length (numbered c))

pub returns : goal.returns
unfolding written_line
returns c = record { put = put_byte (numbered c).put 10 (omega (arith, (numbered c).few, c.requires)); upper_bound = omega (arith, far-below (numbered c)) }
