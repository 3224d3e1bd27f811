-- `malformed_line`: the sentence, the number, and a newline.
use native.Mathlib.Omega.{arith}
use Prim.Native.Nat.{◌+◌}
use mathlib.Core.List.{◌∷◌, ◌++◌}
use Rattle.words.specs.OverLaws.{back_in}
use Rattle.text_report.specs.Lines.{blank}
use lib.ListN.{length-set}
use Rattle.text_numbers.specs.Number.{digits}
use Rattle.text_numbers.specs.PutLaws.{put_as, put_byte}
use Rattle.text_report.proofs.Spacing.{SoFar, far-below, far-length, far-inside, far-space, far-next, place-few}
use Rattle.command_lines.specs.Lines.{malformed_name}
use Rattle.command_lines.proofs.Joined.{malformed-is}
use Rattle.command_lines.proofs.malformed_line.Goals as goal
use Rattle.command_lines.proofs.malformed_line.Goals.{After-slice_known-2-1, After-slice_known-3-1}

pub put_bytes-named-requires : goal.put_bytes-named-requires
put_bytes-named-requires c = omega (arith, c.requires)

-- the sentence
named : (c : After-slice_known-2-1) → SoFar 48 malformed_name c.args.text.now c.put_bytes-named.result c.put_bytes-named.new.text
named c = record { put = c.put_bytes-named.ensures; few = omega arith; room = omega (arith, c.requires) }

pub slice_bounds-put_count-count : goal.slice_bounds-put_count-count
slice_bounds-put_count-count c = far-inside (named c)

pub slice_bounds-put_count-start : goal.slice_bounds-put_count-start
slice_bounds-put_count-start c = omega (arith, far-inside (named c))

pub put_count-requires : goal.put_count-requires
put_count-requires c = far-space (named (goal.at.put_count-requires c).After-slice_known-2-1) 21 (omega (arith, c.requires))

-- the number behind it
numbered : (c : After-slice_known-3-1) → SoFar 69 (malformed_name ++ (blank ∷ digits c.args.number)) c.args.text.now (c.put_bytes-named.result + c.put_count.result) (back_in c.put_bytes-named.result c.put_bytes-named.new.text c.put_count.new.text)
numbered c = far-next (named (goal.at.After-slice_known-3-1 c).After-slice_known-2-1) _ 21 (place-few _ c.ranges.number.fits) (omega (arith, c.requires)) _ _ c.put_count.ensures

pub overflow_add-end : goal.overflow_add-end
overflow_add-end c = omega (arith, far-below (numbered c))

pub bounds-text-end : goal.bounds-text-end
bounds-text-end c = omega (arith, far-below (numbered c), far-length (numbered c), c.requires)

pub overflow_add-result : goal.overflow_add-result
overflow_add-result c = omega (arith, far-below (numbered c))

pub shape_of-text : goal.shape_of-text
shape_of-text c = simp length-set (far-length (numbered c))

pub returns : goal.returns
returns c = put_as (malformed-is _) (put_byte (numbered c).put 10 (omega (arith, (numbered c).few, c.requires)))
