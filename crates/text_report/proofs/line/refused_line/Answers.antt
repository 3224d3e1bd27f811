-- `refused_line`: field by field, each in the part behind the one before.
use native.Mathlib.Omega.{arith}
use mathlib.Core.List.{◌∷◌, ◌++◌}
use mathlib.Core.Path.{◌∙◌}
use Prim.Native.Nat.{◌+◌}
use Rattle.text_numbers.specs.Number.{digits}
use Rattle.words.specs.OverLaws.{back_in}
use lib.ListN.{length-set}
use Rattle.text_numbers.specs.PutLaws.{put_as, put_byte}
use Rattle.text_report.specs.Lines.{blank, refused_name}
use Rattle.text_report.proofs.Spacing.{SoFar, far-below, far-length, far-inside, far-space, far-next, count-few, refused-is}
use Rattle.text_report.proofs.line.refused_line.Goals as goal
use Rattle.text_report.proofs.line.refused_line.Goals.{After-slice_known-3-1, After-slice_known-4-1, After-put_bytes-named}

pub put_bytes-named-requires : goal.put_bytes-named-requires
put_bytes-named-requires c = omega (arith, c.requires)

named : (c : After-put_bytes-named) → SoFar 7 refused_name c.args.text.now c.put_bytes-named.result c.put_bytes-named.new.text
named c = record { put = c.put_bytes-named.ensures; few = omega arith; room = omega (arith, c.requires) }

pub slice_bounds-put_count-count : goal.slice_bounds-put_count-count
slice_bounds-put_count-count c = far-inside (named (goal.at.slice_bounds-put_count-count c).After-put_bytes-named)

pub slice_bounds-put_count-start : goal.slice_bounds-put_count-start
slice_bounds-put_count-start c = omega (arith, far-inside (named (goal.at.slice_bounds-put_count-start c).After-put_bytes-named))

pub put_count-requires : goal.put_count-requires
put_count-requires c = far-space (named (goal.at.put_count-requires c).After-put_bytes-named) 21 (omega (arith, c.requires))

numbered : (c : After-slice_known-3-1) → SoFar 18 (refused_name ++ (blank ∷ digits c.number.result)) c.args.text.now (c.put_bytes-named.result + c.put_count.result) (back_in c.put_bytes-named.result c.put_bytes-named.new.text c.put_count.new.text)
numbered c = far-next (named (goal.at.After-slice_known-3-1 c).After-put_bytes-named) _ 11 (count-few _ (omega arith)) (omega (arith, c.requires)) _ _ c.put_count.ensures

pub overflow_add-numbered : goal.overflow_add-numbered
overflow_add-numbered c = omega (arith, far-below (numbered c))

pub slice_bounds-put_place-count : goal.slice_bounds-put_place-count
slice_bounds-put_place-count c = far-inside (numbered c)

pub slice_bounds-put_place-start : goal.slice_bounds-put_place-start
slice_bounds-put_place-start c = omega (arith, far-inside (numbered c))

pub put_place-requires : goal.put_place-requires
put_place-requires c = far-space (numbered (goal.at.put_place-requires c).After-slice_known-3-1) 21 (omega (arith, c.requires))

placed : (c : After-slice_known-4-1) → SoFar 39 ((refused_name ++ (blank ∷ digits c.number.result)) ++ (blank ∷ digits c.refusal.inside.place)) c.args.text.now (c.put_bytes-named.result + c.put_count.result + c.put_place.result) (back_in (c.put_bytes-named.result + c.put_count.result) (back_in c.put_bytes-named.result c.put_bytes-named.new.text c.put_count.new.text) c.put_place.new.text)
placed c = far-next (numbered (goal.at.After-slice_known-4-1 c).After-slice_known-3-1) _ 21 (omega (arith, c.put_place.ensures.put.size, c.put_place.ensures.upper_bound)) (omega (arith, c.requires)) _ _ c.put_place.ensures.put

pub overflow_add-end : goal.overflow_add-end
overflow_add-end c = omega (arith, far-below (placed c))

pub bounds-text-end : goal.bounds-text-end
bounds-text-end c = omega (arith, far-below (placed c), far-length (placed c), c.requires)

pub overflow_add-result : goal.overflow_add-result
overflow_add-result c = omega (arith, far-below (placed c))

pub shape_of-text : goal.shape_of-text
shape_of-text c = simp length-set (far-length (placed c))

pub returns : goal.returns
returns c = put_as (refused-is _ _ ∙ rw (c.number.ensures, ← c.refusal.view_is)) (put_byte (placed c).put 10 (omega (arith, (placed c).few, c.requires)))
