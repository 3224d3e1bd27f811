-- `put_lines`: each line in the part behind those before it.
use native.Mathlib.Omega.{arith}
use mathlib.Core.List.{◌++◌}
use Prim.Native.Nat.{◌+◌}
use Rattle.words.specs.OverLaws.{back_in}
use Rattle.text_numbers.specs.PutLaws.{put_next, put_back}
use Rattle.text_report.proofs.Spacing.{SoFar, far-below, far-inside, far-space, far-next, far-total}
use Rattle.command_written_lines.specs.Lines.{is_in, written_line}
use Rattle.command_written_lines.specs.declared.PlaceSort.TheVariants.{Variables, Arrays}
use Rattle.command_written_lines.proofs.put_lines.Goals as goal
use Rattle.command_written_lines.proofs.put_lines.Goals.{After-slice_known-2-1, After-slice_known-3-1}

pub put_line-first-requires : goal.put_line-first-requires
put_line-first-requires c = omega (arith, c.requires)

-- the first line, then the second, and their room
first : (c : After-slice_known-2-1) → SoFar 5386 (written_line Variables (is_in c.args.set c.args.arrays Variables)) c.args.text.now c.put_line-first.result c.put_line-first.new.text
first c = record { put = c.put_line-first.ensures.put; few = omega (arith, c.put_line-first.ensures.put.size, c.put_line-first.ensures.upper_bound); room = omega (arith, c.requires) }

pub slice_bounds-put_line-count : goal.slice_bounds-put_line-count
slice_bounds-put_line-count c = far-inside (first c)

pub slice_bounds-put_line-start : goal.slice_bounds-put_line-start
slice_bounds-put_line-start c = omega (arith, far-inside (first c))

pub put_line-requires : goal.put_line-requires
put_line-requires c = far-space (first (goal.at.put_line-requires c).After-slice_known-2-1) _ (omega (arith, c.requires))

second : (c : After-slice_known-3-1) → SoFar 6068 (written_line Variables (is_in c.args.set c.args.arrays Variables) ++ written_line Arrays (is_in c.args.set c.args.arrays Arrays)) c.args.text.now (c.put_line-first.result + c.put_line.result) (back_in c.put_line-first.result c.put_line-first.new.text c.put_line.new.text)
second c = far-next (first (goal.at.After-slice_known-3-1 c).After-slice_known-2-1) _ 682 (omega (arith, c.put_line.ensures.put.size, c.put_line.ensures.upper_bound)) (omega (arith, c.requires)) _ _ c.put_line.ensures.put

pub overflow_add-second : goal.overflow_add-second
overflow_add-second c = omega (arith, far-below (second c))

pub slice_bounds-put_line-count-2 : goal.slice_bounds-put_line-count-2
slice_bounds-put_line-count-2 c = far-inside (second c)

pub slice_bounds-put_line-start-2 : goal.slice_bounds-put_line-start-2
slice_bounds-put_line-start-2 c = omega (arith, far-inside (second c))

pub put_line-requires-2 : goal.put_line-requires-2
put_line-requires-2 c = far-space (second (goal.at.put_line-requires-2 c).After-slice_known-3-1) _ (omega (arith, c.requires))

pub overflow_add-result : goal.overflow_add-result
overflow_add-result c = omega (arith, far-total (second (goal.at.overflow_add-result c).After-slice_known-3-1) c.put_line-2.ensures.put c.put_line-2.auto.text, c.well_formed)

pub shape_of-text : goal.shape_of-text
shape_of-text c = put_back (second (goal.at.shape_of-text c).After-slice_known-3-1).put c.put_line-2.new.text (omega (arith, (second (goal.at.shape_of-text c).After-slice_known-3-1).few, (second (goal.at.shape_of-text c).After-slice_known-3-1).room)) c.put_line-2.auto.text

pub returns : goal.returns
returns c = put_next (second (goal.at.returns c).After-slice_known-3-1).put _ _ _ c.put_line-2.ensures.put
