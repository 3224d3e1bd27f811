-- `source_line`: field by field, each in the part behind the one before.
use native.Mathlib.Omega.{arith}
use mathlib.Core.List.{◌∷◌, ◌++◌}
use Prim.Native.Nat.{◌+◌}
use Rattle.words.specs.Answers.{ending_name}
use Rattle.text_numbers.specs.Number.{digits}
use Rattle.words.specs.OverLaws.{back_in}
use Rattle.text_numbers.specs.PutLaws.{put_as, put_next, put_back}
use Rattle.text_report.specs.Lines.{blank, source_name}
use Rattle.text_report.proofs.Spacing.{SoFar, far-below, far-inside, far-space, far-next, far-total, ending-few, count-few, source_is}
use Rattle.text_report.proofs.line.source_line.Goals as goal
use Rattle.text_report.proofs.line.source_line.Goals.{After-slice_known-2-1, After-slice_known-3-1, After-slice_known-4-1}

pub put_bytes-named-requires : goal.put_bytes-named-requires
put_bytes-named-requires c = omega (arith, c.requires)

named : (c : After-slice_known-2-1) → SoFar 6 (source_name) c.args.text.now c.put_bytes-named.result c.put_bytes-named.new.text
named c = record { put = c.put_bytes-named.ensures; few = omega arith; room = omega (arith, c.requires) }

pub slice_bounds-put_ending-count : goal.slice_bounds-put_ending-count
slice_bounds-put_ending-count c = far-inside (named c)

pub slice_bounds-put_ending-start : goal.slice_bounds-put_ending-start
slice_bounds-put_ending-start c = omega (arith, far-inside (named c))

pub put_ending-requires : goal.put_ending-requires
put_ending-requires c = far-space (named (goal.at.put_ending-requires c).After-slice_known-2-1) 9 (omega (arith, c.requires))

ended : (c : After-slice_known-3-1) → SoFar 15 (source_name ++ (blank ∷ ending_name c.args.ending)) c.args.text.now (c.put_bytes-named.result + c.put_ending.result) (back_in c.put_bytes-named.result c.put_bytes-named.new.text c.put_ending.new.text)
ended c = far-next (named (goal.at.After-slice_known-3-1 c).After-slice_known-2-1) _ 9 (ending-few c.args.ending) (omega (arith, c.requires)) _ _ c.put_ending.ensures

pub overflow_add-ended : goal.overflow_add-ended
overflow_add-ended c = omega (arith, far-below (ended c))

pub slice_bounds-put_count-count : goal.slice_bounds-put_count-count
slice_bounds-put_count-count c = far-inside (ended c)

pub slice_bounds-put_count-start : goal.slice_bounds-put_count-start
slice_bounds-put_count-start c = omega (arith, far-inside (ended c))

pub put_count-requires : goal.put_count-requires
put_count-requires c = far-space (ended (goal.at.put_count-requires c).After-slice_known-3-1) 21 (omega (arith, c.requires))

counted : (c : After-slice_known-4-1) → SoFar 26 ((source_name ++ (blank ∷ ending_name c.args.ending)) ++ (blank ∷ digits c.args.count)) c.args.text.now (c.put_bytes-named.result + c.put_ending.result + c.put_count.result) (back_in (c.put_bytes-named.result + c.put_ending.result) (back_in c.put_bytes-named.result c.put_bytes-named.new.text c.put_ending.new.text) c.put_count.new.text)
counted c = far-next (ended (goal.at.After-slice_known-4-1 c).After-slice_known-3-1) _ 11 (count-few _ c.ranges.count.fits) (omega (arith, c.requires)) _ _ c.put_count.ensures

pub overflow_add-counted : goal.overflow_add-counted
overflow_add-counted c = omega (arith, far-below (counted c))

pub slice_bounds-put_written-count : goal.slice_bounds-put_written-count
slice_bounds-put_written-count c = far-inside (counted c)

pub slice_bounds-put_written-start : goal.slice_bounds-put_written-start
slice_bounds-put_written-start c = omega (arith, far-inside (counted c))

pub put_written-requires : goal.put_written-requires
put_written-requires c = far-space (counted (goal.at.put_written-requires c).After-slice_known-4-1) _ (omega (arith, c.requires))

pub overflow_add-result : goal.overflow_add-result
overflow_add-result c = omega (arith, far-total (counted (goal.at.overflow_add-result c).After-slice_known-4-1) c.put_written.ensures.put c.put_written.auto.text, c.well_formed)

pub shape_of-text : goal.shape_of-text
shape_of-text c = put_back (counted (goal.at.shape_of-text c).After-slice_known-4-1).put c.put_written.new.text (omega (arith, (counted (goal.at.shape_of-text c).After-slice_known-4-1).few, (counted (goal.at.shape_of-text c).After-slice_known-4-1).room)) c.put_written.auto.text

pub returns : goal.returns
returns c = record { put = put_as (source_is _ _ _ _) (put_next (counted (goal.at.returns c).After-slice_known-4-1).put _ _ _ c.put_written.ensures.put); upper_bound = omega (arith, far-below (counted (goal.at.returns c).After-slice_known-4-1), c.put_written.ensures.upper_bound) }
