-- `kernel_line`: field by field, each in the part behind the one before.
use native.Mathlib.Omega.{arith}
use mathlib.Core.List.{◌∷◌, ◌++◌}
use Prim.Native.Nat.{◌+◌}
use Rattle.words.specs.Answers.{ending_name}
use Rattle.words.specs.OverLaws.{back_in}
use Rattle.text_numbers.specs.PutLaws.{put_as, put_next, put_back}
use Rattle.text_report.specs.Lines.{blank, kernel_name}
use Rattle.text_report.proofs.Spacing.{SoFar, far-below, far-inside, far-space, far-next, far-total, ending-few, kernel-is}
use Rattle.text_report.proofs.line.kernel_line.Goals as goal
use Rattle.text_report.proofs.line.kernel_line.Goals.{After-slice_known-2-1, After-slice_known-3-1}

pub put_bytes-named-requires : goal.put_bytes-named-requires
put_bytes-named-requires c = omega (arith, c.requires)

named : (c : After-slice_known-2-1) → SoFar 6 (kernel_name) c.args.text.now c.put_bytes-named.result c.put_bytes-named.new.text
named c = record { put = c.put_bytes-named.ensures; few = omega arith; room = omega (arith, c.requires) }

pub slice_bounds-put_ending-count : goal.slice_bounds-put_ending-count
slice_bounds-put_ending-count c = far-inside (named c)

pub slice_bounds-put_ending-start : goal.slice_bounds-put_ending-start
slice_bounds-put_ending-start c = omega (arith, far-inside (named c))

pub put_ending-requires : goal.put_ending-requires
put_ending-requires c = far-space (named (goal.at.put_ending-requires c).After-slice_known-2-1) 9 (omega (arith, c.requires))

ended : (c : After-slice_known-3-1) → SoFar 15 (kernel_name ++ (blank ∷ ending_name c.args.ending)) c.args.text.now (c.put_bytes-named.result + c.put_ending.result) (back_in c.put_bytes-named.result c.put_bytes-named.new.text c.put_ending.new.text)
ended c = far-next (named (goal.at.After-slice_known-3-1 c).After-slice_known-2-1) _ 9 (ending-few c.args.ending) (omega (arith, c.requires)) _ _ c.put_ending.ensures

pub overflow_add-ended : goal.overflow_add-ended
overflow_add-ended c = omega (arith, far-below (ended c))

pub slice_bounds-put_rest-count : goal.slice_bounds-put_rest-count
slice_bounds-put_rest-count c = far-inside (ended c)

pub slice_bounds-put_rest-start : goal.slice_bounds-put_rest-start
slice_bounds-put_rest-start c = omega (arith, far-inside (ended c))

pub put_rest-requires : goal.put_rest-requires
put_rest-requires c = far-space (ended (goal.at.put_rest-requires c).After-slice_known-3-1) _ (omega (arith, c.requires))

pub overflow_add-result : goal.overflow_add-result
overflow_add-result c = omega (arith, far-total (ended (goal.at.overflow_add-result c).After-slice_known-3-1) c.put_rest.ensures.put c.put_rest.auto.text, c.well_formed)

pub shape_of-text : goal.shape_of-text
shape_of-text c = put_back (ended (goal.at.shape_of-text c).After-slice_known-3-1).put c.put_rest.new.text (omega (arith, (ended (goal.at.shape_of-text c).After-slice_known-3-1).few, (ended (goal.at.shape_of-text c).After-slice_known-3-1).room)) c.put_rest.auto.text

pub returns : goal.returns
returns c = put_as (kernel-is _ _) (put_next (ended (goal.at.returns c).After-slice_known-3-1).put _ _ _ c.put_rest.ensures.put)
