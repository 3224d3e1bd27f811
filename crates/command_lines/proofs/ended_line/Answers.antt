-- `ended_line`: the ending, and the rest behind it.
use native.Mathlib.Omega.{arith}
use Rattle.words.specs.Answers.{ending_name}
use Rattle.text_numbers.specs.PutLaws.{put_as, put_next, put_back}
use Rattle.text_report.proofs.Spacing.{SoFar, far-inside, far-space, far-total, ending-few}
use Rattle.command_lines.proofs.Joined.{ended_is}
use Rattle.command_lines.proofs.ended_line.Goals as goal
use Rattle.command_lines.proofs.ended_line.Goals.{After-slice_known-2-1}

pub put_ending_name-named-requires : goal.put_ending_name-named-requires
put_ending_name-named-requires c = omega (arith, c.requires)

-- the ending
named : (c : After-slice_known-2-1) → SoFar 8 (ending_name c.args.ending) c.args.text.now c.put_ending_name-named.result c.put_ending_name-named.new.text
named c = record { put = c.put_ending_name-named.ensures; few = omega (arith, ending-few c.args.ending); room = omega (arith, c.requires) }

pub slice_bounds-put_counted-count : goal.slice_bounds-put_counted-count
slice_bounds-put_counted-count c = far-inside (named c)

pub slice_bounds-put_counted-start : goal.slice_bounds-put_counted-start
slice_bounds-put_counted-start c = omega (arith, far-inside (named c))

pub put_counted-requires : goal.put_counted-requires
put_counted-requires c = far-space (named (goal.at.put_counted-requires c).After-slice_known-2-1) _ (omega (arith, c.requires))

pub overflow_add-result : goal.overflow_add-result
overflow_add-result c = omega (arith, far-total (named (goal.at.overflow_add-result c).After-slice_known-2-1) c.put_counted.ensures c.put_counted.auto.text, c.well_formed)

pub shape_of-text : goal.shape_of-text
shape_of-text c = put_back (named (goal.at.shape_of-text c).After-slice_known-2-1).put c.put_counted.new.text (omega (arith, (named (goal.at.shape_of-text c).After-slice_known-2-1).few, (named (goal.at.shape_of-text c).After-slice_known-2-1).room)) c.put_counted.auto.text

pub returns : goal.returns
returns c = put_as (ended_is _ _ _) (put_next (named (goal.at.returns c).After-slice_known-2-1).put _ _ _ c.put_counted.ensures)
