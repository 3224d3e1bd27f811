-- `told_lines`: the first line, and the others behind it.
use native.Mathlib.Omega.{arith}
use Rattle.text_numbers.specs.PutLaws.{put_next, put_back}
use Rattle.text_report.proofs.Spacing.{SoFar, far-inside, far-space, far-total}
use Rattle.command_preview_lines.specs.Changes.{told_line, preview_lines}
use Rattle.command_preview_lines.proofs.told_lines.Goals as goal
use Rattle.command_preview_lines.proofs.told_lines.Goals.{After-slice_known-2-1}

pub told_line-told-requires : goal.told_line-told-requires
told_line-told-requires c = omega (arith, c.requires.2)

-- the first line
told : (c : After-slice_known-2-1) → SoFar 41 (told_line c.args.preview.ending c.args.preview.count c.args.preview.differing) c.args.text.now c.told_line-told.result c.told_line-told.new.text
told c = record { put = c.told_line-told.ensures.put; few = omega (arith, c.told_line-told.ensures.put.size, c.told_line-told.ensures.upper_bound); room = omega (arith, c.requires.2) }

pub slice_bounds-change_lines-count : goal.slice_bounds-change_lines-count
slice_bounds-change_lines-count c = far-inside (told c)

pub slice_bounds-change_lines-start : goal.slice_bounds-change_lines-start
slice_bounds-change_lines-start c = omega (arith, far-inside (told c))

pub change_lines-requires : goal.change_lines-requires
change_lines-requires c =
    let start = c.before.before.before.before.before.before in
    record { size_in_bounds = (start.requires.0, start.requires.1); size_in_bounds_2 = far-space (told (goal.at.change_lines-requires c).After-slice_known-2-1) _ start.requires.2 }

pub overflow_add-result : goal.overflow_add-result
overflow_add-result c = omega (arith, far-total (told (goal.at.overflow_add-result c).After-slice_known-2-1) c.change_lines.ensures.put c.change_lines.auto.text, c.well_formed)

pub shape_of-text : goal.shape_of-text
shape_of-text c = put_back (told (goal.at.shape_of-text c).After-slice_known-2-1).put c.change_lines.new.text (omega (arith, (told (goal.at.shape_of-text c).After-slice_known-2-1).few, (told (goal.at.shape_of-text c).After-slice_known-2-1).room)) c.change_lines.auto.text

pub returns : goal.returns
unfolding preview_lines
returns c = put_next (told (goal.at.returns c).After-slice_known-2-1).put _ _ _ c.change_lines.ensures.put
