-- `told_line`: the ending, the count, the tally, and a newline.
use mathlib.Core.Path.{◌≡◌, ◌∙◌}
use mathlib.Core.List.{List, [], ◌∷◌, ◌++◌, append_assoc}
use Prim.Native.Nat.{ℕ, ◌+◌}
use native.Mathlib.Omega.{arith}
use lib.ListN.{length-set}
use Rattle.words.specs.OverLaws.{back_in}
use Rattle.words.specs.Answers.{ending_name}
use Rattle.words.specs.declared.Ending.{Ending}
use Rattle.text_numbers.specs.Number.{digits}
use Rattle.text_lines.specs.Line.{newline}
use Rattle.text_numbers.specs.PutLaws.{put_as, put_byte}
use Rattle.text_report.specs.Lines.{blank, spaced, line_of}
use Rattle.text_report.proofs.Spacing.{SoFar, far-below, far-length, far-inside, far-space, far-next, ending-few, count-few, place-few}
use Rattle.command_preview_lines.specs.Changes.{told_line}
use Rattle.command_preview_lines.proofs.told_line.Goals as goal
use Rattle.command_preview_lines.proofs.told_line.Goals.{After-slice_known-2-1, After-slice_known-3-1, After-slice_known-4-1}

told_is : (ending : Ending) (count differing : ℕ) → ((ending_name ending ++ (blank ∷ digits count)) ++ (blank ∷ digits differing)) ++ (newline ∷ []) ≡ told_line ending count differing
unfolding told_line line_of spaced
told_is ending count differing = simp append_assoc

pub put_ending_name-named-requires : goal.put_ending_name-named-requires
put_ending_name-named-requires c = omega (arith, c.requires)

-- the ending
named : (c : After-slice_known-2-1) → SoFar 8 (ending_name c.args.ending) c.args.text.now c.put_ending_name-named.result c.put_ending_name-named.new.text
named c = record { put = c.put_ending_name-named.ensures; few = omega (arith, ending-few c.args.ending); room = omega (arith, c.requires) }

pub slice_bounds-put_count-count : goal.slice_bounds-put_count-count
slice_bounds-put_count-count c = far-inside (named c)

pub slice_bounds-put_count-start : goal.slice_bounds-put_count-start
slice_bounds-put_count-start c = omega (arith, far-inside (named c))

pub put_count-requires : goal.put_count-requires
put_count-requires c = far-space (named (goal.at.put_count-requires c).After-slice_known-2-1) 21 (omega (arith, c.requires))

-- the count
counted : (c : After-slice_known-3-1) → SoFar 19 (ending_name c.args.ending ++ (blank ∷ digits c.args.count)) c.args.text.now (c.put_ending_name-named.result + c.put_count.result) (back_in c.put_ending_name-named.result c.put_ending_name-named.new.text c.put_count.new.text)
counted c = far-next (named (goal.at.After-slice_known-3-1 c).After-slice_known-2-1) _ 11 (count-few _ c.ranges.count.fits) (omega (arith, c.requires)) _ _ c.put_count.ensures

pub overflow_add-counted : goal.overflow_add-counted
overflow_add-counted c = omega (arith, far-below (counted c))

pub slice_bounds-put_count-count-2 : goal.slice_bounds-put_count-count-2
slice_bounds-put_count-count-2 c = far-inside (counted c)

pub slice_bounds-put_count-start-2 : goal.slice_bounds-put_count-start-2
slice_bounds-put_count-start-2 c = omega (arith, far-inside (counted c))

pub put_count-requires-2 : goal.put_count-requires-2
put_count-requires-2 c = far-space (counted (goal.at.put_count-requires-2 c).After-slice_known-3-1) 21 (omega (arith, c.requires))

-- where the tally ends, and the buffer then
abbrev end : After-slice_known-4-1 → ℕ
end c = c.put_ending_name-named.result + c.put_count.result + c.put_count-2.result

abbrev filled : After-slice_known-4-1 → List ℕ
filled c = back_in (c.put_ending_name-named.result + c.put_count.result) (back_in c.put_ending_name-named.result c.put_ending_name-named.new.text c.put_count.new.text) c.put_count-2.new.text

tallied : (c : After-slice_known-4-1) → SoFar 40 ((ending_name c.args.ending ++ (blank ∷ digits c.args.count)) ++ (blank ∷ digits c.args.differing)) c.args.text.now (end c) (filled c)
tallied c = far-next (counted (goal.at.After-slice_known-4-1 c).After-slice_known-3-1) _ 21 (place-few _ c.ranges.differing.fits) (omega (arith, c.requires)) _ _ c.put_count-2.ensures

pub overflow_add-end : goal.overflow_add-end
overflow_add-end c = omega (arith, far-below (tallied c))

pub bounds-text-end : goal.bounds-text-end
bounds-text-end c = omega (arith, far-below (tallied c), far-length (tallied c), c.requires)

pub overflow_add-result : goal.overflow_add-result
overflow_add-result c = omega (arith, far-below (tallied c))

pub shape_of-text : goal.shape_of-text
shape_of-text c = length-set (filled c) (end c) 10 ∙ far-length (tallied c)

pub returns : goal.returns
returns c = record { put = put_as (told_is _ _ _) (put_byte (tallied c).put 10 (omega (arith, (tallied c).few, c.requires))); upper_bound = omega (arith, far-below (tallied c)) }
