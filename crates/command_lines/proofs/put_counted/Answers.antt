-- `put_counted`: the count, the words behind it, and a newline.
use native.Mathlib.Omega.{arith}
use Prim.Native.Nat.{◌+◌, ◌*◌}
use mathlib.Core.List.{◌∷◌, ◌++◌}
use lib.ListN.{length}
use Rattle.words.specs.OverLaws.{back_in}
use Rattle.text_report.specs.Lines.{blank}
use lib.ListN.{length-set}
use Rattle.text_numbers.specs.Number.{digits}
use Rattle.text_numbers.specs.PutLaws.{put_as, put_byte}
use Rattle.text_report.proofs.Spacing.{SoFar, spaced_words, far-below, far-length, far-inside, far-space, far-next, count-few}
use Rattle.command_lines.proofs.Joined.{counted_is}
use Rattle.command_lines.proofs.put_counted.Goals as goal
use Rattle.command_lines.proofs.put_counted.Goals.{After-slice_known-2-1, After-slice_known-3-1}

pub put_count-counted-requires : goal.put_count-counted-requires
put_count-counted-requires c = omega (arith, c.requires)

-- the count
counted : (c : After-slice_known-2-1) → SoFar 11 (blank ∷ digits c.args.count) c.args.text.now c.put_count-counted.result c.put_count-counted.new.text
counted c = record { put = c.put_count-counted.ensures; few = count-few _ c.ranges.count.fits; room = omega (arith, c.requires) }

pub slice_bounds-put_words-count : goal.slice_bounds-put_words-count
slice_bounds-put_words-count c = far-inside (counted c)

pub slice_bounds-put_words-start : goal.slice_bounds-put_words-start
slice_bounds-put_words-start c = omega (arith, far-inside (counted c))

pub put_words-requires : goal.put_words-requires
put_words-requires c = far-space (counted (goal.at.put_words-requires c).After-slice_known-2-1) _ (omega (arith, c.requires))

-- the words behind it
worded : (c : After-slice_known-3-1) → SoFar (11 + 12 * length c.args.words.now) ((blank ∷ digits c.args.count) ++ spaced_words c.args.words.now) c.args.text.now (c.put_count-counted.result + c.put_words.result) (back_in c.put_count-counted.result c.put_count-counted.new.text c.put_words.new.text)
worded c = far-next (counted (goal.at.After-slice_known-3-1 c).After-slice_known-2-1) _ (12 * length c.args.words.now) (omega (arith, c.put_words.ensures.put.size, c.put_words.ensures.upper_bound)) (omega (arith, c.requires)) _ _ c.put_words.ensures.put

pub overflow_add-end : goal.overflow_add-end
overflow_add-end c = omega (arith, far-below (worded c), c.requires, c.well_formed)

pub bounds-text-end : goal.bounds-text-end
bounds-text-end c = omega (arith, far-below (worded c), far-length (worded c), c.requires)

pub overflow_add-result : goal.overflow_add-result
overflow_add-result c = omega (arith, far-below (worded c), c.requires, c.well_formed)

pub shape_of-text : goal.shape_of-text
shape_of-text c = simp length-set (far-length (worded c))

pub returns : goal.returns
returns c = put_as (counted_is _ c.args.words.now) (put_byte (worded c).put 10 (omega (arith, (worded c).few, c.requires)))
