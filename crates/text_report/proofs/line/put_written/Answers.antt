-- `put_written`: the words, the number in the part behind them, and a newline.
use native.Mathlib.Omega.{arith}
use mathlib.Core.List.{◌∷◌, ◌++◌}
use Prim.Native.Nat.{◌+◌, ◌*◌}
use lib.ListN.{length, length-set}
use Rattle.words.specs.OverLaws.{back_in}
use Rattle.text_numbers.specs.Number.{digits}
use Rattle.text_numbers.specs.PutLaws.{put_byte}
use Rattle.text_report.specs.Lines.{blank}
use Rattle.text_report.proofs.Spacing.{SoFar, spaced_words, far-below, far-length, far-inside, far-space, far-next, count-few}
use Rattle.text_report.proofs.line.put_written.Goals as goal
use Rattle.text_report.proofs.line.put_written.Goals.{After-slice_known-2-1, After-slice_known-3-1}

pub put_words-worded-requires : goal.put_words-worded-requires
put_words-worded-requires c = omega (arith, c.requires)

-- the words, then the number, and their room
worded : (c : After-slice_known-2-1) → SoFar (12 * length c.args.words.now) (spaced_words c.args.words.now) c.args.text.now c.put_words-worded.result c.put_words-worded.new.text
worded c = record { put = c.put_words-worded.ensures.put; few = omega (arith, c.put_words-worded.ensures.put.size, c.put_words-worded.ensures.upper_bound); room = omega (arith, c.requires) }

pub slice_bounds-put_count-count : goal.slice_bounds-put_count-count
slice_bounds-put_count-count c = far-inside (worded c)

pub slice_bounds-put_count-start : goal.slice_bounds-put_count-start
slice_bounds-put_count-start c = omega (arith, far-inside (worded c))

pub put_count-requires : goal.put_count-requires
put_count-requires c = far-space (worded (goal.at.put_count-requires c).After-slice_known-2-1) 21 (omega (arith, c.requires))

numbered : (c : After-slice_known-3-1) → SoFar (12 * length c.args.words.now + 11) (spaced_words c.args.words.now ++ (blank ∷ digits c.args.written)) c.args.text.now (c.put_words-worded.result + c.put_count.result) (back_in c.put_words-worded.result c.put_words-worded.new.text c.put_count.new.text)
numbered c = far-next (worded (goal.at.After-slice_known-3-1 c).After-slice_known-2-1) _ 11 (count-few _ c.ranges.written.fits) (omega (arith, c.requires)) _ _ c.put_count.ensures

pub overflow_add-end : goal.overflow_add-end
overflow_add-end c = omega (arith, far-below (numbered c), c.requires, c.well_formed)

pub bounds-text-end : goal.bounds-text-end
bounds-text-end c = omega (arith, far-below (numbered c), far-length (numbered c), c.requires)

pub overflow_add-result : goal.overflow_add-result
overflow_add-result c = omega (arith, far-below (numbered c), c.requires, c.well_formed)

pub shape_of-text : goal.shape_of-text
shape_of-text c = simp length-set (far-length (numbered c))

pub returns : goal.returns
returns c = record { put = put_byte (numbered c).put 10 (omega (arith, (numbered c).few, c.requires)); upper_bound = omega (arith, far-below (numbered c)) }
