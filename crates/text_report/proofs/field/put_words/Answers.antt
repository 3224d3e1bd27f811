-- `put_words` puts one word after the other; the invariant is `Worded`.
use Prim.Native.Nat.{◌+◌}
use native.Mathlib.Omega.{arith}
use Rattle.words.specs.OverLaws.{back_in}
use Rattle.text_report.proofs.Spacing.{Worded, worded-start, worded-length, worded-inside, worded-end, worded-space, worded-next}
use Rattle.text_report.proofs.field.put_words.Goals as goal
use Rattle.text_report.proofs.field.put_words.Goals.{After-put_word-at}

pub loop-word-init : goal.loop-word-init
loop-word-init c = worded-start _ _ c.requires

pub slice_bounds-put_word-count : goal.slice_bounds-put_word-count
slice_bounds-put_word-count c = worded-inside c.loop-word.invariant

pub slice_bounds-put_word-start : goal.slice_bounds-put_word-start
slice_bounds-put_word-start c = omega (arith, worded-inside c.loop-word.invariant)

pub put_word-at-requires : goal.put_word-at-requires
put_word-at-requires c = worded-space c.loop-word.invariant c.loop-word-test.true

-- one word more was put
next : (c : After-put_word-at) → Worded c.args.words.now (c.loop-word.word-index + 1) (c.loop-word.at + c.put_word-at.result) c.args.text.now (back_in c.loop-word.at c.loop-word.text c.put_word-at.new.text)
next c = worded-next c.loop-word.invariant c.loop-word-test.true (omega arith) _ _ c.put_word-at.ensures

pub overflow_add-at : goal.overflow_add-at
overflow_add-at c = let n = next (goal.at.overflow_add-at c).After-put_word-at in omega (arith, worded-inside n, worded-length n, c.well_formed)

pub loop-word-preserved : goal.loop-word-preserved
loop-word-preserved c = next (goal.at.loop-word-preserved c).After-put_word-at

pub shape_of-text : goal.shape_of-text
shape_of-text c = worded-length c.loop-word.invariant

pub returns : goal.returns
returns c = record { put = worded-end c.loop-word.invariant c.loop-word-test.false; upper_bound = omega (arith, c.loop-word.invariant.few, c.loop-word.invariant.inside) }
