-- `target_of` adds the distance to the following line's number.
use Rattle.flat_steps.proofs.Handed.{line-fits, following-fits, distance-fits, total-fits, total-casts, target_is}
use borrow.Author.Rules.{rules}
use native.Mathlib.Omega.{arith}
use Rattle.flat_steps.proofs.operands.target_of.Goals as goal

pub overflow_cast-following : goal.overflow_cast-following
overflow_cast-following c = line-fits c.args.line (omega (arith, c.requires.inside))

pub overflow_add-following : goal.overflow_add-following
overflow_add-following c = following-fits c.args.line (omega (arith, c.requires.inside))

pub word_at-requires : goal.word_at-requires
word_at-requires c = omega (arith, c.requires.inside)

pub overflow_cast-result : goal.overflow_cast-result
overflow_cast-result c = let s = c.before in distance-fits s.args.line (omega (arith, s.requires.inside)) _ _ c.word_at.result c.word_at.type_inv c.word_at.ensures s.requires.lands

pub overflow_add-result : goal.overflow_add-result
overflow_add-result c = let s = c.before in total-fits s.args.line (omega (arith, s.requires.inside)) _ _ c.word_at.result c.word_at.type_inv c.word_at.ensures s.requires.lands

pub overflow_cast-result-2 : goal.overflow_cast-result-2
overflow_cast-result-2 c = let s = c.before in total-casts s.args.line (omega (arith, s.requires.inside)) _ _ c.word_at.result c.word_at.type_inv c.word_at.ensures s.requires.lands

pub returns : goal.returns
returns c = let s = c.before in target_is s.args.line (omega (arith, s.requires.inside)) _ _ c.word_at.result c.word_at.type_inv c.word_at.ensures s.requires.lands
