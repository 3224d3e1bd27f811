-- `size_of` adds the sizes up; the invariant is `Summed`.
use native.Mathlib.Omega.{arith}
use Prim.Native.Nat.{◌+◌}
use Rattle.text_numbers.proofs.Signs.{length-again}
use Rattle.text_lines.proofs.Sizing.{Summed, summed-start, summed-next, summed-end}
use Rattle.text_lines.proofs.writer.size_of.Goals as goal
use Rattle.text_lines.proofs.writer.size_of.Goals.{After-number_size}

pub loop-word-init : goal.loop-word-init
loop-word-init c = summed-start _

-- a word more was added
next : (c : After-number_size) → Summed c.args.words.now (c.loop-word.size + (c.number_size.result + 1)) (c.loop-word.word-index + 1)
next c = summed-next c.loop-word.invariant c.loop-word-test.true (omega arith) _ (length-again _ _ (record { sfits = omega arith }) c.number_size.ensures)

pub overflow_add-size : goal.overflow_add-size
overflow_add-size c = omega (arith, (next c).most, c.loop-word-test.true, c.requires)

pub overflow_add-size-in-loop-word : goal.overflow_add-size-in-loop-word
overflow_add-size-in-loop-word c = omega (arith, (next c).most, c.loop-word-test.true, c.requires)

pub loop-word-preserved : goal.loop-word-preserved
loop-word-preserved c = next c

pub returns : goal.returns
returns c = summed-end c.loop-word.invariant c.loop-word-test.false
