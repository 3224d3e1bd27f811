-- `pass_words`: the words before the index are known.
use Prim.Native.Nat.{◌-◌}
use native.Mathlib.Omega.{arith}
use borrow.Author.Rules.{rules}
use lib.ListN.{length}
use Rattle.page_printer.specs.PageLaws.{Passed, passed_none, passed-next, passed-all}
use Rattle.page_printer.proofs.pages.pass_words.Goals as goal

pub loop-i-init : goal.loop-i-init
loop-i-init c = passed_none _

pub offset_bounds-words-i : goal.offset_bounds-words-i
offset_bounds-words-i c = omega (arith, c.loop-i-test.true, c.well_formed)

pub bounds-words-i : goal.bounds-words-i
bounds-words-i c = c.loop-i-test.true

pub overflow_add-i : goal.overflow_add-i
overflow_add-i c = omega (arith, c.loop-i-test.true)

pub loop-i-smaller : goal.loop-i-smaller
loop-i-smaller c = omega (arith, c.loop-i-test.true)

pub loop-i-preserved : goal.loop-i-preserved
loop-i-preserved c = passed-next c.loop-i.invariant c.pass_word-arg-1.given

pub returns : goal.returns
returns c = passed-all _ _ c.loop-i.invariant c.loop-i-test.false
