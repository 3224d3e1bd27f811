-- `lengths_fit` tests and sums the lengths in order. The invariant: with those to come, the sum and the test are those of
-- all lengths. The measure is the number to come.
use mathlib.Core.Path.{◌≡◌, refl, sym, ◌∙◌}
use mathlib.Core.List.{map}
use Prim.Native.Nat.{◌+◌}
use native.Mathlib.Omega.{arith}
use Rattle.words.specs.Word.{natural}
use Rattle.words.specs.Layout.{sum}
use Rattle.words.proofs.Lengths.{Read, sum-rest, length_none, length_over, length-within, sum-end, within_end}
use Rattle.words.proofs.layout.lengths_fit.Goals as goal
use Rattle.words.proofs.layout.lengths_fit.Goals.{After-natural-words}

read : (c : After-natural-words) → Read c.args.lengths.now c.loop-length.length-index c.natural-words.result
read c =
    record { below = c.loop-length-test.true; word = c.natural-arg-1.given; is = c.natural-words.ensures }

pub loop-length-init : goal.loop-length-init
loop-length-init c = (refl, refl, omega arith)

pub returns-then-words-lt1 : goal.returns-then-words-lt1
returns-then-words-lt1 c =
    let l = c.loop-length in
    let bad = sym l.invariant.1 ∙ length_none (read (goal.at.returns-then-words-lt1 c).After-natural-words) c.if-words-lt1.true in
    rw bad

pub returns-then-words-gt4096 : goal.returns-then-words-gt4096
returns-then-words-gt4096 c =
    let l = c.loop-length in
    let bad = sym l.invariant.1 ∙ length_over (read (goal.at.returns-then-words-gt4096 c).After-natural-words) c.if-words-lt1.false c.if-words-gt4096.true in
    rw bad

pub loop-length-preserved : goal.loop-length-preserved
loop-length-preserved c =
    let l = c.loop-length in
    let here = read (goal.at.loop-length-preserved c).After-natural-words in
    (omega (arith, sum-rest here), sym (length-within here c.if-words-lt1.false c.if-words-gt4096.false) ∙ l.invariant.1, omega arith)

pub returns : goal.returns
returns c =
    let s = c.args in
    let l = c.loop-length in
    let all = sym l.invariant.1 ∙ within_end s.lengths.now l.length-index c.loop-length-test.false in
    let total : s.variables + sum (map natural s.lengths.now) ≡ l.total =
    omega (arith, sum-end s.lengths.now l.length-index c.loop-length-test.false) in
    rw (all, total)
