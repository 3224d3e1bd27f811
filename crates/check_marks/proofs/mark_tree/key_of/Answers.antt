-- `key_of` turns a negative word, -(n + 1), into n, which is a word too.
use mathlib.Core.Path.{◌≡◌, refl, ap, ◌∙◌}
use mathlib.Core.Bool.{true, false}
use Prim.Native.Nat.{ℕ, suc, ◌-◌}
use native.Mathlib.Omega.{arith}
use lib.IntN.{ℤ, pos, negsuc, ◌-ℤ◌}
use lib.Signed.{mag, lt_z}
use mir.Syntax.{w32}
use mir.Val.{SFits, to_z, of_z}
use mir.Facts.{to_z-of_z}
use borrow.Author.Tests.{ltb-true, le-ltb}
use borrow.Author.Rules.{rules}
use Rattle.words.specs.Word.{natural}
use Rattle.check_marks.proofs.mark_tree.key_of.Goals as goal

turned : (z : ℤ) → lt_z z (pos 0) ≡ true → negsuc 0 -ℤ z ≡ pos (mag z)
turned (pos n) e = absurd (omega (arith, ltb-true n 0 e))
turned (negsuc n) e = let z : suc n - 1 ≡ n = omega arith in rw (le-ltb (suc n) 1 (omega arith), z)

kept : (z : ℤ) → lt_z z (pos 0) ≡ false → natural z ≡ mag z
unfolding natural
kept (pos n) e = refl
kept (negsuc n) e = absurd (let w : ◌≡◌ {A = ℕ} 0 1 = cc in omega arith)

module _ (z : ℤ) (h : SFits w32 z) where
  turned-again : lt_z (to_z w32 (of_z w32 z)) (pos 0) ≡ true → negsuc 0 -ℤ to_z w32 (of_z w32 z) ≡ pos (mag z)
  turned-again e = rw (to_z-of_z {z = z} h) (turned z (rw (to_z-of_z {z = z} h) at e))

  turned-fits : lt_z (to_z w32 (of_z w32 z)) (pos 0) ≡ true → SFits w32 (negsuc 0 -ℤ to_z w32 (of_z w32 z))
  turned-fits e = rw (turned-again e) (record { sfits = h.sfits })

  turned-is : lt_z (to_z w32 (of_z w32 z)) (pos 0) ≡ true → natural (to_z w32 (of_z w32 (negsuc 0 -ℤ to_z w32 (of_z w32 z)))) ≡ mag z
  unfolding natural
  turned-is e = ap natural (to_z-of_z (turned-fits e) ∙ turned-again e)

  kept-is : lt_z (to_z w32 (of_z w32 z)) (pos 0) ≡ false → natural (to_z w32 (of_z w32 z)) ≡ mag z
  kept-is e = rw (to_z-of_z {z = z} h) (kept z (rw (to_z-of_z {z = z} h) at e))

pub overflow_sub-word : goal.overflow_sub-word
overflow_sub-word c = turned-fits _ c.ranges.word c.if-word-lt0.true

pub returns-then-word-lt0 : goal.returns-then-word-lt0
returns-then-word-lt0 c = c.natural.ensures ∙ turned-is _ c.ranges.word c.if-word-lt0.true

pub returns : goal.returns
returns c = c.natural-2.ensures ∙ kept-is _ c.ranges.word c.if-word-lt0.false
