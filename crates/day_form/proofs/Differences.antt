-- Highest less lowest: a word, or too large for one; the second is that of no setting.
use Rattle.std.specs.Prelude.{None, Some, Err, Ok}
use mathlib.Core.Path.{◌≡◌, refl, sym, ap, ◌∙◌}
use mathlib.Core.Bool.{true, false}
use mathlib.Core.List.{List}
use Prim.Native.Nat.{ℕ, ◌+◌, ◌^◌, ◌≤◌, ◌<◌}
use native.Mathlib.Omega.{arith}
use lib.Dec.{ltb}
use lib.IntN.{ℤ, pos, negsuc, ◌-ℤ◌}
use lib.ListN.{length, get_or}
use lib.Signed.{mag}
use borrow.Author.Tests.{ltb-true, ltb-false, lt-ltb, le-ltb}
use Rattle.words.specs.Word.{is_word, natural, pick}
use Rattle.words.specs.Laws.{by_cases}
use Rattle.arithmetic.specs.Arithmetic.{in_word, apply}
use Rattle.words.specs.declared.FaultSort.{FaultSort}
use Rattle.words.specs.declared.FaultSort.TheVariants.{Overflow}
use Rattle.words.specs.declared.Operator.TheVariants.{Subtract}
use Rattle.day_form.specs.Settings.{setting_by, setting_of}

not-value : {G : Type 0} {sort : FaultSort} {z : ℤ} → Err sort ≡ Ok z → G
not-value e = absurd (let w : ◌≡◌ {A = ℕ} 0 1 = cc in omega arith)

-- a difference that is no word is above every number of values, or below 0
large : (z : ℤ) → 2 ^ 31 ≤ mag z → 100 ≤ natural z
unfolding natural
large (pos n) h = omega arith
large (negsuc n) h = omega arith

module _ (variable lowest highest : ℤ) where
  no-setting : 100 ≤ natural (highest -ℤ lowest) → None ≡ setting_by variable lowest highest
  unfolding setting_by
  no-setting h = rw (le-ltb _ _ h)

  pub overflows : (sort : FaultSort) → Err sort ≡ apply Subtract highest lowest → None ≡ setting_by variable lowest highest
  unfolding apply in_word is_word
  overflows sort e =
      by_cases (ltb (mag (highest -ℤ lowest)) (2 ^ 31))
      (λ t. let word : Err sort ≡ Ok (highest -ℤ lowest) = e ∙ rw t in not-value word)
      (λ t. no-setting (large (highest -ℤ lowest) (ltb-false _ _ t)))

  pub record Gap (gap : ℤ) : Type 0 where
    pub is : gap ≡ highest -ℤ lowest
    pub word : mag gap < 2 ^ 31

  pub gap_of : (gap : ℤ) → Ok gap ≡ apply Subtract highest lowest → Gap gap
  unfolding apply in_word is_word
  gap_of gap e =
      by_cases (ltb (mag (highest -ℤ lowest)) (2 ^ 31))
      (λ t. let s : Ok gap ≡ Ok (highest -ℤ lowest) = e ∙ rw t in let same : gap ≡ highest -ℤ lowest = cc in record { is = same; word = rw same (ltb-true _ _ t) })
      (λ t. let word : Ok gap ≡ Err Overflow = e ∙ rw t in not-value (sym word))

  pub too-many : {gap : ℤ} → Gap gap → 100 ≤ natural gap → None ≡ setting_by variable lowest highest
  too-many g h = no-setting (rw g.is at h)

  pub is-setting : {gap : ℤ} → Gap gap → (more : ℕ) → more ≡ natural gap → more < 100 → (number : ℕ) → number ≡ natural variable
      → Some (record { variable = number; lowest = lowest; values = more + 1 }) ≡ setting_by variable lowest highest
  unfolding setting_by
  is-setting g more m h number n =
      let same : more ≡ natural (highest -ℤ lowest) = m ∙ ap natural g.is in
      rw (← same, lt-ltb _ _ h, n)

-- three numbers, each handed on as a word
pub three-numbers : (numbers : List ℤ) → length numbers ≡ 3
    → setting_by (get_or numbers 0 (pos 0)) (get_or numbers 1 (pos 0)) (get_or numbers 2 (pos 0)) ≡ setting_of numbers
unfolding setting_of
three-numbers numbers e = rw e
