-- A setting that is read from a line has 1 to 100 values, all of them words: lowest and highest are, and the others lie between.
use Rattle.std.specs.Prelude.{None, Option, Some}
use mathlib.Core.Path.{◌≡◌, refl, sym, ap, ◌∙◌}
use mathlib.Core.List.{List, [], ◌∷◌}
use Prim.Native.Nat.{ℕ, zero, suc, ◌+◌, ◌-◌, ◌^◌, ◌≤◌, ◌<◌}
use native.Mathlib.Omega.{arith}
use lib.Dec.{ltb, eqb}
use lib.IntN.{ℤ, pos, negsuc, ◌+ℤ◌, ◌-ℤ◌, -ℤ-+ℤ_cancel}
use lib.ListN.{length, get_or}
use lib.Signed.{mag}
use borrow.Author.Tests.{ltb-true, ltb-false, eqb-true}
use Rattle.words.specs.Word.{natural}
use Rattle.words.specs.Laws.{by_cases}
use Rattle.text_lines.specs.Line.{TextLine, line_numbers}
use Rattle.text_lines.specs.LineLaws.{Words, line_reads}
use Rattle.text_numbers.specs.NumberLaws.{not_some}
use Rattle.text_lines.specs.Reader.{numbers_in}
use Rattle.text_form.specs.Text.{keep}
use Rattle.text_form.proofs.TextLaws.{keep-reads}
use Rattle.day_form.specs.Lines.{is_few, line_words}
use Rattle.day_form.specs.Settings.{setting_by, setting_of}
use Rattle.day_form.specs.Plans.{InWords, Sets}
use Rattle.day_form.specs.declared.setting.Setting.{Setting}

-- ---- the numbers of a line are words

words-in : (read : Option (List ℤ)) → ((numbers : List ℤ) → read ≡ Some numbers → Words numbers) → Words (numbers_in read)
unfolding Words
words-in None fits = tt
words-in (Some numbers) fits = fits numbers refl

line-words : (line : TextLine) → Words (line_words line)
unfolding line_words
line-words line = words-in (keep is_few (line_numbers line)) (λ numbers e. (line_reads line numbers (keep-reads is_few (line_numbers line) numbers e).same).fits)

word-at : (numbers : List ℤ) → Words numbers → (i : ℕ) → i < length numbers → mag (get_or numbers i (pos 0)) < 2 ^ 31
unfolding Words
word-at [] w i h = absurd (omega arith)
word-at (z ∷ zs) w zero h = w.0
word-at (z ∷ zs) w (suc i) h = word-at zs w.1 i (omega arith)

-- ---- the values between lowest and highest

between : (lowest : ℤ) (more k : ℕ) → mag lowest < 2 ^ 31 → mag (pos more +ℤ lowest) < 2 ^ 31 → more < 100 → k ≤ more → mag (lowest +ℤ pos k) < 2 ^ 31
between (pos l) more k low high few h = omega arith
between (negsuc l) more k low high few h =
    by_cases (ltb k (suc l))
    (λ t. rw t (omega arith))
    (λ t. rw t (omega arith))

-- a difference below 100 is a number from 0 on, and highest is so much above lowest
record Above (lowest highest : ℤ) (more : ℕ) : Type 0 where
  is : highest ≡ pos more +ℤ lowest

above : (lowest highest gap : ℤ) → highest -ℤ lowest ≡ gap → natural gap < 100 → Above lowest highest (natural gap)
unfolding natural
above lowest highest (pos n) e h = record { is = sym (-ℤ-+ℤ_cancel highest lowest) ∙ ap (λ (z : ℤ). z +ℤ lowest) e }
above lowest highest (negsuc n) e h = absurd (omega arith)

module _ (variable lowest highest : ℤ) (low : mag lowest < 2 ^ 31) (high : mag highest < 2 ^ 31) where
  sets-by : (setting : Setting) → Some setting ≡ setting_by variable lowest highest → Sets setting
  unfolding setting_by
  sets-by setting e =
      by_cases (ltb (natural (highest -ℤ lowest)) 100)
      (λ t.
      let few = ltb-true _ _ t in
      let a = above lowest highest (highest -ℤ lowest) refl few in
      let s : Some setting ≡ Some (record { variable = natural variable; lowest = lowest; values = natural (highest -ℤ lowest) + 1 }) = e ∙ rw t in
      let same : setting ≡ record { variable = natural variable; lowest = lowest; values = natural (highest -ℤ lowest) + 1 } = cc in
      rw same (record {
        some_value = omega arith;
        few = omega arith;
        words = record { each = λ k h. between lowest (natural (highest -ℤ lowest)) k low (rw (← a.is) high) few (omega arith) };
      }))
      (λ t. not_some (sym (e ∙ rw t)))

sets_of : (numbers : List ℤ) → Words numbers → (setting : Setting) → Some setting ≡ setting_of numbers → Sets setting
unfolding setting_of
sets_of numbers w setting e =
    by_cases (eqb (length numbers) 3)
    (λ t.
    let three : length numbers ≡ 3 = eqb-true _ _ t in
    sets-by (get_or numbers 0 (pos 0)) (get_or numbers 1 (pos 0)) (get_or numbers 2 (pos 0)) (word-at numbers w 1 (omega arith)) (word-at numbers w 2 (omega arith)) setting (e ∙ rw t))
    (λ t. not_some (sym (e ∙ rw t)))

pub setting-sets : (line : TextLine) (setting : Setting) → Some setting ≡ setting_of (line_words line) → Sets setting
setting-sets line setting e = sets_of (line_words line) (line-words line) setting e
