-- The lines of a preview, one place after the other.
use mathlib.Core.Path.{◌≡◌, sym, ap, ap₂}
use mathlib.Core.Bool.{Bool, true, false}
use mathlib.Core.List.{List, [], ◌++◌}
use Prim.Native.Nat.{ℕ, ◌+◌, ◌*◌, ◌^◌, ◌≤◌, ◌<◌}
use native.Mathlib.Omega.{arith}
use native.Mathlib.Numerals.{add-one}
use lib.IntN.{ℤ, pos}
use lib.Signed.{mag}
use lib.ListN.{length, get_or}
use mir.Syntax.{w32}
use mir.Val.{to_z, of_z}
use Rattle.words.specs.Word.{same_word, pick}
use Rattle.words.specs.Laws.{back}
use Rattle.words.specs.OverLaws.{part, back_in}
use Rattle.text_numbers.specs.Writer.{Put}
use Rattle.text_numbers.specs.PutLaws.{put-none, put_as, put-length, put_next, put-space, put-inside}
use Rattle.command_preview_lines.specs.Changes.{change_line, change_at, change_lines}

pub unchanged : (place : ℕ) (v w : ℤ) → same_word v w ≡ true → [] ≡ change_at place v w
unfolding change_at
unchanged place v w e = sym (ap (λ (same : Bool). pick same [] (change_line place v w)) e)

pub changed : (place : ℕ) (v w : ℤ) → same_word v w ≡ false → change_line place v w ≡ change_at place v w
unfolding change_at
changed place v w e = sym (ap (λ (same : Bool). pick same [] (change_line place v w)) e)

abbrev word_of : ℕ → List ℤ → ℤ
word_of i words = get_or words i (pos 0)

lines_next : (n : ℕ) (store left : List ℤ) → change_lines n store left ++ change_at n (word_of n store) (word_of n left) ≡ change_lines (n + 1) store left
unfolding change_lines
lines_next n store left = sym (ap (λ (k : ℕ). change_lines k store left) (add-one n))

-- so many of the first places were passed
pub record Passed (shown : ℕ) (store left : List ℤ) (i at : ℕ) (buffer text : List ℕ) : Type 0 where
  pub inside : i ≤ shown
  pub few : at ≤ 46 * i
  pub room : 46 * shown ≤ length buffer
  pub put : Put (change_lines i store left) buffer at text

pub passed_start : (shown : ℕ) (store left : List ℤ) (buffer : List ℕ) → 46 * shown ≤ length buffer → Passed shown store left 0 0 buffer buffer
unfolding change_lines
passed_start shown store left buffer h = record { inside = omega arith; few = omega arith; room = h; put = put-none buffer }

module _ {shown : ℕ} {store left : List ℤ} {i at : ℕ} {buffer text : List ℕ} (b : Passed shown store left i at buffer text) where
  pub passed-size : length (change_lines i store left) ≤ 46 * i
  passed-size = omega (arith, b.few, b.put.size)

  pub passed_length : length text ≡ length buffer
  passed_length = put-length b.put (omega (arith, passed-size, b.inside, b.room))

  pub passed-inside : at ≤ length text
  passed-inside = put-inside b.put (omega (arith, passed-size, b.inside, b.room))

  pub passed-end : shown ≤ i → Put (change_lines shown store left) buffer at text
  passed-end h =
      let e : i ≡ shown = omega (arith, b.inside) in
      put_as (ap (λ (n : ℕ). change_lines n store left) e) b.put

  module _ (more : i < shown) where
    pub passed-space : 46 ≤ length (part at text)
    passed-space = put-space b.put 46 (omega (arith, passed-size, b.room))

    -- one place more, its words as the code reads them
    pub passed-next : mag (word_of i store) < 2 ^ 31 → mag (word_of i left) < 2 ^ 31 → (size : ℕ) (lent : List ℕ) → Put (change_at i (to_z w32 (of_z w32 (word_of i store))) (to_z w32 (of_z w32 (word_of i left)))) (part at text) size lent → size ≤ 46
        → Passed shown store left (i + 1) (at + size) buffer (back_in at text lent)
    passed-next f g size lent p h = record {
      inside = omega arith;
      few = omega (arith, b.few);
      room = b.room;
      put = put_as (lines_next i store left) (put_next b.put (change_at i (word_of i store) (word_of i left)) size lent (put_as (ap₂ (change_at i) (back (word_of i store) f) (back (word_of i left) g)) p));
    }
