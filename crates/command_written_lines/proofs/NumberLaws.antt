-- Numbers that pass a test, one after the other in a buffer: those below i so far.
use mathlib.Core.Path.{◌≡◌, refl, sym, ap, ap₂, ◌∙◌}
use mathlib.Core.Bool.{Bool, true, false}
use mathlib.Core.List.{List, [], ◌∷◌, ◌++◌}
use Prim.Native.Nat.{ℕ, zero, suc, ◌+◌, ◌*◌, ◌≤◌, ◌<◌}
use native.Mathlib.Omega.{arith}
use native.Mathlib.Numerals.{add-one}
use lib.ListN.{length}
use Rattle.words.specs.Word.{pick}
use Rattle.words.specs.OverLaws.{part, back_in}
use Rattle.text_numbers.specs.Number.{digits}
use Rattle.text_numbers.specs.Writer.{Put}
use Rattle.text_numbers.specs.PutLaws.{put-none, put_as, put-length, put_next, put-space, put-inside}
use Rattle.text_lines.specs.Line.{newline}
use Rattle.text_report.specs.Lines.{blank}
use Rattle.command_written_lines.specs.Lines.{numbers, name_of, bits_of, written_line, written_lines}
use Rattle.command_written_lines.specs.declared.PlaceSort.{PlaceSort}
use Rattle.command_written_lines.specs.declared.PlaceSort.TheVariants.{Variables, Arrays, Declared}

-- the words of the lines are short
pub name-few : (sort : PlaceSort) → length (name_of sort) ≤ 9
name-few Variables = omega arith
name-few Arrays = omega arith
name-few Declared = omega arith

-- a number that is not wanted leaves nothing
pub put-unwanted : {wanted : Bool} (bytes buffer : List ℕ) → wanted ≡ false → Put (pick wanted bytes []) buffer 0 buffer
put-unwanted bytes buffer e = put_as (sym (ap (λ (b : Bool). pick b bytes []) e)) (put-none buffer)

-- those below i, of k
pub record Listed (p : ℕ → Bool) (k i at : ℕ) (buffer left : List ℕ) : Type 0 where
  pub within : i ≤ k
  pub few : at ≤ 21 * i
  pub room : 21 * k ≤ length buffer
  pub put : Put (numbers i p) buffer at left

pub listed_start : (p : ℕ → Bool) (k : ℕ) (buffer : List ℕ) → 21 * k ≤ length buffer → Listed p k 0 0 buffer buffer
unfolding numbers
listed_start p k buffer h = record { within = omega arith; few = omega arith; room = h; put = put-none buffer }

numbers-next : (p : ℕ → Bool) (i : ℕ) {wanted : Bool} → wanted ≡ p i → numbers i p ++ pick wanted (blank ∷ digits i) [] ≡ numbers (i + 1) p
unfolding numbers
numbers-next p i e = ap (λ (b : Bool). numbers i p ++ pick b (blank ∷ digits i) []) e ∙ sym (ap (λ (n : ℕ). numbers n p) (add-one i))

module _ {p : ℕ → Bool} {k i at : ℕ} {buffer left : List ℕ} (b : Listed p k i at buffer left) where
  listed-fits : length (numbers i p) ≤ length buffer
  listed-fits = omega (arith, b.few, b.put.size, b.within, b.room)

  pub listed-length : length left ≡ length buffer
  listed-length = put-length b.put listed-fits

  pub listed-inside : at ≤ length left
  listed-inside = put-inside b.put listed-fits

  module _ (more : i < k) where
    pub listed-space : 21 ≤ length (part at left)
    listed-space = put-space b.put 21 (omega (arith, b.few, b.put.size, b.room))

    pub listed_next : {wanted : Bool} → wanted ≡ p i → (size : ℕ) (lent : List ℕ) → Put (pick wanted (blank ∷ digits i) []) (part at left) size lent → size ≤ 21
        → Listed p k (i + 1) (at + size) buffer (back_in at left lent)
    listed_next e size lent q h = record {
      within = omega arith;
      few = omega (arith, b.few);
      room = b.room;
      put = put_as (numbers-next p i e) (put_next b.put _ size lent q);
    }

  pub listed-end : k ≤ i → Put (numbers k p) buffer at left × (at ≤ 21 * k)
  listed-end h =
      let e : i ≡ k = omega (arith, b.within) in
      (put_as (ap (λ (n : ℕ). numbers n p) e) b.put, omega (arith, b.few))

-- one that is wanted leaves its bytes
pub put_wanted : {wanted : Bool} {buffer left : List ℕ} {size : ℕ} (bytes : List ℕ) → wanted ≡ true → Put bytes buffer size left → Put (pick wanted bytes []) buffer size left
put_wanted bytes e q = put_as (sym (ap (λ (b : Bool). pick b bytes []) e)) q

-- ---- the same numbers give the same lines

numbers-same : (k : ℕ) (p q : ℕ → Bool) → ((i : ℕ) → i < k → p i ≡ q i) → numbers k p ≡ numbers k q
unfolding numbers
numbers-same zero p q h = refl
numbers-same (suc k) p q h = ap₂ ◌++◌ (numbers-same k p q (λ i l. h i (omega arith))) (ap (λ (b : Bool). pick b (blank ∷ digits k) []) (h k (omega arith)))

line_same : (sort : PlaceSort) (p q : ℕ → Bool) → ((i : ℕ) → i < bits_of sort → p i ≡ q i) → written_line sort p ≡ written_line sort q
unfolding written_line
line_same sort p q h = ap (λ (l : List ℕ). (name_of sort ++ l) ++ (newline ∷ [])) (numbers-same (bits_of sort) p q h)

pub lines_same : (p q : PlaceSort → ℕ → Bool) → ((sort : PlaceSort) (i : ℕ) → i < bits_of sort → p sort i ≡ q sort i) → written_lines p ≡ written_lines q
lines_same p q h = ap₂ ◌++◌ (ap₂ ◌++◌ (same Variables) (same Arrays)) (same Declared)
  where
    same : (sort : PlaceSort) → written_line sort (p sort) ≡ written_line sort (q sort)
    same sort = line_same sort (p sort) (q sort) (h sort)
