-- Fields with their blanks, one after the other in a buffer: the words so far, and how a line is put together.
use mathlib.Core.Path.{◌≡◌, refl, sym, ap, ◌∙◌}
use mathlib.Core.List.{List, [], ◌∷◌, ◌++◌, map, append_assoc, append-nil}
use Prim.Native.Nat.{ℕ, ◌+◌, ◌*◌, ◌-◌, ◌^◌, ◌≤◌, ◌<◌}
use native.Mathlib.Omega.{arith}
use native.Mathlib.Numerals.{add-one}
use lib.IntN.{ℤ, pos}
use lib.Signed.{mag}
use lib.ListN.{length, take, get_or, length-append, length-drop}
use lib.Seq.{take-suc, take-length}
use mir.Syntax.{w32}
use mir.Val.{to_z, of_z}
use Rattle.words.specs.Laws.{back}
use Rattle.words.specs.Answers.{ending_name}
use Rattle.words.specs.AnswerLaws.{names-short}
use Rattle.words.specs.declared.Ending.{Ending}
use Rattle.text_numbers.specs.Number.{digits, number_bytes}
use Rattle.text_lines.specs.Line.{newline}
use Rattle.text_numbers.specs.Writer.{Put}
use Rattle.words.specs.OverLaws.{part, back_in, part-is}
use Rattle.text_numbers.specs.PutLaws.{put-none, put_as, put-length, put-fits, put_next, put-space, put-inside, digits-within, number-eleven}
use Rattle.text_report.specs.Lines.{blank, spaced, line_of, source_name, kernel_name, refused_name, refused_line, source_line, kernel_line}

pub spaced-append : (xs ys : List (List ℕ)) → spaced (xs ++ ys) ≡ spaced xs ++ spaced ys
unfolding spaced
spaced-append [] ys = refl
spaced-append (x ∷ xs) ys = ap (λ (l : List ℕ). blank ∷ (x ++ l)) (spaced-append xs ys) ∙ sym (append_assoc (blank ∷ x) (spaced xs) (spaced ys))

spaced-one : (field : List ℕ) → spaced (field ∷ []) ≡ blank ∷ field
unfolding spaced
spaced-one field = append-nil (blank ∷ field)

spaced-two : (first second : List ℕ) → spaced (first ∷ second ∷ []) ≡ (blank ∷ first) ++ (blank ∷ second)
unfolding spaced
spaced-two first second = ap (λ (l : List ℕ). (blank ∷ first) ++ l) (append-nil (blank ∷ second))

map-append : (xs ys : List ℤ) → map number_bytes (xs ++ ys) ≡ map number_bytes xs ++ map number_bytes ys
map-append [] ys = refl
map-append (x ∷ xs) ys = ap (λ (l : List (List ℕ)). number_bytes x ∷ l) (map-append xs ys)

-- ---- words

abbrev pub spaced_words : List ℤ → List ℕ
spaced_words words = spaced (map number_bytes words)

abbrev word_of : ℕ → List ℤ → ℤ
word_of i words = get_or words i (pos 0)

words-next : (words : List ℤ) (i : ℕ) → i < length words → spaced_words (take i words) ++ (blank ∷ number_bytes (word_of i words)) ≡ spaced_words (take (i + 1) words)
words-next words i h =
    sym (
    ap (λ (n : ℕ). spaced_words (take n words)) (add-one i)
    ∙ ap spaced_words (take-suc words i (pos 0) h)
    ∙ ap spaced (map-append (take i words) (word_of i words ∷ []))
    ∙ spaced-append (map number_bytes (take i words)) (number_bytes (word_of i words) ∷ [])
    ∙ ap (λ (l : List ℕ). spaced_words (take i words) ++ l) (spaced-one (number_bytes (word_of i words)))
    )

-- so many of the words were put into a buffer
pub record Worded (words : List ℤ) (i at : ℕ) (buffer left : List ℕ) : Type 0 where
  pub inside : i ≤ length words
  pub few : at ≤ 12 * i
  pub room : 12 * length words ≤ length buffer
  pub put : Put (spaced_words (take i words)) buffer at left

pub worded-start : (words : List ℤ) (buffer : List ℕ) → 12 * length words ≤ length buffer → Worded words 0 0 buffer buffer
unfolding spaced
worded-start words buffer h = record { inside = omega arith; few = omega arith; room = h; put = put-none buffer }

module _ {words : List ℤ} {i at : ℕ} {buffer left : List ℕ} (b : Worded words i at buffer left) where
  pub worded-size : length (spaced_words (take i words)) ≤ 12 * i
  worded-size = omega (arith, b.few, b.put.size)

  pub worded-length : length left ≡ length buffer
  worded-length = put-length b.put (omega (arith, worded-size, b.inside, b.room))

  pub worded-inside : at ≤ length left
  worded-inside = put-inside b.put (omega (arith, worded-size, b.inside, b.room))

  pub worded-end : length words ≤ i → Put (spaced_words words) buffer at left
  worded-end h =
      let e : i ≡ length words = omega (arith, b.inside) in
      put_as (ap (λ (n : ℕ). spaced_words (take n words)) e ∙ ap spaced_words (take-length words)) b.put

  module _ (more : i < length words) where
    pub worded-space : 12 ≤ length (part at left)
    worded-space = put-space b.put 12 (omega (arith, worded-size, b.room))

    pub worded-next : mag (word_of i words) < 2 ^ 31 → (size : ℕ) (lent : List ℕ) → Put (blank ∷ number_bytes (to_z w32 (of_z w32 (word_of i words)))) (part at left) size lent
        → Worded words (i + 1) (at + size) buffer (back_in at left lent)
    worded-next f size lent p =
        let q = put_as (ap (λ (z : ℤ). blank ∷ number_bytes z) (back (word_of i words) f)) p in
        record {
          inside = omega arith;
          few = omega (arith, b.few, q.size, number-eleven (word_of i words) f);
          room = b.room;
          put = put_as (words-next words i more) (put_next b.put (blank ∷ number_bytes (word_of i words)) size lent q);
        }

-- ---- a line so far: what was put has at most so many bytes, and they have room

pub record SoFar (most : ℕ) (bytes buffer : List ℕ) (at : ℕ) (left : List ℕ) : Type 0 where
  pub put : Put bytes buffer at left
  pub few : length bytes ≤ most
  pub room : most ≤ length buffer

module _ {most : ℕ} {bytes buffer : List ℕ} {at : ℕ} {left : List ℕ} (b : SoFar most bytes buffer at left) where
  pub far-below : at ≤ most
  far-below = omega (arith, b.put.size, b.few)

  pub far-length : length left ≡ length buffer
  far-length = put-length b.put (omega (arith, b.few, b.room))

  pub far-inside : at ≤ length left
  far-inside = omega (arith, far-below, far-length, b.room)

  pub far-space : (more : ℕ) → most + more ≤ length buffer → more ≤ length (part at left)
  far-space more h = put-space b.put more (omega (arith, b.few))

  pub far-next : (others : List ℕ) (more : ℕ) → length others ≤ more → most + more ≤ length buffer → (size : ℕ) (lent : List ℕ) → Put others (part at left) size lent
      → SoFar (most + more) (bytes ++ others) buffer (at + size) (back_in at left lent)
  far-next others more few h size lent p = record {
    put = put_next b.put others size lent p;
    few = omega (arith, length-append bytes others, b.few);
    room = h;
  }

  -- what is put behind and keeps its part's length fits
  pub far-total : {others : List ℕ} {size : ℕ} {lent : List ℕ} → Put others (part at left) size lent → length lent ≡ length (part at left) → at + size ≤ length buffer
  far-total p e =
      let size-of-part : length (part at left) ≡ length left - at = rw (part-is at left, length-drop) in
      omega (arith, put-fits p e, p.size, far-inside, far-length)

pub ending-few : (ending : Ending) → length (blank ∷ ending_name ending) ≤ 9
ending-few ending = omega (arith, names-short ending)

-- a number of 32 bits has ten digits at most, one of 64 bits twenty
pub count-few : (n : ℕ) → n < 2 ^ 32 → length (blank ∷ digits n) ≤ 11
count-few n h = omega (arith, digits-within 9 n (omega arith))

pub place-few : (n : ℕ) → n < 2 ^ 64 → length (blank ∷ digits n) ≤ 21
place-few n h = omega (arith, digits-within 19 n (omega arith))

-- ---- whole lines

pub refused-is : (number place : ℕ) → ((refused_name ++ (blank ∷ digits number)) ++ (blank ∷ digits place)) ++ (newline ∷ []) ≡ refused_line number place
unfolding refused_line line_of
refused-is number place = rw (spaced-two (digits number) (digits place)) (simp append_assoc)

source-fields : (ending : Ending) (count : ℕ) (fields : List (List ℕ))
    → ((source_name ++ (blank ∷ ending_name ending)) ++ (blank ∷ digits count)) ++ (spaced fields ++ (newline ∷ [])) ≡ line_of source_name (ending_name ending ∷ digits count ∷ fields)
unfolding line_of spaced
source-fields ending count fields = simp append_assoc

pub source_is : (ending : Ending) (count : ℕ) (words : List ℤ) (written : ℕ)
    → ((source_name ++ (blank ∷ ending_name ending)) ++ (blank ∷ digits count)) ++ ((spaced_words words ++ (blank ∷ digits written)) ++ (newline ∷ [])) ≡ source_line ending count words written
unfolding source_line
source_is ending count words written =
    let e : spaced_words words ++ (blank ∷ digits written) ≡ spaced (map number_bytes words ++ (digits written ∷ [])) = sym (spaced-append (map number_bytes words) (digits written ∷ []) ∙ ap (λ (l : List ℕ). spaced_words words ++ l) (spaced-one (digits written))) in
    ap (λ (l : List ℕ). ((source_name ++ (blank ∷ ending_name ending)) ++ (blank ∷ digits count)) ++ (l ++ (newline ∷ []))) e ∙ source-fields ending count (map number_bytes words ++ (digits written ∷ []))

pub kernel-is : (ending : Ending) (words : List ℤ) → (kernel_name ++ (blank ∷ ending_name ending)) ++ (spaced_words words ++ (newline ∷ [])) ≡ kernel_line ending words
unfolding kernel_line line_of spaced
kernel-is ending words = simp append_assoc
