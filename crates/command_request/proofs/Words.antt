-- Words: the words of a store file, read one after the other; those before a piece stand at the start of the table.
use Rattle.std.specs.Prelude.{◌≡◌, refl, List, [], ◌∷◌, ◌++◌, ℕ, suc, ◌+◌, ◌*◌, ◌≤◌, ◌<◌, ℤ, length, drop, get_or, None, Some}
use Rattle.std.specs.Int.{w32}
use Rattle.std.specs.List.{slice_split, onto_first}
use Rattle.std.proofs.Common.{sym, ap, ◌∙◌, arith}
use mathlib.Core.List.{append_assoc, append-nil}
use native.Mathlib.Numerals.{add-one}
use lib.ListN.{set, length-append, drop_of_length-le}
use lib.Seq.{drop-cons}
use mir.Facts.{to_z-of_z}
use Rattle.words.specs.Over.{over}
use Rattle.words.specs.Laws.{by_cases}
use Rattle.words.specs.OverLaws.{length_over, over-set, over_none}
use Rattle.text_numbers.specs.Number.{number_of}
use Rattle.text_numbers.specs.NumberLaws.{number-reads}
use Rattle.text_numbers.proofs.Signs.{again}
use Rattle.text_form.specs.Text.{Parsed, parsed, malformed}
use Rattle.text_form.proofs.Rows.{behind, behind-nil}
use Rattle.command_request.specs.StoreFile.{is_parting, filled, with_word, words_from, store_in, Stored}

-- ---- how many bytes pieces take

-- each piece with the byte behind it
unfoldable pub bytes_in : List (List ℕ) → ℕ
bytes_in [] = 0
bytes_in (piece ∷ pieces) = length piece + 1 + bytes_in pieces

longer-bytes : (byte most : ℕ) (pieces : List (List ℕ)) → bytes_in pieces ≤ most + 1 → bytes_in (onto_first byte pieces) ≤ most + 1 + 1
unfolding bytes_in
longer-bytes byte most [] h = omega arith
longer-bytes byte most (piece ∷ pieces) h = omega arith

split-bytes : (text : List ℕ) → bytes_in (slice_split is_parting text) ≤ length text + 1
unfolding bytes_in
split-bytes [] = omega arith
split-bytes (byte ∷ bytes) =
    by_cases (is_parting byte)
    (λ t. rw t (omega (arith, split-bytes bytes)))
    (λ t. rw t (omega (arith, longer-bytes byte (length bytes) (slice_split is_parting bytes) (split-bytes bytes))))

-- ---- words, and then those that are left

behind-bad : (before : List ℤ) (number : ℕ) (read : Parsed (List ℤ)) → behind before (with_word number None read) ≡ malformed number
unfolding behind with_word
behind-bad before number read = refl

behind-word : (before : List ℤ) (word : ℤ) (number : ℕ) (read : Parsed (List ℤ)) → behind before (with_word number (Some word) read) ≡ behind (before ++ (word ∷ [])) read
unfolding behind with_word
behind-word before word number (parsed words) = ap parsed (sym (append_assoc before (word ∷ []) words))
behind-word before word number (malformed later) = refl

words-empty : (number : ℕ) (piece : List ℕ) (pieces : List (List ℕ)) → length piece ≡ 0 → words_from number (filled (piece ∷ pieces)) ≡ words_from number (filled pieces)
unfolding filled
words-empty number [] pieces h = refl
words-empty number (byte ∷ bytes) pieces h = absurd (omega arith)

words-next : (number : ℕ) (piece : List ℕ) (pieces : List (List ℕ)) → 0 < length piece
    → words_from number (filled (piece ∷ pieces)) ≡ with_word number (number_of piece) (words_from (number + 1) (filled pieces))
unfolding filled words_from
words-next number [] pieces h = absurd (omega arith)
words-next number (byte ∷ bytes) pieces h = refl

-- ---- the walk: `at` pieces were passed, and `count` words stored

pub record Walked (text : List ℕ) (table : List ℤ) (at count : ℕ) (left : List ℤ) : Type 0 where
  pub room : length text ≤ 2 * length table
  pub few : 2 * count + bytes_in (drop at (slice_split is_parting text)) ≤ length text + 1
  pub before : List ℤ
  pub size : length before ≡ count
  pub same : store_in text ≡ behind before (words_from (count + 1) (filled (drop at (slice_split is_parting text))))
  pub written : left ≡ over before table

pub walked_start : (text : List ℕ) (table : List ℤ) → length text ≤ 2 * length table → Walked text table 0 0 table
unfolding store_in
walked_start text table h = record {
  room = h;
  few = omega (arith, split-bytes text);
  before = [];
  size = refl;
  same = behind-nil (words_from 1 (filled (slice_split is_parting text)));
  written = over_none table;
}

module _ {text : List ℕ} {table left : List ℤ} {at count : ℕ} (w : Walked text table at count left) where
  pub walked-length : length left ≡ length table
  walked-length = length_over w.before table left w.written (omega (arith, w.size, w.few, w.room))

  pub walked_end : at ≡ length (slice_split is_parting text) → Stored (store_in text) count table left
  unfolding behind filled words_from
  walked_end h = record {
    words = w.before;
    is = w.same ∙ rw (drop_of_length-le (slice_split is_parting text) {i = at} (omega arith)) (ap parsed (append-nil w.before));
    size = sym w.size;
    written = w.written;
  }

  module _ (piece : List ℕ) (next : (at < length (slice_split is_parting text)) × (piece ≡ get_or (slice_split is_parting text) at piece)) where
    here : drop at (slice_split is_parting text) ≡ piece ∷ drop (at + 1) (slice_split is_parting text)
    here = rw add-one (drop-cons (slice_split is_parting text) at piece next.0 ∙ ap (λ (l : List ℕ). l ∷ drop (suc at) (slice_split is_parting text)) (sym next.1))

    less : 2 * count + (length piece + 1 + bytes_in (drop (at + 1) (slice_split is_parting text))) ≤ length text + 1
    unfolding bytes_in
    less = rw here at w.few

    pub walked-empty : length piece ≡ 0 → Walked text table (at + 1) count left
    walked-empty e = record {
      room = w.room;
      few = omega (arith, less);
      before = w.before;
      size = w.size;
      same = w.same ∙ ap (λ (l : List (List ℕ)). behind w.before (words_from (count + 1) (filled l))) here ∙ ap (behind w.before) (words-empty (count + 1) piece _ e);
      written = w.written;
    }

    module _ (filled_piece : 0 < length piece) where
      pub count-below : count < length table
      count-below = omega (arith, less, w.room)

      pub count-inside : count < length left
      count-inside = omega (arith, count-below, walked-length)

      step : store_in text ≡ behind w.before (with_word (count + 1) (number_of piece) (words_from (count + 1 + 1) (filled (drop (at + 1) (slice_split is_parting text)))))
      step =
          w.same ∙ ap (λ (l : List (List ℕ)). behind w.before (words_from (count + 1) (filled l))) here
          ∙ ap (behind w.before) (words-next (count + 1) piece _ filled_piece)

      pub walked-bad : number_of piece ≡ None → store_in text ≡ malformed (count + 1)
      walked-bad n = step ∙ rw n (behind-bad w.before (count + 1) _)

      pub walked_next : (word : ℤ) → number_of piece ≡ Some word → Walked text table (at + 1) (count + 1) (set left count (again word))
      walked_next word n =
          let kept : again word ≡ word = to_z-of_z {w = w32} (record { sfits = (number-reads _ word n).fits }) in
          record {
            room = w.room;
            few = omega (arith, less);
            before = w.before ++ (word ∷ []);
            size = length-append w.before (word ∷ []) ∙ omega (arith, w.size);
            same = step ∙ rw n (behind-word w.before word (count + 1) _);
            written = rw kept (over-set w.before table left count word w.written (sym w.size) (omega (arith, count-below, w.size)));
          }
