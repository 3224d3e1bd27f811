-- The walk over the fields of a line and over the lines of a text: where a piece ends, which are passed, which numbers they gave.
use Rattle.std.specs.Prelude.{None, Option, Some, cond}
use Rattle.std.specs.Option.{unwrap_or}
use Rattle.std.specs.List.{position_or_len, slice_split, onto_first, enumerate_from}
use mathlib.Core.Path.{◌≡◌, refl, sym, ap, ◌∙◌}
use mathlib.Core.Bool.{false}
use mathlib.Core.List.{List, [], ◌∷◌, ◌++◌, append_assoc, append-nil}
use Prim.Native.Nat.{ℕ, suc, ◌+◌, ◌-◌, ◌≤◌, ◌<◌}
use native.Mathlib.Omega.{arith}
use native.Mathlib.Numerals.{add-one}
use lib.Dec.{eqb, ltb}
use lib.IntN.{ℤ}
use lib.ListN.{length, take, drop, get_or, length-drop, length-append, drop_of_length-le}
use lib.Seq.{drop-cons, drop-drop, take_all}
use borrow.Author.Tests.{eqb-true, eqb-false, ltb-false}
use Rattle.std.proofs.lemmas.List.FromFn.{length-enumerate_from, get_or-enumerate_from}
use Rattle.words.specs.Laws.{by_cases}
use Rattle.text_numbers.specs.Number.{number_of}
use Rattle.text_lines.specs.Line.{longer_field, fields_of, together, numbers_of, ended, unended, lines_of}
use Rattle.text_numbers.specs.NumberLaws.{Free}
use Rattle.text_lines.specs.LineLaws.{lines-ended, lines-unended}
use Rattle.text_lines.specs.Reader.{piece_end, number_count}

-- ---- where a piece ends

piece_inside : (separator : ℕ) (bytes : List ℕ) → piece_end separator bytes ≤ length bytes
unfolding piece_end
piece_inside separator [] = omega arith
piece_inside separator (byte ∷ bytes) =
    by_cases (eqb byte separator) (λ t. rw t (omega arith)) (λ t. rw t (omega (arith, piece_inside separator bytes)))

pub piece_position : (separator : ℕ) (bytes : List ℕ) → piece_end separator bytes ≡ position_or_len (λ byte. eqb byte separator) bytes
unfolding piece_end
piece_position separator [] = refl
piece_position separator (byte ∷ bytes) =
    by_cases (eqb byte separator) (λ t. rw t) (λ t. rw (t, piece_position separator bytes) (omega arith))

-- what `position` and `unwrap_or` give
pub piece-found : (separator : ℕ) (bytes : List ℕ) (r : Option ℕ)
    → r ≡ cond (ltb (position_or_len (λ byte. eqb byte separator) bytes) (length bytes)) (Some (position_or_len (λ byte. eqb byte separator) bytes)) None
    → unwrap_or r (length bytes) ≡ piece_end separator bytes
piece-found separator bytes r e =
    by_cases (ltb (position_or_len (λ byte. eqb byte separator) bytes) (length bytes))
    (λ t. let f : r ≡ Some (position_or_len (λ byte. eqb byte separator) bytes) = rw t at e in rw f (sym (piece_position separator bytes)))
    (λ t. let f : r ≡ None = rw t at e in
    let l : length bytes ≤ position_or_len (λ byte. eqb byte separator) bytes = ltb-false _ _ t in
    rw f (omega (arith, piece_position separator bytes, piece_inside separator bytes)))

piece-free : (separator : ℕ) (bytes : List ℕ) → Free separator (take (piece_end separator bytes) bytes)
unfolding piece_end Free
piece-free separator [] = tt
piece-free separator (byte ∷ bytes) =
    by_cases (eqb byte separator) (λ t. rw t tt) (λ t. rw t (eqb-false byte separator t, piece-free separator bytes))

piece-splits : (separator : ℕ) (bytes : List ℕ) → piece_end separator bytes < length bytes
    → bytes ≡ take (piece_end separator bytes) bytes ++ (separator ∷ drop (suc (piece_end separator bytes)) bytes)
unfolding piece_end
piece-splits separator [] h = absurd (omega arith)
piece-splits separator (byte ∷ bytes) h =
    by_cases (eqb byte separator)
    (λ t. rw (t, eqb-true byte separator t))
    (λ t. rw t (ap (λ (l : List ℕ). byte ∷ l) (piece-splits separator bytes (less t))))
  where
    less : eqb byte separator ≡ false → piece_end separator bytes < length bytes
    less t = let l : suc (piece_end separator bytes) < suc (length bytes) = rw t at h in omega arith

-- the piece from byte `at` on ends at byte `end`
pub record Piece (separator : ℕ) (bytes : List ℕ) (at end : ℕ) : Type 0 where
  pub from : at ≤ end
  pub inside : end ≤ length bytes
  pub free : Free separator (take (end - at) (drop at bytes))
  pub splits : end < length bytes → drop at bytes ≡ take (end - at) (drop at bytes) ++ (separator ∷ drop (end + 1) bytes)
  pub last : length bytes ≤ end → drop at bytes ≡ take (end - at) (drop at bytes)

pub piece_of : (separator : ℕ) (bytes : List ℕ) (at end : ℕ) → at ≤ length bytes → end ≡ at + piece_end separator (drop at bytes) → Piece separator bytes at end
piece_of separator bytes at end h e =
    let inside : piece_end separator (drop at bytes) ≤ length bytes - at = rw length-drop at (piece_inside separator (drop at bytes)) in
    let k : end - at ≡ piece_end separator (drop at bytes) = omega arith in
    let next : at + suc (piece_end separator (drop at bytes)) ≡ end + 1 = omega arith in
    record {
      from = omega arith;
      inside = omega arith;
      free = rw k (piece-free separator (drop at bytes));
      splits = λ l. rw k (piece-splits separator (drop at bytes) (rw length-drop (omega arith))
          ∙ ap (λ (rest : List ℕ). take (piece_end separator (drop at bytes)) (drop at bytes) ++ (separator ∷ rest)) (drop-drop _ at bytes ∙ ap (λ (n : ℕ). drop n bytes) next));
      last = λ l. sym (take_all (end - at) (drop at bytes) (rw length-drop (omega arith)));
    }

-- ---- the fields of a line

-- the fields are what `split` gives
pub fields_split : (bytes : List ℕ) → slice_split (λ byte. eqb byte 9) bytes ≡ fields_of bytes
unfolding fields_of
fields_split [] = refl
fields_split (byte ∷ bytes) =
    by_cases (eqb byte 9)
    (λ t. rw (t, fields_split bytes))
    (λ t. rw (t, fields_split bytes) (onto-longer (fields_of bytes)))
  where
    onto-longer : (fields : List (List ℕ)) → onto_first byte fields ≡ longer_field byte fields
    onto-longer [] = refl
    onto-longer (field ∷ fields) = refl

-- a part that `split` gave is the next field
pub next-field : (line : List ℕ) (count n : ℕ) (field : List ℕ) → count ≡ n
    → (n < length (slice_split (λ byte. eqb byte 9) line)) × (field ≡ get_or (slice_split (λ byte. eqb byte 9) line) n field)
    → (count < length (fields_of line)) × (field ≡ get_or (fields_of line) count field)
next-field line count n field e t = rw (e, ← fields_split line) t

-- a part that `split` and `enumerate` gave is the next field, with its number
pub numbered-field : (line : List ℕ) (n count : ℕ) (field : List ℕ)
    → (n < length (enumerate_from 0 (slice_split (λ byte. eqb byte 9) line))) × ((count, field) ≡ get_or (enumerate_from 0 (slice_split (λ byte. eqb byte 9) line)) n (count, field))
    → (count ≡ n) × ((count < length (fields_of line)) × (field ≡ get_or (fields_of line) count field))
numbered-field line n count field t =
    let parts : List (List ℕ) = slice_split (λ byte. eqb byte 9) line in
    let l : n < length parts = omega (arith, t.0, length-enumerate_from 0 parts) in
    let e : ◌≡◌ {A = ℕ × List ℕ} (count, field) (0 + n, get_or parts n field) = t.1 ∙ get_or-enumerate_from 0 parts n (count, field) l in
    let same : count ≡ n = omega (arith, ap (λ (p : ℕ × List ℕ). p.0) e) in
    (same, next-field line count n field same (l, ap (λ (p : ℕ × List ℕ). p.1) e))

-- ---- the numbers that were read

-- numbers, and then those that are left
unfoldable pub behind : List ℤ → Option (List ℤ) → Option (List ℤ)
behind before None = None
behind before (Some others) = Some (before ++ others)

behind-nil : (read : Option (List ℤ)) → read ≡ behind [] read
unfolding behind
behind-nil None = refl
behind-nil (Some numbers) = refl

behind_more : (before : List ℤ) (z : ℤ) (read : Option (List ℤ)) → behind before (together (Some z) read) ≡ behind (before ++ (z ∷ [])) read
unfolding behind together
behind_more before z None = refl
behind_more before z (Some numbers) = ap Some (sym (append_assoc before (z ∷ []) numbers))

-- the first fields gave `count` numbers
pub record Counted (fields : List (List ℕ)) (count : ℕ) : Type 0 where
  pub before : List ℤ
  pub size : length before ≡ count
  pub same : numbers_of fields ≡ behind before (numbers_of (drop count fields))

pub counted_start : (fields : List (List ℕ)) → Counted fields 0
counted_start fields = record { before = []; size = refl; same = behind-nil (numbers_of fields) }

pub start-before : (fields : List (List ℕ)) → (counted_start fields).before ≡ []
unfolding counted_start
start-before fields = refl

numbers-cons : (field : List ℕ) (fields : List (List ℕ)) → numbers_of (field ∷ fields) ≡ together (number_of field) (numbers_of fields)
unfolding numbers_of
numbers-cons field fields = refl

module _ {fields : List (List ℕ)} {count : ℕ} (c : Counted fields count) where
  -- all the numbers were read
  pub counted-end : count ≡ length fields → numbers_of fields ≡ Some c.before
  unfolding numbers_of behind
  counted-end h = c.same ∙ rw (drop_of_length-le fields {i = count} (omega arith)) (ap Some (append-nil c.before))

  pub counted-says : count ≡ length fields → Some count ≡ number_count (numbers_of fields)
  counted-says h = rw (counted-end h) (ap Some (sym c.size))

  module _ (field : List ℕ) (next : (count < length fields) × (field ≡ get_or fields count field)) where
    step : numbers_of fields ≡ behind c.before (together (number_of field) (numbers_of (drop (count + 1) fields)))
    step =
        let d : drop count fields ≡ field ∷ drop (count + 1) fields = rw add-one (drop-cons fields count field next.0 ∙ ap (λ (l : List ℕ). l ∷ drop (suc count) fields) (sym next.1)) in
        c.same ∙ ap (λ (l : List (List ℕ)). behind c.before (numbers_of l)) d ∙ ap (behind c.before) (numbers-cons _ _)

    pub counted-bad : number_of field ≡ None → numbers_of fields ≡ None
    unfolding behind together
    counted-bad e = step ∙ rw e

    pub counted_next : (z : ℤ) → number_of field ≡ Some z → Counted fields (count + 1)
    counted_next z e = record {
      before = c.before ++ (z ∷ []);
      size = length-append c.before (z ∷ []) ∙ omega (arith, c.size);
      same = step ∙ rw e (behind_more c.before z (numbers_of (drop (count + 1) fields)));
    }

    pub next-before : (z : ℤ) (e : number_of field ≡ Some z) → (counted_next z e).before ≡ c.before ++ (z ∷ [])
    unfolding counted_next
    next-before z e = refl

-- ---- the lines that are left

pub lines_step : {text : List ℕ} {at end : ℕ} → Piece 10 text at end → end < length text → lines_of (drop at text) ≡ ended (take (end - at) (drop at text)) ∷ lines_of (drop (end + 1) text)
lines_step {text = text} {at = at} {end = end} p h =
    ap lines_of (p.splits h) ∙ lines-ended (take (end - at) (drop at text)) (drop (end + 1) text) p.free

pub lines-last : {text : List ℕ} {at end : ℕ} → Piece 10 text at end → at < length text → length text ≤ end → lines_of (drop at text) ≡ unended (take (end - at) (drop at text)) ∷ []
lines-last {text = text} {at = at} {end = end} p l h =
    ap lines_of (p.last h) ∙ lines-unended (take (end - at) (drop at text)) (rw (← p.last h) (rw length-drop (omega arith))) p.free
