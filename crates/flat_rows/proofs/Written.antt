-- Written: a list of words in which every line is written is the flat list; and what is written where a line is put.
use Rattle.std.specs.Prelude.{◌≡◌, refl, Bool, true, false, ◌⊎◌, ℕ, zero, suc, ◌+◌, ◌*◌, ◌/◌, ◌%◌, ◌≤◌, ◌<◌, ltb, ℤ, pos, get_or, set}
use Rattle.std.proofs.Common.{sym, ap, subst, ◌∙◌, inl, inr, ⊎_elim, arith, length-set, length-append, get_or-set_same, get_or-set_other, ext_get_or, ltb-true, ltb-false}
use mathlib.Core.List.{List, [], ◌∷◌, ◌++◌, append_assoc}
use Rattle.std.proofs.Math.Decide.{ℕ_discrete}
use Rattle.std.proofs.Math.Arith.{lt_of_le-ne}
use Rattle.std.proofs.Math.ListN.{length}
use Rattle.std.proofs.lemmas.List.Edits.{sets}
use Rattle.std.proofs.Math.Seq.{length-sets}
use Rattle.words.specs.SearchLaws.{from_on}
use Rattle.flat.specs.Lines.{FlatLine}
use Rattle.flat.specs.Words.{Parts, line_parts, five_words, field_at, Written}
use Rattle.flat_fate.specs.FlatWords.{words_from}
use Rattle.flat_fate.proofs.FlatWordsLaws.{words-length, five-written}
use Rattle.flat_rows.specs.Places.{Each}
use Rattle.flat_rows.specs.LinesPut.{nothing, There, Holds, put_all, put_line}

-- ---- the words of lines, line by line

pub words-written : (before : List ℤ) (i : ℕ) (xs : List FlatLine) → length before ≡ 5 * i → (k : ℕ) → k < length xs
    → Written (before ++ words_from i xs) (i + k) (line_parts (i + k) (get_or xs k nothing))
unfolding words_from
words-written before i [] e k h = absurd (omega arith)
words-written before i (x ∷ xs) e zero h =
    let stays : i ≡ i + zero = omega arith in
    subst (λ (n : ℕ). Written (before ++ (five_words (line_parts i x) ++ words_from (suc i) xs)) n (line_parts n x)) stays (five-written before (words_from (suc i) xs) i e (line_parts i x))
words-written before i (x ∷ xs) e (suc k) h =
    let five = five_words (line_parts i x) in
    let rest = words_from (suc i) xs in
    let longer : length (before ++ five) ≡ 5 * suc i = omega (arith, length-append before five) in
    let there : suc i + k ≡ i + suc k = omega arith in
    subst (λ (n : ℕ). Written (before ++ (five ++ rest)) n (line_parts n (get_or xs k nothing))) there
    (subst (λ l. Written l (suc i + k) (line_parts (suc i + k) (get_or xs k nothing))) (append_assoc before five rest) (words-written (before ++ five) (suc i) xs longer k (omega arith)))

-- two lists in which the same line is written
same-field : {a b : List ℤ} {i : ℕ} {p : Parts} → Written a i p → Written b i p → (field : ℕ) → field < 5 → field_at a i field ≡ field_at b i field
same-field {a} {b} {i} v w field h =
    from_on (λ (f : ℕ). field_at a i f ≡ field_at b i f) field 0 (omega arith) (v.operation_word ∙ sym w.operation_word)
    (λ l. from_on (λ (f : ℕ). field_at a i f ≡ field_at b i f) field 1 l (v.target-word ∙ sym w.target-word)
    (λ l. from_on (λ (f : ℕ). field_at a i f ≡ field_at b i f) field 2 l (v.left_word ∙ sym w.left_word)
    (λ l. from_on (λ (f : ℕ). field_at a i f ≡ field_at b i f) field 3 l (v.right_word ∙ sym w.right_word)
    (λ l. from_on (λ (f : ℕ). field_at a i f ≡ field_at b i f) field 4 l (v.distance_word ∙ sym w.distance_word) (λ l. absurd (omega arith))))))

-- Where every line is written, the words are the lines'.
pub written-whole : (out : List ℤ) (xs : List FlatLine) → length out ≡ 5 * length xs → ((k : ℕ) → k < length xs → Written out k (line_parts k (get_or xs k nothing))) → out ≡ words_from 0 xs
unfolding field_at
written-whole out xs e w = ext_get_or (pos 0) out (words_from 0 xs) (omega (arith, words-length 0 xs)) same
  where
    same : (i : ℕ) → i < length out → get_or out i (pos 0) ≡ get_or (words_from 0 xs) i (pos 0)
    same i h =
        let line : i / 5 < length xs = omega arith in
        let there : 5 * (i / 5) + i % 5 ≡ i = omega arith in
        let stays : 0 + i / 5 ≡ i / 5 = omega arith in
        let other : Written (words_from 0 xs) (i / 5) (line_parts (i / 5) (get_or xs (i / 5) nothing)) =
        subst (λ (n : ℕ). Written (words_from 0 xs) n (line_parts n (get_or xs (i / 5) nothing))) stays (words-written [] 0 xs refl (i / 5) line) in
        let fields = same-field (w (i / 5) line) other (i % 5) (omega arith) in
        rw there at fields

-- ---- a line put into a list

pub put-length : (line : ℕ) (p : Parts) (out : List ℤ) → length (put_line line p out) ≡ length out
unfolding put_line
put-length line p out = length-sets out (5 * line) (five_words p)

apart : (a b : ℕ) → (a ≡ b → ⊥) → (a < b) ⊎ (b < a)
apart a b d = by (ltb a b) refl
  where
    by : (t : Bool) → ltb a b ≡ t → (a < b) ⊎ (b < a)
    by true e = inl (ltb-true a b e)
    by false e = inr (lt_of_le-ne (ltb-false a b e) (λ (q : b ≡ a). d (sym q)))

-- what is stored elsewhere stays
sets-other : (l : List ℤ) (i : ℕ) (vs : List ℤ) (j : ℕ) → (j < i) → get_or (sets l i vs) j (pos 0) ≡ get_or l j (pos 0)
sets-other l i [] j h = refl
sets-other l i (v ∷ vs) j h = sets-other (set l i v) (suc i) vs j (omega arith) ∙ get_or-set_other l i j v (pos 0) (λ (q : j ≡ i). omega arith)

sets-beyond : (l : List ℤ) (i : ℕ) (vs : List ℤ) (j : ℕ) → i + length vs ≤ j → get_or (sets l i vs) j (pos 0) ≡ get_or l j (pos 0)
sets-beyond l i [] j h = refl
sets-beyond l i (v ∷ vs) j h = sets-beyond (set l i v) (suc i) vs j (omega arith) ∙ get_or-set_other l i j v (pos 0) (λ (q : j ≡ i). omega arith)

sets-there : (l : List ℤ) (i : ℕ) (vs : List ℤ) (k : ℕ) → k < length vs → i + length vs ≤ length l → get_or (sets l i vs) (i + k) (pos 0) ≡ get_or vs k (pos 0)
sets-there l i [] k h r = absurd (omega arith)
sets-there l i (v ∷ vs) zero h r =
    let e : i + zero ≡ i = omega arith in
    ap (λ (n : ℕ). get_or (sets (set l i v) (suc i) vs) n (pos 0)) e ∙ sets-other (set l i v) (suc i) vs i (omega arith) ∙ get_or-set_same l i v (pos 0) (omega arith)
sets-there l i (v ∷ vs) (suc k) h r =
    let e : i + suc k ≡ suc i + k = omega arith in
    ap (λ (n : ℕ). get_or (sets (set l i v) (suc i) vs) n (pos 0)) e ∙ sets-there (set l i v) (suc i) vs k (omega arith) (omega (arith, length-set l i v))

pub put_written : (line : ℕ) (p : Parts) (out : List ℤ) → 5 * line + 5 ≤ length out → Written (put_line line p out) line p
unfolding put_line field_at
put_written line p out h =
    let at = sets-there out (5 * line) (five_words p) in
    record {
      operation_word = at 0 (omega arith) h;
      target-word = at 1 (omega arith) h;
      left_word = at 2 (omega arith) h;
      right_word = at 3 (omega arith) h;
      distance_word = at 4 (omega arith) h;
    }

put-other-field : (line : ℕ) (p : Parts) (out : List ℤ) (other field : ℕ) → (other ≡ line → ⊥) → field < 5 → field_at (put_line line p out) other field ≡ field_at out other field
unfolding put_line field_at
put-other-field line p out other field d h =
    ⊎_elim (λ l. sets-other out (5 * line) (five_words p) (5 * other + field) (omega arith)) (λ l. sets-beyond out (5 * line) (five_words p) (5 * other + field) (omega arith))
    (apart other line d)

-- another line stays
pub put_other : (line : ℕ) (p : Parts) (out : List ℤ) (other : ℕ) (q : Parts) → (other ≡ line → ⊥) → Written out other q → Written (put_line line p out) other q
put_other line p out other q d w =
    let same = put-other-field line p out other in
    record {
      operation_word = same 0 d (omega arith) ∙ w.operation_word;
      target-word = same 1 d (omega arith) ∙ w.target-word;
      left_word = same 2 d (omega arith) ∙ w.left_word;
      right_word = same 3 d (omega arith) ∙ w.right_word;
      distance_word = same 4 d (omega arith) ∙ w.distance_word;
    }

-- ---- lines of a list put into a table of words

pub puts-length : (xs : List (ℕ × FlatLine)) (out : List ℤ) → length (put_all xs out) ≡ length out
unfolding put_all
puts-length [] out = refl
puts-length (x ∷ xs) out = puts-length xs (put_line x.0 (line_parts x.0 x.1) out) ∙ put-length x.0 (line_parts x.0 x.1) out

-- Where every line that is put is the list's, a line of the list that is written stays so.
module _ (lines : List FlatLine) where
  one_kept : (i : ℕ) (x : FlatLine) (out : List ℤ) → length out ≡ 5 * length lines → There lines i x → (j : ℕ) (y : FlatLine) → There lines j y → Holds out j y → Holds (put_line i (line_parts i x) out) j y
  one_kept i x out e there j y other w = go (ℕ_discrete j i)
    where
      go : Dec (j ≡ i) → Holds (put_line i (line_parts i x) out) j y
      go (no d) = put_other i (line_parts i x) out j (line_parts j y) d w
      go (yes q) =
          let same : x ≡ y = sym there.1 ∙ ap (λ (n : ℕ). get_or lines n nothing) (sym q) ∙ other.1 in
          let inside = there.0 in
          subst (λ (n : ℕ). Holds (put_line i (line_parts i x) out) n y) (sym q) (subst (λ z. Holds (put_line i (line_parts i x) out) i z) same (put_written i (line_parts i x) out (omega arith)))

  pub puts-kept : (xs : List (ℕ × FlatLine)) (out : List ℤ) → length out ≡ 5 * length lines → Each (There lines) xs → (j : ℕ) (y : FlatLine) → There lines j y → Holds out j y → Holds (put_all xs out) j y
  unfolding put_all
  puts-kept [] out e there j y other w = w
  puts-kept (x ∷ xs) out e there j y other w =
      puts-kept xs (put_line x.0 (line_parts x.0 x.1) out) (put-length x.0 (line_parts x.0 x.1) out ∙ e) there.1 j y other (one_kept x.0 x.1 out e there.0 j y other w)

  -- And what is put is written.
  pub puts-hold : (xs : List (ℕ × FlatLine)) (out : List ℤ) → length out ≡ 5 * length lines → Each (There lines) xs → Each (Holds (put_all xs out)) xs
  unfolding put_all
  puts-hold [] out e there = tt
  puts-hold (x ∷ xs) out e there =
      let next = put_line x.0 (line_parts x.0 x.1) out in
      let long : length next ≡ 5 * length lines = put-length x.0 (line_parts x.0 x.1) out ∙ e in
      let inside = there.0.0 in
      (puts-kept xs next long there.1 x.0 x.1 there.0 (put_written x.0 (line_parts x.0 x.1) out (omega arith)), puts-hold xs next long there.1)

  pub each-kept : (ys xs : List (ℕ × FlatLine)) (out : List ℤ) → length out ≡ 5 * length lines → Each (There lines) xs → Each (There lines) ys → Each (Holds out) ys → Each (Holds (put_all xs out)) ys
  each-kept [] xs out e there others w = tt
  each-kept (y ∷ ys) xs out e there others w =
      (puts-kept xs out e there y.0 y.1 others.0 w.0, each-kept ys xs out e there others.1 w.1)
