-- Laws of comparing: a text that a frame stands around is that frame with its middle, and the other way round; where a separator parts
-- a text.
use Rattle.std.specs.Prelude.{◌≡◌, refl, Bool, true, ℕ, suc, ◌+◌, ◌-◌, ◌≤◌, ◌<◌, eqb, take}
use Rattle.std.proofs.Common.{sym, ap₂, ◌∙◌, arith, add-one, length-drop, take-append-drop, drop_of_length-le, take_at, drop-drop}
use Rattle.std.proofs.Math.Path.{ap}
use Rattle.std.proofs.Math.Bool.{false}
use mathlib.Core.List.{List, [], ◌∷◌, ◌++◌, append-nil, append_assoc}
use Rattle.std.proofs.Math.Dec.{ltb}
use Rattle.std.proofs.Math.ListN.{length, drop, length-append}
use Rattle.std.proofs.Math.Seq.{drop_at}
use borrow.Author.Tests.{eqb-true, eq-eqb, ne_eqb, ltb-false, le-ltb}
use Rattle.words.specs.Word.{pick}
use Rattle.words.specs.Laws.{by_cases}
use Rattle.text_numbers.specs.NumberLaws.{Free}
use Rattle.text_lines.specs.Reader.{piece_end}
use Rattle.page_words.specs.Compare.{is_prefix, is_word, is_framed, middle}

pub never : {G : Type 0} → false ≡ true → G
never e = absurd (let z : ◌≡◌ {A = ℕ} 0 1 = cc in omega arith)

-- ---- bytes at the start

prefix-sound : (bytes text : List ℕ) → is_prefix bytes text ≡ true → text ≡ bytes ++ drop (length bytes) text
unfolding is_prefix
prefix-sound [] text e = refl
prefix-sound (byte ∷ bytes) [] e = never e
prefix-sound (byte ∷ bytes) (first ∷ text) e =
    by_cases (eqb first byte)
    (λ t. ap₂ (λ (x : ℕ) (xs : List ℕ). x ∷ xs) (eqb-true first byte t) (prefix-sound bytes text (rw t at e)))
    (λ t. never (rw t at e))

prefix-complete : (bytes rest : List ℕ) → is_prefix bytes (bytes ++ rest) ≡ true
unfolding is_prefix
prefix-complete [] rest = refl
prefix-complete (byte ∷ bytes) rest = rw (eq-eqb byte byte refl) (prefix-complete bytes rest)

prefix-self : (bytes : List ℕ) → is_prefix bytes bytes ≡ true
prefix-self bytes = ap (is_prefix bytes) (sym (append-nil bytes)) ∙ prefix-complete bytes []

pub word_sound : (word text : List ℕ) → is_word word text ≡ true → text ≡ word
unfolding is_word
word_sound word text e =
    by_cases (eqb (length text) (length word))
    (λ t.
    let long : length text ≡ length word = eqb-true (length text) (length word) t in
    prefix-sound word text (rw t at e) ∙ ap (λ (l : List ℕ). word ++ l) (drop_of_length-le text {i = length word} (omega arith)) ∙ append-nil word)
    (λ t. never (rw t at e))

-- ---- frames

module _ (before behind text : List ℕ) (e : is_framed before behind text ≡ true) where
  pub framed-long : length before + length behind ≤ length text
  unfolding is_framed
  framed-long = by_cases (ltb (length text) (length before + length behind)) (λ t. never (rw t at e)) (λ t. ltb-false _ _ t)

  short : ltb (length text) (length before + length behind) ≡ false
  short = le-ltb _ _ framed-long

  begins : is_prefix before text ≡ true
  unfolding is_framed
  begins = by_cases (is_prefix before text) (λ t. t) (λ t. never (rw (short, t) at e))

  ends : is_prefix behind (drop (length text - length behind) text) ≡ true
  unfolding is_framed
  ends = rw (short, begins) at e

  last-bytes : drop (length text - length behind) text ≡ behind
  last-bytes =
      let long = framed-long in
      let rest = drop (length text - length behind) text in
      let size : length rest ≤ length behind = rw length-drop (omega arith) in
      prefix-sound behind rest ends ∙ ap (λ (l : List ℕ). behind ++ l) (drop_of_length-le rest {i = length behind} size) ∙ append-nil behind

  pub framed-sound : text ≡ before ++ (middle (length before) (length behind) text ++ behind)
  framed-sound =
      let long = framed-long in
      let k = length text - length behind - length before in
      let at : length before + k ≡ length text - length behind = omega arith in
      prefix-sound before text begins
      ∙ ap (λ (l : List ℕ). before ++ l)
      (sym (take-append-drop k (drop (length before) text))
      ∙ ap (λ (l : List ℕ). take k (drop (length before) text) ++ l)
      (drop-drop k (length before) text ∙ ap (λ (n : ℕ). drop n text) at ∙ last-bytes))

module _ (before inner behind : List ℕ) where
  abbrev text : List ℕ
  text = before ++ (inner ++ behind)

  size : length text ≡ length before + (length inner + length behind)
  size = length-append before (inner ++ behind) ∙ ap (λ (n : ℕ). length before + n) (length-append inner behind)

  pub framed-complete : is_framed before behind text ≡ true
  unfolding is_framed
  framed-complete =
      let short : ltb (length text) (length before + length behind) ≡ false = le-ltb (length text) (length before + length behind) (omega (arith, size)) in
      let long : length (before ++ inner) ≡ length text - length behind = omega (arith, length-append before inner, size) in
      let at : drop (length text - length behind) text ≡ behind =
      ap (λ (l : List ℕ). drop (length text - length behind) l) (sym (append_assoc before inner behind)) ∙ drop_at (before ++ inner) behind (length text - length behind) long in
      rw (short, prefix-complete before (inner ++ behind)) (ap (is_prefix behind) at ∙ prefix-self behind)

  pub middle-complete : middle (length before) (length behind) text ≡ inner
  middle-complete =
      let k = length text - length behind - length before in
      let long : length inner ≡ k = omega (arith, size) in
      ap (take k) (drop_at before (inner ++ behind) (length before) refl) ∙ take_at inner behind k long

-- ---- separators

splits : (separator : ℕ) (bytes : List ℕ) → (piece_end separator bytes ≡ length bytes → ⊥)
    → bytes ≡ take (piece_end separator bytes) bytes ++ (separator ∷ drop (suc (piece_end separator bytes)) bytes)
unfolding piece_end
splits separator [] f = absurd (f refl)
splits separator (byte ∷ bytes) f =
    by_cases (eqb byte separator)
    (λ t. rw (t, eqb-true byte separator t))
    (λ t. rw t (ap (λ (l : List ℕ). byte ∷ l) (splits separator bytes (λ e. f (rw t (ap suc e))))))

pub piece-splits : (separator : ℕ) (bytes : List ℕ) → (piece_end separator bytes ≡ length bytes → ⊥)
    → bytes ≡ take (piece_end separator bytes) bytes ++ (separator ∷ drop (piece_end separator bytes + 1) bytes)
piece-splits separator bytes f = rw (add-one (piece_end separator bytes)) (splits separator bytes f)

pub piece-halves : (separator : ℕ) (bytes : List ℕ) → bytes ≡ take (piece_end separator bytes) bytes ++ drop (piece_end separator bytes) bytes
piece-halves separator bytes = sym (take-append-drop (piece_end separator bytes) bytes)

pub piece-at : (separator : ℕ) (xs ys : List ℕ) → Free separator xs → piece_end separator (xs ++ (separator ∷ ys)) ≡ length xs
unfolding piece_end Free
piece-at separator [] ys f = rw (eq-eqb separator separator refl)
piece-at separator (x ∷ xs) ys f = rw (ne_eqb x separator f.0) (ap suc (piece-at separator xs ys f.1))

pub piece-all : (separator : ℕ) (xs : List ℕ) → Free separator xs → piece_end separator xs ≡ length xs
unfolding piece_end Free
piece-all separator [] f = refl
piece-all separator (x ∷ xs) f = rw (ne_eqb x separator f.0) (ap suc (piece-all separator xs f.1))

-- The two parts around a separator.
module _ (separator : ℕ) (xs ys : List ℕ) (f : Free separator xs) where
  pub piece-first : take (piece_end separator (xs ++ (separator ∷ ys))) (xs ++ (separator ∷ ys)) ≡ xs
  piece-first = take_at xs (separator ∷ ys) _ (sym (piece-at separator xs ys f))

  pub piece-rest : drop (piece_end separator (xs ++ (separator ∷ ys))) (xs ++ (separator ∷ ys)) ≡ separator ∷ ys
  piece-rest = drop_at xs (separator ∷ ys) _ (sym (piece-at separator xs ys f))

  pub piece-behind : drop (piece_end separator (xs ++ (separator ∷ ys)) + 1) (xs ++ (separator ∷ ys)) ≡ ys
  piece-behind = sym (drop-drop 1 (piece_end separator (xs ++ (separator ∷ ys))) (xs ++ (separator ∷ ys))) ∙ ap (drop 1) piece-rest

  pub piece_inside : eqb (piece_end separator (xs ++ (separator ∷ ys))) (length (xs ++ (separator ∷ ys))) ≡ false
  piece_inside =
      let whole = xs ++ (separator ∷ ys) in
      ne_eqb (piece_end separator whole) (length whole) (λ e. let q : piece_end separator whole ≡ length whole = e in omega (arith, piece-at separator xs ys f, length-append xs (separator ∷ ys)))
