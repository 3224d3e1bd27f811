-- The walk to the end of the rule, byte by byte, and the walk over lines, which counts them.
use mathlib.Core.Path.{◌≡◌, refl, sym, ap, ◌∙◌}
use mathlib.Core.Bool.{Bool, true, false, ◌&&◌}
use mathlib.Core.List.{List, [], ◌∷◌}
use Prim.Native.Nat.{ℕ, suc, ◌+◌, ◌-◌, ◌≤◌, ◌<◌}
use native.Mathlib.Omega.{arith}
use native.Mathlib.Numerals.{add-one}
use lib.Dec.{eqb, ltb}
use lib.ListN.{length, take, drop, get_or, drop_of_length-le}
use lib.Seq.{drop-cons, take_all}
use borrow.Author.Tests.{ltb-true, ltb-false}
use Rattle.words.specs.Laws.{by_cases}
use Rattle.text_lines.specs.Line.{newline, TextLine, ended, unended, longer_line, lines_of}
use Rattle.text_lines.specs.LineLaws.{lines_none}
use Rattle.text_lines.proofs.Pieces.{Piece}
use Rattle.text_lines.proofs.Pieces.{lines_step, lines-last}
use Rattle.day_form.specs.Input.{bytes_before, rule_size, Behind}

-- ---- the rule's bytes

-- none of the bytes before `at` ends the rule
pub record Passed (input : List ℕ) (at : ℕ) (starts : Bool) : Type 0 where
  pub inside : at ≤ length input
  pub same : rule_size input ≡ at + bytes_before starts (drop at input)

pub passed_start : (input : List ℕ) → Passed input 0 true
unfolding rule_size
passed_start input = record { inside = omega arith; same = omega arith }

before-end : (starts : Bool) (input : List ℕ) (at : ℕ) → length input ≤ at → bytes_before starts (drop at input) ≡ 0
unfolding bytes_before
before-end starts input at h = rw (drop_of_length-le input {i = at} h)

module _ {input : List ℕ} {at : ℕ} {starts : Bool} (p : Passed input at starts) where
  pub passed-end : length input ≤ at → at ≡ rule_size input
  passed-end h = omega (arith, p.same, before-end starts input at h)

  module _ (more : at < length input) where
    here : (starts && eqb (get_or input at 0) newline) ≡ true → bytes_before starts (drop at input) ≡ 0
    unfolding bytes_before
    here e = rw (drop-cons input at 0 more, e)

    further : (starts && eqb (get_or input at 0) newline) ≡ false → bytes_before starts (drop at input) ≡ suc (bytes_before (eqb (get_or input at 0) newline) (drop (at + 1) input))
    unfolding bytes_before
    further e = rw (add-one at, drop-cons input at 0 more, e)

    pub passed_here : (starts && eqb (get_or input at 0) newline) ≡ true → at ≡ rule_size input
    passed_here e = omega (arith, p.same, here e)

    pub passed-next : (starts && eqb (get_or input at 0) newline) ≡ false → Passed input (at + 1) (eqb (get_or input at 0) newline)
    passed-next e = record { inside = omega arith; same = omega (arith, p.same, further e) }

before_inside : (starts : Bool) (bytes : List ℕ) → bytes_before starts bytes ≤ length bytes
unfolding bytes_before
before_inside starts [] = omega arith
before_inside starts (byte ∷ bytes) =
    by_cases (starts && eqb byte newline)
    (λ t. rw t (omega arith))
    (λ t. rw t (omega (arith, before_inside (eqb byte newline) bytes)))

pub rule-inside : (input : List ℕ) → rule_size input ≤ length input
unfolding rule_size
rule-inside input = before_inside true input

pub behind-end : (input : List ℕ) (size : ℕ) → size ≡ length input → Behind input size size
behind-end input size e = record {
  inside = omega arith;
  before = take_all size input (omega arith) ∙ sym (take_all (size + 1) input (omega arith));
  behind = drop_of_length-le input {i = size} (omega arith) ∙ sym (drop_of_length-le input {i = size + 1} (omega arith));
}

pub behind-next : (input : List ℕ) (size : ℕ) → size < length input → Behind input size (size + 1)
behind-next input size h = record { inside = omega arith; before = refl; behind = refl }

-- ---- lines

-- the first line from byte `at` on, and where the next begins
pub record First (text : List ℕ) (at next : ℕ) : Type 0 where
  pub line : TextLine
  pub is : lines_of (drop at text) ≡ line ∷ lines_of (drop next text)

lines-behind : (text : List ℕ) (at : ℕ) → length text ≤ at → lines_of (drop at text) ≡ []
lines-behind text at h = lines_none (drop at text) (ap length (drop_of_length-le text {i = at} h))

module _ {text : List ℕ} {at end : ℕ} (p : Piece 10 text at end) (more : at < length text) where
  -- a line without its newline is the last: the next would begin anywhere behind the text
  pub line-unended : length text ≤ end → (next : ℕ) → length text ≤ next → lines_of (drop at text) ≡ unended (take (end - at) (drop at text)) ∷ lines_of (drop next text)
  line-unended h next g = lines-last p more h ∙ ap (λ (lines : List TextLine). unended (take (end - at) (drop at text)) ∷ lines) (sym (lines-behind text next g))

  pub line_first : First text at (end + 1)
  line_first =
      by_cases (ltb end (length text))
      (λ t. record { line = ended (take (end - at) (drop at text)); is = lines_step p (ltb-true _ _ t) })
      (λ t. record { line = unended (take (end - at) (drop at text)); is = line-unended (ltb-false _ _ t) (end + 1) (past t) })
    where
      past : ltb end (length text) ≡ false → length text ≤ end + 1
      past t = omega (arith, ltb-false end (length text) t)

-- every line has a byte
longer-few : (byte : ℕ) (lines : List TextLine) → length (longer_line byte lines) ≤ length lines + 1
longer-few byte [] = omega arith
longer-few byte (ended line ∷ lines) = omega arith
longer-few byte (unended line ∷ lines) = omega arith

pub lines-few : (text : List ℕ) → length (lines_of text) ≤ length text
unfolding lines_of
lines-few [] = omega arith
lines-few (byte ∷ bytes) =
    by_cases (eqb byte newline)
    (λ t. rw t (omega (arith, lines-few bytes)))
    (λ t. rw t (omega (arith, longer-few byte (lines_of bytes), lines-few bytes)))

-- the bytes before `at` have `count` lines
pub record Counted (text : List ℕ) (at count : ℕ) : Type 0 where
  pub inside : at ≤ length text + 1
  pub fewer : count ≤ at
  pub same : length (lines_of text) ≡ count + length (lines_of (drop at text))

pub counted_start : (text : List ℕ) → Counted text 0 0
counted_start text = record { inside = omega arith; fewer = omega arith; same = omega arith }

module _ {text : List ℕ} {at count : ℕ} (c : Counted text at count) where
  pub counted-end : length text ≤ at → count ≡ length (lines_of text)
  counted-end h = omega (arith, c.same, ap length (lines-behind text at h))

  pub counted_next : {end : ℕ} → Piece 10 text at end → at < length text → Counted text (end + 1) (count + 1)
  counted_next p more =
      let first = line_first p more in
      record { inside = omega (arith, p.inside); fewer = omega (arith, c.fewer, p.from); same = omega (arith, c.same, ap length first.is) }
