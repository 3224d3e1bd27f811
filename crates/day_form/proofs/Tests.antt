-- The walk over the variable numbers of pairs, and the walk over the lines that are tested.
use Rattle.std.specs.Prelude.{None, Some}
use mathlib.Core.Path.{◌≡◌, refl, sym, ap, ◌∙◌}
use mathlib.Core.Bool.{Bool, true, false, not, ◌&&◌}
use mathlib.Core.List.{List, [], ◌∷◌}
use Prim.Native.Nat.{ℕ, suc, ◌+◌, ◌-◌, ◌%◌, ◌≤◌, ◌<◌}
use native.Mathlib.Omega.{arith}
use native.Mathlib.Numerals.{add-one}
use lib.Dec.{ltb, eqb}
use lib.IntN.{ℤ, pos}
use lib.ListN.{length, take, drop, get_or, length-drop, drop_of_length-le}
use lib.Seq.{drop-cons}
use borrow.Author.Tests.{lt-ltb, le-ltb}
use Rattle.words.specs.Word.{natural}
use Rattle.words.specs.OverLaws.{written-part}
use Rattle.text_lines.specs.Line.{TextLine, lines_of}
use Rattle.text_lines.specs.LineLaws.{lines_none}
use Rattle.day_form.specs.Lines.{line_words, are_pairs, all_named, turns_away, first_line, WordsRead, NextRead}
use Rattle.day_form.specs.declared.lines.LineTest.{LineTest}
use Rattle.day_form.specs.declared.lines.LineTest.TheVariants.{Pairs, Names}
use Rattle.day_form.specs.declared.lines.NextLine.{NextLine}

-- ---- pairs

few-named : (variables : ℕ) (numbers : List ℤ) → length numbers ≤ 1 → all_named variables numbers ≡ true
unfolding all_named
few-named variables [] h = refl
few-named variables (number ∷ []) h = refl
few-named variables (number ∷ (value ∷ pairs)) h = absurd (omega arith)

pair-named : (variables : ℕ) (numbers : List ℤ) (i : ℕ) → i + 1 < length numbers
    → all_named variables (drop i numbers) ≡ (ltb (natural (get_or numbers i (pos 0))) variables && all_named variables (drop (i + 2) numbers))
unfolding all_named
pair-named variables numbers i h =
    let next : i + 2 ≡ suc (suc i) = omega arith in
    rw (next, drop-cons numbers i (pos 0) (omega arith), drop-cons numbers (suc i) (pos 0) (omega arith))

-- the pairs before `i` are named
pub record Named (variables : ℕ) (numbers : List ℤ) (i : ℕ) : Type 0 where
  pub inside : i ≤ length numbers
  pub same : all_named variables numbers ≡ all_named variables (drop i numbers)

pub named_start : (variables : ℕ) (numbers : List ℤ) → Named variables numbers 0
named_start variables numbers = record { inside = omega arith; same = refl }

module _ {variables : ℕ} {numbers : List ℤ} {i : ℕ} (n : Named variables numbers i) where
  pub named_end : length numbers ≤ i + 1 → true ≡ all_named variables numbers
  named_end h = sym (n.same ∙ few-named variables (drop i numbers) (rw length-drop (omega arith)))

  module _ (more : i + 1 < length numbers) where
    pub named-not : variables ≤ natural (get_or numbers i (pos 0)) → false ≡ all_named variables numbers
    named-not h = sym (n.same ∙ pair-named variables numbers i more ∙ rw (le-ltb _ _ h))

    pub named-next : natural (get_or numbers i (pos 0)) < variables → Named variables numbers (i + 2)
    named-next h = record { inside = omega arith; same = n.same ∙ pair-named variables numbers i more ∙ rw (lt-ltb _ _ h) }

-- ---- lines

-- none of the lines before byte `at` is turned away
pub record Tried (test : LineTest) (text : List ℕ) (first at number : ℕ) : Type 0 where
  pub inside : at ≤ length text
  pub fewer : number ≤ first + at
  pub same : first_line test first (lines_of text) ≡ first_line test number (lines_of (drop at text))

pub tried-start : (test : LineTest) (text : List ℕ) (first : ℕ) → Tried test text first 0 first
tried-start test text first = record { inside = omega arith; fewer = omega arith; same = refl }

first-none : (test : LineTest) (number : ℕ) → first_line test number [] ≡ None
unfolding first_line
first-none test number = refl

module _ {test : LineTest} {text : List ℕ} {first at number : ℕ} (t : Tried test text first at number) where
  pub tried-end : length text ≤ at → None ≡ first_line test first (lines_of text)
  tried-end h = sym (t.same ∙ ap (first_line test number) (lines_none (drop at text) (ap length (drop_of_length-le text {i = at} h))) ∙ first-none test number)

  module _ {next : NextLine} {table left : List ℤ} (r : NextRead text at next table left) (lent : List ℤ) (is : lent ≡ line_words r.line) where
    here : turns_away test number lent ≡ true → first_line test number (r.line ∷ lines_of (drop next.at text)) ≡ Some number
    unfolding first_line
    here e = rw (← is, e)

    behind : turns_away test number lent ≡ false → first_line test number (r.line ∷ lines_of (drop next.at text)) ≡ first_line test (number + 1) (lines_of (drop next.at text))
    unfolding first_line
    behind e = rw (← is, e)

    pub tried_here : turns_away test number lent ≡ true → Some number ≡ first_line test first (lines_of text)
    tried_here e = sym (t.same ∙ ap (first_line test number) r.is-first ∙ here e)

    pub tried-next : turns_away test number lent ≡ false → Tried test text first next.at (number + 1)
    tried-next e = record {
      inside = r.inside;
      fewer = omega (arith, t.fewer, r.further);
      same = t.same ∙ ap (first_line test number) r.is-first ∙ behind e;
    }

-- the numbers that stand at the start of the table
pub lent-numbers : {line : TextLine} {count : ℕ} {table left : List ℤ} → WordsRead line count table left → take (count - 0) left ≡ line_words line
lent-numbers {table = table} r = written-part _ table _ _ r.size r.written

-- ---- one line

module _ (last number : ℕ) (numbers : List ℤ) where
  pub too-late : last < number → true ≡ turns_away (Pairs last) number numbers
  unfolding turns_away
  too-late h = rw (lt-ltb _ _ h)

  pub in-time : number ≤ last → (pairs : Bool) → pairs ≡ are_pairs numbers → not pairs ≡ turns_away (Pairs last) number numbers
  unfolding turns_away
  in-time h pairs e = rw (le-ltb _ _ h, ← e)

pub names-turned : (variables number : ℕ) (numbers : List ℤ) (r : Bool) → r ≡ all_named variables numbers → not r ≡ turns_away (Names variables) number numbers
unfolding turns_away
names-turned variables number numbers r e = ap not e
