-- The numbers of a line: how many were read, and that they stand at the start of the table.
use Rattle.std.specs.Prelude.{None, Option, Some}
use mathlib.Core.Path.{◌≡◌, refl, sym, ap, ◌∙◌}
use mathlib.Core.List.{List, [], ◌∷◌}
use Prim.Native.Nat.{ℕ, ◌+◌, ◌-◌, ◌≤◌, ◌<◌}
use native.Mathlib.Omega.{arith}
use lib.IntN.{ℤ}
use lib.ListN.{length, take, drop}
use borrow.Author.Tests.{le-leb, lt-leb}
use Rattle.words.specs.Over.{over}
use Rattle.words.specs.OverLaws.{over_none}
use Rattle.text_lines.specs.Line.{TextLine, ended, unended, lines_of, fields_of, numbers_of, line_numbers}
use Rattle.text_form.specs.Text.{keep}
use Rattle.text_form.proofs.TextLaws.{keep-is, keep-not, keep-none}
use Rattle.text_lines.specs.Reader.{numbers_in}
use Rattle.text_lines.proofs.Pieces.{Piece}
use Rattle.text_lines.specs.CountLaws.{Sized}
use Rattle.text_lines.proofs.Pieces.{lines_step}
use Rattle.day_form.specs.Lines.{is_few, line_words, WordsRead, NextRead}
use Rattle.day_form.specs.declared.lines.NextLine.{NextLine}
use Rattle.day_form.proofs.Bounds.{line-unended}

pub words-unended : (line : List ℕ) → line_words (unended line) ≡ []
unfolding line_words line_numbers
words-unended line = ap numbers_in (keep-none is_few)

words-malformed : (line : List ℕ) → numbers_of (fields_of line) ≡ None → line_words (ended line) ≡ []
unfolding line_words line_numbers
words-malformed line e = rw e (ap numbers_in (keep-none is_few))

-- nothing is written for a line that has no numbers
none_read : (line : TextLine) (table : List ℤ) → line_words line ≡ [] → WordsRead line 0 table table
none_read line table e = record { size = sym (ap length e); few = omega arith; written = over_none table ∙ ap (λ (l : List ℤ). over l table) (sym e) }

pub malformed-read : (line : List ℕ) (table : List ℤ) → numbers_of (fields_of line) ≡ None → WordsRead (ended line) 0 table table
malformed-read line table e = none_read (ended line) table (words-malformed line e)

module _ (line : List ℕ) {count : ℕ} (s : Sized (numbers_of (fields_of line)) count) where
  many : 32 < count → line_words (ended line) ≡ []
  unfolding line_words line_numbers
  many h = rw s.is (ap numbers_in (keep-not is_few s.numbers (lt-leb (length s.numbers) 32 (omega (arith, s.size)))))

  few : count ≤ 32 → line_words (ended line) ≡ s.numbers
  unfolding line_words line_numbers
  few h = rw s.is (ap numbers_in (keep-is is_few s.numbers (le-leb (length s.numbers) 32 (omega (arith, s.size)))))

  pub many_read : (table : List ℤ) → 32 < count → WordsRead (ended line) 0 table table
  many_read table h = none_read (ended line) table (many h)

  pub few-read : (table left : List ℤ) → count ≤ 32 → left ≡ over (numbers_in (numbers_of (fields_of line))) table → WordsRead (ended line) count table left
  few-read table left h w = record {
    size = sym (ap length (few h) ∙ s.size);
    few = h;
    written = w ∙ ap (λ (l : List ℤ). over l table) (ap numbers_in s.is ∙ sym (few h));
  }

-- ---- the first line of a text

module _ {text : List ℕ} {at end : ℕ} (p : Piece 10 text at end) (more : at < length text) where
  pub unended-next : (table : List ℤ) → length text ≤ end → (next : NextLine) → next ≡ record { at = end; count = 0 } → NextRead text at next table table
  unended-next table h next e = rw e (record {
    line = unended (take (end - at) (drop at text));
    is-first = line-unended p more h end h;
    further = omega arith;
    inside = p.inside;
    read = none_read _ table (words-unended _);
  })

  pub ended-next : (table left : List ℤ) → end < length text → (count : ℕ) → WordsRead (ended (take (end - at) (drop at text))) count table left
      → NextRead text at (record { at = end + 1; count = count }) table left
  ended-next table left h count w = record {
    line = ended (take (end - at) (drop at text));
    is-first = lines_step p h;
    further = omega (arith, p.from);
    inside = omega arith;
    read = w;
  }
