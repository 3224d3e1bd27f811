-- The walk over the lines of the rows that stores their words: those that were read stand at the start of the table.
use Rattle.std.specs.Prelude.{Some}
use mathlib.Core.Path.{◌≡◌, sym, ap, ◌∙◌}
use mathlib.Core.List.{List, ◌++◌}
use Prim.Native.Nat.{ℕ, ◌+◌, ◌*◌, ◌-◌, ◌≤◌, ◌<◌}
use native.Mathlib.Nat.{mul-zero}
use native.Mathlib.Omega.{arith}
use lib.Dec.{ltb}
use lib.IntN.{ℤ}
use lib.ListN.{length, take, drop, length-drop, length-append}
use borrow.Author.Tests.{ltb-true, ltb-false}
use Rattle.text_lines.specs.Line.{ended, lines_of, fields_of, numbers_of}
use Rattle.text_form.specs.Text.{row_line, Parsed, parsed, malformed, rows_from}
use Rattle.words.specs.Over.{over}
use Rattle.words.specs.Laws.{by_cases}
use Rattle.text_form.proofs.TextLaws.{not-parsed, row_more}
use Rattle.text_lines.specs.Reader.{numbers_in, Holds}
use Rattle.text_form.specs.Reader.{is_found, words_in, HoldsRows}
use Rattle.words.specs.OverLaws.{part, back_in, part-is, length_over, over_none, over-next}
use Rattle.text_lines.proofs.Pieces.{Piece}
use Rattle.text_form.proofs.Rows.{found-row, found_none, RowNumbers, row-numbers, behind, Walked, walked_start, start-before, walked_end, walked-unended, walked-bad, walked_next, next-before}

-- the rows before byte `at` were written over `table`, which gave `written`
pub record Filled (width : ℕ) (text : List ℕ) (at count : ℕ) (table written : List ℤ) : Type 0 where
  pub walked : Walked width text at count
  pub holds : HoldsRows (rows_from width 2 (lines_of text)) table
  pub few : width * count ≤ length table
  pub over_table : written ≡ over walked.before table

pub filled-start : (width : ℕ) (text : List ℕ) (table : List ℤ) → HoldsRows (rows_from width 2 (lines_of text)) table → Filled width text 0 0 table table
filled-start width text table h =
    record { walked = walked_start width text; holds = h; few = omega (arith, mul-zero width); over_table = rw (start-before width text) (over_none table) }

-- words that were read, of which some were read before
fewer : (before : List ℤ) (read : Parsed (List ℤ)) (words : List ℤ) → behind before read ≡ parsed words → length before ≤ length words
unfolding behind
fewer before (malformed line) words e = not-parsed e
fewer before (parsed others) words e =
    let same : before ++ others ≡ words = cc in
    omega (arith, ap length same, length-append before others)

-- the line from byte `at` on is a row
pub record NextRow (width : ℕ) (text : List ℕ) (at end : ℕ) : Type 0 where
  pub inside : end < length text
  pub row : List ℤ
  pub is : row_line width (ended (take (end - at) (drop at text))) ≡ Some row

module _ {width : ℕ} {text : List ℕ} {at count : ℕ} {table written : List ℤ} (f : Filled width text at count table written) where
  pub filled-length : length written ≡ length table
  filled-length = length_over f.walked.before table written f.over_table (omega (arith, f.walked.size, f.few))

  pub filled-end : length text ≤ at → written ≡ over (words_in (rows_from width 2 (lines_of text))) table
  filled-end h = f.over_table ∙ ap (λ (read : Parsed (List ℤ)). over (words_in read) table) (sym (walked_end f.walked h))

  never : {G : Type 0} {line : ℕ} → rows_from width 2 (lines_of text) ≡ malformed line → G
  never e = not-parsed (sym e ∙ f.holds.well_formed)

  module _ {end : ℕ} (p : Piece 10 text at end) (more : at < length text) where
    pub filled_row : NextRow width text at end
    filled_row =
        by_cases (ltb end (length text))
        (λ t.
        let h : end < length text = ltb-true _ _ t in
        by_cases (is_found (row_line width (ended (take (end - at) (drop at text)))))
        (λ b. let r = found-row _ b in record { inside = h; row = r.row; is = r.is })
        (λ b. never (walked-bad f.walked p more h (found_none _ b))))
        (λ t. never (walked-unended f.walked p more (ltb-false _ _ t)))

    module _ (r : NextRow width text at end) where
      s : RowNumbers width (take (end - at) (drop at text)) r.row
      s = row-numbers width _ r.row r.is

      next : Walked width text (end + 1) (count + 1)
      next = walked_next f.walked p more r.inside r.row r.is

      next_is : next.before ≡ f.walked.before ++ r.row
      unfolding next
      next_is = next-before f.walked p more r.inside r.row r.is

      pub next-few : width * (count + 1) ≤ length table
      next-few =
          let few = fewer next.before _ _ (sym next.same ∙ f.holds.well_formed) in
          omega (arith, next.size, f.holds.room)

      pub row-holds : Holds (numbers_of (fields_of (take (end - at) (drop at text)))) (part (width * count) written)
      row-holds = record {
        well_formed = rw s.read;
        room = rw (s.read, part-is (width * count) written, length-drop) (omega (arith, s.size, row_more width count, next-few, filled-length));
      }

      pub filled_next : (lent : List ℤ) → lent ≡ over (numbers_in (numbers_of (fields_of (take (end - at) (drop at text))))) (part (width * count) written)
          → Filled width text (end + 1) (count + 1) table (back_in (width * count) written lent)
      filled_next lent e = record {
        walked = next;
        holds = f.holds;
        few = next-few;
        over_table = rw next_is
            (over-next f.walked.before r.row table written lent (width * count) (sym f.walked.size) f.over_table (rw s.read at e));
      }
