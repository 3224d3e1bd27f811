-- A text within the limits: it is read into tables of 35 and 768 words, and what its rule is.
use Rattle.std.specs.Prelude.{Err, Ok, Result, None, Option, Some}
use mathlib.Core.Path.{◌≡◌, sym, ap, ◌∙◌}
use mathlib.Core.Bool.{◌&&◌}
use mathlib.Core.List.{List, [], ◌∷◌}
use Prim.Native.Nat.{ℕ, ◌-◌, ◌*◌, ◌≤◌, ◌<◌}
use native.Mathlib.Omega.{arith}
use lib.Dec.{leb}
use lib.IntN.{ℤ}
use lib.ListN.{length, take}
use borrow.Author.Tests.{leb-true, le-leb, lt-leb}
use Rattle.words.specs.Layout.{header_fits, count_fits, layout_of, store_size}
use Rattle.words.specs.Laws.{both, by_cases, header_fits-facts}
use Rattle.words.specs.declared.Form.TheVariants.{Source}
use Rattle.words.specs.Refusals.{NumberedRefusal}
use Rattle.check_source.specs.Refusal.{refusal}
use Rattle.text_lines.specs.Line.{fields_of, numbers_of}
use Rattle.text_form.specs.Text.{malformed, parse}
use Rattle.words.specs.Over.{over}
use Rattle.words.specs.OverLaws.{written-part}
use Rattle.text_form.specs.Answers.{finished, cause_unless, read_result, Reads}
use Rattle.text_numbers.specs.NumberLaws.{not_some}
use Rattle.text_form.specs.Passing.{Passes}
use Rattle.text_form.proofs.AnswerLaws.{read-passing, refused-finished}
use Rattle.text_lines.specs.Reader.{numbers_in}
use Rattle.text_form.specs.Reader.{HasLines}
use Rattle.text_form.proofs.ReaderLaws.{line-exactly, lent-line, scratch-part}
use Rattle.text_rules.specs.Rules.{most_bytes, most_rows, most_words, refused, checked_rule, trial_cause, limited_rule, parsed_rule, rule_of, WithinLimits, Holds}

-- ---- the length of a text

pub long-rule : (text : List ℕ) → most_bytes < length text → rule_of text ≡ refused 2 0
unfolding rule_of
long-rule text h = rw (lt-leb (length text) most_bytes h)

pub short-rule : (text : List ℕ) → length text ≤ most_bytes → rule_of text ≡ parsed_rule (parse Source text)
unfolding rule_of
short-rule text h = rw (le-leb (length text) most_bytes h)

pub malformed-rule : (text : List ℕ) (line : ℕ) → parse Source text ≡ malformed line → parsed_rule (parse Source text) ≡ refused 14 line
unfolding parsed_rule
malformed-rule text line e = rw e

-- ---- the causes 1 and 2

-- neither turns a program away
record Small (header : List ℤ) (row_words : ℕ) : Type 0 where
  passes : Passes Source header row_words
  few_words : store_size (layout_of Source header) ≤ most_words
  few_rows : row_words ≤ 6 * most_rows

no-cause-small : (header : List ℤ) (row_words : ℕ) → trial_cause header row_words ≡ None → Small header row_words
unfolding trial_cause cause_unless
no-cause-small header row_words e =
    by_cases (header_fits Source header && leb (store_size (layout_of Source header)) most_words)
    (λ h. by_cases (count_fits Source row_words && leb row_words (6 * most_rows))
    (λ c. let first = both _ _ h in let second = both _ _ c in record {
      passes = record { header-fits = first.0; count-fits = second.0 };
      few_words = leb-true _ _ first.1;
      few_rows = leb-true _ _ second.1;
    })
    (λ c. not_some (sym (rw (h, c) at e))))
    (λ h. not_some (sym (rw h at e)))

-- ---- a well-formed text, by its first line and the number of its row words

module _ {text : List ℕ} {end numbers row_words : ℕ} (l : HasLines 6 Source text end numbers row_words) where
  pub lines-cause : (table written : List ℤ) (said : Option ℕ) → written ≡ over (numbers_in (numbers_of (fields_of (take (end - 0) text)))) table
      → said ≡ trial_cause (take (numbers - 0) written) row_words → trial_cause l.program.header (length l.program.rows) ≡ said
  lines-cause table written said w e =
      let part : take (numbers - 0) written ≡ l.program.header = scratch-part (line-exactly l) table written w ∙ ap numbers_in (lent-line l) in
      rw (l.rows_size, ← part) (sym e)

  pub lines-refused : (number : ℕ) → trial_cause l.program.header (length l.program.rows) ≡ Some number → parsed_rule (parse Source text) ≡ refused number 0
  unfolding parsed_rule limited_rule
  lines-refused number e = rw (l.parses, e)

  pub lines-within : trial_cause l.program.header (length l.program.rows) ≡ None → WithinLimits text
  lines-within e = record { program = l.program; parses = l.parses; no_cause = e }

-- ---- a text within the limits

module _ {text : List ℕ} (w : WithinLimits text) where
  within-rule : parsed_rule (parse Source text) ≡ checked_rule (refusal w.program.header w.program.rows) w.program
  unfolding parsed_rule limited_rule
  within-rule = rw (w.parses, w.no_cause)

  small : Small w.program.header (length w.program.rows)
  small = no-cause-small w.program.header (length w.program.rows) w.no_cause

  few-numbers : length w.program.header ≤ 35
  few-numbers = let most = (header_fits-facts Source w.program.header small.passes.header-fits).most in omega arith

  -- what the reader counts and leaves
  pub record Tables (headerWords row_words : ℕ) (headerLeft rows_left : List ℤ) : Type 0 where
    pub header_inside : headerWords ≤ 35
    pub rows_inside : row_words ≤ 768
    pub header_read : take (headerWords - 0) headerLeft ≡ w.program.header
    pub rows_read : take (row_words - 0) rows_left ≡ w.program.rows

  module _ (header rows headerLeft rows_left : List ℤ) (h : length header ≡ 35) (r : length rows ≡ 768) where
    reads : read_result Source text header rows
        ≡ record { outcome = finished (length w.program.header ∷ length w.program.rows ∷ []); header = over w.program.header header; rows = over w.program.rows rows }
    reads = read-passing Source text w.program w.parses small.passes header rows (omega (arith, few-numbers)) (omega (arith, small.few_rows))

    pub within-read : (headerWords row_words : ℕ) → Reads (read_result Source text header rows) (Ok (headerWords, row_words)) headerLeft rows_left → Tables headerWords row_words headerLeft rows_left
    within-read headerWords row_words d =
        let counts : finished (headerWords ∷ row_words ∷ []) ≡ finished (length w.program.header ∷ length w.program.rows ∷ []) = rw reads at d.outcome in
        let first : headerWords ≡ length w.program.header = cc in
        let second : row_words ≡ length w.program.rows = cc in
        record {
          header_inside = omega (arith, few-numbers);
          rows_inside = omega (arith, small.few_rows);
          header_read = written-part w.program.header header headerLeft headerWords first (rw reads at d.header_left);
          rows_read = written-part w.program.rows rows rows_left row_words second (rw reads at d.rows-left);
        }

    pub within-accepted : {G : Type 0} (refusal : NumberedRefusal) → Reads (read_result Source text header rows) (Err refusal) headerLeft rows_left → G
    within-accepted refusal d = refused-finished (rw reads at d.outcome)

  -- what the check says of the tables
  module _ {headerWords row_words : ℕ} {headerLeft rows_left : List ℤ} (t : Tables headerWords row_words headerLeft rows_left) where
    verdict-is : (verdict : Result (Unit {0}) NumberedRefusal) → verdict ≡ refusal (take (headerWords - 0) headerLeft) (take (row_words - 0) rows_left) → refusal w.program.header w.program.rows ≡ verdict
    verdict-is verdict e = rw (← t.header_read, ← t.rows_read) (sym e)

    pub table-refused : (cause : NumberedRefusal) → Err cause ≡ refusal (take (headerWords - 0) headerLeft) (take (row_words - 0) rows_left) → parsed_rule (parse Source text) ≡ refused cause.number cause.place
    unfolding checked_rule
    table-refused cause e = within-rule ∙ rw (verdict-is (Err cause) e)

    pub table-accepted : (Ok tt) ≡ refusal (take (headerWords - 0) headerLeft) (take (row_words - 0) rows_left) → Holds (parsed_rule (parse Source text)) headerWords row_words headerLeft rows_left
    unfolding checked_rule
    table-accepted e =
        let checked = verdict-is (Ok tt) e in
        record {
          program = w.program;
          is = within-rule ∙ rw checked;
          allowed = record { header-fits = small.passes.header-fits; few_words = small.few_words; few_rows = small.few_rows; checked = checked };
          header_inside = t.header_inside;
          rows_inside = t.rows_inside;
          header_read = t.header_read;
          rows_read = t.rows_read;
        }
