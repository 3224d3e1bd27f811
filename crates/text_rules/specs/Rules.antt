-- Rules: what a rule's text gives within the trial program's limits. Document 01, the end of "Text".
use Rattle.std.specs.Prelude.{◌≡◌, true, ◌&&◌, List, ℕ, ◌+◌, ◌-◌, ◌*◌, ◌≤◌, leb, ℤ, length, take, Err, Ok, Result, None, Option, Some}
use Rattle.words.specs.Refusals.{NumberedRefusal}
use Rattle.words.specs.Word.{pick}
use Rattle.words.specs.Declarations.{declaration_limit}
use Rattle.words.specs.Layout.{header_fits, count_fits, layout_of, store_size}
use Rattle.words.specs.declared.Form.TheVariants.{Source}
use Rattle.check_source.specs.Refusal.{refusal}
use Rattle.text_form.specs.Text.{Parsed, parsed, malformed, Program, parse}
use Rattle.text_form.specs.Answers.{cause_unless}

-- "A text over 16,384 bytes"; "at most 128 rows"; "S at most 1,024"; "with budget 100,000".
abbrev pub most_bytes : ℕ
most_bytes = 16384

abbrev pub most_rows : ℕ
most_rows = 128

abbrev pub most_words : ℕ
most_words = 1024

-- Words that the store of every accepted rule has room in: S, and one for each declaration.
abbrev pub store_room : ℕ
store_room = most_words + declaration_limit

abbrev pub budget : ℕ
budget = 100000

-- A program that may run, or the refusal: document 01's number of the cause, and the place.
pub data Rule : Type 0 where
  accepted : Program → Rule
  refused : (number place : ℕ) → Rule

-- The check.
unfoldable pub checked_rule : Result (Unit {0}) NumberedRefusal → Program → Rule
checked_rule (Err cause) program = refused cause.number cause.place
checked_rule (Ok tt) program = accepted program

-- "S over 1,024 prints 1 and more than 128 rows print 2, both with place 0", and so do the check's own grounds for 1 and 2.
unfoldable pub trial_cause : List ℤ → ℕ → Option ℕ
trial_cause header row_words =
    cause_unless (header_fits Source header && leb (store_size (layout_of Source header)) most_words) 1
    (cause_unless (count_fits Source row_words && leb row_words (6 * most_rows)) 2 None)

unfoldable pub limited_rule : Option ℕ → Program → Rule
limited_rule (Some number) program = refused number 0
limited_rule None program = checked_rule (refusal program.header program.rows) program

-- "Then 14 comes first; after it" 1 and 2.
unfoldable pub parsed_rule : Parsed Program → Rule
parsed_rule (malformed line) = refused 14 line
parsed_rule (parsed program) = limited_rule (trial_cause program.header (length program.rows)) program

-- "A text over 16,384 bytes prints refusal 2, place 0, before all else."
unfoldable pub rule_of : List ℕ → Rule
rule_of text = pick (leb (length text) most_bytes) (parsed_rule (parse Source text)) (refused 2 0)

-- ---- what the reader of a rule is lent and leaves

-- A text is well formed, and neither 1 nor 2 turns its program away.
pub record WithinLimits (text : List ℕ) : Type 0 where
  pub program : Program
  pub parses : parse Source text ≡ parsed program
  pub no_cause : trial_cause program.header (length program.rows) ≡ None

-- A program is within the limits, and the check accepts it.
pub record IsAccepted (header rows : List ℤ) : Type 0 where
  pub header-fits : header_fits Source header ≡ true
  pub few_words : store_size (layout_of Source header) ≤ most_words
  pub few_rows : length rows ≤ 6 * most_rows
  pub checked : refusal header rows ≡ Ok tt

-- So many words at the start of each table are the program's.
pub record Holds (rule : Rule) (headerWords row_words : ℕ) (header rows : List ℤ) : Type 0 where
  pub program : Program
  pub is : rule ≡ accepted program
  pub allowed : IsAccepted program.header program.rows
  pub header_inside : headerWords ≤ 35
  pub rows_inside : row_words ≤ 768
  pub header_read : take (headerWords - 0) header ≡ program.header
  pub rows_read : take (row_words - 0) rows ≡ program.rows

abbrev pub RuleRead : Rule → Result (ℕ × ℕ) NumberedRefusal → List ℤ → List ℤ → Type 0
RuleRead rule (Ok (headerWords, row_words)) header rows = Holds rule headerWords row_words header rows
RuleRead rule (Err cause) header rows = rule ≡ refused cause.number cause.place
