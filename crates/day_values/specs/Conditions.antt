-- Conditions: what the functions that print a day are lent.
use Rattle.std.specs.Prelude.{◌≡◌, true, List, ℕ, ◌*◌, ◌≤◌, ℤ, length}
use Rattle.words.specs.Layout.{header_fits, store_words}
use Rattle.words.specs.declared.Form.TheVariants.{Source}
use Rattle.text_lines.specs.Line.{lines_of}
use Rattle.machine.specs.Whole.{Runnable}
use Rattle.text_rules.specs.Rules.{store_room}
use Rattle.day_form.specs.Lines.{most_days}
use Rattle.day_form.specs.Settings.{most_values}

-- The rows of a rule's resolved table, which the machine may walk on a store of their words, and a text of no more lines than a day may
-- have.
pub record Fits (header rows : List ℤ) (text : List ℕ) : Type 0 where
  pub header-fits : header_fits Source header ≡ true
  pub few_words : store_words Source header rows ≤ store_room
  pub runnable : (store : List ℤ) → length store ≡ store_words Source header rows → Runnable Source header rows store
  pub few_days : length (lines_of text) ≤ most_days

-- Bytes enough for a value's line: at most 256 variables and three numbers more, of at most twelve bytes each.
abbrev pub most_in_line : ℕ
most_in_line = 259

abbrev pub line_room : ℕ
line_room = 12 * most_in_line

-- Bytes enough for a line of each value: 310,800.
abbrev pub day_room : ℕ
day_room = line_room * most_values
