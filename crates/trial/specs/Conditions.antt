-- Conditions: what the functions that make the output are lent. `room` is the number of bytes that they may write.
use Rattle.std.specs.Prelude.{◌≡◌, true, List, ℕ, ◌+◌, ◌*◌, ◌≤◌, ℤ, length, Ok}
use Rattle.words.specs.Declarations.{declaration_limit}
use Rattle.words.specs.Layout.{header_fits, layout_of, store_size, store_words, zeros}
use Rattle.words.specs.declared.Form.TheVariants.{Source, Kernel}
use Rattle.text_report.specs.Lines.{line_room}
use Rattle.program_runs.specs.Runs.{refusal_of}
use Rattle.text_rules.specs.Rules.{most_rows, most_words}

-- Bytes enough for both lines: 24,672.
abbrev pub trial_room : ℕ
trial_room = 2 * line_room most_words

-- A program is within the limits, and both lines have room.
pub record Fits (header rows : List ℤ) (room : ℕ) : Type 0 where
  pub header-fits : header_fits Source header ≡ true
  pub few_words : store_size (layout_of Source header) ≤ most_words
  pub few_rows : length rows ≤ 6 * most_rows
  pub both_lines : trial_room ≤ room

-- The same of an accepted program, with the store that the source run starts from.
pub record FromZeros (header rows store : List ℤ) (room : ℕ) : Type 0 where
  pub fits : Fits header rows room
  pub accepted : refusal_of Source header rows ≡ (Ok tt)
  pub starts : store ≡ zeros (store_words Source header rows)

-- An accepted program within the limits, and room for its kernel line.
pub record Translates (header rows : List ℤ) (room : ℕ) : Type 0 where
  pub accepted : refusal_of Source header rows ≡ (Ok tt)
  pub few_words : store_size (layout_of Source header) ≤ most_words
  pub few_rows : length rows ≤ 6 * most_rows
  pub line : line_room (store_size (layout_of Source header)) ≤ room

-- An accepted kernel program whose store is that of a translation within the limits, and room for a line with some of its words.
pub record KernelFits (header rows : List ℤ) (words room : ℕ) : Type 0 where
  pub accepted : refusal_of Kernel header rows ≡ (Ok tt)
  pub inside : words ≤ store_words Kernel header rows
  pub few_words : store_words Kernel header rows ≤ most_words + (declaration_limit + 4 * most_rows)
  pub line : line_room words ≤ room

-- The same, with the store that the kernel run starts from.
pub record KernelFromZeros (header rows : List ℤ) (words : ℕ) (store : List ℤ) (room : ℕ) : Type 0 where
  pub fits : KernelFits header rows words room
  pub starts : store ≡ zeros (store_words Kernel header rows)
