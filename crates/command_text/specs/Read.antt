-- Read: what came of reading a text into the lent tables, by what is then printed for it.
use Rattle.std.specs.Prelude.{◌≡◌, true, List, ℕ, ◌-◌, ◌≤◌, ℤ, length, take, Err, Ok, Result}
use Rattle.words.specs.Refusals.{NumberedRefusal}
use Rattle.words.specs.Layout.{header_fits, store_words}
use Rattle.words.specs.declared.Form.{Form}
use Rattle.text_report.specs.Lines.{refused_line}
use Rattle.command_text.specs.Texts.{most_store}

-- A text that was read: so many words stand at the start of either table. `printed` gives what is printed for the text, by what is printed
-- for a header and rows.
pub record ReadText (printed : (List ℤ → List ℤ → List ℕ) → List ℕ) (form : Form) (headerLeft rows_left : List ℤ) (numbers words : ℕ) : Type 0 where
  pub header_inside : numbers ≤ length headerLeft
  pub rows_inside : words ≤ length rows_left
  pub fits : header_fits form (take (numbers - 0) headerLeft) ≡ true
  pub small : store_words form (take (numbers - 0) headerLeft) (take (words - 0) rows_left) ≤ most_store
  pub is : (output : List ℤ → List ℤ → List ℕ) → output (take (numbers - 0) headerLeft) (take (words - 0) rows_left) ≡ printed output

-- Or its refusal is what is printed.
abbrev pub ReadFor : (printed : (List ℤ → List ℤ → List ℕ) → List ℕ) → Form → Result (ℕ × ℕ) NumberedRefusal → (headerLeft rows_left : List ℤ) → Type 0
ReadFor printed form (Ok (numbers, words)) headerLeft rows_left = ReadText printed form headerLeft rows_left numbers words
ReadFor printed form (Err refusal) headerLeft rows_left = (output : List ℤ → List ℤ → List ℕ) → refused_line refusal.number refusal.place ≡ printed output
