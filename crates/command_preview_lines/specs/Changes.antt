-- Changes: the lines that a preview prints.
use Rattle.std.specs.Prelude.{List, [], ◌∷◌, ◌++◌, ℕ, zero, suc, ◌+◌, ◌*◌, ◌≤◌, ℤ, pos, length, get_or, Err, Ok, Result}
use Rattle.words.specs.Refusals.{NumberedRefusal}
use Rattle.program_previews.specs.declared.PreviewAnswer.{PreviewAnswer}
use Rattle.words.specs.Word.{same_word, pick}
use Rattle.words.specs.Answers.{ending_name}
use Rattle.words.specs.declared.Ending.{Ending}
use Rattle.text_numbers.specs.Number.{digits, number_bytes}
use Rattle.text_report.specs.Lines.{line_of, refused_line}

-- Ending, count, and how many words would differ.
unfoldable pub told_line : Ending → ℕ → ℕ → List ℕ
told_line ending count differing = line_of (ending_name ending) (digits count ∷ digits differing ∷ [])

abbrev pub colon : ℕ
colon = 58

-- A word that would differ: `place: old new`.
unfoldable pub change_line : ℕ → ℤ → ℤ → List ℕ
change_line place before after = line_of (digits place ++ (colon ∷ [])) (number_bytes before ∷ number_bytes after ∷ [])

-- Equal words print nothing.
unfoldable pub change_at : ℕ → ℤ → ℤ → List ℕ
change_at place before after = pick (same_word before after) [] (change_line place before after)

-- The lines of the first n places, lowest place first.
unfoldable pub change_lines : ℕ → List ℤ → List ℤ → List ℕ
change_lines zero store left = []
change_lines (suc n) store left = change_lines n store left ++ change_at n (get_or store n (pos 0)) (get_or left n (pos 0))

-- A preview prints its first line, then those of the first words, as many as it compares, that would differ, one a line; or its refusal.
unfoldable pub preview_lines : Result PreviewAnswer NumberedRefusal → (size : ℕ) (store left : List ℤ) → List ℕ
preview_lines (Ok preview) size store left = told_line preview.ending preview.count preview.differing ++ change_lines size store left
preview_lines (Err refusal) size store left = refused_line refusal.number refusal.place

-- There is room for the lines, and words to compare.
abbrev pub Showable : Result PreviewAnswer NumberedRefusal → (size : ℕ) (store left : List ℤ) → (room : ℕ) → Type 0
Showable (Ok preview) size store left room = (size ≤ length store) × (size ≤ length left) × (41 + 46 * size ≤ room)
Showable (Err refusal) size store left room = 48 ≤ room
