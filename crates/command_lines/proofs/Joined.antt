-- How lines are put together.
use mathlib.Core.Path.{◌≡◌, refl}
use mathlib.Core.List.{List, [], ◌∷◌, ◌++◌, map, append_assoc}
use Prim.Native.Nat.{ℕ}
use lib.IntN.{ℤ}
use Rattle.words.specs.Answers.{ending_name}
use Rattle.words.specs.declared.Ending.{Ending}
use Rattle.text_numbers.specs.Number.{digits, number_bytes}
use Rattle.text_lines.specs.Line.{newline}
use Rattle.text_report.specs.Lines.{blank, spaced, line_of}
use Rattle.text_report.proofs.Spacing.{spaced_words}
use Rattle.command_lines.specs.Lines.{ended_line, malformed_name, malformed_line}

pub counted_is : (count : ℕ) (words : List ℤ) → ((blank ∷ digits count) ++ spaced_words words) ++ (newline ∷ []) ≡ spaced (digits count ∷ map number_bytes words) ++ (newline ∷ [])
unfolding spaced
counted_is count words = refl

pub ended_is : (ending : Ending) (count : ℕ) (words : List ℤ) → ending_name ending ++ (spaced (digits count ∷ map number_bytes words) ++ (newline ∷ [])) ≡ ended_line ending count words
unfolding ended_line line_of
ended_is ending count words = refl

pub malformed-is : (number : ℕ) → (malformed_name ++ (blank ∷ digits number)) ++ (newline ∷ []) ≡ malformed_line number
unfolding malformed_line line_of spaced
malformed-is number = simp append_assoc
