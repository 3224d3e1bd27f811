-- Input: "a rule text, an empty line, a line with a variable number, a lowest and a highest value, then day lines of pairs".
use Rattle.std.specs.Prelude.{◌≡◌, Bool, true, ◌&&◌, List, [], ◌∷◌, ℕ, suc, ◌+◌, ◌≤◌, eqb, length, take, drop}
use Rattle.words.specs.Word.{pick}
use Rattle.text_lines.specs.Line.{newline, TextLine, lines_of}

-- How many bytes stand before the first empty line; all, where there is none. `starts` says whether a line begins here.
unfoldable pub bytes_before : Bool → List ℕ → ℕ
bytes_before starts [] = 0
bytes_before starts (byte ∷ bytes) = pick (starts && eqb byte newline) 0 (suc (bytes_before (eqb byte newline) bytes))

unfoldable pub rule_size : List ℕ → ℕ
rule_size input = bytes_before true input

-- "A rule text": without an empty line it is the whole input.
unfoldable pub rule_text : List ℕ → List ℕ
rule_text input = take (rule_size input) input

-- The lines behind the empty line: the setting's, and the day's.
unfoldable pub lines_behind : List ℕ → List TextLine
lines_behind input = lines_of (drop (rule_size input + 1) input)

-- "With their line of the whole input": the number of the first line behind the empty line, of "the line after the last" where there is none.
unfoldable pub first_number : List ℕ → ℕ
first_number input = length (lines_of (take (rule_size input + 1) input)) + 1

-- What stands behind a rule of so many bytes and its empty line begins here.
pub record Behind (input : List ℕ) (size start : ℕ) : Type 0 where
  pub inside : start ≤ length input
  pub before : take start input ≡ take (size + 1) input
  pub behind : drop start input ≡ drop (size + 1) input
