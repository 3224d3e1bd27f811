-- Lines: the numbers of a line, and the first line that a test turns away.
use Rattle.std.specs.Prelude.{◌≡◌, Bool, true, not, ◌&&◌, ◌||◌, List, [], ◌∷◌, ℕ, ◌+◌, ◌%◌, ◌≤◌, ◌<◌, leb, ltb, eqb, ℤ, length, drop, None, Option, Some}
use Rattle.words.specs.Word.{natural, pick}
use Rattle.words.specs.Over.{over}
use Rattle.text_lines.specs.Line.{TextLine, lines_of, line_numbers}
use Rattle.text_form.specs.Text.{keep}
use Rattle.text_lines.specs.Reader.{numbers_in}
use Rattle.day_form.specs.declared.lines.LineTest.{LineTest}
use Rattle.day_form.specs.declared.lines.LineTest.TheVariants.{Pairs, Names}
use Rattle.day_form.specs.declared.lines.NextLine.{NextLine}

-- "At most .. 200 day lines, 1 to 16 pairs a line": sixteen pairs are 32 numbers.
abbrev pub most_days : ℕ
most_days = 200

abbrev pub most_numbers : ℕ
most_numbers = 32

abbrev pub is_few : List ℤ → Bool
is_few numbers = leb (length numbers) most_numbers

-- The numbers of a line; none where it is malformed or has more than a line may have.
unfoldable pub line_words : TextLine → List ℤ
line_words line = numbers_in (keep is_few (line_numbers line))

-- "Day lines of pairs": at least one, and no number alone.
unfoldable pub are_pairs : List ℤ → Bool
are_pairs numbers = ltb 0 (length numbers) && eqb (length numbers % 2) 0

-- "Pairs: variable number and value": each variable number is one "0 to V−1".
unfoldable pub all_named : ℕ → List ℤ → Bool
all_named variables [] = true
all_named variables (number ∷ []) = true
all_named variables (number ∷ (value ∷ pairs)) = ltb (natural number) variables && all_named variables pairs

-- Whether a test turns away the line with this number: for its form ("malformed", "a .. day line or pair too many"), or for a name.
unfoldable pub turns_away : LineTest → ℕ → List ℤ → Bool
turns_away (Pairs last) number numbers = ltb last number || not (are_pairs numbers)
turns_away (Names variables) number numbers = not (all_named variables numbers)

-- The first line that is turned away, where the lines are counted from `number`.
unfoldable pub first_line : LineTest → ℕ → List TextLine → Option ℕ
first_line test number [] = None
first_line test number (line ∷ lines) = pick (turns_away test number (line_words line)) (Some number) (first_line test (number + 1) lines)

-- ---- what the reader of a line is lent and leaves

-- So many numbers of a line stand at the start of the table.
pub record WordsRead (line : TextLine) (count : ℕ) (table left : List ℤ) : Type 0 where
  pub size : count ≡ length (line_words line)
  pub few : count ≤ most_numbers
  pub written : left ≡ over (line_words line) table

-- The same of the first line from byte `at` on; the next line begins where it says.
pub record NextRead (text : List ℕ) (at : ℕ) (next : NextLine) (table left : List ℤ) : Type 0 where
  pub line : TextLine
  pub is-first : lines_of (drop at text) ≡ line ∷ lines_of (drop next.at text)
  pub further : at < next.at
  pub inside : next.at ≤ length text
  pub read : WordsRead line next.count table left
