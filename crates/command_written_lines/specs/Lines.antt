-- Lines: what can be written, by number, a line for each sort of place: the variables, the arrays of which an element can, and the declared words,
-- from 0, as pages name them.
use Rattle.std.specs.Prelude.{Bool, List, [], ◌∷◌, ◌++◌, ℕ, zero, suc}
use Rattle.words.specs.Word.{pick}
use Rattle.text_numbers.specs.Number.{digits}
use Rattle.text_lines.specs.Line.{newline}
use Rattle.text_report.specs.Lines.{blank}
use Rattle.write_sets.specs.Sets.{variable_bits, declared_bits, array_bits, variable_bit, declared_bit, member_array}
use Rattle.write_sets.specs.declared.WriteSet.{WriteSet}
use Rattle.command_request.specs.Ascii.{ascii}
use Rattle.command_written_lines.specs.declared.PlaceSort.{PlaceSort}
use Rattle.command_written_lines.specs.declared.PlaceSort.TheVariants.{Variables, Arrays, Declared}

-- The numbers below k that pass the test, lowest first, each with a blank before it.
unfoldable pub numbers : ℕ → (ℕ → Bool) → List ℕ
numbers zero p = []
numbers (suc k) p = numbers k p ++ pick (p k) (blank ∷ digits k) []

-- The word that a line begins with, and how many numbers there are.
abbrev pub name_of : PlaceSort → List ℕ
name_of Variables = ascii "variables"
name_of Arrays = ascii "arrays"
name_of Declared = ascii "declared"

abbrev pub bits_of : PlaceSort → ℕ
bits_of Variables = variable_bits
bits_of Arrays = array_bits
bits_of Declared = declared_bits

-- The bits of both sets.
abbrev pub is_in : WriteSet → (arrays : ℕ) → PlaceSort → ℕ → Bool
is_in set arrays Variables = variable_bit set
is_in set arrays Arrays = member_array arrays
is_in set arrays Declared = declared_bit set

-- A line with none is its word alone.
unfoldable pub written_line : PlaceSort → (ℕ → Bool) → List ℕ
written_line sort p = (name_of sort ++ numbers (bits_of sort) p) ++ (newline ∷ [])

abbrev pub written_lines : (PlaceSort → ℕ → Bool) → List ℕ
written_lines p = (written_line Variables (p Variables) ++ written_line Arrays (p Arrays)) ++ written_line Declared (p Declared)

-- Bytes enough for all lines: at most twenty-one for each number with its blank, and ten for what else a line has.
abbrev pub writes_room : ℕ
writes_room = 7422
