-- Flattenings: what `flatten` prints. Change 10.
use Rattle.std.specs.Prelude.{List, ℕ, leb, ℤ, length, Err, Ok, Result}
use Rattle.words.specs.Refusals.{NumberedRefusal}
use Rattle.words.specs.Word.{pick}
use Rattle.text_report.specs.Lines.{refused_line}
use Rattle.check_plain.specs.Refusal.{plain_refusal}
use Rattle.flat_fate.specs.FlatWords.{flattened}
use Rattle.flat_text.specs.Text.{flat_bytes}

-- Words of a list that is printed: those of 24,576 lines.
abbrev pub flatten_room : ℕ
flatten_room = 122880

-- "a shorter output gets 10"; else the list's text, under the program's own header.
abbrev pub accepted_list : (header rows : List ℤ) → List ℕ
accepted_list header rows = pick (leb (length (flattened rows)) flatten_room) (flat_bytes header (flattened rows)) (refused_line 10 0)

-- The list of a kernel program, or its refusal.
abbrev pub verdict_list : Result (Unit {0}) NumberedRefusal → (header rows : List ℤ) → List ℕ
verdict_list (Err refusal) header rows = refused_line refusal.number refusal.place
verdict_list (Ok tt) header rows = accepted_list header rows

abbrev pub list_text : (header rows : List ℤ) → List ℕ
list_text header rows = verdict_list (plain_refusal header rows) header rows
