-- Places: cause 7, "break, continue, case or default out of place".
use Rattle.std.specs.Prelude.{Bool, ◌&&◌, List, ℕ, eqb, ℤ}
use Rattle.words.specs.Word.{pick}
use Rattle.words.specs.Table.{number_at}
use Rattle.words.specs.Kinds.{between}
use Rattle.check_notes.specs.RowNotes.{note_at}
use Rattle.check_notes.specs.declared.Note.{Note}
use Rattle.check_notes.specs.declared.Note.TheVariants.{Inside, ItemOf, Before}

-- 44 while, 45 do, 46 for. Not 54 guarded if and 55 guarded do: "Neither form counts as a loop for break and continue."
abbrev pub is_loop : ℕ → Bool
is_loop kind = between 44 46 kind

-- 47 switch.
abbrev pub is_loop_or_switch : ℕ → Bool
is_loop_or_switch kind = between 44 47 kind

-- Document 01's "mark": 48 case, 49 default.
abbrev pub is_mark : ℕ → Bool
is_mark kind = between 48 49 kind

abbrev pub mark_at : List ℤ → ℕ → Bool
mark_at rows row = is_mark (number_at rows row 0)

-- The notes of a row: 1 inside a loop; 1 inside a loop or switch; 1 for an item of a switch's own list, which is its field b; the nearest mark
-- before the row in its own list, or 0.
abbrev pub in_loop : Note
in_loop = Inside 44 46

abbrev pub in_loop_or_switch : Note
in_loop_or_switch = Inside 44 47

abbrev pub switch_item : Note
switch_item = ItemOf 47 2

abbrev pub mark_before : Note
mark_before = Before 48 49

-- "A case or default is an item of a switch's own list. Break stands inside a loop or switch, continue inside a loop." The three
-- numbers are the row's notes.
unfoldable pub out_of_place : ℕ → ℕ → ℕ → ℕ → Bool
out_of_place kind looped breakable item =
    pick (eqb kind 50) (eqb breakable 0)
    (pick (eqb kind 51) (eqb looped 0)
    (is_mark kind && eqb item 0))

-- Cause 7.
unfoldable pub misplaced : List ℤ → ℕ → Bool
misplaced rows row = out_of_place (number_at rows row 0) (note_at in_loop rows row) (note_at in_loop_or_switch rows row) (note_at switch_item rows row)
