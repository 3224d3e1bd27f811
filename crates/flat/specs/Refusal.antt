-- Refusal: what the flat list's own check answers: "The flat machine refuses any other list: 1 header, 2 words not a multiple of five, 3
-- unknown operation, 4 jump outside, 6 number outside, these three with the line from 0".
use Rattle.std.specs.Prelude.{Bool, true, false, not, ◌&&◌, ◌||◌, List, ℕ, suc, ◌+◌, ◌%◌, ltb, leb, eqb, ℤ, pos, negsuc, length, Option, None, Some, Result}
use Rattle.words.specs.Refusals.{NumberedRefusal}
use Rattle.words.specs.Word.{natural, pick}
use Rattle.words.specs.Kinds.{between, variable, array}
use Rattle.words.specs.Layout.{header_fits}
use Rattle.words.specs.Search.{lowest}
use Rattle.words.specs.declared.Form.TheVariants.{Kernel}
use Rattle.check_fields.specs.Fields.{bounds_of, number_fits}
use Rattle.check_structure.specs.Refusal.{at, unless, ◌next◌}
use Rattle.check_fields.specs.declared.Bounds.{Bounds}
use Rattle.flat.specs.Words.{line_count, field_at, operation_at, kind_of, left_constant, right_constant}
use Rattle.flat.specs.declared.Holds.{Holds}
use Rattle.flat.specs.declared.Holds.TheVariants.{Unused, Atom, Variable, Array}
use Rattle.flat.specs.declared.LineShape.{LineShape}

abbrev pub shape : Holds → Holds → Holds → Bool → LineShape
shape target left right jumps = record { target = target; left = left; right = right; jumps = jumps }

-- The kinds of lines, as docs/FLAT.md lists them.
unfoldable pub shape_of : ℕ → Option LineShape
shape_of kind =
    pick (eqb kind 1) (Some (shape Variable Atom Unused false))
    (pick (eqb kind 3) (Some (shape Variable Array Atom false))
    (pick (eqb kind 4) (Some (shape Variable Atom Unused false))
    (pick (between 6 16 kind) (Some (shape Variable Atom Atom false))
    (pick (eqb kind 21) (Some (shape Array Atom Atom false))
    (pick (between 43 44 kind) (Some (shape Unused Atom Unused true))
    (pick (eqb kind 52) (Some (shape Unused Unused Unused true))
    (pick (eqb kind 57) (Some (shape Unused Unused Unused false))
    None)))))))

abbrev pub is_kind : Option LineShape → Bool
is_kind (Some line) = true
is_kind None = false

-- Where no line is of a kind, no word is used.
abbrev pub or_unused : Option LineShape → LineShape
or_unused (Some line) = line
or_unused None = shape Unused Unused Unused false

-- ---- cause 3: "unknown operation"

-- Only an atom is told to be a constant.
abbrev pub constant_fits : Bool → Holds → Bool
constant_fits constant Unused = not constant
constant_fits constant Atom = true
constant_fits constant Variable = not constant
constant_fits constant Array = not constant

unfoldable pub known_operation : ℕ → Bool
known_operation operation =
    let kind = shape_of (kind_of operation) in
    let shape = or_unused kind in
    ltb operation 256 && (is_kind kind && (constant_fits (left_constant operation) shape.left && constant_fits (right_constant operation) shape.right))

unfoldable pub unknown_operation : List ℤ → ℕ → Bool
unknown_operation list line = not (known_operation (operation_at list line))

-- ---- cause 4: "jump outside"

-- "Jumps stay inside the list or go just past its last line": a jump from a line of so many.
abbrev pub lands_inside : ℕ → ℕ → ℤ → Bool
lands_inside line lines (pos d) = leb (suc line + d) lines
lands_inside line lines (negsuc d) = leb d line

-- A line that does not jump has the distance 0.
unfoldable pub jump_outside : List ℤ → ℕ → Bool
jump_outside list line =
    let distance = field_at list line 4 in
    not (pick (or_unused (shape_of (kind_of (operation_at list line)))).jumps (lands_inside line (line_count list) distance) (eqb (natural distance) 0))

-- ---- cause 6: "number outside"

-- A variable or a temporary, an array, any constant; a word that is not used is 0.
abbrev pub holds_right : Bounds → Holds → Bool → ℤ → Bool
holds_right bounds Unused constant word = eqb (natural word) 0
holds_right bounds Atom constant word = constant || number_fits bounds variable (natural word)
holds_right bounds Variable constant word = number_fits bounds variable (natural word)
holds_right bounds Array constant word = number_fits bounds array (natural word)

unfoldable pub number_outside : Bounds → List ℤ → ℕ → Bool
number_outside bounds list line =
    let operation = operation_at list line in
    let shape = or_unused (shape_of (kind_of operation)) in
    not (holds_right bounds shape.target false (field_at list line 1)
    && (holds_right bounds shape.left (left_constant operation) (field_at list line 2) && holds_right bounds shape.right (right_constant operation) (field_at list line 3)))

-- ---- the check

unfoldable pub line_causes : Bounds → List ℤ → Result (Unit {0}) NumberedRefusal
line_causes bounds list =
    at 3 (lowest (unknown_operation list) 0 (line_count list))
    next at 4 (lowest (jump_outside list) 0 (line_count list))
    next at 6 (lowest (number_outside bounds list) 0 (line_count list))

unfoldable pub refusal : List ℤ → List ℤ → Result (Unit {0}) NumberedRefusal
refusal header list = unless (header_fits Kernel header) 1 next unless (eqb (length list % 5) 0) 2 next line_causes (bounds_of Kernel header) list
