-- Straight: what an expression does with the values of its first two operands, and the rows that head an assignment and a loop.
use Rattle.std.specs.Prelude.{Bool, List, ◌++◌, ℕ, ◌+◌, ◌*◌, ◌-◌, ℤ, pos}
use Rattle.words.specs.Word.{pick}
use Rattle.words.specs.declared.Operator.{Operator}
use Rattle.words.specs.declared.Operator.TheVariants.{Equal}
use Rattle.language.specs.Trees.{Expression, constant, read, minus, not, binary, and, or, comma, conditional, assign, compound, prefix, postfix, call, variable, element, express, Items, none, ◌then◌}
use Rattle.language.specs.Writes.{writes, index_writes}
use Rattle.translation.specs.Uses.{direct}
use Rattle.translation.specs.declared.Use.{Use}
use Rattle.translation.specs.declared.Use.TheVariants.{Wanted as wanted}
use Rattle.translation.specs.Translate.{held, nothing, landed, atom_of, taken, place_taken, atom, assigning, target, read_code, store_code, kernel_place, argument_atoms, update_code, postfix_code}
use Rattle.translation.specs.TranslateSize.{operand_size, own_rows}
use Rattle.language_emission.specs.Emission.{row_of}
use Rattle.measures_table.specs.Parts.{third_operand, fourth_operand, first_copied, passed_rows}

-- `called f i`: whether function f can write the variable i.
module _ (called : ℕ → ℕ → Bool) (S : ℕ) where
  -- What an expression does with the values of its first two operands, where its own has the use u.
  abbrev pub straight_code : Expression → Use → ℕ → Items
  straight_code (constant v) u t = none
  straight_code (read p) u t = read_code called S p u t
  straight_code (minus e) u t = assigning S (target S u t) (minus (atom S t (atom_of called e))) none
  straight_code (not e) u t = assigning S (target S u t) (binary Equal (atom S t (atom_of called e)) (constant (pos 0))) none
  straight_code (binary operator a b) u t =
      let right = held (atom_of called b) (writes called a) in
      assigning S (target S u t) (binary operator (atom S (t + taken right) (atom_of called a)) (atom S t right)) none
  straight_code (and a b) u t = none
  straight_code (or a b) u t = none
  straight_code (comma a b) u t = none
  straight_code (conditional c a b) u t = none
  straight_code (assign p e) u t =
      let value = held (landed p (direct e) (atom_of called e)) (index_writes called p) in
      store_code S (kernel_place called S p (t + taken value)) (direct e) (atom S t value)
  straight_code (compound operator p e) u t = update_code S operator (kernel_place called S p (t + 1)) (atom S t (held (atom_of called e) (index_writes called p))) t (t + 1 + place_taken called p)
  straight_code (prefix operator p) u t = update_code S operator (kernel_place called S p (t + 1)) (constant (pos 1)) t (t + 1 + place_taken called p)
  straight_code (postfix operator p) u t = postfix_code S operator (kernel_place called S p (t + 1)) u t (t + 1 + place_taken called p)
  straight_code (call f arguments) u t = assigning S (target S u t) (call f (argument_atoms called S arguments nothing t)) none

-- An element's update: its old value into one variable, the new value into another, and from there into the element.
abbrev pub element_update : Operator → ℕ → Expression → Expression → ℕ → ℕ → Items
element_update operator array index operand old new =
    express (assign (variable old) (read (element array index))) then
    express (assign (variable new) (binary operator (read (variable old)) operand)) then
    express (assign (element array index) (read (variable new))) then none

-- The kernel rows behind an expression's first two operands and the copy of the first one's value; those of a call's arguments are among them.
abbrev pub last_size : (ℕ → ℕ → Bool) → Expression → Use → ℕ
last_size called e u =
    operand_size called (third_operand called e) wanted + operand_size called (fourth_operand called e) wanted + passed_rows called e + (own_rows called e u - 4 * first_copied called e)

-- A variable's old value into another one, and old op 1 into the variable.
abbrev pub kept_step : Operator → ℕ → ℕ → Items
kept_step operator i old =
    express (assign (variable old) (read (variable i))) then
    express (assign (variable i) (binary operator (read (variable old)) (constant (pos 1)))) then none

-- The rows that head an assignment of `size` rows: the statement, the assignment, whose value stands at the row `value`, and its place's own row.
abbrev pub target_rows : ℕ → ℕ → ℕ → ℕ → ℕ → ℕ → Bool → List ℤ
target_rows kind number index value size base follows =
    row_of 41 (pos (base + 1)) 0 0 0 (pick follows (base + size) 0) ++ row_of 21 (pos (base + 2)) value 0 0 0 ++ row_of kind (pos number) index 0 0 0

-- The rows that head a loop: the while, its constant test, and the block of its body, which takes `rows` rows.
abbrev pub loop_head : ℕ → ℕ → List ℤ
loop_head base rows = row_of 44 (pos (base + 1)) (base + 2) 0 0 (base + 3 + rows) ++ row_of 1 (pos 1) 0 0 0 0 ++ row_of 42 (pos (base + 3)) 0 0 0 0
