-- Code: the parts of an expression's code that have a writer of their own. Each is a part of a clause of expression_code.
use Rattle.std.specs.Prelude.{Bool, List, ℕ, ℤ, pos, None, Option, Some}
use Rattle.words.specs.declared.Operator.TheVariants.{NotEqual}
use Rattle.language.specs.Trees.{Expression, constant, read, minus, not, binary, and, or, comma, conditional, assign, compound, prefix, postfix, call, Items, none, ◌⧺◌}
use Rattle.language.specs.Writes.{writes, index_writes}
use Rattle.language.specs.Decode.{part_at}
use Rattle.translation.specs.Uses.{direct}
use Rattle.translation.specs.declared.Use.{Use}
use Rattle.translation.specs.declared.Use.TheVariants.{Wanted as wanted}
use Rattle.translation.specs.Translate.{nothing, landed, atom_of, atom, temporary, assigning, choosing, copy_code, expression_code, arguments_code, operand_code}
use Rattle.translation.specs.Holding.{hold_code}
use Rattle.measures_table.specs.Parts.{called_in}
use Rattle.writers_rows.specs.Atoms.{atom_tree}
use Rattle.writers_rows.specs.Straight.{straight_code}
use Rattle.writers_rows.specs.declared.KernelAtom.{KernelAtom}
use Rattle.writers_expressions.specs.declared.End.{End}
use Rattle.writers_expressions.specs.declared.End.TheVariants.{Truth, Copy, Stays}
use Rattle.writers_expressions.specs.declared.Branch.{Branch}

-- `called f i`: whether function f can write the variable i.
module _ (called : ℕ → ℕ → Bool) (S : ℕ) where
  -- The copy of the first operand's value, which waits while the second one is worked out.
  abbrev pub wait_code : Expression → ℕ → Items
  wait_code (constant v) t = none
  wait_code (read p) t = none
  wait_code (minus e) t = none
  wait_code (not e) t = none
  wait_code (binary operator a b) t = hold_code S t (atom_of called b) (writes called a)
  wait_code (and a b) t = none
  wait_code (or a b) t = none
  wait_code (comma a b) t = none
  wait_code (conditional c a b) t = none
  wait_code (assign p e) t = hold_code S t (landed p (direct e) (atom_of called e)) (index_writes called p)
  wait_code (compound operator p e) t = hold_code S t (atom_of called e) (index_writes called p)
  wait_code (prefix operator p) t = none
  wait_code (postfix operator p) t = none
  wait_code (call f arguments) t = none

  -- What an expression does behind its first two operands, where its value has the use u.
  abbrev pub last_code : Expression → Use → ℕ → Items
  last_code (constant v) u t = none
  last_code (read p) u t = straight_code called S (read p) u t
  last_code (minus e) u t = straight_code called S (minus e) u t
  last_code (not e) u t = straight_code called S (not e) u t
  last_code (binary operator a b) u t = straight_code called S (binary operator a b) u t
  last_code (and a b) u t =
      choosing S (atom S t (atom_of called a)) (expression_code called S b wanted t ⧺ assigning S (temporary S t) (binary NotEqual (atom S t (atom_of called b)) (constant (pos 0))) none) (assigning S (temporary S t) (constant (pos 0)) none) none
  last_code (or a b) u t =
      choosing S (atom S t (atom_of called a)) (assigning S (temporary S t) (constant (pos 1)) none) (expression_code called S b wanted t ⧺ assigning S (temporary S t) (binary NotEqual (atom S t (atom_of called b)) (constant (pos 0))) none) none
  last_code (comma a b) u t = none
  last_code (conditional c a b) u t =
      choosing S (atom S t (atom_of called c)) (expression_code called S a wanted t ⧺ copy_code S t (atom_of called a)) (expression_code called S b wanted t ⧺ copy_code S t (atom_of called b)) none
  last_code (assign p e) u t = straight_code called S (assign p e) u t
  last_code (compound operator p e) u t = straight_code called S (compound operator p e) u t
  last_code (prefix operator p) u t = straight_code called S (prefix operator p) u t
  last_code (postfix operator p) u t = straight_code called S (postfix operator p) u t
  -- a call's arguments, and then the call
  last_code (call f arguments) u t = arguments_code called S arguments nothing t ⧺ straight_code called S (call f arguments) u t

module _ (S : ℕ) where
  -- The end of a branch: its atom into temporary t, as a truth value, or as it is where it is not there already.
  abbrev pub finish_code : End → KernelAtom → ℕ → Items
  finish_code Truth x t = assigning S (temporary S t) (binary NotEqual (atom_tree x) (constant (pos 0))) none
  finish_code Copy x t = assigning S (temporary S t) (atom_tree x) none
  finish_code Stays x t = none

  -- `rows` is the source.
  module _ (rows : List ℤ) where
    abbrev pub branch_code : Branch → ℕ → Items
    branch_code branch t = operand_code (called_in rows) S (part_at rows branch.row) wanted t ⧺ finish_code branch.end branch.atom t

    abbrev pub choice_code : KernelAtom → Branch → Branch → ℕ → Items
    choice_code test on_true on_false t = choosing S (atom_tree test) (branch_code on_true t) (branch_code on_false t) none

    -- The same by a choice.
    abbrev pub chosen_code : Option (KernelAtom × Branch × Branch) → Expression → Use → ℕ → Items
    chosen_code (Some (test, on_true, on_false)) e u t = choice_code test on_true on_false t
    chosen_code None e u t = straight_code (called_in rows) S e u t
