-- Code: the parts of a statement's code that have a writer of their own. Each is a part of a clause of statement_code.
use Rattle.std.specs.Prelude.{Bool, List, ℕ, zero, suc, ◌+◌, ℤ, pos}
use Rattle.language.specs.Trees.{Expression, constant, variable, Part, absent, present, give_back, label, Items, none, ◌then◌, ◌here◌, ◌⧺◌}
use Rattle.language.specs.Decode.{statement_at, part_at}
use Rattle.translation.specs.Uses.{direct}
use Rattle.translation.specs.declared.Use.TheVariants.{Wanted as wanted, Stored as stored}
use Rattle.translation.specs.Translate.{atom_of, atom, store_code, expression_code, part_code, test_code, loop_code, Exits, exits, statement_code}
use Rattle.measures_table.specs.Parts.{called_in}
use Rattle.writers.specs.declared.Exits.{Exits as ExitLabels}
use Rattle.writers.specs.declared.Loop.{Loop}

-- S words in the store, and the source rows.
module _ (S : ℕ) (rows : List ℤ) where
  -- The statement at a row, which may be absent.
  abbrev pub body_code : ℕ → Exits → ℕ → Items
  body_code zero x l = none
  body_code (suc row) x l = statement_code (called_in rows) S (statement_at rows (suc row)) x l

  -- The end of a round: the label for continue, the step, and a test that stands behind the body.
  abbrev pub round_end : Part → Part → ℕ → Items
  round_end action after l = label (l + 1) here (part_code (called_in rows) S action ⧺ test_code (called_in rows) S after l none)

  abbrev pub round_code : Loop → ℕ → Items
  round_code parts l =
      test_code (called_in rows) S (part_at rows parts.before) l none
      ⧺ statement_code (called_in rows) S (statement_at rows parts.body) (exits l (l + 1)) (l + 2) ⧺ round_end (part_at rows parts.action) (part_at rows parts.after) l

  abbrev pub whole_loop : Loop → ℕ → Items
  whole_loop parts l = part_code (called_in rows) S (part_at rows parts.first) ⧺ loop_code S (round_code parts l) l

-- A declaration: the code of its value, and the assignment to the word i, where the value is not there already.
abbrev pub declared_code : (ℕ → ℕ → Bool) → ℕ → ℕ → Expression → Items
declared_code called S i e = expression_code called S e (stored i) 0 ⧺ store_code S (variable i) (direct e) (atom S 0 (atom_of called e))

-- A return: the code of its value, and the return of what holds it; of 0 where it is absent.
abbrev pub returned_code : (ℕ → ℕ → Bool) → ℕ → Part → Items
returned_code called S absent = give_back (present (constant (pos 0))) then none
returned_code called S (present e) = expression_code called S e wanted 0 ⧺ give_back (present (atom S 0 (atom_of called e))) then none

abbrev pub exits_of : ExitLabels → Exits
exits_of x = exits x.breaking x.continuing
