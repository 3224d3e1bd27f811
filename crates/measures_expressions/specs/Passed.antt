-- Passed: what the functions that measure a call and its arguments ask and give.
use Rattle.std.specs.Prelude.{◌≡◌, Bool, List, ℕ, ◌+◌, ◌*◌, ◌≤◌, ◌^◌, max, ℤ}
use Rattle.language.specs.Trees.{Expression}
use Rattle.language.specs.Calls.{argument_count}
use Rattle.language.specs.Decode.{argument_list_at}
use Rattle.translation.specs.Translate.{atom_of}
use Rattle.translation.specs.TranslateSize.{copied}
use Rattle.write_sets.specs.declared.WriteSet.{WriteSet}
use Rattle.measures_table.specs.Parts.{called_in}
use Rattle.measures_table.specs.Measures.{limited, rows_slot, levels_slot, slot_at, PassedMeasured}
use Rattle.measures_table.specs.declared.Passed.{Passed}
use Rattle.measures_table.specs.declared.ExpressionMeasures.{ExpressionMeasures}
use Rattle.write_sets_rows.specs.WriteSets.{SetIs}

-- 1 where the value of an expression is copied, because it waits while something is worked out that can write the set; else 0.
pub record CopiedBy (S : ℕ) (called : ℕ → ℕ → Bool) (e : Expression) (set : WriteSet) (r : ℕ) : Type 0 where
  pub is : (W : ℕ → Bool) → SetIs S set W → r ≡ copied (atom_of called e) W
  pub most : r ≤ 1

-- ---- arguments

abbrev pub no_passed : Passed
no_passed = record { rows = 0; levels = 0; taken = 0; count = 0; copies = 0 }

-- An argument before others.
abbrev pub passed_with : List ℕ → ℕ → ℕ → ℕ → Passed → Passed
passed_with table e taken copies behind = record {
  rows = limited (4 * copies + slot_at table e rows_slot + behind.rows);
  levels = limited (max behind.levels (behind.taken + max (slot_at table e levels_slot) (taken + copies)));
  taken = behind.taken + (taken + copies);
  count = behind.count + 1;
  copies = copies + 2 * behind.copies;
}

-- Another argument can stand before them.
pub record PassedFits (m : Passed) : Type 0 where
  pub rows_small : m.rows ≤ 65536
  pub levels_small : m.levels ≤ 65536
  pub few : m.count ≤ 63
  pub taken_most : m.taken ≤ 2 * m.count
  pub copies_small : m.copies + 1 ≤ 2 ^ m.count

-- The arguments from the row at a link on; those before them can write the set.
pub record PassedAt (S : ℕ) (rows : List ℤ) (link : ℕ) (before : WriteSet) (m : Passed) : Type 0 where
  pub measured : (W : ℕ → Bool) → SetIs S before W → PassedMeasured (called_in rows) (argument_list_at rows link) W m
  pub count_is : m.count ≡ argument_count (argument_list_at rows link)
  pub rows_small : m.rows ≤ 65536
  pub levels_small : m.levels ≤ 65536
  pub taken_most : m.taken ≤ 2 * m.count
  pub copies_small : m.copies + 1 ≤ 2 ^ m.count

-- ---- a call

abbrev pub call_measures : ℕ → Passed → ExpressionMeasures
call_measures row m = record {
  rows = limited (4 + 2 * m.count + m.rows);
  levels = max 1 m.levels;
  value = row;
  copied = 0;
  dropped_rows = limited (4 + 2 * m.count + m.rows);
  dropped_levels = max 1 m.levels;
  stored_levels = m.levels;
  copies = m.copies;
}
