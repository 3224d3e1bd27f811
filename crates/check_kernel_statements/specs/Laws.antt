-- Laws: the words beyond a table; the arguments of a call, one at a time.
use Rattle.std.specs.Prelude.{◌≡◌, true, false, List, ℤ, pos, length}
use Rattle.std.proofs.Math.Path.{refl}
use Prim.Native.Nat.{ℕ, zero, suc, ◌+◌, ◌*◌, ◌-◌, ◌/◌, ◌≤◌, ◌<◌}
use native.Mathlib.Omega.{arith}
use Rattle.std.proofs.Math.ListN.{get_or-eq_default}
use Rattle.std.proofs.Common.{ne_eqb}
use Rattle.words.specs.Word.{natural}
use Rattle.words.specs.Table.{row_count, word_at, number_at}
use Rattle.check_kernel_statements.specs.Statements.{is_atom, atom_arguments}

-- beyond the table every word is 0
pub number-beyond : (rows : List ℤ) (row field : ℕ) → 6 * (length rows / 6) ≡ length rows → row_count rows ≤ row → 0 ≡ number_at rows row field
unfolding number_at word_at natural
number-beyond rows row field whole h = let beyond : length rows ≤ 6 * row + field = omega arith in rw (get_or-eq_default rows (pos 0) beyond)

-- ---- arguments

module _ (rows : List ℤ) where
  -- the list has ended
  pub arguments-none : (most argument : ℕ) → argument ≡ 0 → atom_arguments most rows argument ≡ true
  unfolding atom_arguments
  arguments-none zero argument z = refl
  arguments-none (suc most) argument z = rw z

  pub arguments-other : (most argument : ℕ) → 0 < most → (argument ≡ 0 → ⊥) → is_atom rows (number_at rows argument 1) ≡ false → atom_arguments most rows argument ≡ false
  unfolding atom_arguments
  arguments-other zero argument p z e = absurd (omega arith)
  arguments-other (suc most) argument p z e = rw (ne_eqb _ _ z, e)

  pub arguments-along : (most argument : ℕ) → 0 < most → (argument ≡ 0 → ⊥) → is_atom rows (number_at rows argument 1) ≡ true → atom_arguments most rows argument ≡ atom_arguments (most - 1) rows (number_at rows argument 5)
  unfolding atom_arguments
  arguments-along zero argument p z e = absurd (omega arith)
  arguments-along (suc most) argument p z e = let on : suc most - 1 ≡ most = omega arith in rw (ne_eqb _ _ z, e, on)
