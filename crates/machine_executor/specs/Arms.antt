-- Arms: what the arms of a guarded statement come to, by the rows that hold them, and what an answer says of it: the row of the block that
-- runs, or 0 where no guard is true.
use Rattle.std.specs.Prelude.{◌≡◌, List, ℕ, zero, suc, ◌<◌, ◌≤◌, ℤ, Some}
use Rattle.words.specs.Table.{row_count, number_at}
use Rattle.words.specs.Kinds.{kind_at}
use Rattle.words.specs.declared.Kind.TheVariants.{OfMember}
use Rattle.words.specs.declared.MemberKind.TheVariants.{Arm}
use Rattle.computation.specs.Computation.{Computation, ret, ◌>>=◌}
use Rattle.computation.specs.Remaining.{Rest, onward, spend}
use Rattle.language.specs.Decode.{arm_list_at}
use Rattle.language.specs.Meaning.{Choice, none_true, ran, enter, choose}
use Rattle.machine_operations.specs.Answers.{operand_of, position_of, placed}
use Rattle.machine_operations.specs.Ready.{Ready}
use Rattle.machine_operations.specs.Rows.{context_at, value_at}
use Rattle.machine_executor.specs.Rows.{exec_at}

module _ (rows : List ℤ) (bounds : List ℕ) where
  -- The guard of the arm at a row: the arm's row is entered, then the guard's.
  abbrev pub guard_at : ℕ → Computation ℤ
  guard_at row = enter (value_at rows bounds (number_at rows row 1))

  -- The arms from a row on; at 0 there is none.
  abbrev pub arms_from : ℕ → Computation Choice
  arms_from first = choose (context_at rows bounds) (arm_list_at rows first)

  -- The block at a row runs; at 0 no guard is true.
  abbrev pub block_from : ℕ → Computation Choice
  block_from zero = ret none_true
  block_from (suc row) = do
    signal ← exec_at rows bounds (suc row)
    ret (ran signal)

  -- What the answer says of the arms, with the steps left and the store: the block at the row that it names is still to run. It names a row as
  -- a place's answer names a position.
  abbrev pub chosen : ℤ → ℕ → List ℤ → Rest Choice
  chosen answer n s = onward (placed answer n s) (λ block n s. spend (block_from block) n s)

-- The row is that of an arm, or 0.
pub record ReadyArms (rows : List ℤ) (bounds : List ℕ) (words first : ℕ) : Type 0 where
  pub ready : Ready rows bounds words first
  pub arm_is : 0 < first → kind_at rows first ≡ OfMember Arm

-- The answer, with the steps left and the store, is that of the arms from `first` on, begun with n steps and the store s.
pub record Chooses (rows : List ℤ) (bounds : List ℕ) (first n : ℕ) (s : List ℤ) (answer : ℤ) (left : ℕ) (store : List ℤ) : Type 0 where
  pub runs : chosen rows bounds answer left store ≡ spend (arms_from rows bounds first) n s
  pub steps : left ≤ n
  pub below : (block : ℕ) → position_of (operand_of answer) ≡ Some block → block < row_count rows
