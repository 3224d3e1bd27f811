-- Calls: what is done at the arguments of a call, and what the code asks for it.
use Rattle.std.specs.Prelude.{◌≡◌, List, [], ◌∷◌, ℕ, zero, suc, ◌<◌, ◌≤◌, ℤ, pos, length}
use Rattle.words.specs.Table.{row_count, number_at}
use Rattle.words.specs.Kinds.{kind_at}
use Rattle.words.specs.declared.Kind.TheVariants.{OfMember}
use Rattle.words.specs.declared.MemberKind.TheVariants.{Argument}
use Rattle.computation.specs.Computation.{Computation, ret, ◌>>=◌, ◌>>◌}
use Rattle.language.specs.Decode.{argument_list_at, parameter_list_at}
use Rattle.language.specs.Meaning.{enter}
use Rattle.language.specs.Functions.{storing}
use Rattle.language.specs.Calls.{argument_count}
use Rattle.machine_operations.specs.Ready.{Ready}
use Rattle.machine_operations.specs.Rows.{value_at}
use Rattle.machine_flows.specs.Calls.{row_behind}

module _ (rows : List ℤ) (bounds : List ℕ) where
  -- An argument: its row is entered, and then its expression's.
  abbrev pub argument_at : ℕ → Computation ℤ
  argument_at row = enter (value_at rows bounds (number_at rows row 1))

  -- The first so many arguments from `first` on, "from the last to the first", and behind them as many parameters from `parameter` on: "all before
  -- any parameter is stored".
  unfoldable pub bound_at : ℕ → ℕ → ℕ → Computation ℤ
  bound_at first parameter zero = ret (pos 0)
  bound_at first parameter (suc k) = do
    v ← argument_at (row_behind rows first k)
    bound_at first parameter k
    storing (number_at rows (row_behind rows parameter k) 1 ∷ []) (v ∷ [])
    ret (pos 0)

-- The row of the first argument and that of the first parameter, or 0; there are at least so many of each.
pub record ReadyBind (rows : List ℤ) (bounds : List ℕ) (words first parameter count : ℕ) : Type 0 where
  pub ready : Ready rows bounds words first
  pub argument_is : 0 < first → kind_at rows first ≡ OfMember Argument
  pub parameter_below : parameter < row_count rows
  pub enough_arguments : count ≤ argument_count (argument_list_at rows first)
  pub enough_parameters : count ≤ length (parameter_list_at rows parameter)
