-- Tree rows: how many rows the tree at a row has.
use Rattle.std.specs.Prelude.{List, ℤ, length}
use Prim.Native.Nat.{ℕ, ◌+◌}
use Rattle.words.specs.Word.{pick}
use Rattle.language.specs.Decode.{expression_at, arguments_at, parameters_at, items_at, arms_at}
use Rattle.language.specs.Sizes.{expression_rows, arguments_rows, arms_rows, items_rows}
use Rattle.words.specs.Links.{is_expression, is_arm, is_argument}
use Rattle.words_roles.specs.Roles.{is_parameter}

-- The rows of the tree at a row; from a statement on, with the items behind it; from an arm, an argument or a parameter on, with those behind it.
unfoldable pub tree_rows : List ℤ → ℕ → ℕ
tree_rows rows row =
    pick (is_expression rows row) (expression_rows (expression_at rows row))
    (pick (is_arm rows row) (arms_rows (arms_at rows row))
    (pick (is_argument rows row) (arguments_rows (arguments_at rows row))
    (pick (is_parameter rows row) (length (parameters_at rows row)) (items_rows (items_at rows row)))))
