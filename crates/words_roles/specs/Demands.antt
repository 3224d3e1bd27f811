-- Demands: what makes a row a parameter, as a relation in the request's words.
use Rattle.std.specs.Prelude.{◌≡◌, true, List, ℕ, ◌<◌, ℤ}
use Rattle.words.specs.Table.{number_at}
use Rattle.words.specs.Declarations.{is_declaration}
use Rattle.words_roles.specs.Roles.{is_definition}

-- A parameter: "b first parameter", and the next of one.
pub data AsParameter (rows : List ℤ) : ℕ → Type 0 where
  by_definition : {owner row : ℕ} → owner < row → is_declaration rows row ≡ true → is_definition rows owner ≡ true → number_at rows owner 2 ≡ row → AsParameter rows row
  by_parameter : {owner row : ℕ} → owner < row → is_declaration rows row ≡ true → AsParameter rows owner → number_at rows owner 5 ≡ row → AsParameter rows row
