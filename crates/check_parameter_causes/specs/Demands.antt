-- Demands: what the request demands of parameters and of the declarations in their function's block, as relations in its words.
use Rattle.std.specs.Prelude.{◌≡◌, true, List, ℕ, ℤ}
use Rattle.words.specs.Table.{number_at}
use Rattle.words.specs.Links.{link}
use Rattle.words.specs.Declarations.{is_declaration}
use Rattle.check_structure.specs.Structured.{Leads}
use Rattle.check_function_causes.specs.Functions.{is_definition}

-- "b first parameter": the first, and the next of one.
pub data Parameter (rows : List ℤ) (definition : ℕ) : ℕ → Type 0 where
  first_parameter : is_definition rows definition ≡ true → Leads rows definition 2 → Parameter rows definition (link rows definition 2)
  next_parameter : {row : ℕ} → Parameter rows definition row → Leads rows row 5 → Parameter rows definition (link rows row 5)

-- "c a block": the first of its items, and the next of one.
pub data BodyItem (rows : List ℤ) (definition : ℕ) : ℕ → Type 0 where
  first_item : is_definition rows definition ≡ true → Leads rows definition 3 → Leads rows (link rows definition 3) 1 → BodyItem rows definition (link rows (link rows definition 3) 1)
  next_item : {row : ℕ} → BodyItem rows definition row → Leads rows row 5 → BodyItem rows definition (link rows row 5)

-- "For .. 19 as c's first items": no declaration among a block's items has the number of a parameter.
abbrev pub NotParameter : List ℤ → ℕ → Type 0
NotParameter rows row =
    is_declaration rows row ≡ true → (definition parameter : ℕ) → BodyItem rows definition row → Parameter rows definition parameter → number_at rows parameter 1 ≡ number_at rows row 1 → ⊥
