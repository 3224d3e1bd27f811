-- Demands: what the request demands of functions, as relations in its words. The tests are those of Causes.
use Rattle.std.specs.Prelude.{◌≡◌, true, List, ℕ, ◌+◌, ◌<◌, ℤ}
use Rattle.words.specs.Table.{row_count, number_at}
use Rattle.words.specs.Links.{link}
use Rattle.check_structure.specs.Structured.{Leads}
use Rattle.check_function_causes.specs.Functions.{is_definition, is_call, is_return}

-- "Definitions come first in row 0's list, numbered from 0 in order": the unbroken run of definitions there, each with its place.
pub data InFront (rows : List ℤ) : ℕ → ℕ → Type 0 where
  foremost : Leads rows 0 1 → is_definition rows (link rows 0 1) ≡ true → InFront rows (link rows 0 1) 0
  behind : {row place : ℕ} → InFront rows row place → Leads rows row 5 → is_definition rows (link rows row 5) ≡ true → InFront rows (link rows row 5) (place + 1)

-- A row stands in a function: as a part of its definition, or linked by a row that does.
pub data Within (rows : List ℤ) (definition : ℕ) : ℕ → Type 0 where
  function_part : {field : ℕ} → field < 5 → is_definition rows definition ≡ true → Leads rows definition field → Within rows definition (link rows definition field)
  function_along : {row field : ℕ} → field < 6 → Leads rows row field → Within rows definition row → Within rows definition (link rows row field)

-- The list that begins at a row has so many rows; 0 means absent.
pub data Listed (rows : List ℤ) : ℕ → ℕ → Type 0 where
  ended : Listed rows 0 0
  counted : {row count : ℕ} → 0 < row → Listed rows (link rows row 5) count → Listed rows row (count + 1)

-- No "return outside a function".
pub record InFunction (rows : List ℤ) (row : ℕ) : Type 0 where
  pub definition : ℕ
  pub within : Within rows definition row

abbrev pub ReturnInside : List ℤ → ℕ → Type 0
ReturnInside rows row = is_return rows row ≡ true → InFunction rows row

-- No "definition out of order or not at the front".
abbrev pub DefinedInOrder : List ℤ → ℕ → Type 0
DefinedInOrder rows row = is_definition rows row ≡ true → InFront rows row (number_at rows row 1)

-- No "call to no function, to its own or a higher one, or with the wrong number of arguments".
pub record Called (rows : List ℤ) (row : ℕ) : Type 0 where
  pub definition : ℕ
  pub function : InFront rows definition (number_at rows row 1)
  pub lower : (around : ℕ) → Within rows around row → number_at rows row 1 < number_at rows around 1
  pub count : ℕ
  pub arguments : Listed rows (link rows row 2) count
  pub parameters : Listed rows (link rows definition 2) count

abbrev pub CalledRightly : List ℤ → ℕ → Type 0
CalledRightly rows row = is_call rows row ≡ true → Called rows row

-- What 23 and 24 ask of the rows.
pub record WellCalled (rows : List ℤ) : Type 0 where
  pub in_order : (row : ℕ) → row < row_count rows → DefinedInOrder rows row
  pub called : (row : ℕ) → row < row_count rows → CalledRightly rows row
