-- Ahead: what it is for a goto's label to be ahead of it.
use Rattle.std.specs.Prelude.{◌≡◌, false, List, ℕ, ◌<◌, ℤ}
use Rattle.words.specs.Table.{number_at}
use Rattle.words.specs.Links.{link}
use Rattle.check_structure.specs.Structured.{Leads}
use Rattle.check_structure.specs.Lists.{Before}
use Rattle.check_function_causes.specs.Functions.{is_definition}

-- 53 label, with this label number.
pub record Label (rows : List ℤ) (number row : ℕ) : Type 0 where
  pub label : number_at rows row 0 ≡ 53
  pub number_is : number_at rows row 1 ≡ number

-- The owner of a row is the row whose part it is; items of one list share theirs.
pub data Owner (rows : List ℤ) : ℕ → ℕ → Type 0 where
  part : {row field : ℕ} → field < 5 → Leads rows row field → Owner rows row (link rows row field)
  beside : {owner row : ℕ} → Owner rows owner row → Leads rows row 5 → Owner rows owner (link rows row 5)

-- A label with this number is a later item of the row's own list, or of a list around that, outward to the definition of its function.
pub data Ahead (rows : List ℤ) (number : ℕ) : ℕ → Type 0 where
  behind : {row item : ℕ} → Before rows row item → Label rows number item → Ahead rows number row
  outward : {owner row : ℕ} → Owner rows owner row → is_definition rows owner ≡ false → Ahead rows number owner → Ahead rows number row
