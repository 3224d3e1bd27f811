-- Steps: what a statement's own row writes, and the links at which more is written; the links of an item and of an arm.
use Rattle.std.specs.Prelude.{◌≡◌, Bool, false, ◌||◌, List, ℕ, zero, suc, ◌<◌, ℤ}
use Rattle.words.specs.Table.{number_at}
use Rattle.language.specs.Decode.{part_at, statement_at, items_at, list_at, arms_at, arm_list_at}
use Rattle.language.specs.FunctionWrites.{statement_writes, items_write, arms_write}
use Rattle.language_shapes.specs.Shapes.{OptionalOnward}
use Rattle.write_sets.specs.Sets.{nothing}
use Rattle.write_sets_rows.specs.WriteSets.{SetIs, part_writes}
use Rattle.write_sets_functions.specs.declared.Step.{Step}
use Rattle.write_sets_functions.specs.declared.ArmLinks.{ArmLinks}

abbrev pub step_to : ℕ → ℕ → ℕ → ℕ → ℕ → ℕ → ℕ → Step
step_to first second third body other list arms =
    record { own = nothing; first = first; second = second; third = third; body = body; other = other; list = list; arms = arms }

-- What the statement at a link writes; 0 is absent.
abbrev pub body_writes : (ℕ → ℕ → Bool) → List ℤ → ℕ → ℕ → Bool
body_writes called rows zero i = false
body_writes called rows (suc link) i = statement_writes called (statement_at rows (suc link)) i

-- What is written at the links; `called f i`: whether function f can write the variable i.
abbrev pub steps_write : (ℕ → ℕ → Bool) → List ℤ → Step → ℕ → Bool
steps_write called rows r i =
    part_writes called (part_at rows r.first) i || (part_writes called (part_at rows r.second) i || (part_writes called (part_at rows r.third) i || (
    body_writes called rows r.body i || (body_writes called rows r.other i || (items_write called (list_at rows r.list) i || arms_write called (arm_list_at rows r.arms) i)))))

-- The statement at a row.
pub record StepAt (S : ℕ) (rows : List ℤ) (called : ℕ → ℕ → Bool) (row : ℕ) (r : Step) : Type 0 where
  -- what the row itself writes
  pub written : ℕ → Bool
  pub own : SetIs S r.own written
  pub first : OptionalOnward rows row r.first
  pub second : OptionalOnward rows row r.second
  pub third : OptionalOnward rows row r.third
  pub body : OptionalOnward rows row r.body
  pub other : OptionalOnward rows row r.other
  pub list : OptionalOnward rows row r.list
  pub arms : OptionalOnward rows row r.arms
  pub all : (i : ℕ) → statement_writes called (statement_at rows row) i ≡ (written i || steps_write called rows r i)

-- Whatever the functions write.
abbrev pub Stepped : ℕ → List ℤ → ℕ → Step → Type 0
Stepped S rows row r = (called : ℕ → ℕ → Bool) → StepAt S rows called row r

-- The statement of the item at a row, which is the row itself or absent.
pub record StatementItem (rows : List ℤ) (row r : ℕ) : Type 0 where
  pub own : 0 < r → r ≡ row
  pub behind : OptionalOnward rows row (number_at rows row 5)
  pub all : (called : ℕ → ℕ → Bool) (i : ℕ) → items_write called (items_at rows row) i ≡ (body_writes called rows r i || items_write called (list_at rows (number_at rows row 5)) i)

-- The links of the arm at a row.
pub record ArmLinksAt (rows : List ℤ) (row : ℕ) (r : ArmLinks) : Type 0 where
  pub guard : OptionalOnward rows row r.guard
  pub body : OptionalOnward rows row r.body
  pub next : OptionalOnward rows row r.next
  pub all : (called : ℕ → ℕ → Bool) (i : ℕ) → arms_write called (arms_at rows row) i ≡ ((part_writes called (part_at rows r.guard) i || body_writes called rows r.body i) || arms_write called (arm_list_at rows r.next) i)
