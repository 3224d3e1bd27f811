-- Reaches: what an expression's own row writes, and the links at which more is written. S is where the declared words begin.
use Rattle.std.specs.Prelude.{◌≡◌, Bool, ◌||◌, List, ℕ, ◌≤◌, ℤ}
use Rattle.language.specs.Trees.{Arguments, call}
use Rattle.language.specs.Decode.{place_of, expression_at, part_at, argument_list_at}
use Rattle.language.specs.Writes.{writes, arguments_write}
use Rattle.language_shapes.specs.Shapes.{OptionalOnward}
use Rattle.write_sets.specs.declared.WriteSet.{WriteSet}
use Rattle.write_sets_rows.specs.WriteSets.{SetIs, place_writes, part_writes, function_set}
use Rattle.write_sets_rows.specs.declared.Reach.{Reach}

abbrev pub reach_of : WriteSet → ℕ → ℕ → ℕ → ℕ → Reach
reach_of own first second third arguments = record { own = own; first = first; second = second; third = third; arguments = arguments }

-- What is written at the links; `called f i`: whether function f can write the variable i.
abbrev pub links_write : (ℕ → ℕ → Bool) → List ℤ → Reach → ℕ → Bool
links_write called rows r i =
    part_writes called (part_at rows r.first) i || (part_writes called (part_at rows r.second) i || (part_writes called (part_at rows r.third) i || arguments_write called (argument_list_at rows r.arguments) i))

module _ (S : ℕ) (rows : List ℤ) where
  -- An update of the place at a row, by the value at a link.
  pub record UpdateAt (place value : ℕ) (r : Reach) : Type 0 where
    -- what the place itself is
    pub written : ℕ → Bool
    pub own : SetIs S r.own written
    pub first_is : r.first ≡ value
    pub second : OptionalOnward rows place r.second
    pub third-is : r.third ≡ 0
    pub arguments-are : r.arguments ≡ 0
    pub all : (called : ℕ → ℕ → Bool) (i : ℕ) → place_writes called (place_of (expression_at rows place)) i ≡ (written i || part_writes called (part_at rows r.second) i)

  -- The expression at a row.
  pub record ReachAt (called : ℕ → ℕ → Bool) (row : ℕ) (r : Reach) : Type 0 where
    -- what the row itself writes
    pub written : ℕ → Bool
    pub own : SetIs S r.own written
    pub first : OptionalOnward rows row r.first
    pub second : OptionalOnward rows row r.second
    pub third : OptionalOnward rows row r.third
    pub arguments : OptionalOnward rows row r.arguments
    pub all : (i : ℕ) → writes called (expression_at rows row) i ≡ (written i || links_write called rows r i)

  -- Whatever the functions write.
  abbrev pub Reached : ℕ → Reach → Type 0
  Reached row r = (called : ℕ → ℕ → Bool) → ReachAt called row r

  -- Where the table has the set of the function that the row calls, if it does.
  abbrev pub ReachedWith : List WriteSet → ℕ → ℕ → Reach → Type 0
  ReachedWith sets known row r =
      (called : ℕ → ℕ → Bool) → ((f : ℕ) (arguments : Arguments) → expression_at rows row ≡ call f arguments → SetIs S (function_set sets known f) (called f)) → ReachAt called row r
