-- Sound tables: what a run asks of a table. Every link that a run follows leads to a later row, and every number names a word of the
-- store: each field holds what the row's role says. Both checks give it. What a run asks of functions and calls is said apart, by the crates
-- that run and translate them.
use Rattle.std.specs.Prelude.{◌≡◌, true, List, ℕ, ◌<◌, ◌≤◌, ℤ, length}
use Rattle.words.specs.Table.{row_count, Whole, number_at}
use Rattle.words.specs.Kinds.{kind_at, unused, variable, array, declared_number, place, optional_arm, is_link, is_required, is_place_kind}
use Rattle.words.specs.Layout.{Layout, store_size}
use Rattle.words.specs.declared.Kind.TheVariants.{OfStatement, OfMember, Other}
use Rattle.words.specs.declared.StatementKind.TheVariants.{Block}
use Rattle.words.specs.declared.MemberKind.TheVariants.{Arm}
use Rattle.words_roles.specs.Roles.{role_sort}

-- `rows` is the table, L the layout, `words` the number of words in the store.
module _ (rows : List ℤ) (L : Layout) (words : ℕ) where
  -- The field of the row links a later row of the table.
  pub record Link (row field : ℕ) : Type 0 where
    pub later : row < number_at rows row field
    pub inside : number_at rows row field < row_count rows

  -- The same, or the field is 0.
  abbrev pub OptionalLink : ℕ → ℕ → Type 0
  OptionalLink row field = 0 < number_at rows row field → Link row field

  abbrev pub PlaceLink : ℕ → ℕ → Type 0
  PlaceLink row field = Link row field × (is_place_kind (kind_at rows (number_at rows row field)) ≡ true)

  -- The field links an arm, or is 0.
  abbrev pub ArmLink : ℕ → ℕ → Type 0
  ArmLink row field = 0 < number_at rows row field → Link row field × (kind_at rows (number_at rows row field) ≡ OfMember Arm)

  -- What a field holds, by its sort.
  pub record SoundField (row field sort : ℕ) : Type 0 where
    pub unused_zero : sort ≡ unused → number_at rows row field ≡ 0
    pub names-word : sort ≡ variable → number_at rows row field < words
    pub declares-word : sort ≡ declared_number → number_at rows row field < words
    pub names-array : sort ≡ array → number_at rows row field < length L.lengths
    pub present : is_required sort ≡ true → 0 < number_at rows row field
    pub forward : is_link sort ≡ true → OptionalLink row field
    pub at_place : sort ≡ place → is_place_kind (kind_at rows (number_at rows row field)) ≡ true
    pub at-arm : sort ≡ optional_arm → 0 < number_at rows row field → kind_at rows (number_at rows row field) ≡ OfMember Arm

  pub record Sound : Type 0 where
    pub whole : Whole rows
    pub some_rows : 0 < row_count rows
    pub root : kind_at rows 0 ≡ OfStatement Block
    pub known : (row : ℕ) → row < row_count rows → kind_at rows row ≡ Other → ⊥
    pub fields : (row : ℕ) → row < row_count rows → (field : ℕ) → 1 ≤ field → field < 6 → SoundField row field (role_sort rows row field)
    pub store_fits : store_size L ≤ words
