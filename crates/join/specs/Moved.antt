-- Moved: a table that holds another one's rows at other places, with its links led along; and the seam of a join, where links are written anew.
use Rattle.std.specs.Prelude.{Bool, ◌&&◌, ◌||◌, List, ℤ, ◌≡◌, ℕ, zero, suc, ◌<◌, eqb}
use Rattle.check_function_causes.specs.Functions.{is_definition, function_around}
use Rattle.std.proofs.Math.Bool.{true, false}
use Rattle.words.specs.Table.{row_count, Whole, word_at, number_at}
use Rattle.words.specs.Kinds.{sort_at, variable, declared_number, function_number, is_link}
use Rattle.words.specs.Links.{link}
use Rattle.check_structure.specs.Structured.{Leads}
use Rattle.join.specs.Join.{first_item}
use Rattle.check_function_causes.specs.Demands.{DefinedInOrder}

-- Words that a join writes anew: the first item and the next of row 0, and the next of a definition.
unfoldable pub at_seam : List ℤ → ℕ → ℕ → Bool
at_seam rows row field = (eqb row 0 && (eqb field 1 || eqb field 5)) || (is_definition rows row && eqb field 5)

-- Where a link leads; 0 stays absent.
abbrev pub moved_link : (ℕ → ℕ) → ℕ → ℕ
moved_link ρ zero = 0
moved_link ρ (suc l) = ρ (suc l)

-- A field of this sort is the number of a function.
abbrev pub numbers_function : ℕ → Bool
numbers_function sort = eqb sort function_number

-- Row r of the table `rows` is row ρ r of the table `joined`, and function f of the one is function φ f of the other.
pub record Holds (joined rows : List ℤ) (ρ φ : ℕ → ℕ) : Type 0 where
  pub whole : Whole joined
  pub inside : (row : ℕ) → row < row_count rows → ρ row < row_count joined
  pub grows : (row field : ℕ) → field < 6 → Leads rows row field → at_seam rows row field ≡ false → ρ row < ρ (link rows row field)
  pub kind : (row : ℕ) → row < row_count rows → word_at joined (ρ row) 0 ≡ word_at rows row 0
  -- Of the words that are kept: a word that is no link and no function's number stays, ..
  pub stays : (row field : ℕ) → row < row_count rows → field < 6 → at_seam rows row field ≡ false → is_link (sort_at rows row field) ≡ false → numbers_function (sort_at rows row field) ≡ false
      → word_at joined (ρ row) field ≡ word_at rows row field
  pub numbered : (row field : ℕ) → row < row_count rows → field < 6 → at_seam rows row field ≡ false → numbers_function (sort_at rows row field) ≡ true
      → number_at joined (ρ row) field ≡ φ (number_at rows row field)
  -- .. and a link leads along.
  pub follows : (row field : ℕ) → row < row_count rows → field < 6 → at_seam rows row field ≡ false → is_link (sort_at rows row field) ≡ true
      → number_at joined (ρ row) field ≡ moved_link ρ (number_at rows row field)
  -- The old block begins behind the definitions.
  pub begins : number_at joined (ρ 0) 1 ≡ moved_link ρ (first_item rows)
  pub begins_later : 0 < first_item rows → ρ 0 < ρ (first_item rows)

-- A field of this sort names a store word, in a table whose names are resolved.
abbrev pub names_word : ℕ → Bool
names_word sort = eqb sort variable || eqb sort declared_number

-- Row r of the table `rows` is row ρ r of the table `joined`, and names the word `π i` where it named the word i, and the function φ f where it named f.
pub record HoldsRenamed (π φ : ℕ → ℕ) (joined rows : List ℤ) (ρ : ℕ → ℕ) : Type 0 where
  pub whole : Whole joined
  pub grows : (row field : ℕ) → field < 6 → Leads rows row field → at_seam rows row field ≡ false → ρ row < ρ (link rows row field)
  pub kind : (row : ℕ) → row < row_count rows → number_at joined (ρ row) 0 ≡ number_at rows row 0
  pub stays : (row field : ℕ) → row < row_count rows → field < 6 → at_seam rows row field ≡ false → is_link (sort_at rows row field) ≡ false → numbers_function (sort_at rows row field) ≡ false
      → names_word (sort_at rows row field) ≡ false → word_at joined (ρ row) field ≡ word_at rows row field
  pub numbered : (row field : ℕ) → row < row_count rows → field < 6 → at_seam rows row field ≡ false → numbers_function (sort_at rows row field) ≡ true
      → number_at joined (ρ row) field ≡ φ (number_at rows row field)
  pub named : (row field : ℕ) → row < row_count rows → field < 6 → at_seam rows row field ≡ false → names_word (sort_at rows row field) ≡ true → number_at joined (ρ row) field ≡ π (number_at rows row field)
  pub follows : (row field : ℕ) → row < row_count rows → field < 6 → at_seam rows row field ≡ false → is_link (sort_at rows row field) ≡ true
      → number_at joined (ρ row) field ≡ moved_link ρ (number_at rows row field)
  pub begins : number_at joined (ρ 0) 1 ≡ moved_link ρ (first_item rows)
  pub begins_later : 0 < first_item rows → ρ 0 < ρ (first_item rows)

-- Definitions come first, in order: what 23 asks.
abbrev pub InOrder : List ℤ → Type 0
InOrder rows = (row : ℕ) → row < row_count rows → DefinedInOrder rows row

-- A row stands in the same function at its new place.
abbrev pub AroundMoved : List ℤ → List ℤ → (ℕ → ℕ) → Type 0
AroundMoved joined rows ρ = (row : ℕ) → row < row_count rows → function_around joined (ρ row) ≡ moved_link ρ (function_around rows row)
