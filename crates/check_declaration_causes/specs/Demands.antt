-- Demands: what the request demands of declarations, as relations in its words. The tests are those of Causes.
use Rattle.std.specs.Prelude.{◌≡◌, true, List, ℕ, ◌<◌, ◌≤◌, ℤ}
use Rattle.words.specs.Table.{row_count, number_at}
use Rattle.words.specs.Links.{link}
use Rattle.check_structure.specs.Structured.{Leads}
use Rattle.check_structure.specs.Lists.{Before}
use Rattle.words.specs.Declarations.{is_declaration, declaration_count}
use Rattle.names.specs.Names.{is_name}
use Rattle.check_items.specs.Items.{ListItem}
use Rattle.check_parameter_causes.specs.Demands.{NotParameter}

-- The rows of a declaration's initial expression: b, and what stands below it.
pub data InInitial (rows : List ℤ) (declaration : ℕ) : ℕ → Type 0 where
  whole : Leads rows declaration 2 → InInitial rows declaration (link rows declaration 2)
  below : {row field : ℕ} → field < 6 → Leads rows row field → InInitial rows declaration row → InInitial rows declaration (link rows row field)

-- "It is an item of a block": kind 42, whose list begins at a. A parameter, which has no b, need not be.
abbrev pub BlockItem : List ℤ → ℕ → Type 0
BlockItem rows row = is_declaration rows row ≡ true → (number_at rows row 2 ≡ 0 → ⊥) → ListItem rows 42 1 row

-- No "initial expression naming its own number".
abbrev pub NotOwn : List ℤ → ℕ → Type 0
NotOwn rows row = is_declaration rows row ≡ true → (name : ℕ) → InInitial rows row name → is_name rows name ≡ true → number_at rows name 1 ≡ number_at rows row 1 → ⊥

-- No "number declared twice in one block".
abbrev pub NotTwice : List ℤ → ℕ → Type 0
NotTwice rows row =
    is_declaration rows row ≡ true → (earlier : ℕ) → Before rows earlier row → is_declaration rows earlier ≡ true → number_at rows earlier 1 ≡ number_at rows row 1 → ⊥

-- "There are D of them, at most 64".
abbrev pub FewDeclarations : List ℤ → Type 0
FewDeclarations rows = declaration_count rows ≤ 64

-- What 18, 19 and 20 ask of the rows.
pub record WellDeclared (rows : List ℤ) : Type 0 where
  pub not_own : (row : ℕ) → row < row_count rows → NotOwn rows row
  pub not_twice : (row : ℕ) → row < row_count rows → NotTwice rows row
  pub not_parameter : (row : ℕ) → row < row_count rows → NotParameter rows row
  pub few_declarations : FewDeclarations rows
