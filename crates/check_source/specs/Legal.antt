-- Legal: what document 01 demands of a source program, Change 11 of its declarations and Change 13 of its functions.
use Rattle.std.specs.Prelude.{◌≡◌, Bool, true, List, ℕ, ◌<◌, ℤ}
use Rattle.words.specs.Table.{row_count, word_at, number_at}
use Rattle.words.specs.Layout.{header_fits}
use Rattle.words.specs.declared.Form.TheVariants.{Source}
use Rattle.words.specs.Links.{link}
use Rattle.check_fields.specs.Fields.{bounds_of}
use Rattle.check_structure.specs.Structured.{Leads, Structured, Shallow}
use Rattle.check_structure.specs.Lists.{Before}
use Rattle.check_items.specs.Items.{ListItem}
use Rattle.check_declaration_causes.specs.Demands.{BlockItem, WellDeclared}
use Rattle.check_function_causes.specs.Demands.{ReturnInside, WellCalled}
use Rattle.check_places.specs.Places.{is_loop, is_loop_or_switch, is_mark}

-- A row stands inside a row of such a kind: as one of its parts, or linked by a row that does.
pub data Inside (rows : List ℤ) (kinds : ℕ → Bool) : ℕ → Type 0 where
  part : {row field : ℕ} → field < 5 → Leads rows row field → kinds (number_at rows row 0) ≡ true → Inside rows kinds (link rows row field)
  along : {row field : ℕ} → field < 6 → Leads rows row field → Inside rows kinds row → Inside rows kinds (link rows row field)

-- An item of a switch's own list: kind 47, whose list begins at b.
abbrev pub SwitchItem : List ℤ → ℕ → Type 0
SwitchItem rows row = ListItem rows 47 2 row

-- "A case or default is an item of a switch's own list. Break stands inside a loop or switch, continue inside a loop." A declaration
-- "is an item of a block". No "return outside a function".
pub record PlacedRow (rows : List ℤ) (row : ℕ) : Type 0 where
  pub break_inside : number_at rows row 0 ≡ 50 → Inside rows is_loop_or_switch row
  pub continue_inside : number_at rows row 0 ≡ 51 → Inside rows is_loop row
  pub mark_inside : is_mark (number_at rows row 0) ≡ true → SwitchItem rows row
  pub declaration_inside : BlockItem rows row
  pub return_inside : ReturnInside rows row

-- No "second equal case, or second default, in one switch".
pub record Distinct (rows : List ℤ) (row : ℕ) : Type 0 where
  pub no_equal_case : number_at rows row 0 ≡ 48 → (mark : ℕ) → Before rows mark row → number_at rows mark 0 ≡ 48 → word_at rows mark 1 ≡ word_at rows row 1 → ⊥
  pub no_second_default : number_at rows row 0 ≡ 49 → (mark : ℕ) → Before rows mark row → number_at rows mark 0 ≡ 49 → ⊥

pub record Legal (header rows : List ℤ) : Type 0 where
  -- "The header holds V variables (0 to 256) and up to 32 array lengths (each 1 to 4,096)".
  pub header-fits : header_fits Source header ≡ true
  -- Count of rows, kinds, unused fields, links, row 0, numbers.
  pub structured : Structured Source (bounds_of Source header) rows
  pub placed : (row : ℕ) → row < row_count rows → PlacedRow rows row
  pub distinct : (row : ℕ) → row < row_count rows → Distinct rows row
  -- "The limit is 64."
  pub shallow : Shallow Source rows
  -- No "initial expression naming its own number", no "number declared twice in one block", and of declarations "at most 64".
  pub well_declared : WellDeclared rows
  -- No "definition out of order or not at the front", and no "call to no function, to its own or a higher one, or with the wrong number of
  -- arguments".
  pub well_called : WellCalled rows
