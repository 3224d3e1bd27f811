-- Sources: what the check gives of a source table, as far as its names are concerned.
use Rattle.std.specs.Prelude.{◌≡◌, true, false, List, ℕ, ◌<◌, ℤ}
use Rattle.words.specs.Table.{row_count, number_at}
use Rattle.words.specs.Declarations.{is_declaration}
use Rattle.words.specs.Layout.{Layout}
use Rattle.words.specs.declared.Form.TheVariants.{Source}
use Rattle.words_roles.specs.Roles.{is_parameter}
use Rattle.check_fields.specs.Fields.{source_bounds}
use Rattle.check_structure.specs.Structured.{Structured}
use Rattle.check_places.specs.Places.{is_mark}
use Rattle.check_items.specs.Items.{ListItem}
use Rattle.check_function_causes.specs.Demands.{WellCalled}

-- Its marks are items of switches (kind 47, whose list begins at b), its declarations items of blocks (kind 42, at a), parameters apart; its functions
-- and calls are in order.
pub record SourceRows (L : Layout) (rows : List ℤ) : Type 0 where
  pub structured : Structured Source (source_bounds L) rows
  pub marks : (row : ℕ) → row < row_count rows → is_mark (number_at rows row 0) ≡ true → ListItem rows 47 2 row
  pub declarations : (row : ℕ) → row < row_count rows → is_declaration rows row ≡ true → is_parameter rows row ≡ false → ListItem rows 42 1 row
  pub called : WellCalled rows
