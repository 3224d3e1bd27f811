-- Legal: what document 01 demands of a kernel program ("Kernel form"), and Change 13 of its functions.
use Rattle.std.specs.Prelude.{◌≡◌, true, List, ℕ, ◌<◌, ℤ}
use Rattle.words.specs.Table.{row_count, number_at}
use Rattle.words.specs.Layout.{header_fits}
use Rattle.words.specs.declared.Form.TheVariants.{Kernel}
use Rattle.words.specs.Links.{is_statement}
use Rattle.check_fields.specs.Fields.{bounds_of}
use Rattle.check_structure.specs.Structured.{Structured, Shallow}
use Rattle.check_labels.specs.Ahead.{Label, Ahead}
use Rattle.check_kernel_statements.specs.Statements.{is_kernel_statement}
use Rattle.check_declaration_causes.specs.Demands.{NotTwice}
use Rattle.check_function_causes.specs.Demands.{ReturnInside, WellCalled}

pub record Legal (header rows : List ℤ) : Type 0 where
  -- "A kernel program has a header with T temporaries (0 to 8,192)".
  pub header-fits : header_fits Kernel header ≡ true
  -- Count of rows, kinds, unused fields, links, row 0, numbers.
  pub structured : Structured Kernel (bounds_of Kernel header) rows
  -- "Depth up to 512."
  pub shallow : Shallow Kernel rows
  -- "Statements: empty; block; ..".
  pub formed : (row : ℕ) → row < row_count rows → is_statement rows row ≡ true → is_kernel_statement rows row ≡ true
  -- "A label number (0 to 40,979) stands once",
  pub labels_once : (number row other : ℕ) → Label rows number row → Label rows number other → row ≡ other
  -- "and a goto's label is a later item of a list that encloses it"; it "stays inside its function".
  pub gotos_ahead : (row : ℕ) → row < row_count rows → number_at rows row 0 ≡ 52 → Ahead rows (number_at rows row 1) row
  -- No "return outside a function",
  pub returns_inside : (row : ℕ) → row < row_count rows → ReturnInside rows row
  -- no two parameters of one function with one word,
  pub not_twice : (row : ℕ) → row < row_count rows → NotTwice rows row
  -- no "definition out of order or not at the front", and no "call to no function, to its own or a higher one, or with the wrong number of
  -- arguments".
  pub well_called : WellCalled rows
