-- Structured: what document 01 demands of the rows of both forms, apart from depth and from what each form demands by itself.
use Rattle.std.specs.Prelude.{◌≡◌, true, List, ℕ, ◌+◌, ◌*◌, ◌<◌, ◌≤◌, ℤ, length}
use Rattle.words.specs.Table.{row_count, number_at}
use Rattle.words.specs.Layout.{count_fits, depth_limit}
use Rattle.words.specs.declared.Form.{Form}
use Rattle.words.specs.Kinds.{unused, sort_at, in_language, is_required}
use Rattle.words.specs.Links.{link, fits}
use Rattle.words_roles.specs.Roles.{role_sort}
use Rattle.check_fields.specs.Fields.{number_fits}
use Rattle.check_structure.specs.Links.{link_count}
use Rattle.check_fields.specs.declared.Bounds.{Bounds}

-- A field links a later row of the table.
pub record Leads (rows : List ℤ) (row field : ℕ) : Type 0 where
  pub later : row < link rows row field
  pub inside : link rows row field < row_count rows

-- Of each row and each of its fields a, b, c, d and next.
abbrev pub EachField : List ℤ → (ℕ → ℕ → Type 0) → Type 0
EachField rows P = (row : ℕ) → row < row_count rows → (field : ℕ) → 1 ≤ field → field < 6 → P row field

-- Of rows, with the bounds of the numbers that they may name.
pub record Structured (form : Form) (bounds : Bounds) (rows : List ℤ) : Type 0 where
  -- "A source program has 1 to 2,048 rows."
  pub count-fits : count_fits form (length rows) ≡ true
  -- Every kind is in the language. "Unused fields are 0."
  pub known : (row : ℕ) → row < row_count rows → in_language form (number_at rows row 0) ≡ true
  pub unused_zero : EachField rows (λ row field. sort_at rows row field ≡ unused → number_at rows row field ≡ 0)
  -- "A link is a row number greater than the row's own; 0 means absent." It leads to a row of the sort that fits the field, by the row's
  -- role: a parameter has no b, and its next is a parameter.
  pub present : EachField rows (λ row field. is_required (role_sort rows row field) ≡ true → 0 < link rows row field)
  pub forward : EachField rows (λ row field. 0 < link rows row field → Leads rows row field)
  pub fitting : EachField rows (λ row field. 0 < link rows row field → fits rows (role_sort rows row field) (link rows row field) ≡ true)
  -- "Row 0 is a block with next 0, and every other row is linked exactly once."
  pub block : number_at rows 0 0 ≡ 42
  pub lone : number_at rows 0 5 ≡ 0
  pub once : (row : ℕ) → 0 < row → row < row_count rows → link_count rows row ≡ 1
  -- Every variable, array and label number names one.
  pub named : EachField rows (λ row field. number_fits bounds (sort_at rows row field) (number_at rows row field) ≡ true)

-- "Depth: row 0 has 1, a row has its owner's plus 1, items of one list share theirs." So do the arms of a list.
pub data Depth (rows : List ℤ) : ℕ → ℕ → Type 0 where
  root : Depth rows 0 1
  owned : {row field depth : ℕ} → field < 5 → Leads rows row field → Depth rows row depth → Depth rows (link rows row field) (depth + 1)
  beside : {row depth : ℕ} → Leads rows row 5 → Depth rows row depth → Depth rows (link rows row 5) depth

-- "The limit is 64." Kernel: "depth up to 512".
abbrev pub Shallow : Form → List ℤ → Type 0
Shallow form rows = (row depth : ℕ) → Depth rows row depth → depth ≤ depth_limit form

-- What the causes 2, 4 and 5 leave to later passes: a tree of rows, each linked once, by an earlier row.
pub record Tree (rows : List ℤ) : Type 0 where
  pub whole : 6 * row_count rows ≡ length rows
  pub few : row_count rows ≤ 40980
  pub some_rows : 0 < row_count rows
  pub once : (row : ℕ) → 0 < row → row < row_count rows → link_count rows row ≡ 1
  pub forward : (row field : ℕ) → row < row_count rows → field < 6 → 0 < link rows row field → Leads rows row field
