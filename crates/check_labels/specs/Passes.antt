-- Passes: what the code's loops for cause 13 compute. Rows of one label number are chained, and each number is looked at by itself:
-- its labels mark their lists, and from each of its gotos a climb looks for a marked list.
use Rattle.std.specs.Prelude.{◌≡◌, Bool, true, List, ℕ, ◌+◌, ◌<◌, ◌≤◌, ltb, eqb, ℤ, length, get_or}
use Rattle.words.specs.Word.{pick}
use Rattle.words.specs.Table.{row_count, number_at}
use Rattle.words.specs.Kinds.{between}
use Rattle.words.specs.Links.{link, note}
use Rattle.check_structure.specs.Passes.{Notes}
use Rattle.check_structure.specs.Structured.{Tree}
use Rattle.check_labels.specs.Labels.{is_label, owning}
use Rattle.check_labels.specs.Ahead.{Label}
use Rattle.check_labels.specs.declared.LabelNote.{LabelNote}
use Rattle.check_labels.specs.declared.LabelNote.TheVariants.{First, Owner}

-- ---- notes: the first row of each row's list, and its owner

unfoldable pub handed : LabelNote → List ℤ → ℕ → ℕ → ℕ → ℕ
handed First rows linker field first = pick (eqb field 5) first (link rows linker field)
handed Owner rows linker field owner = owning linker field owner

unfoldable pub note_at : LabelNote → List ℤ → ℕ → ℕ
note_at which rows row = note (handed which rows) 0 rows row

-- What a climb from owner to owner goes by. (Row 0 has no next.)
pub record Noted (rows : List ℤ) (firsts owners : List ℕ) : Type 0 where
  pub tree : Tree rows
  pub lone : link rows 0 5 ≡ 0
  pub first_rows : Notes rows (note_at First rows) firsts
  pub owner_rows : Notes rows (note_at Owner rows) owners

-- ---- chains: the gotos and labels of one number, in order

-- 52 goto, 53 label, with this label number.
pub record Jump (rows : List ℤ) (number row : ℕ) : Type 0 where
  pub inside : row < row_count rows
  pub jump : between 52 53 (number_at rows row 0) ≡ true
  pub number_is : number_at rows row 1 ≡ number

-- The first of them from a row on; a number past the table where there is none.
pub record NextJump (rows : List ℤ) (number from next : ℕ) : Type 0 where
  pub least : from ≤ next
  pub none_before : (row : ℕ) → from ≤ row → row < next → Jump rows number row → ⊥
  pub is : next < row_count rows → Jump rows number next

-- "A label number (0 to 40,979)": what cause 6 leaves to this one.
abbrev pub LabelNumbers : List ℤ → Type 0
LabelNumbers rows = (row : ℕ) → row < row_count rows → between 52 53 (number_at rows row 0) ≡ true → number_at rows row 1 < 40980

-- Of the rows from a row on: where the chain of each number begins.
pub record Heads (rows : List ℤ) (from : ℕ) (heads : List ℕ) : Type 0 where
  pub room : 40980 ≤ length heads
  pub head : (number : ℕ) → number < 40980 → NextJump rows number from (get_or heads number 0)

-- What follows each of them in its chain.
pub record Chain (rows : List ℤ) (from : ℕ) (chain : List ℕ) : Type 0 where
  pub room : row_count rows ≤ length chain
  pub follows : (number row : ℕ) → from ≤ row → Jump rows number row → NextJump rows number (row + 1) (get_or chain row 0)

-- ---- marks: for each list, by its first row, a label of it

pub record ListLabel (rows : List ℤ) (first row : ℕ) : Type 0 where
  pub inside : row < row_count rows
  pub label : number_at rows row 0 ≡ 53
  pub list : note_at First rows row ≡ first

-- A mark is 0, or a label of the list.
pub record Marks (rows : List ℤ) (marks : List ℕ) : Type 0 where
  pub room : row_count rows ≤ length marks
  pub own : (first : ℕ) → first < row_count rows → 0 < get_or marks first 0 → ListLabel rows first (get_or marks first 0)

-- Where a list has labels with this number before a row, its mark is one with the number, and no earlier one.
pub record Latest (rows : List ℤ) (number row mark : ℕ) : Type 0 where
  pub late : row ≤ mark
  pub label : is_label rows number mark ≡ true

pub record Marked (rows : List ℤ) (number upto : ℕ) (marks : List ℕ) : Type 0 where
  pub labels : Marks rows marks
  pub latest : (row : ℕ) → row < row_count rows → row < upto → Label rows number row → Latest rows number row (get_or marks (note_at First rows row) 0)

-- ---- the lowest row with a property, among those that are reached; the number of rows where there is none

pub record LowestAmong (rows : List ℤ) (Reached : ℕ → Type 0) (property : ℕ → Bool) (found : ℕ) : Type 0 where
  pub most : found ≤ row_count rows
  pub least : (row : ℕ) → row < row_count rows → Reached row → property row ≡ true → found ≤ row
  pub is : found < row_count rows → property found ≡ true

-- A row that is tested, and the lowest found before it.
unfoldable pub lower : Bool → ℕ → ℕ → ℕ
lower test row found = pick test (pick (ltb row found) row found) found

-- Rows with a smaller label number.
abbrev pub NumberBelow : List ℤ → ℕ → ℕ → Type 0
NumberBelow rows number row = number_at rows row 1 < number

-- And rows with this number that stand before a row.
pub data Passed (rows : List ℤ) (number upto row : ℕ) : Type 0 where
  smaller : number_at rows row 1 < number → Passed rows number upto row
  earlier : number_at rows row 1 ≡ number → row < upto → Passed rows number upto row
