-- Passes: what the code's loops compute: one pass for the causes 3, 4 and 6, marks for cause 5, a walk down the links for cause 9.
use Rattle.std.specs.Prelude.{◌≡◌, Bool, List, ℕ, zero, suc, ◌+◌, ◌/◌, ◌%◌, ◌<◌, ◌≤◌, min, ltb, eqb, ℤ, length, get_or, set, false, Err, None, Ok, Option, Result, Some}
use Rattle.words.specs.Word.{pick}
use Rattle.words.specs.Table.{row_count}
use Rattle.words.specs.Layout.{row_limit}
use Rattle.words.specs.declared.Form.{Form}
use Rattle.words.specs.Causes.{cause_number}
use Rattle.words.specs.Refusals.{NumberedRefusal}
use Rattle.words.specs.declared.Cause.{Cause}
use Rattle.words.specs.Links.{link, target}
use Rattle.check_fields.specs.Fields.{foreign, mislinked, outside}
use Rattle.check_structure.specs.Links.{links_among, link_count, not_once, depth_at}
use Rattle.check_structure.specs.Refusal.{at, ◌next◌}
use Rattle.words.specs.Search.{lowest_row}
use Rattle.check_structure.specs.Structured.{Leads}
use Rattle.check_fields.specs.declared.Bounds.{Bounds}

-- ---- one pass for the causes 3, 4 and 6

-- The least of the three causes that a field breaks; 7 where it breaks none.
abbrev pub least_of : Bool → Bool → Bool → ℕ
least_of foreignField mislinkedField outsideField = pick foreignField 3 (pick mislinkedField 4 (pick outsideField 6 7))

unfoldable pub field_cause : Form → Bounds → List ℤ → ℕ → ℕ → ℕ
field_cause form bounds rows row field = least_of (foreign form rows row field) (mislinked rows row field) (outside bounds rows row field)

-- The least cause of the first `count` fields.
unfoldable pub least_cause : (ℕ → ℕ) → ℕ → ℕ
least_cause cause_of zero = 7
least_cause cause_of (suc count) = min (least_cause cause_of count) (cause_of count)

unfoldable pub row_cause : Form → Bounds → List ℤ → ℕ → ℕ
row_cause form bounds rows row = least_cause (field_cause form bounds rows row) 6

-- One row more: a lower cause counts, at this row.
unfoldable pub lowered : NumberedRefusal → ℕ → ℕ → NumberedRefusal
lowered found cause row = pick (ltb cause found.number) (record { number = cause; place = row }) found

-- The least cause of the first `count` rows, at the lowest row that has it.
unfoldable pub lowest_cause : (ℕ → ℕ) → ℕ → NumberedRefusal
lowest_cause cause_of zero = record { number = 7; place = 0 }
lowest_cause cause_of (suc count) = lowered (lowest_cause cause_of count) (cause_of count) count

-- The same as the code keeps it, with nothing where none of the three is broken.
abbrev pub number_of : Option Cause → Option ℕ
number_of None = None
number_of (Some cause) = Some (cause_number cause)

abbrev pub cause_named : ℕ → Option ℕ
cause_named cause = pick (ltb cause 7) (Some cause) None

-- The first of two causes.
abbrev pub first_of : Option ℕ → Option ℕ → Option ℕ
first_of None other = other
first_of (Some one) None = Some one
first_of (Some one) (Some other) = Some (min one other)

abbrev pub verdict_of : NumberedRefusal → Result (Unit {0}) NumberedRefusal
verdict_of found = pick (ltb found.number 7) (Err found) (Ok tt)

-- One row more.
abbrev pub lowered_by : Result (Unit {0}) NumberedRefusal → Option ℕ → ℕ → Result (Unit {0}) NumberedRefusal
lowered_by found None row = found
lowered_by (Ok tt) (Some cause) row = Err (record { number = cause; place = row })
lowered_by (Err refusal) (Some cause) row = pick (ltb cause refusal.number) (Err (record { number = cause; place = row })) (Err refusal)

-- It comes before cause 5.
abbrev pub comes_first : Result (Unit {0}) NumberedRefusal → Bool
comes_first (Ok tt) = false
comes_first (Err refusal) = ltb refusal.number 5

-- Causes 5 and 6, with what the pass found: 6, or none.
unfoldable pub later_causes : List ℤ → Result (Unit {0}) NumberedRefusal → Result (Unit {0}) NumberedRefusal
later_causes rows found =
    at 5 (lowest_row rows (λ row. not_once rows (link_count rows row) row)) next found

-- ---- marks of how often a row is linked: 0, 1, or 2 for more

unfoldable pub capped : ℕ → ℕ
capped zero = 0
capped (suc zero) = 1
capped (suc (suc n)) = 2

-- One link more.
unfoldable pub raised : ℕ → ℕ
raised mark = pick (ltb mark 2) (mark + 1) mark

unfoldable pub marked : List ℕ → ℕ → List ℕ
marked marks row = set marks row (raised (get_or marks row 0))

-- The mark of a field; 0 is no link.
unfoldable pub marked_link : List ℕ → ℕ → List ℕ
marked_link marks linked = pick (eqb linked 0) marks (marked marks linked)

-- The marks at the start, with room for all rows that the form may have.
pub record Unmarked (form : Form) (marks : List ℕ) : Type 0 where
  pub room : row_limit form ≤ length marks
  pub none : (row : ℕ) → row < length marks → get_or marks row 0 ≡ 0

-- The marks of the links among the first `words` words; row 0 has none.
pub record Marked (rows : List ℤ) (words : ℕ) (marks : List ℕ) : Type 0 where
  pub room : row_count rows ≤ length marks
  pub counts : (row : ℕ) → 0 < row → row < row_count rows → get_or marks row 0 ≡ capped (links_among rows words row)

-- The marks of the first `count` rows are taken away.
pub record Cleared (count : ℕ) (before after : List ℕ) : Type 0 where
  pub same : length after ≡ length before
  pub none : (row : ℕ) → row < count → get_or after row 0 ≡ 0

-- ---- notes that go along the links

-- What a word writes: where it links a row, that row's note.
unfoldable pub written : (ℕ → ℕ → ℕ → ℕ) → List ℤ → ℕ → List ℕ → List ℕ
written hand rows word notes = pick (eqb (target rows word) 0) notes (set notes (target rows word) (hand (word / 6) (word % 6) (get_or notes (word / 6) 0)))

-- Every row of the table has its note.
pub record Notes (rows : List ℤ) (note_of : ℕ → ℕ) (notes : List ℕ) : Type 0 where
  pub room : row_count rows ≤ length notes
  pub is : (row : ℕ) → row < row_count rows → get_or notes row 0 ≡ note_of row

-- ---- the walk down the links

-- A row is reached from another by links.
pub data Under (rows : List ℤ) : ℕ → ℕ → Type 0 where
  here : {row : ℕ} → Under rows row row
  down : {row field below : ℕ} → field < 6 → Leads rows row field → Under rows (link rows row field) below → Under rows row below

-- Reached through one of the fields of a row before `last`.
pub record Through (rows : List ℤ) (row last below : ℕ) : Type 0 where
  pub field : ℕ
  pub before : field < last
  pub leads : Leads rows row field
  pub under : Under rows (link rows row field) below

-- Of the rows that are reached, `found` is the lowest whose depth is over the limit; the number of rows where none is.
pub record LowestDeep (limit : ℕ) (rows : List ℤ) (Reached : ℕ → Type 0) (found : ℕ) : Type 0 where
  pub most : found ≤ row_count rows
  pub least : (row : ℕ) → Reached row → limit < depth_at rows row → found ≤ row
  pub deep : found < row_count rows → limit < depth_at rows found
