-- MarkTree: a search tree of marks for each list, by which the first repeated mark is found.
-- The nodes are rows. `roots` has for each row the root of its list's tree; `children` has two places for each node, 0 where a child is
-- absent.
use Rattle.std.specs.Prelude.{◌≡◌, Bool, true, false, List, ℕ, ◌+◌, ◌*◌, ◌/◌, ◌%◌, ◌<◌, ◌≤◌, eqb, ℤ, length, get_or, set, None, Option, Some}
use Rattle.std.specs.Int.Signed.{mag}
use Rattle.words.specs.Word.{pick}
use Rattle.words.specs.Table.{row_count, word_at, number_at}
use Rattle.check_structure.specs.Lists.{Before}
use Rattle.check_places.specs.Places.{is_mark}
use Rattle.check_marks.specs.Marks.{same_mark, mark_before, repeated}

-- ---- roots: the marks of one list share theirs

-- The root of the mark before the row; the row itself where there is none.
abbrev pub root_by : ℕ → List ℕ → ℕ → ℕ
root_by before roots row = pick (eqb before 0) row (get_or roots before 0)

-- A node stands before the row in its list. (Row 0 is no node: 0 says that a child is absent.)
pub record NodeBefore (rows : List ℤ) (node row : ℕ) : Type 0 where
  pub present : node ≡ 0 → ⊥
  pub before : Before rows node row

-- The root is the first of the marks of the row's list, or the row itself.
pub data Begins (rows : List ℤ) : ℕ → ℕ → Type 0 where
  itself : {row : ℕ} → Begins rows row row
  earlier : {root row : ℕ} → NodeBefore rows root row → Begins rows root row

-- The roots of the first `count` rows are written.
pub record Roots (rows : List ℤ) (count : ℕ) (roots : List ℕ) : Type 0 where
  pub room : row_count rows ≤ length roots
  pub begins : (row : ℕ) → row < count → Begins rows (get_or roots row 0) row
  pub shared : (row : ℕ) → row < count → (mark_before rows row ≡ 0 → ⊥) → get_or roots row 0 ≡ get_or roots (mark_before rows row) 0

-- ---- ways down a tree

-- Equal marks have equal keys.
unfoldable pub key_at : List ℤ → ℕ → ℕ
key_at rows mark = mag (word_at rows mark 1)

-- The child that the lowest bit of a key chooses.
abbrev pub child : List ℕ → ℕ → ℕ → ℕ
child children node key = get_or children (2 * node + key % 2) 0

-- A key leads down from a node to another; each level takes a bit, and `rest` is what is left of the key.
pub data Leading (children : List ℕ) : ℕ → ℕ → ℕ → ℕ → Type 0 where
  stay : {node key : ℕ} → Leading children node key node key
  down : {node key last rest : ℕ} → (child children node key ≡ 0 → ⊥) → Leading children (child children node key) (key / 2) last rest → Leading children node key last rest

pub record Reached (children : List ℕ) (root key mark : ℕ) : Type 0 where
  pub rest : ℕ
  pub leads : Leading children root key mark rest

-- ---- trees of the marks before a row

-- A child stands behind its node in their list, and at a row before this one.
pub record Children (rows : List ℤ) (row : ℕ) (children : List ℕ) : Type 0 where
  pub room : 2 * row_count rows ≤ length children
  pub behind : (place : ℕ) → (get_or children place 0 ≡ 0 → ⊥) → Before rows (place / 2) (get_or children place 0)
  pub lower : (place : ℕ) → (get_or children place 0 ≡ 0 → ⊥) → get_or children place 0 < row

-- If the row is a mark, it is in its list's tree.
abbrev pub InTree : List ℤ → List ℕ → List ℕ → ℕ → Type 0
InTree rows roots children mark = is_mark (number_at rows mark 0) ≡ true → Reached children (get_or roots mark 0) (key_at rows mark) mark

-- Every mark before the row is in its list's tree.
pub record HoldsMarks (rows : List ℤ) (roots : List ℕ) (row : ℕ) (children : List ℕ) : Type 0 where
  pub nodes : Children rows row children
  pub reached : (mark : ℕ) → mark < row → InTree rows roots children mark

-- A place for the row in the tree of this root, whose marks of the row's key all differ from the row's.
pub record Free (rows : List ℤ) (children : List ℕ) (root row place : ℕ) : Type 0 where
  pub behind : Before rows (place / 2) row
  pub absent : get_or children place 0 ≡ 0
  pub reaches : Reached (set children place row) root (key_at rows row) row
  pub differ : (mark : ℕ) → Reached children root (key_at rows row) mark → same_mark rows mark row ≡ false

-- A mark has a free place, or is a repeated one.
abbrev pub Placing : List ℤ → List ℕ → ℕ → ℕ → Option ℕ → Type 0
Placing rows children root row (Some place) = Free rows children root row place
Placing rows children root row None = repeated rows row ≡ true

-- The row is taken in, and is no repeated mark.
pub record Taken (rows : List ℤ) (roots : List ℕ) (row : ℕ) (children : List ℕ) : Type 0 where
  pub holds_marks : HoldsMarks rows roots (row + 1) children
  pub new : repeated rows row ≡ false

-- It is taken in, or is a repeated mark.
abbrev pub Taking : List ℤ → List ℕ → ℕ → List ℕ → Bool → Type 0
Taking rows roots row children true = Taken rows roots row children
Taking rows roots row children false = repeated rows row ≡ true
