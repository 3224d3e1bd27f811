-- Links: how often a row is linked; depth. Causes 5 and 9.
use Rattle.std.specs.Prelude.{Bool, not, ◌&&◌, List, ℕ, zero, suc, ◌+◌, ◌*◌, ltb, eqb, ℤ}
use Rattle.words.specs.Word.{pick, one}
use Rattle.words.specs.Table.{row_count, number_at}
use Rattle.words.specs.Layout.{depth_limit}
use Rattle.words.specs.declared.Form.{Form}
use Rattle.words.specs.Links.{target, note}

-- How many of the first `words` words link the row.
unfoldable pub links_among : List ℤ → ℕ → ℕ → ℕ
links_among rows zero row = 0
links_among rows (suc word) row = links_among rows word row + one (eqb (target rows word) row)

unfoldable pub link_count : List ℤ → ℕ → ℕ
link_count rows row = links_among rows (6 * row_count rows) row

-- "Row 0 is a block with next 0".
unfoldable pub lone_block : List ℤ → Bool
lone_block rows = eqb (number_at rows 0 0) 42 && eqb (number_at rows 0 5) 0

-- Cause 5: "row 0 not a lone block, or a row not linked exactly once"; `count` says how often the row is linked.
unfoldable pub not_once : List ℤ → ℕ → ℕ → Bool
not_once rows count row = pick (eqb row 0) (not (lone_block rows)) (not (eqb count 1))

-- "Depth: row 0 has 1, a row has its owner's plus 1, items of one list share theirs." So do the arms of a list.
unfoldable pub deeper : ℕ → ℕ → ℕ → ℕ
deeper owner field depth = pick (eqb field 5) depth (depth + 1)

unfoldable pub depth_at : List ℤ → ℕ → ℕ
depth_at rows row = note deeper 1 rows row

-- Cause 9: "depth over the limit".
unfoldable pub too_deep : Form → List ℤ → ℕ → Bool
too_deep form rows row = ltb (depth_limit form) (depth_at rows row)
