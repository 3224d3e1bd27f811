-- Laws of depth: in a tree of rows the depth that is computed is the depth of document 01.
use Rattle.std.specs.Prelude.{◌≡◌, List, ℕ, ◌+◌, ◌≤◌, ◌<◌, ℤ, None}
use Rattle.std.proofs.Common.{subst, sym, ap, ◌∙◌}
use native.Mathlib.Omega.{arith}
use Rattle.std.proofs.Math.Decide.{ℕ_discrete}
use Rattle.std.proofs.Math.Arith.{lt_of_le-ne}
use borrow.Author.Tests.{ne_eqb, ltb-false, le-ltb}
use Rattle.words.specs.Table.{row_count}
use Rattle.words.specs.Layout.{depth_limit}
use Rattle.words.specs.declared.Form.{Form}
use Rattle.words.specs.Links.{link}
use Rattle.words.specs.Search.{lowest_row}
use Rattle.words.specs.SearchLaws.{lowest_row-all, all-lowest_row}
use Rattle.check_structure.specs.Links.{deeper, depth_at, too_deep}
use Rattle.check_structure.specs.LinkLaws.{by-owner}
use Rattle.check_structure.specs.NoteLaws.{note-root, note-link}
use Rattle.check_structure.specs.Structured.{Leads, Tree, Depth, root, owned, beside, Shallow}

pub depth-root : (rows : List ℤ) → depth_at rows 0 ≡ 1
unfolding depth_at
depth-root rows = note-root deeper 1 rows

module _ (rows : List ℤ) (t : Tree rows) where
  pub depth-owned : (row field : ℕ) → field < 5 → Leads rows row field → depth_at rows (link rows row field) ≡ depth_at rows row + 1
  unfolding depth_at deeper
  depth-owned row field h leads = note-link deeper 1 rows t row field (omega arith) leads ∙ rw (ne_eqb field 5 (λ q. omega arith))

  pub depth-beside : (row : ℕ) → Leads rows row 5 → depth_at rows (link rows row 5) ≡ depth_at rows row
  unfolding depth_at deeper
  depth-beside row leads = note-link deeper 1 rows t row 5 (omega arith) leads

  -- a row has one depth
  pub depth_is : {row depth : ℕ} → Depth rows row depth → depth_at rows row ≡ depth
  depth_is root = depth-root rows
  depth_is (owned {row} {field} {depth} h leads d) = depth-owned row field h leads ∙ ap (λ (x : ℕ). x + 1) (depth_is d)
  depth_is (beside {row} {depth} leads d) = depth-beside row leads ∙ depth_is d

  depth-along : (row field : ℕ) → field < 6 → Leads rows row field → Depth rows row (depth_at rows row) → Depth rows (link rows row field) (depth_at rows (link rows row field))
  depth-along row field h leads d = go (ℕ_discrete field 5)
    where
      go : Dec (field ≡ 5) → Depth rows (link rows row field) (depth_at rows (link rows row field))
      go (yes q) =
          subst (λ (x : ℕ). Leads rows row x → Depth rows (link rows row x) (depth_at rows (link rows row x))) (sym q)
          (λ l. subst (Depth rows (link rows row 5)) (sym (depth-beside row l)) (beside l d)) leads
      go (no q) =
          let below = lt_of_le-ne (omega arith) q in
          subst (Depth rows (link rows row field)) (sym (depth-owned row field below leads)) (owned below leads d)

  -- and each row has one
  pub depth-of : (row : ℕ) → row < row_count rows → Depth rows row (depth_at rows row)
  depth-of = by-owner rows t (λ (row : ℕ). Depth rows row (depth_at rows row)) (subst (Depth rows 0) (sym (depth-root rows)) root) depth-along

  -- only rows of the table have a depth
  pub depth-inside : {row depth : ℕ} → Depth rows row depth → row < row_count rows
  depth-inside root = t.some_rows
  depth-inside (owned h leads d) = leads.inside
  depth-inside (beside leads d) = leads.inside

  -- cause 9: no row is too deep exactly where the rows are shallow
  pub none-deep-shallow : (form : Form) → lowest_row rows (too_deep form rows) ≡ None → Shallow form rows
  unfolding too_deep
  none-deep-shallow form e row depth d =
      let within : depth_at rows row ≤ depth_limit form = ltb-false _ _ (lowest_row-all rows (too_deep form rows) e row (depth-inside d)) in
      let same = depth_is d in
      omega arith

  pub shallow-none-deep : (form : Form) → Shallow form rows → lowest_row rows (too_deep form rows) ≡ None
  unfolding too_deep
  shallow-none-deep form s = all-lowest_row rows (too_deep form rows) (λ row n. le-ltb _ _ (s row (depth_at rows row) (depth-of row n)))
