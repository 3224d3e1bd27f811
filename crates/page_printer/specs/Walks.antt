-- Walks: a list's items printed one after the other.
use Rattle.std.specs.Prelude.{◌≡◌, refl, ℕ, ◌+◌, ◌*◌, ◌≤◌, ◌<◌, ℤ, length}
use Rattle.std.proofs.Common.{sym, ◌∙◌, arith, length-append}
use Rattle.std.proofs.Math.Path.{ap, subst}
use mathlib.Core.List.{List, [], ◌++◌, append_assoc, append-nil}
use Rattle.words.specs.Table.{row_count, number_at}
use Rattle.language.specs.Decode.{statement_at, list_at}
use Rattle.page.specs.declared.Sizes.{Sizes}
use Rattle.page.specs.Lines.{Indented, statement_lines, branch_lines, items_lines}
use Rattle.page_line.specs.Reads.{Readable}
use Rattle.page_line.specs.Printed.{Printed}
use Rattle.page_line.specs.PrintedLaws.{printed-none, printed-next}
use Rattle.page_line.specs.LaidLaws.{laid-length}
use Rattle.page_printer.specs.declared.Outline.{Outline}
use Rattle.page_printer.specs.Outlines.{outline_at, block_list, outlined}
use Rattle.page_printer.specs.Ready.{Ready}
use Rattle.page_printer.specs.ReadyLaws.{ready-first, ready-behind}
use Rattle.page_printer.specs.OutlineLaws.{block-lines, next_inside}
use Rattle.page_printer.specs.CountLaws.{list-split}

-- The lines of a list before a row were printed.
pub record Walked (sizes : Sizes) (rows : List ℤ) (all : List Indented) (level done : ℕ) (page : List ℕ) (row lines : ℕ) (left : List ℕ) : Type 0 where
  pub before : List Indented
  pub split : all ≡ before ++ items_lines level (list_at rows row)
  pub printed : Printed sizes before page done lines left
  pub inside : row < row_count rows

pub walked_start : (sizes : Sizes) (rows : List ℤ) (level done first : ℕ) (page : List ℕ) → 81 * done ≤ length page → first < row_count rows
    → Walked sizes rows (items_lines level (list_at rows first)) level done page first done page
walked_start sizes rows level done first page room inside = record { before = []; split = refl; printed = printed-none page done room; inside = inside }

module _ {sizes : Sizes} {rows : List ℤ} {all : List Indented} {level done row lines : ℕ} {page left : List ℕ} (w : Walked sizes rows all level done page row lines left) where
  pub walked-length : length left ≡ length page
  walked-length = laid-length w.printed.laid

  module _ (ready : Ready sizes rows all level done page) (some : row ≡ 0 → ⊥) where
    abbrev own : List Indented
    own = outlined rows level (outline_at rows row)

    abbrev behind : List Indented
    behind = items_lines level (list_at rows (number_at rows row 5))

    whole : all ≡ w.before ++ (own ++ behind)
    whole = w.split ∙ ap (λ (ls : List Indented). w.before ++ ls) (list-split ready.readable w.inside level (number_at rows row 5) some refl)

    pub walked-ready : Ready sizes rows own level lines left
    walked-ready = ready-first own behind (ready-behind w.before (own ++ behind) (subst (λ (ls : List Indented). Ready sizes rows ls level done page) whole ready) w.printed)

    pub walked-few : length own ≤ length all
    walked-few = omega (arith, ap length whole, length-append w.before (own ++ behind), length-append own behind)

    pub walked_next : (end next : ℕ) (last : List ℕ) → next ≡ number_at rows row 5 → Printed sizes own left lines end last → Walked sizes rows all level done page next end last
    walked_next end next last e p = record {
      before = w.before ++ own;
      split = rw e (whole ∙ sym (append_assoc w.before own behind));
      printed = printed-next w.printed p;
      inside = rw e (next_inside ready.readable w.inside);
    }

  pub walked_end : row ≡ 0 → Printed sizes all page done lines left
  unfolding statement_lines
  walked_end z =
      let e : all ≡ w.before = w.split ∙ ap (λ (r : ℕ). w.before ++ items_lines level (list_at rows r)) z ∙ append-nil w.before in
      subst (λ (ls : List Indented). Printed sizes ls page done lines left) (sym e) w.printed

-- what a match tells of the outline
pub printed-of : {sizes : Sizes} {page left : List ℕ} {done next : ℕ} (rows : List ℤ) (level row : ℕ) {o : Outline} → outline_at rows row ≡ o
    → Printed sizes (outlined rows level o) page done next left → Printed sizes (outlined rows level (outline_at rows row)) page done next left
printed-of {sizes} {page} {left} {done} {next} rows level row e p = subst (λ (o : Outline). Printed sizes (outlined rows level o) page done next left) (sym e) p

pub ready_of : {sizes : Sizes} {rows : List ℤ} {page : List ℕ} {done : ℕ} (level row : ℕ) {o : Outline} → outline_at rows row ≡ o
    → Ready sizes rows (outlined rows level (outline_at rows row)) level done page → Ready sizes rows (outlined rows level o) level done page
ready_of {sizes} {rows} {page} {done} level row e r = subst (λ (o : Outline). Ready sizes rows (outlined rows level o) level done page) e r

pub printed-as : {sizes : Sizes} {xs ys : List Indented} {page left : List ℕ} {done next : ℕ} → xs ≡ ys → Printed sizes ys page done next left → Printed sizes xs page done next left
printed-as {sizes} {xs} {ys} {page} {left} {done} {next} e p = subst (λ (ls : List Indented). Printed sizes ls page done next left) (sym e) p

-- the lines of a block are those of its list
pub block-list-lines : {rows : List ℤ} (readable : Readable rows) (level block list : ℕ) → block < row_count rows → list ≡ block_list rows block
    → branch_lines level (statement_at rows block) ≡ items_lines level (list_at rows list)
block-list-lines readable level block list b e = rw e (block-lines readable b level)
