-- Laws of counts: the lines of an item and of a list, by those of its parts.
use Rattle.std.specs.Prelude.{◌≡◌, refl, List, [], ◌∷◌, ◌++◌, ℕ, zero, suc, ◌+◌, ◌-◌, ◌≤◌, ◌<◌, ℤ, length}
use Rattle.std.proofs.Common.{sym, ap, subst, ◌∙◌, arith, length-append}
use Rattle.words.specs.Table.{row_count, number_at}
use Rattle.language.specs.Decode.{expression_at, argument_list_at, parameter_list_at, statement_at, items_at, list_at}
use Rattle.language.specs.Calls.{argument_count}
use Rattle.page.specs.Lines.{Indented, indented, closes, definition_lines, branch_lines, items_lines}
use Rattle.page_line.specs.declared.LineAt.{LineAt}
use Rattle.page_line.specs.declared.LineAt.TheVariants.{Turns, If}
use Rattle.page_line.specs.Reads.{Readable}
use Rattle.page_printer.specs.declared.Outline.{Outline}
use Rattle.page_printer.specs.declared.Outline.TheVariants.{Enclosed, Split, Called, Defined}
use Rattle.page_printer.specs.Outlines.{if_outline, outline_at, block_list, enclosed, outlined, OutlineInside}
use Rattle.page_printer.specs.Ready.{Sized}
use Rattle.page_printer.specs.Levels.{argument-lines-count, definition-count, items-level}
use Rattle.page_printer.specs.OutlineLaws.{outline-inside, item-lines, block-lines, block_inside, next_inside}

pub if-split : (test first second : ℕ) → (second ≡ 0 → ⊥) → Split (If test) first second ≡ if_outline test first second
if-split test first zero h = absurd (h refl)
if-split test first (suc second) h = refl

-- the rows ahead in a list, none at its end
abbrev pub ahead : ℕ → ℕ → ℕ
ahead count zero = 0
ahead count (suc row) = count - row

pub ahead-falls : (count row r : ℕ) → (row ≡ 0 → ⊥) → row < count → (0 < r → row < r) → ahead count r < ahead count row
ahead-falls count zero r z h g = absurd (z refl)
ahead-falls count (suc row) zero z h g = omega arith
ahead-falls count (suc row) (suc r) z h g = let q = g (omega arith) in omega arith

-- the list at a row that is not 0
pub list-row : (rows : List ℤ) (row : ℕ) → (row ≡ 0 → ⊥) → list_at rows row ≡ items_at rows row
list-row rows zero h = absurd (h refl)
list-row rows (suc row) h = refl

module _ {rows : List ℤ} (readable : Readable rows) {row : ℕ} (inside : row < row_count rows) where
  -- what a match tells of the outline
  pub told-inside : {o : Outline} → outline_at rows row ≡ o → OutlineInside (row_count rows) o
  told-inside e = subst (λ (o : Outline). OutlineInside (row_count rows) o) e (outline-inside readable inside)

  -- the lines of a list: those of its first item, and those behind
  pub list-split : (level next : ℕ) → (row ≡ 0 → ⊥) → next ≡ number_at rows row 5 → items_lines level (list_at rows row) ≡ outlined rows level (outline_at rows row) ++ items_lines level (list_at rows next)
  list-split level next h e = rw (list-row rows row h, e) (item-lines readable inside level)

  pub list_count : (next : ℕ) → (row ≡ 0 → ⊥) → next ≡ number_at rows row 5
      → length (items_lines 0 (list_at rows row)) ≡ length (outlined rows 0 (outline_at rows row)) + length (items_lines 0 (list_at rows next))
  list_count next h e = ap length (list-split 0 next h e) ∙ length-append (outlined rows 0 (outline_at rows row)) (items_lines 0 (list_at rows next))

  block-count : (block list : ℕ) → block < row_count rows → list ≡ block_list rows block → length (branch_lines 1 (statement_at rows block)) ≡ length (items_lines 0 (list_at rows list))
  block-count block list b e = rw e (ap length (block-lines readable b 1) ∙ items-level 1 0 (list_at rows (block_list rows block)))

  pub enclosed-count : (line : LineAt) (block list : ℕ) → outline_at rows row ≡ Enclosed line block → list ≡ block_list rows block
      → length (outlined rows 0 (outline_at rows row)) ≡ length (items_lines 0 (list_at rows list)) + 2
  enclosed-count line block list e g =
      rw e (omega (arith, length-append (branch_lines 1 (statement_at rows block)) (indented 0 closes ∷ []), block-count block list (told-inside e).1 g))

  pub split-count : (line : LineAt) (first second one other : ℕ) → outline_at rows row ≡ Split line first second → one ≡ block_list rows first → other ≡ block_list rows second
      → length (outlined rows 0 (outline_at rows row)) ≡ length (items_lines 0 (list_at rows one)) + length (items_lines 0 (list_at rows other)) + 3
  split-count line first second one other e g h =
      rw e (omega (
        arith,
        length-append (branch_lines 1 (statement_at rows first)) (enclosed rows 0 Turns second ++ (indented 0 closes ∷ [])),
        length-append (branch_lines 1 (statement_at rows second)) (indented 0 closes ∷ []),
        block-count first one (told-inside e).1 g,
        block-count second other (told-inside e).2 h,
      ))

  pub called-count : (line : LineAt) (first link : ℕ) → outline_at rows row ≡ Called line first link → length (outlined rows 0 (outline_at rows row)) ≡ argument_count (argument_list_at rows link) + 2
  called-count line first link e = rw e (omega (arith, argument-lines-count 0 (expression_at rows first) (argument_list_at rows link)))

  pub defined-count : (f words body list : ℕ) → outline_at rows row ≡ Defined f words body → list ≡ block_list rows body
      → length (outlined rows 0 (outline_at rows row)) ≡ length (parameter_list_at rows words) + 1 + length (items_lines 0 (list_at rows list)) + 1
  defined-count f words body list e g =
      rw e (omega (
        arith,
        length-append (definition_lines 0 f (parameter_list_at rows words)) (branch_lines 1 (statement_at rows body) ++ (indented 0 closes ∷ [])),
        length-append (branch_lines 1 (statement_at rows body)) (indented 0 closes ∷ []),
        definition-count 0 f (parameter_list_at rows words),
        block-count body list (told-inside e).1 g,
      ))

  -- the list of a block of the item
  pub block-sized : (block list : ℕ) → block < row_count rows → list ≡ block_list rows block → length (items_lines 0 (list_at rows list)) < 100000 → Sized rows (items_lines 0 (list_at rows list)) list
  block-sized block list b e few = record { readable = readable; inside = rw e (block_inside readable b); few = few }
