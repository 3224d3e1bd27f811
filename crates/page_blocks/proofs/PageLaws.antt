-- Laws of pages: a page without a wrong line is read by page/Reading as the program that its lines are read as by page/Lines.
use Rattle.std.specs.Prelude.{◌≡◌, refl, Bool, true, false, ℕ, ◌+◌, ◌≤◌, Ok, None, Option, Some}
use Rattle.std.proofs.Common.{sym, ap, ap₂, ◌∙◌, arith}
use mathlib.Core.List.{List, [], ◌∷◌}
use Rattle.language.specs.Trees.{Items}
use Rattle.page.specs.declared.Sizes.{Sizes}
use Rattle.page.specs.Lines.{PageLine, Indented, indented, plain, read_lines}
use Rattle.page.specs.Page.{lines_bytes}
use Rattle.page.specs.Reading.{read_page}
use Rattle.page.proofs.ReadBack.{lines-read-page}
use Rattle.page.proofs.Fits.{all_none, all_more}
use Rattle.page.proofs.Fits as page-fits
use Rattle.page_words.specs.Trees.{Within, line_tree, Named, Declares, line-fits}
use Rattle.page_words.specs.declared.Names.{Names}
use Rattle.page_words.specs.declared.LineContent.{LineContent}
use Rattle.page_frame.specs.Frames.{level_of}
use Rattle.page_blocks.specs.Blocks.{Open, outside, behind, onward, balanced, trees, levels}
use Rattle.page_blocks.specs.Scans.{scan, lines_in}
use Rattle.page_blocks.specs.LinesFit.{AllFit, lines_rows}
use Rattle.page_blocks.proofs.ScanLaws.{IsPage, scan-sound}
use Rattle.page_blocks.proofs.RowLaws.{program-rows}

never : {G : Type 0} → false ≡ true → G
never e = absurd (let z : ◌≡◌ {A = ℕ} 0 1 = cc in omega arith)

-- The lines of balanced lines with their levels, without these.
plain-levels : (sizes : Sizes) (lines : List LineContent) (around : Open) → balanced lines around ≡ true → plain (levels sizes lines around) ≡ trees sizes lines
unfolding balanced levels plain
plain-levels sizes [] around b = refl
plain-levels sizes (line ∷ lines) around b = after (λ a. plain-levels sizes lines a) (behind line around) b
  where
    after : ((a : Open) → balanced lines a ≡ true → plain (levels sizes lines a) ≡ trees sizes lines) → (o : Option Open) → onward false (λ a. balanced lines a) o ≡ true
        → line_tree sizes line ∷ plain (onward [] (λ a. levels sizes lines a) o) ≡ line_tree sizes line ∷ trees sizes lines
    after ih None q = never q
    after ih (Some a) q = ap (λ (l : List PageLine). line_tree sizes line ∷ l) (ih a q)

module _ (names : Names) (few_variables : names.variables ≤ 256) (few_behind : names.declared + names.temporaries ≤ 8256) (few_arrays : names.arrays ≤ 32) (sizes : Sizes) (within : Within sizes names) where
  levels-fit : (lines : List LineContent) (around : Open) → AllFit names lines → page-fits.AllFit (Named sizes names within) names.arrays (Declares sizes names within) (levels sizes lines around)
  unfolding AllFit levels
  levels-fit [] around h = all_none
  levels-fit (line ∷ lines) around h = all_more (line-fits sizes names within line h.0) (after (λ a. levels-fit lines a h.1) (behind line around))
    where
      after : ((a : Open) → page-fits.AllFit (Named sizes names within) names.arrays (Declares sizes names within) (levels sizes lines a)) → (o : Option Open)
          → page-fits.AllFit (Named sizes names within) names.arrays (Declares sizes names within) (onward [] (λ a. levels sizes lines a) o)
      after ih None = all_none
      after ih (Some a) = ih a

  -- What page/Reading and page/Lines read, and the rows that were counted.
  pub record ReadsAs (page : List ℕ) (total : ℕ) : Type 0 where
    pub items : Items
    pub page-read : read_page sizes page ≡ Some items
    pub lines-read : read_lines (trees sizes (lines_in names page)) ≡ Some items
    pub fit : AllFit names (lines_in names page)
    pub counted : total ≡ 1 + lines_rows (lines_in names page)

  pub scan-reads : (page : List ℕ) (total : ℕ) → scan names page ≡ Ok total → ReadsAs page total
  scan-reads page total e =
      let p = scan-sound names few_variables few_behind few_arrays sizes within page total e in
      let lines = p.lines in
      let read = lines-read-page {Names = Named sizes names within} {arrays = names.arrays} sizes {Parameters = Declares sizes names within} (levels sizes lines (outside [])) p.items (levels-fit lines (outside []) p.fit)
      (ap read_lines (plain-levels sizes lines (outside []) p.balances) ∙ p.read) (p.printed ∙ p.bytes) in
      record {
        items = p.items;
        page-read = ap (read_page sizes) p.bytes ∙ read;
        lines-read = rw p.statements at p.read;
        fit = rw p.statements at p.fit;
        counted = rw p.statements at p.counted;
      }
