-- Laws of scans: a page without a wrong line is the page of its program.
use Rattle.std.specs.Prelude.{◌≡◌, true, eqb, take, Err, None, Ok, Some, Option}
use Rattle.std.proofs.Math.Path.{refl, sym, ap}
use Rattle.std.proofs.Common.{ap₂, ◌∙◌, take-append-drop, drop-drop}
use mathlib.Core.List.{List, [], ◌∷◌, ◌++◌}
use Prim.Native.Nat.{ℕ, zero, suc, ◌+◌, ◌*◌, ◌/◌, ◌≤◌, ◌<◌, min}
use native.Mathlib.Omega.{arith}
use Rattle.std.proofs.Math.ListN.{length, drop, length-take, length-drop, drop_of_length-le}
use borrow.Author.Tests.{eqb-true}
use Rattle.words.specs.Laws.{by_cases}
use Rattle.language.specs.Trees.{Items}
use Rattle.page.specs.declared.Sizes.{Sizes}
use Rattle.page.specs.Lines.{read_lines}
use Rattle.page.specs.Page.{lines_bytes, page_bytes}
use Rattle.page_words.specs.Trees.{Within}
use Rattle.page_words.specs.declared.Names.{Names}
use Rattle.page_words.specs.declared.LineContent.{LineContent}
use Rattle.page_frame.specs.Frames.{line_in, statement_in}
use Rattle.page_frame.proofs.FrameLaws.{statement-in, line-in-sound}
use Rattle.page_blocks.specs.Blocks.{Open, outside, in_arguments, in_parameters, level_in, behind, onward, balanced, trees, levels}
use Rattle.page_blocks.proofs.BlockLaws.{balanced-program}
use Rattle.page_blocks.specs.Scans.{line_rows, ended, stepped, scan_from, scan, with_line, lines_from, lines_in}
use Rattle.page_blocks.specs.LinesFit.{AllFit, lines_rows}

-- The rest of a page: its lines, whose blocks close, whose bytes it is, and whose rows are counted.
pub record IsRest (names : Names) (sizes : Sizes) (rest : List ℕ) (number : ℕ) (around : Open) (rows total : ℕ) (statements : List LineContent) : Type 0 where
  pub lines : List LineContent
  pub read : lines ≡ statements
  pub fit : AllFit names lines
  pub balances : balanced lines around ≡ true
  pub bytes : rest ≡ lines_bytes sizes number (levels sizes lines around)
  pub counted : total ≡ rows + lines_rows lines

module _ (names : Names) (few_variables : names.variables ≤ 256) (few_behind : names.declared + names.temporaries ≤ 8256) (few_arrays : names.arrays ≤ 32) (sizes : Sizes) (within : Within sizes names) (page : List ℕ) where
  wrong : {G : Type 0} (n total : ℕ) → Err n ≡ Ok total → G
  wrong n total e = absurd (let z : ◌≡◌ {A = ℕ} 0 1 = cc in omega arith)

  end-sound : (done : ℕ) (around : Open) (rows total : ℕ) → ended (eqb (81 * done) (length page)) around rows (done + 1) ≡ Ok total → IsRest names sizes (drop (81 * done) page) (done + 1) around rows total []
  unfolding balanced levels lines_bytes AllFit
  end-sound done (outside []) rows total e =
      by_cases (eqb (81 * done) (length page))
      (λ t.
      let long : 81 * done ≡ length page = eqb-true (81 * done) (length page) t in
      let found : Ok rows ≡ Ok total = rw t at e in
      let same : rows ≡ total = cc in
      record { lines = []; read = refl; fit = tt; balances = refl; bytes = drop_of_length-le page {i = 81 * done} (omega arith); counted = omega arith })
      (λ t. wrong (done + 1) total (rw t at e))
  end-sound done (outside (flag ∷ blocks)) rows total e = by_cases (eqb (81 * done) (length page)) (λ t. wrong (done + 1) total (rw t at e)) (λ t. wrong (done + 1) total (rw t at e))
  end-sound done (in_arguments blocks) rows total e = by_cases (eqb (81 * done) (length page)) (λ t. wrong (done + 1) total (rw t at e)) (λ t. wrong (done + 1) total (rw t at e))
  end-sound done (in_parameters blocks) rows total e = by_cases (eqb (81 * done) (length page)) (λ t. wrong (done + 1) total (rw t at e)) (λ t. wrong (done + 1) total (rw t at e))

  -- One line before the rest.
  line-sound : (done : ℕ) (around a : Open) (rows total : ℕ) (line : LineContent) (statements : List LineContent) → done < 99999 → 81 * (done + 1) ≤ length page
      → line_in names (done + 1) (level_in around) (take 81 (drop (81 * done) page)) ≡ Some line → behind line around ≡ Some a
      → IsRest names sizes (drop (81 * (done + 1)) page) (done + 1 + 1) a (rows + line_rows line) total statements
      → IsRest names sizes (drop (81 * done) page) (done + 1) around rows total (with_line (statement_in names (take 81 (drop (81 * done) page))) statements)
  unfolding balanced levels lines_bytes AllFit
  line-sound done around a rows total line statements few long e q r =
      let size : length (take 81 (drop (81 * done) page)) ≡ 81 = length-take 81 (drop (81 * done) page) ∙ omega (arith, length-drop (81 * done) page) in
      let s = line-in-sound names few_variables few_behind few_arrays sizes within (done + 1) (level_in around) (take 81 (drop (81 * done) page)) line (omega arith) size e in
      let next : 81 * done + 81 ≡ 81 * (done + 1) = omega arith in
      record {
        lines = line ∷ r.lines;
        read =
            ap (λ (lines : List LineContent). line ∷ lines) r.read
            ∙ sym (ap (λ (l : Option LineContent). with_line l statements) (statement-in names (done + 1) (level_in around) (take 81 (drop (81 * done) page)) line e));
        fit = (s.1, r.fit);
        balances = rw q r.balances;
        bytes = sym (take-append-drop 81 (drop (81 * done) page)) ∙ rw q (ap₂ (λ (l m : List ℕ). l ++ m) s.0 (drop-drop 81 (81 * done) page ∙ ap (λ (n : ℕ). drop n page) next ∙ r.bytes));
        counted = omega (arith, r.counted);
      }

  rest-sound : (left done : ℕ) (around : Open) (rows total : ℕ) → done + left < 99999 → 81 * (done + left) ≤ length page → scan_from names page left done around rows ≡ Ok total
      → IsRest names sizes (drop (81 * done) page) (done + 1) around rows total (lines_from names page left done)
  unfolding scan_from lines_from
  rest-sound zero done around rows total few long e = end-sound done around rows total e
  rest-sound (suc left) done around rows total few long e =
      from (λ a r. rest-sound left (done + 1) a r total (omega arith) (omega arith)) (line_in names (done + 1) (level_in around) (take 81 (drop (81 * done) page))) refl e
    where
      after : ((a : Open) (r : ℕ) → scan_from names page left (done + 1) a r ≡ Ok total → IsRest names sizes (drop (81 * (done + 1)) page) (done + 1 + 1) a r total (lines_from names page left (done + 1))) → (line : LineContent)
          → line_in names (done + 1) (level_in around) (take 81 (drop (81 * done) page)) ≡ Some line → (b : Option Open) → behind line around ≡ b
          → onward (Err (done + 1)) (λ a. scan_from names page left (done + 1) a (rows + line_rows line)) b ≡ Ok total
          → IsRest names sizes (drop (81 * done) page) (done + 1) around rows total (lines_from names page (suc left) done)
      after ih line p None q t = wrong (done + 1) total t
      after ih line p (Some a) q t = line-sound done around a rows total line (lines_from names page left (done + 1)) (omega arith) (omega arith) p q (ih a (rows + line_rows line) t)

      from : ((a : Open) (r : ℕ) → scan_from names page left (done + 1) a r ≡ Ok total → IsRest names sizes (drop (81 * (done + 1)) page) (done + 1 + 1) a r total (lines_from names page left (done + 1))) → (r : Option LineContent)
          → line_in names (done + 1) (level_in around) (take 81 (drop (81 * done) page)) ≡ r → stepped r (done + 1) around (λ line a. scan_from names page left (done + 1) a (rows + line_rows line)) ≡ Ok total
          → IsRest names sizes (drop (81 * done) page) (done + 1) around rows total (lines_from names page (suc left) done)
      from ih None p t = wrong (done + 1) total t
      from ih (Some line) p t = after ih line p (behind line around) refl t

  -- A page without a wrong line: its lines are those of a program, read by page/Lines, whose page it is.
  pub record IsPage (total : ℕ) : Type 0 where
    pub lines : List LineContent
    pub statements : lines ≡ lines_in names page
    pub fit : AllFit names lines
    pub balances : balanced lines (outside []) ≡ true
    pub bytes : page ≡ lines_bytes sizes 1 (levels sizes lines (outside []))
    pub items : Items
    pub read : read_lines (trees sizes lines) ≡ Some items
    pub printed : page_bytes sizes items ≡ page
    pub counted : total ≡ 1 + lines_rows lines

  pub scan-sound : (total : ℕ) → scan names page ≡ Ok total → IsPage total
  unfolding scan page_bytes lines_in
  scan-sound total e =
      let left = min (length page / 81) 81958 in
      let r = rest-sound left 0 (outside []) 1 total (omega arith) (omega arith) e in
      let p = balanced-program sizes r.lines r.balances in
      record {
        lines = r.lines;
        statements = r.read;
        fit = r.fit;
        balances = r.balances;
        bytes = r.bytes;
        items = p.items;
        read = p.read;
        printed = sym (r.bytes ∙ ap (lines_bytes sizes 1) p.printed);
        counted = r.counted;
      }
