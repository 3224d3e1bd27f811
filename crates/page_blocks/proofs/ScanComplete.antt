-- Complete: the page of balanced lines that fit is scanned to its end.
use Rattle.std.specs.Prelude.{◌≡◌, Bool, true, false, eqb, take, drop, Err, Ok, Some, None, Option}
use Rattle.std.proofs.Math.Path.{refl, ap}
use Rattle.std.proofs.Common.{sym, ◌∙◌, ⊎_elim, add-one, length-append, take_at, drop_at, drop-drop, eq-eqb}
use mathlib.Core.List.{List, [], ◌∷◌, ◌++◌}
use Prim.Native.Nat.{ℕ, zero, suc, ◌+◌, ◌*◌, ◌/◌, ◌-◌, ◌≤◌, ◌<◌, min}
use native.Mathlib.Omega.{arith}
use Rattle.std.proofs.Math.ListN.{length}
use Rattle.page.specs.declared.Sizes.{Sizes}
use Rattle.page.specs.Lines.{indented}
use Rattle.page.specs.Page.{name, line_bytes, lines_bytes}
use Rattle.page.proofs.Widths.{variable-width, behind-width, line-columns}
use Rattle.page_words.specs.Texts.{LineFits}
use Rattle.page_words.specs.Trees.{Within, line_tree, Named, Declares, line-fits}
use Rattle.page_words.specs.declared.Names.{Names}
use Rattle.page_words.specs.declared.LineContent.{LineContent}
use Rattle.page_frame.specs.Frames.{level_of, line_in}
use Rattle.page_frame.proofs.FrameComplete.{line-in-complete}
use Rattle.page_blocks.specs.Blocks.{Open, outside, in_arguments, in_parameters, level_in, behind, onward, balanced, levels}
use Rattle.page_blocks.specs.Scans.{line_rows, ended, stepped, scan_from, scan}
use Rattle.page_blocks.specs.LinesFit.{lines_rows, AllFit}

never : {G : Type 0} → false ≡ true → G
never e = absurd (let z : ◌≡◌ {A = ℕ} 0 1 = cc in omega arith)

module _ (names : Names) (few_variables : names.variables ≤ 256) (few_behind : names.declared + names.temporaries ≤ 8256) (few_arrays : names.arrays ≤ 32) (sizes : Sizes) (within : Within sizes names) (page : List ℕ) where
  name-width : (i : ℕ) → Named sizes names within i → length (name sizes i) ≤ 5
  name-width i = ⊎_elim (λ v. variable-width sizes i (omega arith)) (λ t. behind-width sizes i t.0 (omega (arith, t.1)))

  declared-width : (i : ℕ) → Declares sizes names within i → length (name sizes i) ≤ 5
  declared-width i d = behind-width sizes i d.0 (omega (arith, d.1, within.same_declared))

  line-long : (number level : ℕ) (line : LineContent) → number < 100000 → LineFits names line → length (line_bytes sizes number (indented level (line_tree sizes line))) ≡ 81
  line-long number level line few h = line-columns {Names = Named sizes names within} {Parameters = Declares sizes names within} {arrays = names.arrays} sizes name-width declared-width few_arrays number level (line_tree sizes line) few (line-fits sizes names within line h)

  -- The rest of a page from a line on.
  rest-complete : (lines : List LineContent) (done : ℕ) (around : Open) (rows : ℕ) → done + length lines ≤ 81958 → AllFit names lines → balanced lines around ≡ true
      → drop (81 * done) page ≡ lines_bytes sizes (done + 1) (levels sizes lines around) → length page ≡ 81 * (done + length lines) → scan_from names page (length lines) done around rows ≡ Ok (rows + lines_rows lines)
  unfolding scan_from balanced levels lines_bytes AllFit
  rest-complete [] done (outside []) rows few h b e long =
      let all : 81 * done ≡ length page = omega arith in
      let none_more : rows ≡ rows + 0 = omega arith in
      rw (eq-eqb (81 * done) (length page) all) (ap Ok none_more)
  rest-complete [] done (outside (flag ∷ blocks)) rows few h b e long = never b
  rest-complete [] done (in_arguments blocks) rows few h b e long = never b
  rest-complete [] done (in_parameters blocks) rows few h b e long = never b
  rest-complete (line ∷ lines) done around rows few h b e long =
      from (λ a r. rest-complete lines (done + 1) a r (omega arith) h.1) (behind line around) refl b e
    where
      first : List ℕ
      first = line_bytes sizes (done + 1) (indented (level_of (level_in around) line) (line_tree sizes line))

      size : length first ≡ 81
      size = line-long (done + 1) (level_of (level_in around) line) line (omega arith) h.0

      from : ((a : Open) (r : ℕ) → balanced lines a ≡ true → drop (81 * (done + 1)) page ≡ lines_bytes sizes (done + 1 + 1) (levels sizes lines a) → length page ≡ 81 * (done + 1 + length lines)
          → scan_from names page (length lines) (done + 1) a r ≡ Ok (r + lines_rows lines))
          → (b : Option Open) → behind line around ≡ b → onward false (λ a. balanced lines a) b ≡ true → drop (81 * done) page ≡ first ++ lines_bytes sizes (done + 1 + 1) (onward [] (λ a. levels sizes lines a) b)
          → stepped (line_in names (done + 1) (level_in around) (take 81 (drop (81 * done) page))) (done + 1) around (λ line a. scan_from names page (length lines) (done + 1) a (rows + line_rows line)) ≡ Ok (rows + (line_rows line + lines_rows lines))
      from ih None q balances bytes = never balances
      from ih (Some a) q balances bytes =
          let rest = lines_bytes sizes (done + 1 + 1) (levels sizes lines a) in
          let here : take 81 (drop (81 * done) page) ≡ first = ap (take 81) bytes ∙ take_at first rest 81 size in
          let read : line_in names (done + 1) (level_in around) (take 81 (drop (81 * done) page)) ≡ Some line =
          ap (line_in names (done + 1) (level_in around)) here ∙ line-in-complete names few_variables few_behind few_arrays sizes within (done + 1) (level_in around) line (omega arith) h.0 in
          let next : 81 * done + 81 ≡ 81 * (done + 1) = omega arith in
          let behind-it : drop (81 * (done + 1)) page ≡ rest = ap (λ (n : ℕ). drop n page) (sym next) ∙ sym (drop-drop 81 (81 * done) page) ∙ ap (drop 81) bytes ∙ drop_at first rest 81 size in
          let sum : rows + line_rows line + lines_rows lines ≡ rows + (line_rows line + lines_rows lines) = omega arith in
          ap (λ (r : Option LineContent). stepped r (done + 1) around (λ line a. scan_from names page (length lines) (done + 1) a (rows + line_rows line))) read
          ∙ ap (onward (Err (done + 1)) (λ a. scan_from names page (length lines) (done + 1) a (rows + line_rows line))) q
          ∙ ih a (rows + line_rows line) balances behind-it (omega arith) ∙ ap Ok sum

  -- The bytes of balanced lines that fit, few enough, are scanned to their end, and their rows are counted.
  pub scan-complete : (lines : List LineContent) → length lines ≤ 81958 → AllFit names lines → balanced lines (outside []) ≡ true → page ≡ lines_bytes sizes 1 (levels sizes lines (outside [])) → length page ≡ 81 * length lines
      → scan names page ≡ Ok (1 + lines_rows lines)
  unfolding scan
  scan-complete lines few h b e long =
      let all : min (length page / 81) 81958 ≡ length lines = omega arith in
      ap (λ (n : ℕ). scan_from names page n 0 (outside []) 1) all ∙ rest-complete lines 0 (outside []) 1 (omega arith) h b e (omega arith)
