-- The last lines of a page: they have no more rows than all, and fit as all do.
use Rattle.std.specs.Prelude.{None, Option, Some}
use mathlib.Core.Path.{◌≡◌, refl, sym, ap, ◌∙◌}
use mathlib.Core.List.{List, [], ◌∷◌}
use Prim.Native.Nat.{ℕ, zero, suc, ◌+◌, ◌*◌, ◌-◌, ◌/◌, ◌≤◌, ◌<◌, min}
use native.Mathlib.Omega.{arith}
use native.Mathlib.Numerals.{add-one}
use lib.ListN.{length, take, drop}
use Rattle.page_words.specs.declared.Names.{Names}
use Rattle.page_words.specs.declared.LineContent.{LineContent}
use Rattle.page_frame.specs.Frames.{statement_in}
use Rattle.page_blocks.specs.Scans.{line_rows, with_line, lines_from, lines_in}
use Rattle.page_blocks.specs.LinesFit.{lines_rows, AllFit}

module _ (names : Names) (page : List ℕ) where
  abbrev statement_at : ℕ → Option LineContent
  statement_at k = statement_in names (take 81 (drop (81 * k) page))

  -- One line more.
  pub one_more : (left k : ℕ) → lines_from names page (suc left) k ≡ with_line (statement_at k) (lines_from names page left (suc k))
  unfolding lines_from
  one_more left k = ap (λ (n : ℕ). with_line (statement_at k) (lines_from names page left n)) (add-one k)

  more-rows : (read : Option LineContent) (lines : List LineContent) → lines_rows lines ≤ lines_rows (with_line read lines)
  more-rows None lines = omega arith
  more-rows (Some line) lines = omega arith

  pub rows-within : (k left : ℕ) → lines_rows (lines_from names page left k) ≤ lines_rows (lines_from names page (left + k) 0)
  rows-within zero left = let all : left + 0 ≡ left = omega arith in rw all (omega arith)
  rows-within (suc k) left =
      let sum : suc left + k ≡ left + suc k = omega arith in
      let step = rows-within k (suc left) in
      let first : lines_rows (with_line (statement_at k) (lines_from names page left (suc k))) ≤ lines_rows (lines_from names page (left + suc k) 0) = rw (one_more left k, sum) at step in
      omega (arith, more-rows (statement_at k) (lines_from names page left (suc k)))

  less-fit : (read : Option LineContent) (lines : List LineContent) → AllFit names (with_line read lines) → AllFit names lines
  unfolding AllFit
  less-fit None lines h = h
  less-fit (Some line) lines h = h.1

  pub fit-within : (k left : ℕ) → AllFit names (lines_from names page (left + k) 0) → AllFit names (lines_from names page left k)
  fit-within zero left h = let all : left + 0 ≡ left = omega arith in rw all at h
  fit-within (suc k) left h =
      let sum : left + suc k ≡ suc left + k = omega arith in
      let step = fit-within k (suc left) (rw sum at h) in
      less-fit (statement_at k) (lines_from names page left (suc k)) (rw (one_more left k) at step)
