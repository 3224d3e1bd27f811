-- Laws of the front of a program: its definitions, the item behind them, and the words of a table that a join writes anew, as they link definitions and
-- that item. Every other word links a row of a definition from such a row, and another row from another.
use Rattle.std.specs.Prelude.{◌≡◌, true, false, ◌&&◌, ◌||◌, List, ℤ}
use Rattle.std.proofs.Math.Path.{refl}
use Rattle.std.proofs.Common.{sym, ◌∙◌, true≢false}
use Rattle.std.proofs.Math.Logic.{⊎_elim}
use Prim.Native.Nat.{ℕ, zero, suc, ◌+◌, ◌-◌, ◌≤◌, ◌<◌}
use native.Mathlib.Omega.{arith}
use Rattle.std.proofs.Math.Decide.{ℕ_discrete}
use Rattle.std.proofs.Math.Dec.{eqb}
use borrow.Author.Tests.{eqb-true, ne_eqb}
use Rattle.words.specs.Laws.{by_cases, both, either, or_right}
use Rattle.words.specs.Table.{row_count}
use Rattle.words.specs.Links.{link}
use Rattle.check_structure.specs.NoteLaws.{above_zero}
use Rattle.check_function_causes.specs.Functions.{is_definition}
use Rattle.check_function_causes.specs.Demands.{InFront, foremost, behind}
use Rattle.check_function_causes.proofs.FrontLaws.{front-later, front-inside}
use Rattle.join.specs.Join.{functions_from, item_from, functions_of, first_item}
use Rattle.join.specs.Moved.{at_seam}

-- ---- words at the seam, and others

module _ (rows : List ℤ) where
  -- Which word it is.
  pub data Seam (row field : ℕ) : Type 0 where
    first-of-root : row ≡ 0 → field ≡ 1 → Seam row field
    next-of-root : row ≡ 0 → field ≡ 5 → Seam row field
    next-of-definition : is_definition rows row ≡ true → field ≡ 5 → Seam row field

  pub seam-is : (row field : ℕ) → at_seam rows row field ≡ true → Seam row field
  unfolding at_seam
  seam-is row field e = ⊎_elim
      (λ (a : (eqb row 0 && (eqb field 1 || eqb field 5)) ≡ true). let p = both (eqb row 0) _ a in
      ⊎_elim (λ (q : eqb field 1 ≡ true). first-of-root (eqb-true row 0 p.0) (eqb-true field 1 q)) (λ (q : eqb field 5 ≡ true). next-of-root (eqb-true row 0 p.0) (eqb-true field 5 q)) (either (eqb field 1) (eqb field 5) p.1))
      (λ (b : (is_definition rows row && eqb field 5) ≡ true). let p = both (is_definition rows row) (eqb field 5) b in next-of-definition p.0 (eqb-true field 5 p.1))
      (either (eqb row 0 && (eqb field 1 || eqb field 5)) (is_definition rows row && eqb field 5) e)

  pub seam-first : at_seam rows 0 1 ≡ true
  unfolding at_seam
  seam-first = refl

  next-root : at_seam rows 0 5 ≡ true
  unfolding at_seam
  next-root = refl

  pub seam-definition : (row : ℕ) → is_definition rows row ≡ true → at_seam rows row 5 ≡ true
  unfolding at_seam
  seam-definition row d = or_right (eqb row 0 && true) (is_definition rows row && true) (rw d)

  -- no kind is such a word
  pub kept-kind : (row : ℕ) → at_seam rows row 0 ≡ false
  unfolding at_seam
  kept-kind row = by_cases (eqb row 0) (λ e. rw e (by_cases (is_definition rows row) (λ d. rw d) (λ d. rw d))) (λ e. rw e (by_cases (is_definition rows row) (λ d. rw d) (λ d. rw d)))

  -- no part of another row
  pub kept-part : (row field : ℕ) → 0 < row → field < 5 → at_seam rows row field ≡ false
  unfolding at_seam
  kept-part row field p f = rw (ne_eqb row 0 (λ q. omega arith), ne_eqb field 5 (λ q. omega arith)) (by_cases (is_definition rows row) (λ d. rw d) (λ d. rw d))

  -- no word of a row that is neither
  pub kept_row : (row field : ℕ) → 0 < row → is_definition rows row ≡ false → at_seam rows row field ≡ false
  unfolding at_seam
  kept_row row field p d = rw (ne_eqb row 0 (λ q. omega arith), d)

  -- b to d of row 0
  pub kept-rest : (field : ℕ) → 2 ≤ field → field < 5 → is_definition rows 0 ≡ false → at_seam rows 0 field ≡ false
  unfolding at_seam
  kept-rest field least most d = rw (ne_eqb field 1 (λ q. omega arith), ne_eqb field 5 (λ q. omega arith), d)

  -- a next that is kept is that of a row which is neither
  pub kept_next : (row : ℕ) → at_seam rows row 5 ≡ false → (0 < row) × (is_definition rows row ≡ false)
  kept_next row e = (some (ℕ_discrete row 0), by_cases (is_definition rows row) (λ d. absurd (true≢false (sym (seam-definition row d) ∙ e))) (λ d. d))
    where
      some : Dec (row ≡ 0) → 0 < row
      some (yes q) = absurd (true≢false (sym next-root ∙ (rw q at e)))
      some (no q) = above_zero row q

  -- ---- walks along the front

  pub from-other : (most row : ℕ) → is_definition rows row ≡ false → (functions_from most rows row ≡ 0) × (item_from most rows row ≡ row)
  unfolding functions_from item_from
  from-other zero row d = (refl, refl)
  from-other (suc most) row d = (rw d, rw d)

  from-definition : (most row : ℕ) → is_definition rows row ≡ true → (functions_from (suc most) rows row ≡ 1 + functions_from most rows (link rows row 5)) × (item_from (suc most) rows row ≡ item_from most rows (link rows row 5))
  unfolding functions_from item_from
  from-definition most row d = (rw d, rw d)

  -- from a definition at the front on
  from_front : {row place : ℕ} → InFront rows row place → (more : ℕ)
      → (functions_from (place + suc more) rows (link rows 0 1) ≡ place + 1 + functions_from more rows (link rows row 5)) × (item_from (place + suc more) rows (link rows 0 1) ≡ item_from more rows (link rows row 5))
  from_front (foremost leads d) more =
      let here = from-definition more (link rows 0 1) d in
      let whole : 0 + suc more ≡ suc more = omega arith in
      rw whole (here.0, here.1)
  from_front (behind {row} {place} f leads d) more =
      let earlier = from_front f (suc more) in
      let here = from-definition more (link rows row 5) d in
      let whole : place + 1 + suc more ≡ place + suc (suc more) = omega arith in
      rw whole (earlier.0 ∙ (let q = here.0 in omega arith), earlier.1 ∙ here.1)

  pub functions-behind : {row place : ℕ} → InFront rows row place → place < functions_of rows
  unfolding functions_of
  functions-behind {row} {place} f =
      let later = front-later rows f in
      let inside = front-inside rows f in
      let more : ℕ = row_count rows - place - 1 in
      let whole : place + suc more ≡ row_count rows = omega arith in
      let walk : functions_from (row_count rows) rows (link rows 0 1) ≡ place + 1 + functions_from more rows (link rows row 5) = (rw whole at (from_front f more).0) in
      omega arith

  -- the last definition
  module _ {row place : ℕ} (f : InFront rows row place) (last : is_definition rows (link rows row 5) ≡ false) where
    pub functions-last : functions_of rows ≡ place + 1
    unfolding functions_of
    functions-last =
        let later = front-later rows f in
        let inside = front-inside rows f in
        let more : ℕ = row_count rows - place - 1 in
        let whole : place + suc more ≡ row_count rows = omega arith in
        let walk : functions_from (row_count rows) rows (link rows 0 1) ≡ place + 1 + functions_from more rows (link rows row 5) = (rw whole at (from_front f more).0) in
        let none = (from-other more (link rows row 5) last).0 in
        omega arith

    pub item-last : first_item rows ≡ link rows row 5
    unfolding first_item
    item-last =
        let later = front-later rows f in
        let inside = front-inside rows f in
        let more : ℕ = row_count rows - place - 1 in
        let whole : place + suc more ≡ row_count rows = omega arith in
        (rw whole at (from_front f more).1) ∙ (from-other more (link rows row 5) last).1

  pub functions-none : is_definition rows (link rows 0 1) ≡ false → functions_of rows ≡ 0
  unfolding functions_of
  functions-none d = (from-other (row_count rows) (link rows 0 1) d).0

  pub item-none : is_definition rows (link rows 0 1) ≡ false → first_item rows ≡ link rows 0 1
  unfolding first_item
  item-none d = (from-other (row_count rows) (link rows 0 1) d).1

  -- The end of the front.
  pub data Front : Type 0 where
    empty : is_definition rows (link rows 0 1) ≡ false → Front
    ending : {row place : ℕ} → InFront rows row place → is_definition rows (link rows row 5) ≡ false → Front
