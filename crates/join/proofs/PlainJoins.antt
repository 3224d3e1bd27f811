-- Joins of programs without definitions: "The joined rows are the new block, the first's, the second's."
use Rattle.std.specs.Prelude.{◌≡◌, false, List, eqb, ℤ}
use Rattle.std.proofs.Math.Path.{refl}
use Rattle.std.proofs.Common.{◌∙◌}
use Prim.Native.Nat.{ℕ, zero, suc, ◌+◌, ◌≤◌, ◌<◌}
use native.Mathlib.Omega.{arith}
use Rattle.words.specs.Laws.{by_cases}
use Rattle.words.specs.Table.{row_count}
use Rattle.words.specs.Links.{link}
use Rattle.check_structure.specs.LinkLaws.{by-owner, part-inside}
use Rattle.check_structure.specs.NoteLaws.{note-root, note-link}
use Rattle.check_structure.specs.Structured.{Tree}
use Rattle.check_function_causes.specs.Functions.{is_definition, around_of, function_around}
use Rattle.join.specs.Join.{is_of_definition, is_other, before, functions_of, front_of}
use Rattle.join.proofs.Counting.{before-not, before-parts}
use Rattle.join.proofs.Fronts.{functions-none}
use Rattle.join.proofs.JoinedRows.{of_first, of_second, first_place, second_place, first-others, second-others, second-behind, first-behind, second-functions}
use Rattle.join.proofs.Placements.{place_other, front-behind}

-- No row is a definition.
pub record Plain (rows : List ℤ) : Type 0 where
  pub tree : Tree rows
  pub none : (row : ℕ) → row < row_count rows → is_definition rows row ≡ false

module _ {rows : List ℤ} (p : Plain rows) where
  around-none : (row : ℕ) → row < row_count rows → function_around rows row ≡ 0
  unfolding function_around around_of
  around-none =
      by-owner rows p.tree (λ (row : ℕ). function_around rows row ≡ 0) (note-root (around_of rows) 0 rows)
      (λ owner field f leads above.
      let n : owner < row_count rows = (let later = leads.later in let inside = leads.inside in omega arith) in
      note-link (around_of rows) 0 rows p.tree owner field f leads ∙ rw (p.none owner n) (by_cases (eqb field 5) (λ e. rw (e, above)) (λ e. rw (e, above))))

  all_others : (row : ℕ) → row < row_count rows → is_of_definition rows row ≡ false
  unfolding is_of_definition
  all_others row n = rw (p.none row n, around-none row n)

  none_before : (row : ℕ) → row ≤ row_count rows → before (is_of_definition rows) row ≡ 0
  unfolding before
  none_before zero n = refl
  none_before (suc row) n = before-not (is_of_definition rows) row (all_others row (omega arith)) ∙ none_before row (omega arith)

  others-before : (row : ℕ) → row ≤ row_count rows → before (is_other rows) row ≡ row
  unfolding is_other
  others-before row n = let parts = before-parts (is_of_definition rows) row in let none = none_before row n in omega arith

  pub plain-functions : functions_of rows ≡ 0
  plain-functions = functions-none rows (p.none (link rows 0 1) (part-inside rows p.tree 0 1 (link rows 0 1) p.tree.some_rows (omega arith) refl))

  head-none : is_definition rows (link rows 0 1) ≡ false
  head-none = p.none (link rows 0 1) (part-inside rows p.tree 0 1 (link rows 0 1) p.tree.some_rows (omega arith) refl)

module _ {first second : List ℤ} (p : Plain first) (q : Plain second) where
  pub plain-first : (row : ℕ) → row < row_count first → first_place first second row ≡ 1 + row
  plain-first row n =
      let here = place_other (of_first first second) first row (all_others p row n) in
      let begins = first-others first second in
      let a = none_before p (row_count first) (omega arith) in
      let b = none_before q (row_count second) (omega arith) in
      let c = others-before p row (omega arith) in
      omega arith

  pub plain_second : (row : ℕ) → row < row_count second → second_place first second row ≡ 1 + row_count first + row
  plain_second row n =
      let here = place_other (of_second first second) second row (all_others q row n) in
      let begins = second-others first second in
      let a = none_before p (row_count first) (omega arith) in
      let b = none_before q (row_count second) (omega arith) in
      let d = others-before p (row_count first) (omega arith) in
      let c = others-before q row (omega arith) in
      omega arith

  -- the second's functions, of which there are none, would keep their numbers
  pub plain-numbers : (of_second first second).functions ≡ 0
  plain-numbers = second-functions first second ∙ plain-functions p

  -- the new block begins with the first's
  pub plain-begins : front_of (of_first first second) first (link first 0 1) ≡ 1
  plain-begins =
      let begins = front-behind (of_first first second) first (link first 0 1) (head-none p) ∙ first-behind first second ∙ front-behind (of_second first second) second (link second 0 1) (head-none q) ∙ second-behind first second ∙ first-others first second in
      let a = none_before p (row_count first) (omega arith) in
      let b = none_before q (row_count second) (omega arith) in
      omega arith
