-- Laws of 7, 19 and 20: "an item of a block", "a number declared twice in one block", "a 65th declaration".
use Rattle.std.specs.Prelude.{◌≡◌, refl, ◌&&◌, List, eqb, ℤ, None}
use Rattle.std.proofs.Common.{sym, ◌∙◌}
use Rattle.std.proofs.Math.Path.{ap}
use Rattle.std.proofs.Math.Bool.{true, false, true≢false}
use Prim.Native.Nat.{ℕ, zero, suc, ◌+◌, ◌≤◌, ◌<◌}
use native.Mathlib.Omega.{arith}
use borrow.Author.Tests.{eqb-true, eqb-false, eq-eqb, ne_eqb}
use Rattle.words.specs.Table.{row_count, number_at}
use Rattle.words.specs.Laws.{by_cases, both}
use Rattle.words.specs.Search.{lowest_row}
use Rattle.words.specs.SearchLaws.{lowest_row-all, all-lowest_row}
use Rattle.check_structure.specs.Structured.{Tree}
use Rattle.words.specs.Declarations.{is_declaration, declarations_before, declaration_count}
use Rattle.names.proofs.ScopeLaws.{before-later}
use Rattle.check_items.proofs.ItemLaws.{item-noted, noted-item}
use Rattle.check_items.proofs.EarlierLaws.{earlier-met, met-earlier}
use Rattle.check_declaration_causes.specs.Causes.{outside_block, same_number, declared_before, one_too_many}
use Rattle.check_declaration_causes.specs.Demands.{BlockItem, NotTwice, FewDeclarations}

-- A block is no declaration; so row 0 is none.
pub block-undeclared : (rows : List ℤ) (row : ℕ) → number_at rows row 0 ≡ 42 → is_declaration rows row ≡ false
unfolding is_declaration
block-undeclared rows row block = rw block

module _ (rows : List ℤ) (t : Tree rows) (row : ℕ) where
  -- ---- 7

  pub inside-block : row < row_count rows → outside_block rows row ≡ false → BlockItem rows row
  unfolding outside_block
  inside-block n e d initial = noted-item rows t 42 1 row n (rw (d, ne_eqb (number_at rows row 2) 0 initial) at e)

  pub block_inside : BlockItem rows row → outside_block rows row ≡ false
  unfolding outside_block
  block_inside item =
      by_cases (is_declaration rows row)
      (λ d. by_cases (eqb (number_at rows row 2) 0) (λ z. rw (d, z)) (λ z. rw (d, z, item-noted rows t 42 1 (omega arith) (item d (eqb-false _ _ z)))))
      (λ d. rw d)

  -- ---- 19

  -- row 0 is a block, and no declaration
  pub not-declared-before : is_declaration rows 0 ≡ false → declared_before rows row ≡ false → NotTwice rows row
  unfolding declared_before same_number
  not-declared-before root e d earlier before k same =
      let some : (earlier ≡ 0 → ⊥) = (λ z. true≢false (sym k ∙ ap (is_declaration rows) z ∙ root)) in
      true≢false (sym (earlier-met rows t (is_declaration rows) (same_number rows row) before k some (eq-eqb _ _ same)) ∙ (rw d at e))

  pub declared-once : row < row_count rows → NotTwice rows row → declared_before rows row ≡ false
  unfolding declared_before same_number
  declared-once n once = by_cases (declared_before rows row) (λ e. absurd (never e)) (λ e. e)
    where
      never : declared_before rows row ≡ true → ⊥
      never e =
          let parts = both (is_declaration rows row) _ e in
          let met = met-earlier rows t (is_declaration rows) (same_number rows row) row n parts.1 in
          once parts.0 met.item met.earlier.before met.earlier.sorted (eqb-true _ _ met.has)

-- ---- 20

module _ (rows : List ℤ) where
  one-too-many : (row : ℕ) → is_declaration rows row ≡ true → one_too_many rows row ≡ false → declarations_before rows row ≡ 64 → ⊥
  unfolding one_too_many
  one-too-many row d e = eqb-false (declarations_before rows row) 64 (rw d at e)

  -- where none of the first rows is one too many, they have at most 64 declarations
  few-before : (row : ℕ) → ((earlier : ℕ) → earlier < row → one_too_many rows earlier ≡ false) → declarations_before rows row ≤ 64
  unfolding declarations_before
  few-before zero h = omega arith
  few-before (suc row) h =
      let few = few-before row (λ earlier l. h earlier (omega arith)) in
      by_cases (is_declaration rows row)
      (λ d. rw d (let other = one-too-many row d (h row (omega arith)) in omega (arith, other)))
      (λ d. rw d (omega arith))

  pub none-too-many : lowest_row rows (one_too_many rows) ≡ None → FewDeclarations rows
  unfolding declaration_count
  none-too-many e = few-before (row_count rows) (λ row n. lowest_row-all rows (one_too_many rows) e row n)

  pub few-none : FewDeclarations rows → lowest_row rows (one_too_many rows) ≡ None
  unfolding declaration_count one_too_many
  few-none few = all-lowest_row rows (one_too_many rows) (λ row n. within row n)
    where
      within : (row : ℕ) → row < row_count rows → one_too_many rows row ≡ false
      within row n =
          by_cases (is_declaration rows row)
          (λ d. rw d (ne_eqb (declarations_before rows row) 64 (λ q. let more = before-later rows row (row_count rows) d n in omega arith)))
          (λ d. rw d)
