-- Laws of what stands in a function: a row's note is the definition of the function that it stands in. Note and relation both go along the
-- links: each row by the row that links it.
use Rattle.std.specs.Prelude.{◌≡◌, refl, Bool, true, false, List, ℕ, ◌≤◌, ◌<◌, eqb, ℤ}
use Rattle.std.proofs.Common.{subst, sym, ap, ◌∙◌, true≢false, arith}
use Rattle.std.proofs.Math.Arith.{lt_of_le-ne}
use borrow.Author.Tests.{eqb-false, eq-eqb, ne_eqb}
use Rattle.words.specs.Word.{pick}
use Rattle.words.specs.Table.{row_count}
use Rattle.words.specs.Laws.{by_cases}
use Rattle.words.specs.Links.{link}
use Rattle.check_structure.specs.LinkLaws.{by-owner}
use Rattle.check_structure.specs.NoteLaws.{note-root, note-link}
use Rattle.check_structure.specs.Structured.{Leads, Tree}
use Rattle.check_function_causes.specs.Functions.{is_definition, is_return, around_of, function_around}
use Rattle.check_function_causes.specs.Causes.{returns_outside}
use Rattle.check_function_causes.specs.Demands.{InFront, foremost, behind, Within, function_part, function_along, ReturnInside, DefinedInOrder}
use Rattle.check_function_causes.proofs.FrontLaws.{definition-some}

module _ (rows : List ℤ) (t : Tree rows) where
  around-root : function_around rows 0 ≡ 0
  unfolding function_around
  around-root = note-root (around_of rows) 0 rows

  around-link : (row field : ℕ) → field < 6 → Leads rows row field
      → function_around rows (link rows row field) ≡ pick (eqb field 5) (function_around rows row) (pick (is_definition rows row) row (function_around rows row))
  unfolding function_around around_of
  around-link row field h leads = note-link (around_of rows) 0 rows t row field h leads

  around-next : (row : ℕ) → Leads rows row 5 → function_around rows (link rows row 5) ≡ function_around rows row
  around-next row leads = around-link row 5 (omega arith) leads

  -- definitions stand at earlier rows
  pub around-most : (row : ℕ) → row < row_count rows → function_around rows row ≤ row
  around-most =
      by-owner rows t (λ (row : ℕ). function_around rows row ≤ row) (rw around-root (omega arith))
      (λ owner field h leads most. let l = leads.later in rw (around-link owner field h leads) (go owner (link rows owner field) l most (eqb field 5) (is_definition rows owner)))
    where
      go : (owner linked : ℕ) → owner < linked → function_around rows owner ≤ owner → (a b : Bool) → pick a (function_around rows owner) (pick b owner (function_around rows owner)) ≤ linked
      go owner linked l most true b = omega arith
      go owner linked l most false true = omega arith
      go owner linked l most false false = omega arith

  -- a row stands in the function that its note says
  pub around-within : (row : ℕ) → row < row_count rows → (function_around rows row ≡ 0 → ⊥) → Within rows (function_around rows row) row
  around-within =
      by-owner rows t (λ (row : ℕ). (function_around rows row ≡ 0 → ⊥) → Within rows (function_around rows row) row)
      (λ p. absurd (p around-root))
      (λ owner field h leads above p.
      let is = around-link owner field h leads in
      by_cases (eqb field 5)
      (λ q. same owner field h leads (is ∙ rw q) above p)
      (λ q. by_cases (is_definition rows owner)
      (λ d. subst (λ (x : ℕ). Within rows x (link rows owner field)) (sym (is ∙ rw (q, d))) (function_part (lt_of_le-ne (omega arith) (eqb-false field 5 q)) d leads))
      (λ d. same owner field h leads (is ∙ rw (q, d)) above p)))
    where
      same : (owner field : ℕ) → field < 6 → Leads rows owner field → function_around rows (link rows owner field) ≡ function_around rows owner
          → ((function_around rows owner ≡ 0 → ⊥) → Within rows (function_around rows owner) owner)
          → (function_around rows (link rows owner field) ≡ 0 → ⊥) → Within rows (function_around rows (link rows owner field)) (link rows owner field)
      same owner field h leads is above p =
          subst (λ (x : ℕ). Within rows x (link rows owner field)) (sym is) (function_along h leads (above (λ z. p (is ∙ z))))

  module _ (root : is_definition rows 0 ≡ false) where
    pub within-defines : {definition row : ℕ} → Within rows definition row → is_definition rows definition ≡ true
    within-defines (function_part h d leads) = d
    within-defines (function_along h leads w) = within-defines w

    within-some : {definition row : ℕ} → Within rows definition row → function_around rows row ≡ 0 → ⊥
    within-some {definition} (function_part {field} h d leads) z =
        definition-some rows t root definition d (sym (around-link definition field (omega arith) leads ∙ rw (ne_eqb field 5 (λ q. omega arith), d)) ∙ z)
    within-some (function_along {row} {field} h leads w) z = go (eqb field 5) (is_definition rows row) refl (sym (around-link row field h leads) ∙ z) (λ q. within-some w q)
      where
        go : (a b : Bool) → is_definition rows row ≡ b → pick a (function_around rows row) (pick b row (function_around rows row)) ≡ 0 → (function_around rows row ≡ 0 → ⊥) → ⊥
        go true b e z rest = rest z
        go false true e z rest = definition-some rows t root row e z
        go false false e z rest = rest z

    -- ---- 7

    pub inside-function : (row : ℕ) → row < row_count rows → returns_outside rows row ≡ false → ReturnInside rows row
    unfolding returns_outside
    inside-function row n e r =
        record { definition = function_around rows row; within = around-within row n (eqb-false (function_around rows row) 0 (rw r at e)) }

    pub function-inside : (row : ℕ) → ReturnInside rows row → returns_outside rows row ≡ false
    unfolding returns_outside
    function-inside row inside =
        by_cases (is_return rows row) (λ r. rw (r, ne_eqb (function_around rows row) 0 (within-some (inside r).within))) (λ r. rw r)

    -- ---- where definitions come first, a row stands in one function at most

    front-outside : {row place : ℕ} → InFront rows row place → function_around rows row ≡ 0
    front-outside (foremost leads d) =
        around-link 0 1 (omega arith) leads ∙ rw (root, around-root)
    front-outside (behind {row} f leads d) = around-next row leads ∙ front-outside f

    module _ (ordered : (row : ℕ) → row < row_count rows → DefinedInOrder rows row) where
      pub within-is : {definition row : ℕ} → Within rows definition row → function_around rows row ≡ definition
      within-is {definition} (function_part {field} h d leads) = around-link definition field (omega arith) leads ∙ rw (ne_eqb field 5 (λ q. omega arith), d)
      within-is {definition} (function_along {row} {field} h leads w) =
          let is = within-is w in
          let n : row < row_count rows = (let l = leads.later in let i = leads.inside in omega arith) in
          around-link row field h leads ∙ go (eqb field 5) (is_definition rows row) refl n is
        where
          go : (a b : Bool) → is_definition rows row ≡ b → row < row_count rows → function_around rows row ≡ definition
              → pick a (function_around rows row) (pick b row (function_around rows row)) ≡ definition
          go true b e n is = is
          go false true e n is =
              absurd (definition-some rows t root definition (within-defines w) (sym is ∙ front-outside (ordered row n e)))
          go false false e n is = is
