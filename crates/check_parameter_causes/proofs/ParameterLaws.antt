-- 19 for parameters: the test is true exactly at a declaration among the items of a function's block whose number a parameter has.
use Rattle.std.specs.Prelude.{◌≡◌, refl, Bool, false, not, ◌&&◌, List, ℕ, ◌<◌, eqb, ℤ}
use Rattle.std.proofs.Common.{subst, sym, ap, ◌∙◌, arith}
use Rattle.std.proofs.Math.Bool.{true, true≢false}
use Rattle.std.proofs.Math.Decide.{ℕ_discrete}
use borrow.Author.Tests.{eqb-true, eqb-false, eq-eqb, ne_eqb, not-true}
use Rattle.words.specs.Table.{row_count, number_at}
use Rattle.words.specs.Laws.{by_cases, both}
use Rattle.words.specs.Links.{link}
use Rattle.words.specs.Declarations.{is_declaration}
use Rattle.check_structure.specs.LinkLaws.{part-inside}
use Rattle.check_structure.specs.NoteLaws.{above_zero}
use Rattle.check_structure.specs.Structured.{Leads, Tree}
use Rattle.check_function_causes.specs.Functions.{is_definition}
use Rattle.check_parameter_causes.specs.Parameters.{body_at, some_of_list, same_number, declared_as_parameter}
use Rattle.check_parameter_causes.specs.Demands.{Parameter, first_parameter, next_parameter, BodyItem, first_item, next_item, NotParameter}
use Rattle.check_parameter_causes.proofs.BodyLaws.{body-later, body-noted, Body, as-block, as-item, noted-body}
use Rattle.check_parameter_causes.proofs.SearchLaws.{some-none, some-here, some-behind, Met, some-met}

-- Row 0 is a block, and links nothing by b.
module _ (rows : List ℤ) (t : Tree rows) (root : link rows 0 2 ≡ 0) where
  parameter-inside : {definition row : ℕ} → Parameter rows definition row → (0 < row) × (row < row_count rows)
  parameter-inside (first_parameter d leads) = let l = leads.later in (omega arith, leads.inside)
  parameter-inside (next_parameter p leads) = let l = leads.later in (omega arith, leads.inside)

  -- what is met from a parameter on is met from the first one on
  from_first : (property : ℕ → Bool) {definition row : ℕ} → Parameter rows definition row → some_of_list (row_count rows) property rows row ≡ true → some_of_list (row_count rows) property rows (link rows definition 2) ≡ true
  from_first property (first_parameter d leads) e = e
  from_first property (next_parameter {row} p leads) e =
      let inside = parameter-inside p in
      from_first property p (some-behind rows t property row (λ z. let some = inside.0 in omega arith) inside.1 e)

  pub not-as-parameter : (row : ℕ) → declared_as_parameter rows row ≡ false → NotParameter rows row
  unfolding declared_as_parameter same_number
  not-as-parameter row e d definition parameter item p same =
      let is = body-noted rows t item in
      let later = body-later rows t item in
      let inside = parameter-inside p in
      let met = from_first (same_number rows row) p (some-here rows t (same_number rows row) parameter (λ z. let some = inside.0 in omega arith) inside.1 (eq-eqb _ _ same)) in
      true≢false (sym met ∙ (rw (d, is, ne_eqb (link rows definition 3) row (λ q. omega arith)) at e))

  pub as-no-parameter : (row : ℕ) → row < row_count rows → NotParameter rows row → declared_as_parameter rows row ≡ false
  unfolding declared_as_parameter same_number
  as-no-parameter row n free = by_cases (declared_as_parameter rows row) (λ e. absurd (never e)) (λ e. e)
    where
      found : is_declaration rows row ≡ true → (link rows (body_at rows row) 3 ≡ row → ⊥) → some_of_list (row_count rows) (same_number rows row) rows (link rows (body_at rows row) 2) ≡ true
          → (body_at rows row ≡ 0 → ⊥) → Body rows t row (body_at rows row) → Dec (link rows (body_at rows row) 2 ≡ 0) → ⊥
      found d other e some (as-block f leads q) first = other q
      found d other e some (as-item item) (yes z) = true≢false (sym e ∙ some-none rows t (same_number rows row) _ z)
      found d other e some (as-item item) (no z) =
          let definition = body_at rows row in
          let inside : body_at rows row < row_count rows = defined item in
          let leads = t.forward (body_at rows row) 2 inside (omega arith) (above_zero _ z) in
          let met = some-met rows t (same_number rows row) (Parameter rows (body_at rows row)) (λ r l p. next_parameter p l) (row_count rows) (link rows (body_at rows row) 2) leads.inside (first_parameter (defines item) leads) e in
          free d (body_at rows row) met.row item met.reached (eqb-true _ _ met.has)
        where
          defines : {definition item : ℕ} → BodyItem rows definition item → is_definition rows definition ≡ true
          defines (first_item f leads first) = f
          defines (next_item i leads) = defines i

          defined : {definition item : ℕ} → BodyItem rows definition item → definition < row_count rows
          defined (first_item f leads first) = let l = leads.later in let i = leads.inside in omega arith
          defined (next_item i leads) = defined i

      never : declared_as_parameter rows row ≡ true → ⊥
      never e =
          let parts = both (is_declaration rows row) _ e in
          let rest = both (not (eqb (link rows (body_at rows row) 3) row)) _ parts.1 in
          go (ℕ_discrete (body_at rows row) 0) parts.0 (eqb-false _ _ (not-true _ rest.0)) rest.1
        where
          go : Dec (body_at rows row ≡ 0) → is_declaration rows row ≡ true → (link rows (body_at rows row) 3 ≡ row → ⊥)
              → some_of_list (row_count rows) (same_number rows row) rows (link rows (body_at rows row) 2) ≡ true → ⊥
          go (yes z) d other e = true≢false (sym e ∙ some-none rows t (same_number rows row) _ (rw z root))
          go (no z) d other e = found d other e z (noted-body rows t row n z) (ℕ_discrete (link rows (body_at rows row) 2) 0)
