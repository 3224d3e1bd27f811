-- Laws of roles: the search finds the parameters and no others, with any number of links that is enough; a field is a link in both roles or in
-- neither; a row behind no definition is no parameter.
use Rattle.std.specs.Prelude.{◌≡◌, refl, Bool, false, ◌&&◌, ◌||◌, ◌⊎◌, List, eqb, ℤ}
use Rattle.std.proofs.Common.{sym, ◌∙◌, true≢false, inl, inr, arith}
use Rattle.std.proofs.Math.Path.{ap}
use Rattle.std.proofs.Math.Bool.{true}
use Rattle.std.proofs.lemmas.Bool.{false≢true}
use Prim.Native.Nat.{ℕ, zero, suc, ◌+◌, ◌≤◌, ◌<◌}
use borrow.Author.Tests.{eqb-true, eq-eqb, ne_eqb}
use Rattle.words.specs.Word.{pick}
use Rattle.words.specs.Table.{number_at}
use Rattle.words.specs.Laws.{by_cases, both, either, or_right}
use Rattle.words.specs.Kinds.{kinds, kind_in, kind_of, kind_row, statement_fields, parameter_fields, sort_in, sort_of, sort_at, is_link, in_language}
use Rattle.words.specs.Search.{some}
use Rattle.words.specs.SearchLaws.{some-all}
use Rattle.words.specs.Declarations.{is_declaration}
use Rattle.words_roles.specs.Roles.{is_definition, links_parameter, is_parameter_by, is_parameter, parameter_sort, role_sort}
use Rattle.words_roles.specs.Demands.{AsParameter, by_definition, by_parameter}

-- ---- a search among numbers

record Hit (p : ℕ → Bool) (most : ℕ) : Type 0 where
  pub at : ℕ
  pub below : at < most
  pub has : p at ≡ true

some-hit : (p : ℕ → Bool) (most count from : ℕ) → from + count ≤ most → some p from count ≡ true → Hit p most
unfolding some
some-hit p most zero from h e = absurd (false≢true e)
some-hit p most (suc count) from h e =
    by_cases (p from) (λ b. record { at = from; below = omega arith; has = b }) (λ b. some-hit p most count (from + 1) (omega arith) (rw b at e))

hit-some : (p : ℕ → Bool) (most at : ℕ) → at < most → p at ≡ true → some p 0 most ≡ true
hit-some p most at h e = by_cases (some p 0 most) (λ s. s) (λ s. absurd (true≢false (sym e ∙ some-all p most 0 s at (omega arith) (omega arith))))

-- the fields of both roles
links-alike : (field : ℕ) → is_link (parameter_sort field) ≡ is_link (sort_in (kind_of 58) field)
unfolding parameter_sort parameter_fields is_link sort_in kind_of kind_in kinds kind_row statement_fields
links-alike zero = refl
links-alike (suc zero) = refl
links-alike (suc (suc zero)) = refl
links-alike (suc (suc (suc zero))) = refl
links-alike (suc (suc (suc (suc zero)))) = refl
links-alike (suc (suc (suc (suc (suc zero))))) = refl
links-alike (suc (suc (suc (suc (suc (suc field)))))) = refl

-- ---- parameters

module _ (rows : List ℤ) where
  found-parameter : (links row : ℕ) → is_parameter_by links rows row ≡ true → AsParameter rows row
  unfolding is_parameter_by links_parameter
  found-parameter zero row e = absurd (false≢true e)
  found-parameter (suc links) row e =
      let parts = both (is_declaration rows row) _ e in
      let hit = some-hit (λ (owner : ℕ). links_parameter (is_parameter_by links rows owner) rows owner row) row row 0 (omega arith) parts.1 in
      go hit.at hit.below parts.0 (either (eqb (number_at rows hit.at 2) row && is_definition rows hit.at) _ hit.has) (found-parameter links hit.at)
    where
      go : (owner : ℕ) → owner < row → is_declaration rows row ≡ true
          → ((eqb (number_at rows owner 2) row && is_definition rows owner) ≡ true) ⊎ ((eqb (number_at rows owner 5) row && is_parameter_by links rows owner) ≡ true)
          → (is_parameter_by links rows owner ≡ true → AsParameter rows owner) → AsParameter rows row
      go owner l d (inl b) rest = let parts = both (eqb (number_at rows owner 2) row) _ b in by_definition l d parts.1 (eqb-true _ _ parts.0)
      go owner l d (inr b) rest = let parts = both (eqb (number_at rows owner 5) row) _ b in by_parameter l d (rest parts.1) (eqb-true _ _ parts.0)

  parameter-found : {row : ℕ} → AsParameter rows row → (links : ℕ) → row ≤ links → is_parameter_by links rows row ≡ true
  unfolding is_parameter_by links_parameter
  parameter-found (by_definition {owner} {row} l d f e) zero h = absurd (omega arith)
  parameter-found (by_definition {owner} {row} l d f e) (suc links) h =
      rw d (hit-some (λ (other : ℕ). links_parameter (is_parameter_by links rows other) rows other row) row owner l (rw (f, eq-eqb (number_at rows owner 2) row e)))
  parameter-found (by_parameter {owner} {row} l d p e) zero h = absurd (omega arith)
  parameter-found (by_parameter {owner} {row} l d p e) (suc links) h =
      rw d (hit-some (λ (other : ℕ). links_parameter (is_parameter_by links rows other) rows other row) row owner l
      (rw (parameter-found p links (omega arith), eq-eqb (number_at rows owner 5) row e) (or_right (eqb (number_at rows owner 2) row && is_definition rows owner) true refl)))

  pub is-parameter : (row : ℕ) → is_parameter rows row ≡ true → AsParameter rows row
  unfolding is_parameter
  is-parameter row e = found-parameter row row e

  pub parameter-is : (row : ℕ) → AsParameter rows row → is_parameter rows row ≡ true
  unfolding is_parameter
  parameter-is row p = parameter-found p row (omega arith)

  -- as many links as the row's number are enough
  pub enough-links : (links row : ℕ) → row ≤ links → is_parameter_by links rows row ≡ is_parameter rows row
  enough-links links row h =
      by_cases (is_parameter rows row)
      (λ p. parameter-found (is-parameter row p) links h ∙ sym p)
      (λ p. by_cases (is_parameter_by links rows row) (λ q. absurd (true≢false (sym (parameter-is row (found-parameter links row q)) ∙ p))) (λ q. q ∙ sym p))

  as-declaration : {row : ℕ} → AsParameter rows row → is_declaration rows row ≡ true
  as-declaration (by_definition l d f e) = d
  as-declaration (by_parameter l d p e) = d

  pub parameter-declaration : (row : ℕ) → is_parameter rows row ≡ true → is_declaration rows row ≡ true
  parameter-declaration row p = as-declaration (is-parameter row p)

  -- ---- sorts

  pub sort-parameter : (row field : ℕ) → is_parameter rows row ≡ true → role_sort rows row field ≡ parameter_sort field
  unfolding role_sort
  sort-parameter row field p = rw p

  pub sort-other : (row field : ℕ) → is_parameter rows row ≡ false → role_sort rows row field ≡ sort_at rows row field
  unfolding role_sort
  sort-other row field p = rw p

  -- a field links in both roles, or in neither
  pub role-links : (row field : ℕ) → is_link (role_sort rows row field) ≡ is_link (sort_at rows row field)
  unfolding is_declaration sort_at sort_of
  role-links row field =
      by_cases (is_parameter rows row)
      (λ p. ap is_link (sort-parameter row field p) ∙ rw (eqb-true (number_at rows row 0) 58 (parameter-declaration row p)) (links-alike field))
      (λ p. ap is_link (sort-other row field p))

  -- ---- rows behind no definition

  no-parameter : {row : ℕ} → ((owner : ℕ) → owner < row → is_definition rows owner ≡ false) → AsParameter rows row → ⊥
  no-parameter none (by_definition {owner} l d f e) = true≢false (sym f ∙ none owner l)
  no-parameter none (by_parameter l d p e) = no-parameter (λ other m. none other (omega arith)) p

  pub plain-role : (row field : ℕ) → ((owner : ℕ) → owner < row → is_definition rows owner ≡ false) → role_sort rows row field ≡ sort_at rows row field
  plain-role row field none =
      sort-other row field (by_cases (is_parameter rows row) (λ p. absurd (no-parameter none (is-parameter row p))) (λ p. p))
