-- Laws of parameters: where nothing hides it, the number of a parameter means that parameter, at every row of its function. The search comes to the
-- parameter before it has passed as many as there are declarations.
use Rattle.std.specs.Prelude.{◌≡◌, true, false, List, ℤ}
use Rattle.std.proofs.Math.Path.{refl}
use Rattle.std.proofs.Common.{◌∙◌, inl, inr, arith}
use Prim.Native.Nat.{ℕ, zero, suc, ◌+◌, ◌≤◌, ◌<◌}
use Rattle.std.proofs.Math.Decide.{ℕ_discrete}
use borrow.Author.Tests.{eq-eqb, ne_eqb}
use Rattle.words.specs.Table.{row_count, number_at}
use Rattle.words.specs.Links.{link}
use Rattle.words.specs.Declarations.{is_declaration, declarations_before, declaration_count}
use Rattle.check_structure.specs.Structured.{Tree}
use Rattle.check_structure.specs.Lists.{Before, adjacent, further}
use Rattle.words_roles.specs.Roles.{is_definition}
use Rattle.check_function_causes.specs.Demands.{Within, DefinedInOrder}
use Rattle.check_function_causes.proofs.FrontLaws.{definition-some}
use Rattle.check_function_causes.proofs.AroundLaws.{within-defines, within-is}
use Rattle.check_parameter_causes.specs.Demands.{Parameter, first_parameter, next_parameter}
use Rattle.names.specs.Names.{scope_at, meant_from, parameter_from, parameter_at, meant_at}
use Rattle.names.specs.Scope.{InScopeOf}
use Rattle.names.proofs.ScopeLaws.{NoneOrNumbered, scope-declared, meant-from, before-later}
use Rattle.names.proofs.MeaningLaws.{declared-holds}

module _ (rows : List ℤ) (t : Tree rows) (few : declaration_count rows ≤ 64) {definition : ℕ} (declared : (row : ℕ) → Parameter rows definition row → is_declaration rows row ≡ true) (number : ℕ) where
  -- No parameter before this one has the number.
  abbrev pub First : ℕ → Type 0
  First parameter = (earlier : ℕ) → Before rows earlier parameter → is_declaration rows earlier ≡ true → number_at rows earlier 1 ≡ number → ⊥

  inside : {row : ℕ} → Parameter rows definition row → row < row_count rows
  inside (first_parameter d leads) = leads.inside
  inside (next_parameter p leads) = leads.inside

  -- Where the search has come to a parameter, it looks at as many more as there may be declarations from there on.
  record Reached (row : ℕ) : Type 0 where
    more : ℕ
    enough : 64 ≤ more + declarations_before rows row
    same : parameter_from 64 rows (link rows definition 2) number ≡ parameter_from more rows row number

  -- a declaration is not the last that the search looks at
  below : {row : ℕ} → Parameter rows definition row → declarations_before rows row < 64
  unfolding declaration_count
  below {row} p = omega (arith, before-later rows row (row_count rows) (declared row p) (inside p), few)

  reached : {row : ℕ} → Parameter rows definition row → First row → Reached row
  unfolding parameter_from
  reached (first_parameter d leads) first = record { more = 64; enough = omega arith; same = refl }
  reached (next_parameter {row} p leads) first =
      let before = reached p (λ earlier b. first earlier (further b leads)) in
      go before.more before.enough before.same
    where
      go : (more : ℕ) → 64 ≤ more + declarations_before rows row → parameter_from 64 rows (link rows definition 2) number ≡ parameter_from more rows row number → Reached (link rows row 5)
      go zero enough same = absurd (omega (arith, below p))
      go (suc more) enough same =
          let d = declared row p in
          let fewer = before-later rows row (link rows row 5) d leads.later in
          record { more = more; enough = omega arith; same = same ∙ rw (d, ne_eqb _ _ (first row (adjacent leads) d)) }

  found : {parameter : ℕ} → Parameter rows definition parameter → number_at rows parameter 1 ≡ number → First parameter → parameter_from 64 rows (link rows definition 2) number ≡ parameter
  unfolding parameter_from
  found {parameter} p is first = let r = reached p first in r.same ∙ go r.more r.enough
    where
      go : (more : ℕ) → 64 ≤ more + declarations_before rows parameter → parameter_from more rows parameter number ≡ parameter
      go zero enough = absurd (omega (arith, below p))
      go (suc more) enough = rw (declared parameter p, eq-eqb _ _ is)

  module _ (root : is_definition rows 0 ≡ false) (ordered : (row : ℕ) → row < row_count rows → DefinedInOrder rows row) where
    pub parameter-meant : {parameter row : ℕ} → row < row_count rows → Within rows definition row → Parameter rows definition parameter → number_at rows parameter 1 ≡ number → First parameter
        → ((declaration : ℕ) → InScopeOf rows declaration row → number_at rows declaration 1 ≡ number → ⊥) → meant_at rows row number ≡ parameter
    unfolding meant_at parameter_at
    parameter-meant {parameter} {row} n within p is first hidden =
        rw (
          eq-eqb _ _ (nothing-hides (ℕ_discrete (meant_from 64 rows (scope_at rows row) number) 0) (meant-from rows 64 (scope_at rows row) number (scope-declared rows row))),
          within-is rows t root ordered within,
          ne_eqb _ _ (definition-some rows t root definition (within-defines rows t root within)),
        ) (found p is first)
      where
        nothing-hides : Dec (meant_from 64 rows (scope_at rows row) number ≡ 0) → NoneOrNumbered rows number (meant_from 64 rows (scope_at rows row) number) → meant_from 64 rows (scope_at rows row) number ≡ 0
        nothing-hides (yes z) numbered = z
        nothing-hides (no z) (inl e) = e
        nothing-hides (no z) (inr d) = absurd (hidden _ (declared-holds rows t row number n z) d.1)
