-- Fields by role: kind 58 has two roles, which differ at b and next. Elsewhere, and where a field is no link, a field holds in each role what
-- the table of kinds says.
use Rattle.std.specs.Prelude.{◌≡◌, refl, Bool, true, false, not, ◌&&◌, ◌||◌, List, ℕ, zero, suc, ◌≤◌, ◌<◌, eqb, ℤ}
use Rattle.std.proofs.Math.Path.{sym}
use Rattle.std.proofs.Common.{◌∙◌, arith}
use Rattle.std.proofs.lemmas.Bool.{false≢true}
use borrow.Author.Tests.{eqb-true}
use Rattle.words.specs.Table.{number_at}
use Rattle.words.specs.Kinds.{kinds, kind_in, kind_of, kind_at, declared_number, sort_at, sort_of, is_link, sort_in, kind_row, statement_fields, parameter_fields}
use Rattle.words.specs.Laws.{by_cases}
use Rattle.words.specs.Declarations.{is_declaration}
use Rattle.words.specs.declared.Kind.{Kind}
use Rattle.words.specs.declared.Kind.TheVariants.{OfStatement}
use Rattle.words.specs.declared.StatementKind.TheVariants.{Declare}
use Rattle.words_roles.specs.Roles.{is_parameter, parameter_sort, role_sort}
use Rattle.words_roles.proofs.RoleLaws.{parameter-declaration, sort-parameter, sort-other}

-- The field holds the same in each role of the kind.
abbrev pub settled : Kind → ℕ → Bool
settled kind field = not (eqb (sort_in kind 1) declared_number && (eqb field 2 || eqb field 5))

roles-agree : (field : ℕ) → 1 ≤ field → field < 6 → settled (kind_of 58) field ≡ true → parameter_sort field ≡ sort_in (kind_of 58) field
unfolding parameter_sort parameter_fields sort_in kind_of kind_in kinds kind_row statement_fields
roles-agree zero first last t = absurd (omega arith)
roles-agree (suc zero) first last t = refl
roles-agree (suc (suc zero)) first last t = absurd (false≢true t)
roles-agree (suc (suc (suc zero))) first last t = refl
roles-agree (suc (suc (suc (suc zero)))) first last t = refl
roles-agree (suc (suc (suc (suc (suc zero))))) first last t = absurd (false≢true t)
roles-agree (suc (suc (suc (suc (suc (suc field)))))) first last t = absurd (omega arith)

unlinked-agree : (field : ℕ) → 1 ≤ field → field < 6 → is_link (parameter_sort field) ≡ false → sort_in (kind_of 58) field ≡ parameter_sort field
unfolding parameter_sort parameter_fields sort_in kind_of kind_in kinds kind_row statement_fields is_link
unlinked-agree zero first last e = absurd (omega arith)
unlinked-agree (suc zero) first last e = refl
unlinked-agree (suc (suc zero)) first last e = absurd (false≢true (sym e))
unlinked-agree (suc (suc (suc zero))) first last e = refl
unlinked-agree (suc (suc (suc (suc zero)))) first last e = refl
unlinked-agree (suc (suc (suc (suc (suc zero))))) first last e = absurd (false≢true (sym e))
unlinked-agree (suc (suc (suc (suc (suc (suc field)))))) first last e = absurd (omega arith)

module _ (rows : List ℤ) (row : ℕ) where
  pub parameter-number : is_parameter rows row ≡ true → number_at rows row 0 ≡ 58
  unfolding is_declaration
  parameter-number p = eqb-true (number_at rows row 0) 58 (parameter-declaration rows row p)

  pub role-settled : {kind : Kind} → kind_at rows row ≡ kind → (field : ℕ) → 1 ≤ field → field < 6 → settled kind field ≡ true → role_sort rows row field ≡ sort_at rows row field
  unfolding kind_at sort_at sort_of
  role-settled {kind} k field first last t =
      by_cases (is_parameter rows row)
      (λ p. sort-parameter rows row field p ∙ (rw (parameter-number p) (roles-agree field first last (rw (← k, parameter-number p) at t))))
      (sort-other rows row field)

  pub role-unlinked : (field : ℕ) → 1 ≤ field → field < 6 → is_link (role_sort rows row field) ≡ false → sort_at rows row field ≡ role_sort rows row field
  unfolding sort_at sort_of
  role-unlinked field first last e =
      by_cases (is_parameter rows row)
      (λ p. let is = sort-parameter rows row field p in rw (parameter-number p, is) (unlinked-agree field first last (rw is at e)))
      (λ p. sym (sort-other rows row field p))

  -- A row of another kind has one role.
  pub no-parameter-kind : (kind_at rows row ≡ OfStatement Declare → ⊥) → is_parameter rows row ≡ false
  unfolding kind_at kind_of kind_in kinds
  no-parameter-kind apart = by_cases (is_parameter rows row) (λ p. absurd (apart (rw (parameter-number p)))) (λ p. p)

  pub role-other : (kind_at rows row ≡ OfStatement Declare → ⊥) → (field : ℕ) → role_sort rows row field ≡ sort_at rows row field
  role-other apart field = sort-other rows row field (no-parameter-kind apart)
