-- Structured tables: the links of definitions, parameters, calls and arguments are as the trees of functions ask.
use Rattle.std.specs.Prelude.{◌≡◌, Bool, true, false, List, ℕ, ◌≤◌, ◌<◌, eqb, ℤ}
use Rattle.std.proofs.Math.Path.{refl, ap}
use Rattle.std.proofs.Common.{sym, ◌∙◌, true≢false, arith, eqb-true}
use Rattle.std.proofs.lemmas.Bool.{false≢true}
use Rattle.words.specs.Table.{row_count, number_at}
use Rattle.words.specs.Laws.{both, by_cases}
use Rattle.words.specs.Kinds.{kind_at, is_expression_kind, sort_in, sort_of, sort_at, is_link, is_required, kind_row, expression_fields, definition_fields, member_fields}
use Rattle.words.specs.KindLaws.{argument-kind}
use Rattle.words.specs.Links.{link, fits, is_block, is_argument}
use Rattle.words.specs.declared.Form.{Form}
use Rattle.words.specs.declared.Kind.{Kind}
use Rattle.words.specs.declared.Kind.TheVariants.{OfExpression, OfStatement, OfMark, OfMember, Definition, Other}
use Rattle.words.specs.declared.MemberKind.TheVariants.{Argument}
use Rattle.words_roles.specs.Roles.{is_parameter, role_sort}
use Rattle.words_roles.proofs.RoleLaws.{parameter-declaration, sort-other}
use Rattle.check_fields.specs.declared.Bounds.{Bounds}
use Rattle.check_structure.specs.Structured.{Structured}
use Rattle.check_structure.specs.StructuredLaws.{structured-tree}
use Rattle.check_structure.specs.RoleLaws.{first-parameter, parameter-fits}
use Rattle.check_function_causes.specs.Demands.{WellCalled}
use Rattle.check_parameter_causes.specs.Demands.{Parameter, first_parameter, next_parameter}
use Rattle.accepted_calls.specs.Tables.{FunctionLinks, FunctionTable}
use Rattle.accepted_calls.specs.Kinds.{declaration-kind, block-kind}

-- A kind that has one role.
abbrev single : Kind → Bool
single (OfExpression kind) = true
single (OfStatement kind) = false
single (OfMark kind) = true
single (OfMember kind) = true
single Definition = true
single Other = true

module _ (form : Form) (bounds : Bounds) (rows : List ℤ) (s : Structured form bounds rows) where
  -- ---- a row of such a kind has what the table of kinds says

  module _ (row : ℕ) (n : row < row_count rows) {kind : Kind} (k : kind_at rows row ≡ kind) (one : single kind ≡ true) where
    no-parameter : is_parameter rows row ≡ false
    no-parameter =
        by_cases (is_parameter rows row)
        (λ p. absurd (true≢false (sym one ∙ ap single (sym k ∙ declaration-kind rows row (parameter-declaration rows row p)))))
        (λ p. p)

    role-is : (field : ℕ) → role_sort rows row field ≡ sort_in kind field
    unfolding sort_at sort_of kind_at
    role-is field = sort-other rows row field no-parameter ∙ ap (λ (kind : Kind). sort_in kind field) k

    link-is : (field : ℕ) → is_link (sort_in kind field) ≡ true → link rows row field ≡ number_at rows row field
    unfolding link sort_at sort_of kind_at
    link-is field e = rw (k, e)

    there : (field : ℕ) → 1 ≤ field → field < 6 → is_link (sort_in kind field) ≡ true → is_required (sort_in kind field) ≡ true → 0 < number_at rows row field
    there field first last e r = rw (← link-is field e) (s.present row n field first last (rw (role-is field) r))

    fitted : (field : ℕ) → 1 ≤ field → field < 6 → is_link (sort_in kind field) ≡ true → 0 < number_at rows row field → fits rows (sort_in kind field) (number_at rows row field) ≡ true
    fitted field first last e p = rw (link-is field e, role-is field) at (s.fitting row n field first last (rw (link-is field e) p))

  parameter-made : {definition row : ℕ} → Parameter rows definition row → (row < row_count rows) × (is_parameter rows row ≡ true)
  parameter-made {definition} (first_parameter d leads) = let l = leads.later in let i = leads.inside in (i, first-parameter form bounds rows s definition (omega arith) d (omega arith))
  parameter-made (next_parameter {row} p leads) =
      let own = parameter-made p in
      let l = leads.later in
      (leads.inside, (parameter-fits form bounds rows s row own.0 own.1).next-parameter (omega arith))

  argument-at : (row : ℕ) → is_argument rows row ≡ true → kind_at rows row ≡ OfMember Argument
  unfolding is_argument sort_at sort_of kind_at
  argument-at row e = argument-kind (number_at rows row 0) e

  -- "Expressions have next 0."
  alone : (row : ℕ) → row < row_count rows → (kind : Kind) → kind_at rows row ≡ kind → is_expression_kind kind ≡ true → number_at rows row 5 ≡ 0
  unfolding sort_at sort_of kind_at sort_in kind_row expression_fields
  alone row n (OfExpression kind) k e = s.unused_zero row n 5 (omega arith) (omega arith) (rw k)
  alone row n (OfStatement kind) k e = absurd (false≢true e)
  alone row n (OfMark kind) k e = absurd (false≢true e)
  alone row n (OfMember kind) k e = absurd (false≢true e)
  alone row n Definition k e = absurd (false≢true e)
  alone row n Other k e = absurd (false≢true e)

  pub structured-links : FunctionLinks rows
  unfolding sort_in kind_row expression_fields definition_fields member_fields is_link is_required fits is_block
  structured-links = record {
    body_there = λ row n k. there row n k refl 3 (omega arith) (omega arith) refl refl;
    body-block = λ row n k.
        let p = there row n k refl 3 (omega arith) (omega arith) refl refl in
        let fit = fitted row n k refl 3 (omega arith) (omega arith) refl p in
        block-kind rows (number_at rows row 3) (eqb-true _ _ (both (eqb (number_at rows (number_at rows row 3) 0) 42) _ fit).0);
    parameter = λ definition row p. parameter-declaration rows row (parameter-made p).1;
    first_argument = λ row n k p. argument-at (number_at rows row 2) (fitted row n k refl 2 (omega arith) (omega arith) refl p);
    next_argument = λ row n k p. argument-at (number_at rows row 5) (fitted row n k refl 5 (omega arith) (omega arith) refl p);
    value_there = λ row n k. there row n k refl 1 (omega arith) (omega arith) refl refl;
    lone = λ row n e. alone row n (kind_at rows row) refl e;
  }

  pub function-table : WellCalled rows → FunctionTable rows
  function-table called = record { tree = structured-tree form bounds rows s; block = s.block; links = structured-links; well_called = called }
