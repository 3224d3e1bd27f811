-- Laws of plain kernel programs: no row of theirs is of the kinds of functions. A call means a definition and a return stands in one; an argument
-- stands in the list of a call.
use Rattle.std.specs.Prelude.{◌≡◌, refl, Bool, true, false, ◌&&◌, ◌||◌, List, eqb, ℤ}
use Rattle.std.proofs.Common.{sym, ◌∙◌}
use Rattle.std.proofs.Math.Bool.{true≢false}
use Prim.Native.Nat.{ℕ, zero, suc, ◌<◌, ◌≤◌}
use native.Mathlib.Omega.{arith}
use borrow.Author.Tests.{eqb-true, eq-eqb}
use Rattle.words.specs.Word.{pick}
use Rattle.words.specs.Table.{row_count, number_at}
use Rattle.words.specs.Declarations.{is_declaration}
use Rattle.words.specs.Kinds.{kinds, kind_in, kind_of, expression, optional_expression, place, optional_item, body_block, optional_arm, optional_argument, optional_parameter, absent_link, between, is_link, kind_row, expression_fields, statement_fields, mark_fields, definition_fields, member_fields, sort_in, sort_of, sort_at, is_function_number}
use Rattle.words.specs.KindLaws.{every_line, every-number, between-both}
use Rattle.words.specs.Laws.{by_cases}
use Rattle.words.specs.Links.{is_expression, is_place, is_statement, is_arm, is_argument, is_block, link, fits}
use Rattle.words.specs.SearchLaws.{from_on}
use Rattle.words.specs.declared.Kind.{Kind}
use Rattle.words.specs.declared.Form.TheVariants.{Kernel}
use Rattle.words_roles.specs.Roles.{is_parameter}
use Rattle.words_roles.specs.Demands.{AsParameter, by_definition, by_parameter}
use Rattle.words_roles.proofs.RoleLaws.{is-parameter, plain-role}
use Rattle.check_grammar.specs.GrammarLaws.{kind-links-none}
use Rattle.check_fields.specs.Fields.{bounds_of}
use Rattle.check_structure.specs.LinkLaws.{by-owner}
use Rattle.check_structure.specs.RoleLaws.{initial-there}
use Rattle.check_structure.specs.Structured.{Leads, EachField, Structured}
use Rattle.check_structure.specs.StructuredLaws.{structured-tree}
use Rattle.check_function_causes.specs.Functions.{is_definition, is_call, is_return}
use Rattle.check_function_causes.specs.Demands.{InFront, foremost, behind, Within, function_part, function_along}
use Rattle.check_kernel_statements.specs.Statements.{is_kernel_if, is_kernel_while, is_kernel_expression, is_kernel_return, is_kernel_parameter, is_of_function, is_kernel_statement}
use Rattle.check_kernel.specs.Legal.{Legal}
use Rattle.check_plain.specs.Plain.{Plain}

-- ---- the fields that link arguments

-- Only the kinds of calls and arguments have them.
abbrev own_arguments : ℕ → ℕ → Kind → Bool
own_arguments field number kind = pick (eqb (sort_in kind field) optional_argument) (between 31 32 number) true

own-arguments : (number field : ℕ) → 1 ≤ field → field < 6 → own_arguments field number (kind_of number) ≡ true
unfolding every_line kinds sort_in kind_row expression_fields statement_fields mark_fields definition_fields member_fields
own-arguments number field first last =
    let Owns : (ℕ → Type 0) = λ field. own_arguments field number (kind_of number) ≡ true in
    from_on Owns field 1 first (every-number (own_arguments 1) refl (λ n. refl) number)
    (λ h. from_on Owns field 2 h (every-number (own_arguments 2) refl (λ n. refl) number)
    (λ h. from_on Owns field 3 h (every-number (own_arguments 3) refl (λ n. refl) number)
    (λ h. from_on Owns field 4 h (every-number (own_arguments 4) refl (λ n. refl) number)
    (λ h. from_on Owns field 5 h (every-number (own_arguments 5) refl (λ n. refl) number) (λ h. absurd (omega arith))))))

-- An argument fits there alone.
fits-none : (rows : List ℤ) (sort row : ℕ) → number_at rows row 0 ≡ 32 → eqb sort optional_argument ≡ false → fits rows sort row ≡ false
unfolding fits is_expression is_place is_statement is_arm is_block is_declaration sort_at sort_of kind_of kind_in kinds sort_in kind_row member_fields
fits-none rows sort row k other =
    rw (k, other) (go (eqb sort expression || eqb sort optional_expression) (eqb sort place) (eqb sort optional_item) (eqb sort optional_arm) (eqb sort optional_parameter) (eqb sort absent_link) (eqb sort body_block) _)
  where
    go : (a b c d e f g h : Bool) → pick a false (pick b false (pick c false (pick d false (pick e false (pick f false (pick g false false && h)))))) ≡ false
    go true b c d e f g h = refl
    go false true c d e f g h = refl
    go false false true d e f g h = refl
    go false false false true e f g h = refl
    go false false false false true f g h = refl
    go false false false false false true g h = refl
    go false false false false false false true h = refl
    go false false false false false false false h = refl

-- ---- without definitions

-- a number is one of two
one_of_two : (least number : ℕ) → between least (suc least) number ≡ true → (number ≡ least → ⊥) → (number ≡ suc least → ⊥) → ⊥
one_of_two least number e one other =
    let range = between-both least (suc least) number e in
    from_on (λ k. number ≡ k → ⊥) number least range.0 one (λ h k. other (let most = range.1 in omega arith)) refl

module _ (header rows : List ℤ) (plain : Plain header rows) where
  abbrev legal : Legal header rows
  legal = plain.legal

  -- Its links lead to rows of the sort that the table of kinds says.
  pub plain-fitting : EachField rows (λ row field. 0 < link rows row field → fits rows (sort_at rows row field) (link rows row field) ≡ true)
  plain-fitting row n field first last h =
      rw (plain-role rows row field (λ owner l. plain.no_definition owner (omega arith))) at (legal.structured.fitting row n field first last h)

  linking : {row field : ℕ} → Leads rows row field → row < row_count rows
  linking leads = let l = leads.later in let i = leads.inside in omega arith

  -- No row is a parameter,
  none_made : {row : ℕ} → row < row_count rows → AsParameter rows row → ⊥
  none_made n (by_definition {owner} l d f e) = true≢false (sym f ∙ plain.no_definition owner (omega arith))
  none_made n (by_parameter l d p e) = none_made (omega arith) p

  pub no-parameter : (row : ℕ) → row < row_count rows → is_parameter rows row ≡ false
  no-parameter row n = by_cases (is_parameter rows row) (λ p. absurd (none_made n (is-parameter rows row p))) (λ p. p)

  -- so that none is of kind 58: a declaration is no statement of the kernel.
  pub plain-undeclared : (row : ℕ) → row < row_count rows → number_at rows row 0 ≡ 58 → ⊥
  unfolding is_declaration is_statement is_kernel_statement is_kernel_if is_kernel_while is_kernel_expression is_of_function is_kernel_return is_kernel_parameter link is_link sort_at sort_of kind_of kind_in kinds sort_in kind_row statement_fields
  plain-undeclared row n k =
      let none : number_at rows row 2 ≡ 0 = eqb-true _ _ (rw k at (legal.formed row n (rw k))) in
      let some : 0 < number_at rows row 2 = rw k at (initial-there Kernel (bounds_of Kernel header) rows legal.structured row n (rw k) (no-parameter row n)) in
      omega arith

  none-in-front : {definition place : ℕ} → InFront rows definition place → ⊥
  none-in-front (foremost leads d) = true≢false (sym d ∙ plain.no_definition (link rows 0 1) leads.inside)
  none-in-front (behind f leads d) = none-in-front f

  none-around : {definition row : ℕ} → Within rows definition row → ⊥
  none-around {definition} (function_part h d leads) = true≢false (sym d ∙ plain.no_definition definition (linking leads))
  none-around (function_along h leads w) = none-around w

  no_call : (row : ℕ) → row < row_count rows → is_call rows row ≡ false
  no_call row n = by_cases (is_call rows row) (λ c. absurd (none-in-front (legal.well_called.called row n c).function)) (λ c. c)

  no_return : (row : ℕ) → row < row_count rows → is_return rows row ≡ false
  no_return row n = by_cases (is_return rows row) (λ r. absurd (none-around (legal.returns_inside row n r).within)) (λ r. r)

  no-argument : (row : ℕ) → row < row_count rows → number_at rows row 0 ≡ 32 → ⊥
  unfolding is_call sort_at sort_of
  no-argument =
      let s : Structured Kernel (bounds_of Kernel header) rows = legal.structured in
      by-owner rows (structured-tree Kernel (bounds_of Kernel header) rows s) (λ row. number_at rows row 0 ≡ 32 → ⊥)
      (λ k. let block = s.block in omega arith)
      (λ owner field last leads none k.
      let n = linking leads in
      let first = first_field owner field leads in
      let there : 0 < link rows owner field = (let l = leads.later in omega arith) in
      by_cases (eqb (sort_at rows owner field) optional_argument)
      (λ e. one_of_two 31 (number_at rows owner 0) (rw e at (own-arguments (number_at rows owner 0) field first last)) (λ q. true≢false (sym (eq-eqb _ _ q) ∙ no_call owner n)) none)
      (λ e. true≢false (sym (plain-fitting owner n field first last there) ∙ fits-none rows (sort_at rows owner field) (link rows owner field) k e)))
    where
      first_field : (owner field : ℕ) → Leads rows owner field → 1 ≤ field
      first_field owner zero leads = absurd (let none = kind-links-none rows owner in let l = leads.later in omega arith)
      first_field owner (suc field) leads = omega arith

  pub plain-number : (row : ℕ) → row < row_count rows → is_function_number (number_at rows row 0) ≡ false
  unfolding is_function_number is_definition is_call is_return
  plain-number row n =
      by_cases (between 31 32 (number_at rows row 0))
      (λ e. absurd (one_of_two 31 (number_at rows row 0) e (λ q. true≢false (sym (eq-eqb _ _ q) ∙ no_call row n)) (no-argument row n)))
      (λ e. by_cases (between 59 60 (number_at rows row 0))
      (λ f. absurd (one_of_two 59 (number_at rows row 0) f (λ q. true≢false (sym (eq-eqb _ _ q) ∙ plain.no_definition row n)) (λ q. true≢false (sym (eq-eqb _ _ q) ∙ no_return row n))))
      (λ f. rw (e, f)))
