-- The causes 18, 19 and 20 accept exactly the tables whose declarations are as the request demands; so a table without declarations.
use Rattle.std.specs.Prelude.{◌≡◌, false, List, ◌↔◌, ℕ, ◌<◌, ℤ, None, Ok}
use Rattle.std.proofs.Common.{arith}
use Rattle.words.specs.Table.{row_count, number_at}
use Rattle.words.specs.Laws.{by_cases, neither}
use Rattle.words.specs.Kinds.{kinds, kind_in, kind_of, kind_row, statement_fields, sort_in, sort_of, sort_at, is_link}
use Rattle.words.specs.Links.{link}
use Rattle.words.specs.Search.{lowest_row}
use Rattle.words.specs.SearchLaws.{lowest_row-all, all-lowest_row}
use Rattle.check_structure.specs.Refusal.{at, ◌next◌}
use Rattle.check_structure.specs.RefusalLaws.{next-accepts, accepts-next, at-accepts, accepts-at}
use Rattle.check_structure.specs.Structured.{Tree}
use Rattle.words.specs.Declarations.{is_declaration, declaration_count}
use Rattle.names.proofs.ScopeLaws.{before-later}
use Rattle.check_parameter_causes.specs.Parameters.{declared_as_parameter}
use Rattle.check_parameter_causes.proofs.ParameterLaws.{not-as-parameter, as-no-parameter}
use Rattle.check_declaration_causes.specs.Causes.{outside_block, names_itself, declared_before, declared_twice, one_too_many, declaration_refusal}
use Rattle.check_declaration_causes.specs.Demands.{WellDeclared}
use Rattle.check_declaration_causes.proofs.InitialLaws.{not-named-itself, names-others}
use Rattle.check_declaration_causes.proofs.DeclarationLaws.{block-undeclared, not-declared-before, declared-once, none-too-many, few-none}

-- a block is no declaration, and links nothing by b
block-second : (rows : List ℤ) → number_at rows 0 0 ≡ 42 → link rows 0 2 ≡ 0
unfolding link sort_at sort_of sort_in kind_of kind_in kinds kind_row statement_fields is_link
block-second rows block = rw block

module _ (rows : List ℤ) (t : Tree rows) (block : number_at rows 0 0 ≡ 42) where
  accepted-declared : declaration_refusal rows ≡ (Ok tt) → WellDeclared rows
  unfolding declaration_refusal declared_twice
  accepted-declared e =
      let c18 = next-accepts (at 18 _) _ e in
      let c19 = next-accepts (at 19 _) _ c18.1 in
      let own = lowest_row-all rows (names_itself rows) (at-accepts 18 _ c18.0) in
      let twice : (row : ℕ) → row < row_count rows → (declared_before rows row ≡ false) × (declared_as_parameter rows row ≡ false) =
      λ row n. neither (declared_before rows row) _ (lowest_row-all rows (declared_twice rows) (at-accepts 19 _ c19.0) row n) in
      record {
        not_own = λ row n. not-named-itself rows t row (own row n);
        not_twice = λ row n. not-declared-before rows t row (block-undeclared rows 0 block) (twice row n).0;
        not_parameter = λ row n. not-as-parameter rows t (block-second rows block) row (twice row n).1;
        few_declarations = none-too-many rows (at-accepts 20 _ c19.1);
      }

  declared-accepted : WellDeclared rows → declaration_refusal rows ≡ (Ok tt)
  unfolding declaration_refusal declared_twice
  declared-accepted w =
      accepts-next (at 18 _) _ (accepts-at 18 _ (all-lowest_row rows (names_itself rows) (λ row n. names-others rows t row n (w.not_own row n))))
      (accepts-next (at 19 _) _ (accepts-at 19 _ (all-lowest_row rows (declared_twice rows) (λ row n. rw (declared-once rows t row n (w.not_twice row n)) (as-no-parameter rows t (block-second rows block) row n (w.not_parameter row n)))))
      (accepts-at 20 _ (few-none rows w.few_declarations)))

  pub accepts-declared : declaration_refusal rows ≡ (Ok tt) ↔ WellDeclared rows
  accepts-declared = (accepted-declared, declared-accepted)

-- ---- without declarations

module _ (rows : List ℤ) (none : declaration_count rows ≡ 0) where
  none-declared : (row : ℕ) → row < row_count rows → is_declaration rows row ≡ false
  unfolding declaration_count
  none-declared row n =
      by_cases (is_declaration rows row) (λ d. absurd (let more = before-later rows row (row_count rows) d n in omega arith)) (λ d. d)

  pub undeclared-once : lowest_row rows (declared_before rows) ≡ None
  unfolding declared_before
  undeclared-once = all-lowest_row rows (declared_before rows) (λ row n. rw (none-declared row n))

  pub undeclared-accepted : declaration_refusal rows ≡ (Ok tt)
  unfolding declaration_refusal names_itself one_too_many declared_twice declared_before declared_as_parameter
  undeclared-accepted =
      accepts-next (at 18 _) _ (accepts-at 18 _ (all-lowest_row rows (names_itself rows) (λ row n. rw (none-declared row n))))
      (accepts-next (at 19 _) _ (accepts-at 19 _ (all-lowest_row rows (declared_twice rows) (λ row n. rw (none-declared row n))))
      (accepts-at 20 _ (all-lowest_row rows (one_too_many rows) (λ row n. rw (none-declared row n)))))

  pub undeclared-inside : lowest_row rows (outside_block rows) ≡ None
  unfolding outside_block
  undeclared-inside = all-lowest_row rows (outside_block rows) (λ row n. rw (none-declared row n))
