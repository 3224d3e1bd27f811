-- Accepts: "The kernel check accepts the legal kernel programs and no others."
use Rattle.std.specs.Prelude.{◌≡◌, Bool, ◌&&◌, List, ℕ, ◌≤◌, ◌<◌, eqb, ℤ, Ok}
use Rattle.std.proofs.Math.Path.{refl, ap}
use Rattle.std.proofs.Common.{sym, ◌∙◌, arith}
use Rattle.std.proofs.Math.Bool.{true, false, not, true≢false}
use Rattle.std.proofs.lemmas.Bool.{false≢true}
use Rattle.std.proofs.Math.Decide.{ℕ_discrete, dec_lt}
use Rattle.std.proofs.Math.Arith.{lt_of_le-ne}
use Rattle.std.proofs.Math.Dec.{leb}
use borrow.Author.Tests.{eq-eqb, ne_eqb, ltb-true, leb-true, not-false}
use Rattle.words.specs.Word.{pick}
use Rattle.words.specs.Table.{row_count, number_at}
use Rattle.words.specs.Laws.{neither}
use Rattle.words.specs.declared.Form.TheVariants.{Kernel}
use Rattle.check_structure.specs.DepthLaws.{none-deep-shallow, shallow-none-deep}
use Rattle.check_fields.specs.Fields.{number_fits}
use Rattle.words.specs.Kinds.{sort_of, sort_at, is_link, sort_in, kind_of, kind_in, kinds, kind_row, expression_fields, statement_fields, mark_fields, member_fields}
use Rattle.words.specs.Links.{is_statement, link}
use Rattle.check_structure.specs.Refusal.{at, structural_refusal}
use Rattle.check_structure.specs.RefusalLaws.{next-accepts, accepts-next, at-accepts, accepts-at}
use Rattle.words.specs.Search.{some}
use Rattle.words.specs.SearchLaws.{some-all, all-some, lowest_row-all, all-lowest_row}
use Rattle.check_fields.specs.declared.Bounds.{Bounds}
use Rattle.check_structure.specs.Structured.{Structured, Tree}
use Rattle.check_structure.specs.StructuredLaws.{accepted-structured, structured-accepted, structured-tree}
use Rattle.check_labels.proofs.LabelLaws.{label-test, test-label, label_inside, search-ahead, ahead-search}
use Rattle.check_labels.specs.Labels.{is_label, repeated_label, label_ahead, goto_without_label, label_fault}
use Rattle.check_labels.specs.Ahead.{Label, Ahead}
use Rattle.check_kernel.specs.Legal.{Legal}
use Rattle.check_labels.specs.Passes.{LabelNumbers}
use Rattle.check_kernel.specs.Refusal.{form_causes, kernel_causes, refusal}
use Rattle.check_kernel_statements.specs.Statements.{is_kernel_statement, not_kernel_form}
use Rattle.check_declaration_causes.specs.Causes.{declared_before}
use Rattle.check_declaration_causes.proofs.DeclarationLaws.{block-undeclared, not-declared-before, declared-once}
use Rattle.check_function_causes.specs.Causes.{returns_outside}
use Rattle.check_function_causes.proofs.FrontLaws.{block-undefined}
use Rattle.check_function_causes.proofs.AroundLaws.{inside-function, function-inside}
use Rattle.check_function_causes.proofs.AcceptsFunctions.{accepts-functions}

-- ---- what causes 1 to 6 leave to cause 13

module _ (bounds : Bounds) (rows : List ℤ) (s : Structured Kernel bounds rows) where
  pub structured-lone : link rows 0 5 ≡ 0
  unfolding link
  structured-lone = rw s.lone (go (is_link (sort_at rows 0 5)))
    where
      go : (b : Bool) → pick {A = ℕ} b 0 0 ≡ 0
      go true = refl
      go false = refl

  label-numbers : (row kind : ℕ) → row < row_count rows → number_at rows row 0 ≡ kind → sort_of kind 1 ≡ 4 → number_at rows row 1 < 40980
  unfolding number_fits sort_at
  label-numbers row kind n k e = ltb-true _ _ (rw (k, e) at (s.named row n 1 (omega arith) (omega arith)))

  pub structured-labels : LabelNumbers rows
  unfolding sort_of sort_in kind_of kind_in kinds kind_row expression_fields statement_fields mark_fields member_fields
  structured-labels row n e = go (leb 52 (number_at rows row 0)) (leb (number_at rows row 0) 53) refl refl e (ℕ_discrete (number_at rows row 0) 53)
    where
      go : (a b : Bool) → leb 52 (number_at rows row 0) ≡ a → leb (number_at rows row 0) 53 ≡ b → (a && b) ≡ true → Dec (number_at rows row 0 ≡ 53) → number_at rows row 1 < 40980
      go true true p q e (yes k) = label-numbers row 53 n k refl
      go true true p q e (no k) =
          let least : 52 ≤ number_at rows row 0 = leb-true _ _ p in
          let most : number_at rows row 0 < 53 = lt_of_le-ne (leb-true _ _ q) k in
          label-numbers row 52 n (omega arith) refl
      go true false p q e d = absurd (false≢true e)
      go false b p q e d = absurd (false≢true e)

-- ---- cause 12

module _ (rows : List ℤ) (row : ℕ) where
  form-kept : not_kernel_form rows row ≡ false → is_statement rows row ≡ true → is_kernel_statement rows row ≡ true
  unfolding not_kernel_form
  form-kept e s = not-false (is_kernel_statement rows row) (rw s at e)

  kept-form : (is_statement rows row ≡ true → is_kernel_statement rows row ≡ true) → not_kernel_form rows row ≡ false
  unfolding not_kernel_form
  kept-form f = go (is_statement rows row) refl
    where
      go : (b : Bool) → is_statement rows row ≡ b → (b && not (is_kernel_statement rows row)) ≡ false
      go true e = ap not (f e)
      go false e = refl

-- ---- cause 13

module _ (rows : List ℤ) (row : ℕ) where
  fault-repeated : label_fault rows row ≡ false → repeated_label rows row ≡ false
  unfolding label_fault
  fault-repeated e = (neither (repeated_label rows row) (goto_without_label rows row) e).0

  fault-goto : label_fault rows row ≡ false → goto_without_label rows row ≡ false
  unfolding label_fault
  fault-goto e = (neither (repeated_label rows row) (goto_without_label rows row) e).1

  no-fault : repeated_label rows row ≡ false → goto_without_label rows row ≡ false → label_fault rows row ≡ false
  unfolding label_fault
  no-fault e f = rw (e, f)

  -- no earlier label has the number
  unrepeated : (number other : ℕ) → repeated_label rows row ≡ false → Label rows number row → Label rows number other → other < row → ⊥
  unfolding repeated_label
  unrepeated number other e l k h =
      let none : some (is_label rows number) 0 row ≡ false = rw (l.label, l.number_is) at e in
      true≢false (sym (label-test rows number other k) ∙ some-all (is_label rows number) row 0 none other (omega arith) (omega arith))

  repeats : ((number other : ℕ) → Label rows number row → Label rows number other → row ≡ other) → repeated_label rows row ≡ false
  unfolding repeated_label
  repeats once = go (ℕ_discrete (number_at rows row 0) 53)
    where
      clear : number_at rows row 0 ≡ 53 → (other : ℕ) → other < row → (b : Bool) → is_label rows (number_at rows row 1) other ≡ b → b ≡ false
      clear k other h true e =
          absurd (let same = once (number_at rows row 1) other (record { label = k; number_is = refl }) (test-label rows (number_at rows row 1) other e) in omega arith)
      clear k other h false e = refl

      go : Dec (number_at rows row 0 ≡ 53) → (eqb (number_at rows row 0) 53 && some (is_label rows (number_at rows row 1)) 0 row) ≡ false
      go (yes k) = rw (eq-eqb _ _ k) (all-some (is_label rows (number_at rows row 1)) row 0 (λ other a b. clear k other (omega arith) (is_label rows (number_at rows row 1) other) refl))
      go (no k) = rw (ne_eqb _ _ k)

  module _ (t : Tree rows) (lone : link rows 0 5 ≡ 0) where
    goto-ahead : row < row_count rows → goto_without_label rows row ≡ false → number_at rows row 0 ≡ 52 → Ahead rows (number_at rows row 1) row
    unfolding goto_without_label
    goto-ahead n e k = search-ahead rows t (number_at rows row 1) lone row row n (not-false (label_ahead row rows (number_at rows row 1) row) (rw k at e))

    ahead-goto : (number_at rows row 0 ≡ 52 → Ahead rows (number_at rows row 1) row) → goto_without_label rows row ≡ false
    unfolding goto_without_label
    ahead-goto ahead = go (ℕ_discrete (number_at rows row 0) 52)
      where
        go : Dec (number_at rows row 0 ≡ 52) → (eqb (number_at rows row 0) 52 && not (label_ahead row rows (number_at rows row 1) row)) ≡ false
        go (yes k) = rw (eq-eqb _ _ k, ahead-search rows t (number_at rows row 1) lone (ahead k))
        go (no k) = rw (ne_eqb _ _ k)

-- ---- the theorem

module _ (header rows : List ℤ) where
  pub accepted-legal : refusal header rows ≡ (Ok tt) → Legal header rows
  unfolding refusal kernel_causes form_causes
  accepted-legal e =
      let structural = next-accepts (structural_refusal Kernel header rows) _ e in
      let sound = accepted-structured Kernel header rows structural.0 in
      let s = sound.1 in
      let t = structured-tree Kernel _ rows s in
      let root = block-undefined rows 0 s.block in
      let c7 = next-accepts (at 7 _) _ structural.1 in
      let form = next-accepts (form_causes rows) _ c7.1 in
      let c9 = next-accepts (at 9 _) _ form.0 in
      let c19 = next-accepts (at 19 _) _ form.1 in
      let c12 = next-accepts (at 12 _) _ c9.1 in
      let formed = lowest_row-all rows (not_kernel_form rows) (at-accepts 12 _ c12.0) in
      let labels = lowest_row-all rows (label_fault rows) (at-accepts 13 _ c12.1) in
      record {
        header-fits = sound.0;
        structured = s;
        shallow = none-deep-shallow rows t Kernel (at-accepts 9 _ c9.0);
        formed = λ row n. form-kept rows row (formed row n);
        labels_once = λ number row other l k. once t labels number row other l k (ℕ_discrete row other) (dec_lt row other);
        gotos_ahead = λ row n k. goto-ahead rows row t (structured-lone _ rows s) n (fault-goto rows row (labels row n)) k;
        returns_inside = λ row n. inside-function rows t root row n (lowest_row-all rows (returns_outside rows) (at-accepts 7 _ c7.0) row n);
        not_twice = λ row n. not-declared-before rows t row (block-undeclared rows 0 s.block) (lowest_row-all rows (declared_before rows) (at-accepts 19 _ c19.0) row n);
        well_called = (accepts-functions rows t root).0 c19.1;
      }
    where
      once : Tree rows → ((row : ℕ) → row < row_count rows → label_fault rows row ≡ false) → (number row other : ℕ) → Label rows number row → Label rows number other
          → Dec (row ≡ other) → Dec (row < other) → row ≡ other
      once t labels number row other l k (yes q) d = q
      once t labels number row other l k (no q) (yes d) = absurd (unrepeated rows other number row (fault-repeated rows other (labels other (label_inside rows number other t k))) k l d)
      once t labels number row other l k (no q) (no d) =
          absurd (unrepeated rows row number other (fault-repeated rows row (labels row (label_inside rows number row t l))) l k
          (lt_of_le-ne (omega (arith, d)) (λ (x : other ≡ row). q (sym x))))

  pub legal_accepted : Legal header rows → refusal header rows ≡ (Ok tt)
  unfolding refusal kernel_causes form_causes
  legal_accepted l =
      let s = l.structured in
      let t = structured-tree Kernel _ rows s in
      let lone = structured-lone _ rows s in
      let root = block-undefined rows 0 s.block in
      accepts-next (structural_refusal Kernel header rows) _ (structured-accepted Kernel header rows l.header-fits s)
      (accepts-next (at 7 _) _ (accepts-at 7 _ (all-lowest_row rows (returns_outside rows) (λ row n. function-inside rows t root row (l.returns_inside row n))))
      (accepts-next (form_causes rows) _
      (accepts-next (at 9 _) _ (accepts-at 9 _ (shallow-none-deep rows t Kernel l.shallow))
      (accepts-next (at 12 _) _ (accepts-at 12 _ (all-lowest_row rows (not_kernel_form rows) (λ row n. kept-form rows row (l.formed row n))))
      (accepts-at 13 _ (all-lowest_row rows (label_fault rows)
      (λ row n. no-fault rows row (repeats rows row (λ number other. l.labels_once number row other)) (ahead-goto rows row t lone (l.gotos_ahead row n)))))))
      (accepts-next (at 19 _) _ (accepts-at 19 _ (all-lowest_row rows (declared_before rows) (λ row n. declared-once rows t row n (l.not_twice row n))))
      ((accepts-functions rows t root).1 l.well_called))))

  -- "The kernel check accepts the legal kernel programs and no others."
  pub accepts-legal : (refusal header rows ≡ (Ok tt) → Legal header rows) × (Legal header rows → refusal header rows ≡ (Ok tt))
  accepts-legal = (accepted-legal, legal_accepted)
