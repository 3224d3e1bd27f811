-- Labels: a label number stands once in the tree of a plain kernel program, since it stands in one row. Row 0 gathers what all rows have.
use Rattle.std.specs.Prelude.{◌≡◌, Bool, true, false, ◌&&◌, List, eqb, ℤ}
use Rattle.std.proofs.Math.Path.{refl, sym, ap}
use Rattle.std.proofs.Common.{◌∙◌, ⊎_elim}
use Rattle.std.proofs.Math.Bool.{true≢false}
use Prim.Native.Nat.{ℕ, zero, suc, ◌+◌, ◌≤◌, ◌<◌}
use native.Mathlib.Omega.{arith}
use borrow.Author.Tests.{eqb-true, eq-eqb, ne_eqb}
use Rattle.words.specs.Word.{pick}
use Rattle.words.specs.Table.{row_count, number_at}
use Rattle.words.specs.Laws.{both, by_cases}
use Rattle.words.specs.Links.{is_statement, link}
use Rattle.words.specs.declared.Form.TheVariants.{Kernel}
use Rattle.language.specs.Trees.{block, none, ◌then◌}
use Rattle.language.specs.Decode.{statement_at, items_at, list_at}
use Rattle.language.specs.Program.{contents}
use Rattle.check_fields.specs.Fields.{bounds_of}
use Rattle.check_structure.specs.NoteLaws.{above_zero}
use Rattle.check_structure.specs.StructuredLaws.{structured-tree}
use Rattle.translation.specs.KernelForm.{statement_times, items_times}
use Rattle.check_labels.specs.Ahead.{Label}
use Rattle.check_plain.specs.Plain.{Plain}
use Rattle.accepted.specs.Sums.{total, total_from, along, brought, gathers}
use Rattle.accepted.proofs.Statements.{list-some, root-inside, root-statement, program-contents}
use Rattle.flat_kernel_rows.specs.StatementLinks.{StatementLink}
use Rattle.flat_kernel_rows.proofs.Rows.{Lone, Listed, KernelRow, empty-row, assign-row, block-row, if-row, while-row, goto-row, label-row, abort-row, expression-or-statement, statement-link, next-at, block_at, kernel-row, label-list, statement-list, lone-list, linking-statement, label-statement, may_link, none-linked, as-expression}

-- At most one of these is there.
module _ (here? : ℕ → Bool) (single : (i j : ℕ) → here? i ≡ true → here? j ≡ true → i ≡ j) where
  abbrev there : ℕ → ℕ
  there i = pick (here? i) 1 0

  none_before : (k : ℕ) → here? k ≡ true → (n : ℕ) → n ≤ k → total there n ≡ 0
  unfolding total
  none_before k t zero h = refl
  none_before k t (suc n) h = by_cases (here? n) (λ e. absurd (let same = single n k e t in omega arith)) (λ e. rw e (omega (arith, none_before k t n (omega arith))))

  pub total-single : (n : ℕ) → total there n ≤ 1
  unfolding total
  total-single zero = omega arith
  total-single (suc n) = by_cases (here? n) (λ e. rw e (omega (arith, none_before n e n (omega arith)))) (λ e. rw e (omega (arith, total-single n)))

module _ (header rows : List ℤ) (plain : Plain header rows) (l : ℕ) where
  -- how often the label stands in the list from a row on
  unfoldable weight : ℕ → ℕ
  weight row = pick (is_statement rows row) (items_times l (items_at rows row)) 0

  -- the row is the label
  unfoldable is_here : ℕ → Bool
  is_here row = eqb (number_at rows row 0) 53 && eqb l (number_at rows row 1)

  abbrev own : ℕ → ℕ
  own row = pick (is_here row) 1 0

  not-here : (row : ℕ) → (number_at rows row 0 ≡ 53 → ⊥) → own row ≡ 0
  unfolding is_here
  not-here row h = rw (ne_eqb (number_at rows row 0) 53 h)

  statement-weight : (row : ℕ) → is_statement rows row ≡ true → weight row ≡ items_times l (items_at rows row)
  unfolding weight
  statement-weight row t = rw t

  other-weight : (row : ℕ) → is_statement rows row ≡ false → weight row ≡ 0
  unfolding weight
  other-weight row t = rw t

  module _ (row : ℕ) (n : row < row_count rows) where
    abbrev brings : ℕ → ℕ
    brings field = brought weight rows row field

    absent : (field : ℕ) → link rows row field ≡ 0 → brings field ≡ 0
    unfolding along
    absent field z = rw z

    some : (field : ℕ) → (link rows row field ≡ 0 → ⊥) → brings field ≡ weight (link rows row field)
    unfolding along
    some field z = rw (ne_eqb (link rows row field) 0 z)

    -- a field that links no statement brings nothing
    quiet : (field : ℕ) → 1 ≤ field → field < 6 → (StatementLink rows row field → ⊥) → brings field ≡ 0
    quiet field first last h = by_cases (eqb (link rows row field) 0) (λ e. absent field (eqb-true _ _ e)) (λ e. there e)
      where
        there : eqb (link rows row field) 0 ≡ false → brings field ≡ 0
        there e =
            let there-is : (link rows row field ≡ 0 → ⊥) = (λ q. true≢false (sym (eq-eqb (link rows row field) 0 q) ∙ e)) in
            let p : 0 < link rows row field = above_zero (link rows row field) there-is in
            some field there-is ∙ by_cases (is_statement rows (link rows row field)) (λ t. absurd (h (statement-link header rows plain row n field first last p t))) (λ t. other-weight (link rows row field) t)

    unlinked : (number : ℕ) → number_at rows row 0 ≡ number → (field : ℕ) → 1 ≤ field → field < 5 → may_link number field ≡ false → brings field ≡ 0
    unlinked number k field first last m = quiet field first (omega arith) (none-linked rows row number field k m last)

    listed-brings : (field : ℕ) → Listed rows row field → brings field ≡ items_times l (list_at rows (number_at rows row field))
    unfolding items_times
    listed-brings field listed = go (number_at rows row field) refl
      where
        go : (p : ℕ) → number_at rows row field ≡ p → brings field ≡ items_times l (list_at rows (number_at rows row field))
        go zero z = absent field (listed.same ∙ z) ∙ (rw z)
        go (suc p) z =
            let there-is : 0 < number_at rows row field = omega arith in
            some field (λ (q : link rows row field ≡ 0). let same = listed.same in omega arith) ∙ (rw listed.same (statement-weight (number_at rows row field) (listed.statement there-is) ∙ ap (items_times l) (sym (list-some rows (number_at rows row field) there-is))))

    lone-brings : (field : ℕ) → Lone rows row field → brings field ≡ statement_times l (statement_at rows (number_at rows row field))
    unfolding items_times
    lone-brings field lone =
        let b = number_at rows row field in
        let alone : items_times l (items_at rows b) ≡ statement_times l (statement_at rows b) + 0 = ap (items_times l) (lone-list header rows plain lone) in
        some field (λ (q : link rows row field ≡ 0). let same = lone.same in let later = lone.later in omega arith) ∙ (rw lone.same (statement-weight b lone.statement ∙ alone ∙ (let e : statement_times l (statement_at rows b) + 0 ≡ statement_times l (statement_at rows b) = omega arith in e)))

    -- an expression
    expression-adds : is_statement rows row ≡ false → weight row ≡ own row + total_from brings 1 5
    unfolding total_from
    expression-adds f =
        omega (
          arith,
          other-weight row f,
          not-here row (λ k. true≢false (sym (label-statement rows row k) ∙ f)),
          at 1 (omega arith) (omega arith),
          at 2 (omega arith) (omega arith),
          at 3 (omega arith) (omega arith),
          at 4 (omega arith) (omega arith),
          at 5 (omega arith) (omega arith),
        )
      where
        at : (field : ℕ) → 1 ≤ field → field < 6 → brings field ≡ 0
        at field p q = quiet field p q (λ x. true≢false (sym (linking-statement rows row x) ∙ f))

    -- a statement that is no label: what stands in it, and in the list behind it
    statement-adds : is_statement rows row ≡ true → (number_at rows row 0 ≡ 53 → ⊥) → statement_times l (statement_at rows row) ≡ total_from brings 1 4 → weight row ≡ own row + total_from brings 1 5
    unfolding total_from items_times
    statement-adds t other e =
        let list : items_times l (items_at rows row) ≡ statement_times l (statement_at rows row) + items_times l (list_at rows (number_at rows row 5)) = ap (items_times l) (statement-list header rows plain row n other t) in
        omega (arith, statement-weight row t, not-here row other, listed-brings 5 (next-at header rows plain row n t), list, e)

    label-adds : is_statement rows row ≡ true → number_at rows row 0 ≡ 53 → weight row ≡ own row + total_from brings 1 5
    unfolding total_from items_times is_here
    label-adds t k =
        let list : items_times l (items_at rows row) ≡ pick (eqb l (number_at rows row 1)) 1 0 + items_times l (list_at rows (number_at rows row 5)) = ap (items_times l) (label-list header rows plain row n k t) in
        let own_is : own row ≡ pick (eqb l (number_at rows row 1)) 1 0 = (rw k) in
        let at = unlinked 53 k in
        omega (
          arith,
          statement-weight row t,
          listed-brings 5 (next-at header rows plain row n t),
          list,
          own_is,
          at 1 (omega arith) (omega arith) refl,
          at 2 (omega arith) (omega arith) refl,
          at 3 (omega arith) (omega arith) refl,
          at 4 (omega arith) (omega arith) refl,
        )

    times-by : KernelRow rows row → is_statement rows row ≡ true → weight row ≡ own row + total_from brings 1 5
    unfolding total_from statement_times
    times-by (empty-row k e) t = statement-adds t (λ q. omega arith) (rw e (let at = unlinked 40 k in omega (arith, at 1 (omega arith) (omega arith) refl, at 2 (omega arith) (omega arith) refl, at 3 (omega arith) (omega arith) refl, at 4 (omega arith) (omega arith) refl)))
    times-by (assign-row k r) t = statement-adds t (λ q. omega arith) (rw r.is (let at = unlinked 41 k in omega (arith, at 1 (omega arith) (omega arith) refl, at 2 (omega arith) (omega arith) refl, at 3 (omega arith) (omega arith) refl, at 4 (omega arith) (omega arith) refl)))
    times-by (block-row k r) t = statement-adds t (λ q. omega arith) (rw r.is (let at = unlinked 42 k in omega (arith, listed-brings 1 r.listed, at 2 (omega arith) (omega arith) refl, at 3 (omega arith) (omega arith) refl, at 4 (omega arith) (omega arith) refl)))
    times-by (if-row k r) t = statement-adds t (λ q. omega arith) (rw r.is (let at = unlinked 43 k in omega (arith, at 1 (omega arith) (omega arith) refl, lone-brings 2 r.on_true, lone-brings 3 r.on_false, at 4 (omega arith) (omega arith) refl)))
    times-by (while-row k r) t = statement-adds t (λ q. omega arith) (rw r.is (let at = unlinked 44 k in omega (arith, at 1 (omega arith) (omega arith) refl, lone-brings 2 r.body, at 3 (omega arith) (omega arith) refl, at 4 (omega arith) (omega arith) refl)))
    times-by (goto-row k e) t = statement-adds t (λ q. omega arith) (rw e (let at = unlinked 52 k in omega (arith, at 1 (omega arith) (omega arith) refl, at 2 (omega arith) (omega arith) refl, at 3 (omega arith) (omega arith) refl, at 4 (omega arith) (omega arith) refl)))
    times-by (label-row k e) t = label-adds t k
    times-by (abort-row k e) t = statement-adds t (λ q. omega arith) (rw e (let at = unlinked 57 k in omega (arith, at 1 (omega arith) (omega arith) refl, at 2 (omega arith) (omega arith) refl, at 3 (omega arith) (omega arith) refl, at 4 (omega arith) (omega arith) refl)))

    row-adds : weight row ≡ own row + total_from brings 1 5
    row-adds =
        ⊎_elim (λ e. expression-adds (as-expression rows row e)) (λ t. times-by (kernel-row header rows plain row n t) t)
        (expression-or-statement header rows plain row n)

  one-row : (i j : ℕ) → is_here i ≡ true → is_here j ≡ true → i ≡ j
  unfolding is_here
  one-row i j p q =
      let a = both (eqb (number_at rows i 0) 53) _ p in
      let b = both (eqb (number_at rows j 0) 53) _ q in
      plain.legal.labels_once l i j (record { label = eqb-true _ _ a.0; number_is = sym (eqb-true _ _ a.1) }) (record { label = eqb-true _ _ b.0; number_is = sym (eqb-true _ _ b.1) })

  -- "A label number stands once."
  pub plain-once : items_times l (contents rows) ≤ 1
  unfolding items_times
  plain-once =
      let s = plain.legal.structured in
      let bounds = bounds_of Kernel header in
      let some = root-inside Kernel bounds rows s in
      let t = root-statement Kernel bounds rows s in
      let root = block_at header rows plain 0 some s.block in
      let all = gathers weight rows (structured-tree Kernel bounds rows s) own row-adds in
      let list : items_times l (items_at rows 0) ≡ statement_times l (statement_at rows 0) + items_times l (list_at rows (number_at rows 0 5)) =
      ap (items_times l) (statement-list header rows plain 0 some (λ (q : number_at rows 0 0 ≡ 53). let k = s.block in omega arith) t) in
      let behind : items_times l (list_at rows (number_at rows 0 5)) ≡ 0 = (rw s.lone) in
      let inside : statement_times l (statement_at rows 0) ≡ items_times l (contents rows) = (rw (root.is, program-contents Kernel bounds rows s, root.listed.same)) in
      omega (arith, all, statement-weight 0 t, list, behind, inside, total-single is_here one-row (row_count rows))
