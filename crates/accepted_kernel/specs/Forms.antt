-- Forms: the statements of a legal kernel program have kernel form, given the lists of later blocks.
use Rattle.std.specs.Prelude.{◌≡◌, false, List, ◌⊎◌, eqb, ℤ}
use Rattle.std.proofs.Math.Path.{subst, refl, ap}
use Rattle.std.proofs.Common.{sym, ◌∙◌}
use Rattle.std.proofs.Math.Bool.{true, not, true≢false}
use Rattle.std.proofs.Math.Logic.{⊎_elim}
use Prim.Native.Nat.{ℕ, zero, suc, ◌≤◌, ◌<◌}
use native.Mathlib.Omega.{arith}
use borrow.Author.Tests.{eqb-true, eq-eqb}
use Rattle.words.specs.Table.{row_count, number_at, Whole}
use Rattle.words.specs.Kinds.{kinds, kind_in, kind_of, kind_at, expression, branch, optional_branch, optional_item, optional_expression, is_link, is_required, sort_in, sort_of, sort_at, kind_row, expression_fields, statement_fields, mark_fields, definition_fields, member_fields}
use Rattle.words.specs.Laws.{both, either}
use Rattle.words.specs.declared.Form.TheVariants.{Kernel}
use Rattle.words.specs.declared.Kind.{Kind}
use Rattle.words.specs.declared.Kind.TheVariants.{OfStatement}
use Rattle.words.specs.declared.StatementKind.TheVariants.{Block, If}
use Rattle.language.specs.Trees.{block, present, Items}
use Rattle.language.specs.Decode.{expression_at, part_at, statement_of, statement_at, list_at}
use Rattle.language.specs.DecodeLaws.{statement-at, at-empty, at-express, at_block, at-if_else, at-while, at-goto, at-abort, at_return}
use Rattle.words.specs.Links.{is_statement, link, fits}
use Rattle.check_fields.specs.Fields.{bounds_of}
use Rattle.words_roles.specs.Roles.{is_parameter}
use Rattle.check_structure.specs.NoteLaws.{above_zero}
use Rattle.check_structure.specs.RoleLaws.{initial-there}
use Rattle.words.specs.Declarations.{is_declaration}
use Rattle.check_fields.specs.declared.Bounds.{Bounds}
use Rattle.check_structure.specs.Structured.{Leads, Structured, Tree}
use Rattle.check_structure.specs.StructuredLaws.{structured-tree}
use Rattle.translation.specs.KernelForm.{KernelStatement, kernel-empty, kernel-assign, kernel-block, kernel-if, kernel-while, kernel-goto, kernel-abort, kernel-return, KernelItems}
use Rattle.check_function_causes.specs.Functions.{is_definition, is_return}
use Rattle.check_function_causes.proofs.FrontLaws.{block-undefined}
use Rattle.check_kernel.specs.Accepts.{structured-labels}
use Rattle.check_labels.specs.Ahead.{Owner, part}
use Rattle.check_kernel.specs.Legal.{Legal}
use Rattle.check_kernel_statements.specs.Statements.{is_atom, is_block, is_kernel_if, is_kernel_while, is_kernel_expression, is_kernel_return, is_kernel_parameter, is_of_function, is_kernel_statement}
use Rattle.accepted.proofs.Fields.{holds, Linked, MayLink, linked, may-link}
use Rattle.accepted.proofs.Expressions.{whole-rows}
use Rattle.accepted_kernel.specs.Assignments.{atom-at, assignment-at}
use Rattle.accepted_kernel.specs.Labels.{Covers, covers-branch}
use Rattle.accepted_kernel.specs.Definitions.{in_function, part-alike, return_inside}

module _ (header rows : List ℤ) (legal : Legal header rows) where
  abbrev bounds : Bounds
  bounds = bounds_of Kernel header

  abbrev s : Structured Kernel bounds rows
  s = legal.structured

  whole : Whole rows
  whole = whole-rows Kernel bounds rows s

  tree : Tree rows
  tree = structured-tree Kernel bounds rows s

  -- the list of a block
  pub first-item : (row : ℕ) → row < row_count rows → kind_at rows row ≡ OfStatement Block → MayLink rows row optional_item 1
  unfolding is_link sort_in kind_row expression_fields statement_fields mark_fields definition_fields member_fields
  first-item row n k = may-link Kernel bounds rows s row n k optional_item 1 refl refl

  pub block_at : (row : ℕ) → row < row_count rows → kind_at rows row ≡ OfStatement Block → statement_at rows row ≡ block (list_at rows (link rows row 1))
  block_at row n k = let first = first-item row n k in rw first.same (at_block rows whole row k first.later)

  -- What the lists of later blocks give.
  abbrev pub Lists : ℕ → Type 0
  Lists row = (other : ℕ) (ahead : Items) → row ≤ other → other < row_count rows → kind_at rows other ≡ OfStatement Block → Covers bounds rows s ahead other
      → KernelItems (in_function rows other) ahead (list_at rows (link rows other 1))

  -- ---- a statement, given the lists of later rows

  module _ (row : ℕ) (n : row < row_count rows) (lists : Lists row) (ahead : Items) (covers : Covers bounds rows s ahead row) where
    kind-of : (number : ℕ) → number_at rows row 0 ≡ number → kind_at rows row ≡ kind_of number
    unfolding kind_at
    kind-of number e = ap kind_of e

    undefined : (number : ℕ) → number_at rows row 0 ≡ number → eqb number 59 ≡ false → is_definition rows row ≡ false
    unfolding is_definition
    undefined number e other = rw e other

    test : {kind : Kind} → kind_at rows row ≡ kind → (field : ℕ) → holds (eqb expression) kind field ≡ true → Linked rows row expression field
    unfolding is_required
    test k field t = linked Kernel bounds rows s row n k expression field refl t

    -- a branch or body that is a block
    record BranchAt (field : ℕ) : Type 0 where
      later : row < number_at rows row field
      is : statement_at rows (number_at rows row field) ≡ block (list_at rows (link rows (number_at rows row field) 1))
      form : KernelItems (in_function rows row) ahead (list_at rows (link rows (number_at rows row field) 1))

    branch_by : is_definition rows row ≡ false → (field : ℕ) → field < 5 → Leads rows row field → link rows row field ≡ number_at rows row field → number_at rows (link rows row field) 5 ≡ 0 → is_block rows (number_at rows row field) ≡ true → BranchAt field
    unfolding is_block kind_at kind_of kind_in kinds is_link sort_in kind_row statement_fields
    branch_by d field h leads same lone e =
        let b = number_at rows row field in
        let later : row < b = rw same at leads.later in
        let inside : b < row_count rows = rw same at leads.inside in
        let is_Block = both (not (eqb b 0)) (eqb (number_at rows b 0) 42) e in
        let number : number_at rows b 0 ≡ 42 = eqb-true _ _ is_Block.1 in
        let kind : kind_at rows b ≡ OfStatement Block = rw number in
        let owned : Owner rows row b = subst (Owner rows row) same (part h leads) in
        let next = may-link Kernel bounds rows s b inside kind optional_item 5 refl refl in
        record {
          later = later;
          is = block_at b inside kind;
          form = subst (λ m. KernelItems m ahead (list_at rows (link rows (number_at rows row field) 1))) (ap (in_function rows) (sym same) ∙ part-alike rows tree row field h d leads)
              (lists b ahead (omega arith) inside kind (covers-branch bounds rows s ahead row b owned (next.same ∙ (rw same at lone)) covers));
        }

    branch-at : is_definition rows row ≡ false → {kind : Kind} → kind_at rows row ≡ kind → (field : ℕ) → field < 5 → holds (eqb branch) kind field ≡ true → is_block rows (number_at rows row field) ≡ true → BranchAt field
    unfolding is_required fits
    branch-at d k field h t e =
        let b = linked Kernel bounds rows s row n k branch field refl t in
        branch_by d field h b.leads b.same (eqb-true _ _ (both (is_statement rows (link rows row field)) _ b.fit).1) e

    else-at : is_definition rows row ≡ false → kind_at rows row ≡ OfStatement If → is_block rows (number_at rows row 3) ≡ true → BranchAt 3
    unfolding is_link sort_in kind_row expression_fields statement_fields mark_fields definition_fields member_fields fits is_block
    else-at d k e =
        let c = may-link Kernel bounds rows s row n k optional_branch 3 refl refl in
        let there : 0 < link rows row 3 = rw c.same (above_zero _ (λ q. true≢false (sym (both (not (eqb (number_at rows row 3) 0)) _ e).0 ∙ ap not (eq-eqb _ _ q)))) in
        branch_by d 3 (omega arith) (c.leads there) c.same (eqb-true _ _ (both (is_statement rows (link rows row 3)) _ (c.fit there)).1) e

    empty-form : number_at rows row 0 ≡ 40 → KernelStatement (in_function rows row) ahead (statement_at rows row)
    unfolding kind_of kind_in kinds
    empty-form e = rw (at-empty rows whole row (kind-of 40 e)) kernel-empty

    block-form : number_at rows row 0 ≡ 42 → KernelStatement (in_function rows row) ahead (statement_at rows row)
    unfolding kind_of kind_in kinds
    block-form e = rw (block_at row n (kind-of 42 e)) (kernel-block (lists row ahead (omega arith) n (kind-of 42 e) covers))

    if-form : is_kernel_if rows row ≡ true → KernelStatement (in_function rows row) ahead (statement_at rows row)
    unfolding is_kernel_if kind_of kind_in kinds sort_in kind_row expression_fields statement_fields mark_fields definition_fields member_fields
    if-form e =
        let parts = both (eqb (number_at rows row 0) 43) _ e in
        let others = both (is_atom rows (number_at rows row 1)) _ parts.1 in
        let blocks = both (is_block rows (number_at rows row 2)) _ others.1 in
        let number = eqb-true _ _ parts.0 in
        let k = kind-of 43 number in
        let d = undefined 43 number refl in
        let b = branch-at d k 2 (omega arith) refl blocks.0 in
        let c = else-at d k blocks.1 in
        rw (at-if_else rows whole row k (test k 1 refl).later b.later c.later, b.is, c.is)
        (kernel-if (atom-at bounds rows s (number_at rows row 1) others.0) b.form c.form)

    while-form : is_kernel_while rows row ≡ true → KernelStatement (in_function rows row) ahead (statement_at rows row)
    unfolding is_kernel_while kind_of kind_in kinds sort_in kind_row expression_fields statement_fields mark_fields definition_fields member_fields
    while-form e =
        let parts = both (eqb (number_at rows row 0) 44) _ e in
        let others = both (is_atom rows (number_at rows row 1)) _ parts.1 in
        let number = eqb-true _ _ parts.0 in
        let k = kind-of 44 number in
        let b = branch-at (undefined 44 number refl) k 2 (omega arith) refl others.1 in
        rw (at-while rows whole row k (test k 1 refl).later b.later, b.is) (kernel-while (atom-at bounds rows s (number_at rows row 1) others.0) b.form)

    goto-form : number_at rows row 0 ≡ 52 → KernelStatement (in_function rows row) ahead (statement_at rows row)
    unfolding kind_of kind_in kinds
    goto-form e =
        rw (at-goto rows whole row (kind-of 52 e))
        (kernel-goto (structured-labels bounds rows s row n (rw e)) (covers (number_at rows row 1) (legal.gotos_ahead row n e)))

    -- a label by itself does nothing
    label-form : number_at rows row 0 ≡ 53 → KernelStatement (in_function rows row) ahead (statement_at rows row)
    unfolding kind_of kind_in kinds statement_of
    label-form e = rw (statement-at rows whole row, kind-of 53 e) kernel-empty

    abort-form : number_at rows row 0 ≡ 57 → KernelStatement (in_function rows row) ahead (statement_at rows row)
    unfolding kind_of kind_in kinds
    abort-form e = rw (at-abort rows whole row (kind-of 57 e)) kernel-abort

    -- "A kernel return takes an atom"; it stands in a function.
    return-form : is_kernel_return rows row ≡ true → KernelStatement (in_function rows row) ahead (statement_at rows row)
    unfolding is_kernel_return is_return kind_of kind_in kinds is_link sort_in kind_row statement_fields
    return-form h =
        let parts = both (eqb (number_at rows row 0) 60) _ h in
        let atom = both (not (eqb (number_at rows row 1) 0)) (is_atom rows (number_at rows row 1)) parts.1 in
        let e = eqb-true _ _ parts.0 in
        let k = kind-of 60 e in
        let value = may-link Kernel bounds rows s row n k optional_expression 1 refl refl in
        let there : 0 < number_at rows row 1 = above_zero (number_at rows row 1) (λ q. true≢false (sym atom.0 ∙ ap not (eq-eqb _ _ q))) in
        let inside = return_inside rows tree (block-undefined rows 0 s.block) row (rw e) (legal.returns_inside row n) in
        rw (at_return rows whole row k value.later, part-some (number_at rows row 1) there, inside) (kernel-return (atom-at bounds rows s (number_at rows row 1) atom.1))
      where
        part-some : (l : ℕ) → 0 < l → part_at rows l ≡ present (expression_at rows l)
        part-some zero p = absurd (omega arith)
        part-some (suc l) p = refl

    expression-form : is_kernel_expression rows row ≡ true → KernelStatement (in_function rows row) ahead (statement_at rows row)
    unfolding is_kernel_expression kind_of kind_in kinds sort_in kind_row expression_fields statement_fields mark_fields definition_fields member_fields
    expression-form e =
        let parts = both (eqb (number_at rows row 0) 41) _ e in
        let k = kind-of 41 (eqb-true _ _ parts.0) in
        let a = test k 1 refl in
        rw (at-express rows whole row k a.later) (kernel-assign (assignment-at bounds rows s (number_at rows row 1) (rw a.same at a.leads.inside) parts.1))

    -- no definition, and no parameter: a definition is an item of its own, and kind 58 stands in the kernel as a parameter alone
    of-function-form : is_definition rows row ≡ false → is_parameter rows row ≡ false → is_of_function rows row ≡ true → KernelStatement (in_function rows row) ahead (statement_at rows row)
    unfolding is_of_function is_definition is_kernel_parameter is_declaration link is_link sort_at sort_of kind_of kind_in kinds sort_in kind_row statement_fields
    of-function-form d other h =
        ⊎_elim (λ e. absurd (true≢false (sym e ∙ d))) (λ h. ⊎_elim return-form (λ h. absurd (no_declaration h)) (either (is_kernel_return rows row) _ h)) (either (eqb (number_at rows row 0) 59) _ h)
      where
        no_declaration : is_kernel_parameter rows row ≡ true → ⊥
        no_declaration h =
            let parts = both (eqb (number_at rows row 0) 58) _ h in
            let k = eqb-true (number_at rows row 0) 58 parts.0 in
            let none = eqb-true (number_at rows row 2) 0 parts.1 in
            let some : 0 < number_at rows row 2 = rw k at (initial-there Kernel bounds rows s row n (rw k) other) in
            omega arith

    pub statement-form : is_statement rows row ≡ true → is_definition rows row ≡ false → is_parameter rows row ≡ false → KernelStatement (in_function rows row) ahead (statement_at rows row)
    unfolding is_kernel_statement
    statement-form t d other =
        ⊎_elim (λ h. empty-form (eqb-true _ _ h))
        (λ h. ⊎_elim (λ h. block-form (eqb-true _ _ h))
        (λ h. ⊎_elim if-form
        (λ h. ⊎_elim while-form
        (λ h. ⊎_elim (λ h. goto-form (eqb-true _ _ h))
        (λ h. ⊎_elim (λ h. label-form (eqb-true _ _ h))
        (λ h. ⊎_elim (λ h. abort-form (eqb-true _ _ h))
        (λ h. ⊎_elim expression-form (of-function-form d other) (either (is_kernel_expression rows row) _ h))
        (either (eqb (number_at rows row 0) 57) _ h)) (either (eqb (number_at rows row 0) 53) _ h)) (either (eqb (number_at rows row 0) 52) _ h)) (either (is_kernel_while rows row) _ h)) (either (is_kernel_if rows row) _ h))
        (either (eqb (number_at rows row 0) 42) _ h)) (either (eqb (number_at rows row 0) 40) _ (legal.formed row n t))
