-- Rows: the tree of a structured table has as many rows as the table, where definitions stand at the front. Each row's tree counts its own row
-- and what its links bring, and row 0 gathers the whole table.
use Rattle.std.specs.Prelude.{◌≡◌, Bool, false, ◌&&◌, List, ltb, ℤ}
use Rattle.std.proofs.Math.Path.{refl, sym, ap}
use Rattle.std.proofs.Common.{◌∙◌}
use Rattle.std.proofs.Math.Bool.{true, true≢false}
use Rattle.std.proofs.Math.Logic.{⊎_elim}
use Prim.Native.Nat.{ℕ, zero, suc, ◌+◌, ◌<◌}
use native.Mathlib.Omega.{arith}
use Rattle.std.proofs.Math.Dec.{eqb}
use Rattle.std.proofs.Math.ListN.{length}
use borrow.Author.Tests.{ltb-true, eqb-true, ne_eqb}
use Rattle.words.specs.Word.{pick}
use Rattle.words.specs.Table.{row_count, number_at, Whole}
use Rattle.words.specs.Kinds.{kinds, kind_in, kind_of, kind_at, is_statement_kind, expression, optional_expression, place, branch, optional_branch, optional_item, body_block, optional_arm, optional_argument, statement_row, arm_row, argument_row, sort_at, sort_of, is_link, is_required, sort_in, kind_row, expression_fields, statement_fields, mark_fields, definition_fields, member_fields}
use Rattle.words.specs.Laws.{both, by_cases}
use Rattle.words.specs.declared.Form.{Form}
use Rattle.words.specs.declared.Kind.{Kind}
use Rattle.words.specs.declared.Kind.TheVariants.{OfStatement, OfMember, Definition}
use Rattle.words.specs.declared.StatementKind.TheVariants.{Block, Declare}
use Rattle.words.specs.declared.MemberKind.{MemberKind}
use Rattle.language.specs.Trees.{read}
use Rattle.language.specs.Decode.{expression_at, arguments_at, parameters_at, argument_list_at, statement_of, statement_at, items_at, arms_at, decode, list_at, arm_list_at, part_at, parameter_list_at}
use Rattle.language.specs.DecodeLaws.{statement-at, at_item, at-case, at_default, at_label, part-some}
use Rattle.language.specs.Sizes.{expression_rows, place_rows, arguments_rows, part_rows, statement_rows, arms_rows, items_rows}
use Rattle.words.specs.Links.{is_expression, is_statement, is_block, is_arm, is_argument, link, fits}
use Rattle.check_structure.specs.NoteLaws.{above_zero}
use Rattle.check_structure.specs.StructuredLaws.{structured-tree}
use Rattle.check_structure.specs.RoleLaws.{parameter-fits, first-parameter}
use Rattle.words.specs.Declarations.{is_declaration}
use Rattle.words_roles.specs.Roles.{is_definition, is_parameter}
use Rattle.words_roles.proofs.RoleLaws.{parameter-declaration}
use Rattle.check_function_causes.specs.Demands.{DefinedInOrder}
use Rattle.check_function_causes.proofs.FrontLaws.{block-undefined}
use Rattle.accepted_calls.specs.Kinds.{definition-kind, kind-definition}
use Rattle.accepted_calls.specs.Owners.{part-other}
use Rattle.check_fields.specs.declared.Bounds.{Bounds}
use Rattle.check_structure.specs.Structured.{Leads, Structured}
use Rattle.accepted.specs.Sorts.{row-sort, argument_is, statement-kind, block-statement, arm_is}
use Rattle.accepted.proofs.Fields.{holds, no_link, MayLink, link-none, linked, may-link, item-link, initial-link}
use Rattle.accepted.specs.Sums.{total_from, along, brought, total-one, gathers}
use Rattle.accepted.proofs.Expressions.{ExpressionRow, constant-row, variable-row, element-row, minus-row, not-row, binary-row, and-row, or-row, comma-row, conditional-row, assign-row, compound-row, prefix-row, postfix-row, call-row, ArgumentsRow, no_arguments, argument-row, place_at, whole-rows, place-expression, expression-row, arguments-some, arguments-row}
use Rattle.accepted.proofs.Definitions.{Defines, defines}
use Rattle.accepted.proofs.Statements.{StatementRow, empty-row, express-row, block-row, if_then-row, if_else-row, while-row, do_while-row, for-row, switch-row, case_row, default_row, break-row, continue-row, goto-row, label-row, guarded_if-row, guarded_do-row, abort-row, declare-row, return-row, definition-row, ParametersRow, no-parameters, parameter-row, ArmsRow, no-arms, arm-row, list-some, arms-some, parameters-some, root-inside, root-kind, root-other, root-statement, statement-held, arms-row, parameters-row}
use Rattle.accepted.specs.TreeRows.{tree_rows}

unfoldable all : (ℕ → Bool) → ℕ → ℕ → Bool
all test from zero = true
all test from (suc count) = test from && all test (from + 1) count

module _ (form : Form) (bounds : Bounds) (rows : List ℤ) (s : Structured form bounds rows) (ordered : (row : ℕ) → row < row_count rows → DefinedInOrder rows row) where
  whole : Whole rows
  whole = whole-rows form bounds rows s

  pub expression-weight : (row : ℕ) → is_expression rows row ≡ true → tree_rows rows row ≡ expression_rows (expression_at rows row)
  unfolding tree_rows
  expression-weight row e = rw e

  statement-weight : (row : ℕ) → is_statement rows row ≡ true → is_parameter rows row ≡ false → tree_rows rows row ≡ items_rows (items_at rows row)
  unfolding tree_rows is_expression is_statement is_arm is_argument
  statement-weight row e other = rw (eqb-true (sort_at rows row 0) statement_row e, other)

  parameter-weight : (row : ℕ) → is_parameter rows row ≡ true → tree_rows rows row ≡ length (parameters_at rows row)
  unfolding tree_rows is_expression is_arm is_argument is_declaration sort_at sort_of sort_in kind_of kind_in kinds kind_row statement_fields
  parameter-weight row p = rw (eqb-true (number_at rows row 0) 58 (parameter-declaration rows row p), p)

  arm-weight : (row : ℕ) → is_arm rows row ≡ true → tree_rows rows row ≡ arms_rows (arms_at rows row)
  unfolding tree_rows is_expression is_arm
  arm-weight row e = rw (eqb-true (sort_at rows row 0) arm_row e)

  argument-weight : (row : ℕ) → is_argument rows row ≡ true → tree_rows rows row ≡ arguments_rows (arguments_at rows row)
  unfolding tree_rows is_expression is_arm is_argument
  argument-weight row e = rw (eqb-true (sort_at rows row 0) argument_row e)

  some-link : (l : ℕ) → 0 < l → along (tree_rows rows) l ≡ tree_rows rows l
  unfolding along
  some-link l p = rw (ne_eqb l 0 (λ e. omega arith))

  -- a row of a list: its own rows, and those of the items behind it
  split-items : (row : ℕ) → row < row_count rows → is_statement rows row ≡ true → is_parameter rows row ≡ false → is_definition rows row ≡ false
      → items_rows (items_at rows row) ≡ statement_rows (statement_at rows row) + items_rows (list_at rows (link rows row 5))
  unfolding is_statement items_rows statement_rows statement_of
  split-items row inside e other plain =
      let next = item-link form bounds rows s row inside other e in
      rw next.same
      (⊎_elim (λ t. rw (at_item rows whole row t next.later))
      (⊎_elim (λ k. rw (at-case rows whole row k next.later, statement-at rows whole row, k))
      (⊎_elim (λ k. rw (at_default rows whole row k next.later, statement-at rows whole row, k))
      (⊎_elim (λ k. rw (at_label rows whole row k next.later, statement-at rows whole row, k))
      (λ k. absurd (true≢false (sym (kind-definition rows row k) ∙ plain))))))
      (statement-kind rows row (eqb-true _ _ e)))

  -- a statement behind which nothing stands
  lone-statement : (row : ℕ) → row < row_count rows → is_statement rows row ≡ true → is_parameter rows row ≡ false → is_definition rows row ≡ false → number_at rows row 5 ≡ 0 → items_rows (items_at rows row) ≡ statement_rows (statement_at rows row)
  unfolding items_rows
  lone-statement row inside e other plain z =
      let none : link rows row 5 ≡ 0 = (item-link form bounds rows s row inside other e).same ∙ z in
      let behind : items_rows (list_at rows (link rows row 5)) ≡ 0 = rw none in
      omega (arith, split-items row inside e other plain, behind)

  module _ (row : ℕ) (inside : row < row_count rows) where
    abbrev brings : ℕ → ℕ
    brings field = brought (tree_rows rows) rows row field

    -- ---- what a field brings, by its sort

    absent-brings : (field : ℕ) → link rows row field ≡ 0 → brings field ≡ 0
    unfolding along
    absent-brings field z = rw z

    none-brings : {kind : Kind} → kind_at rows row ≡ kind → (field : ℕ) → holds no_link kind field ≡ true → brings field ≡ 0
    none-brings k field t = absent-brings field (link-none form bounds rows s row inside k field t)

    operand-brings : {kind : Kind} → kind_at rows row ≡ kind → (field : ℕ) → holds (eqb expression) kind field ≡ true
        → brings field ≡ expression_rows (expression_at rows (link rows row field))
    unfolding is_required fits
    operand-brings k field t = let l = linked form bounds rows s row inside k expression field refl t in some-link _ l.some ∙ expression-weight _ l.fit

    initial-brings : is_parameter rows row ≡ false → kind_at rows row ≡ OfStatement Declare → brings 2 ≡ expression_rows (expression_at rows (link rows row 2))
    unfolding fits
    initial-brings other k = let l = initial-link form bounds rows s row inside other k in some-link _ l.some ∙ expression-weight _ l.fit

    place-brings : {kind : Kind} → kind_at rows row ≡ kind → (field : ℕ) → holds (eqb place) kind field ≡ true
        → expression_at rows (link rows row field) ≡ read (place_at rows (link rows row field)) → brings field ≡ place_rows (place_at rows (link rows row field))
    unfolding is_required fits expression_rows
    place-brings k field t i =
        let l = linked form bounds rows s row inside k place field refl t in
        some-link _ l.some ∙ expression-weight _ (place-expression form bounds rows s _ l.fit) ∙ ap expression_rows i

    -- a branch or body has next 0
    lone-brings : (field : ℕ) → Leads rows row field → is_parameter rows (link rows row field) ≡ false → is_definition rows (link rows row field) ≡ false
        → (is_statement rows (link rows row field) ≡ true) × (eqb (number_at rows (link rows row field) 5) 0 ≡ true) → brings field ≡ statement_rows (statement_at rows (link rows row field))
    lone-brings field l other plain parts =
        some-link _ (let later = l.later in omega arith) ∙ statement-weight _ parts.0 other ∙ lone-statement _ l.inside parts.0 other plain (eqb-true _ _ parts.1)

    -- a branch or body is no definition
    part-plain : {kind : Kind} (sort : ℕ) → kind_at rows row ≡ kind → (field : ℕ) → eqb sort optional_item ≡ false → holds (eqb sort) kind field ≡ true → field < 5 → Leads rows row field
        → is_definition rows (link rows row field) ≡ false
    unfolding sort_in kind_row statement_fields
    part-plain {kind} sort k field apart t h l =
        part-other rows (structured-tree form bounds rows s) (block-undefined rows 0 s.block) ordered row field h
        (λ z. let root : kind ≡ OfStatement Block = sym k ∙ ap (kind_at rows) z.0 ∙ root-kind form bounds rows s in
        let here : eqb sort optional_item ≡ true = (rw (root, z.1) at t) in
        true≢false (sym here ∙ apart)) l

    -- a field but next, of this sort
    abbrev parted : ℕ → Kind → ℕ → Bool
    parted sort kind field = ltb field 5 && holds (eqb sort) kind field

    body-brings : {kind : Kind} → kind_at rows row ≡ kind → (field : ℕ) → parted branch kind field ≡ true → brings field ≡ statement_rows (statement_at rows (link rows row field))
    unfolding is_required fits
    body-brings k field t =
        let parts = both (ltb field 5) _ t in
        let l = linked form bounds rows s row inside k branch field refl parts.1 in
        lone-brings field l.leads l.other (part-plain branch k field refl parts.1 (ltb-true field 5 parts.0) l.leads) (both _ _ l.fit)

    otherwise-brings : {kind : Kind} → kind_at rows row ≡ kind → (field : ℕ) → parted optional_branch kind field ≡ true → Leads rows row field
        → brings field ≡ statement_rows (statement_at rows (link rows row field))
    unfolding is_link fits
    otherwise-brings k field t l =
        let parts = both (ltb field 5) _ t in
        let may = may-link form bounds rows s row inside k optional_branch field refl parts.1 in
        let some : 0 < link rows row field = (let later = l.later in omega arith) in
        lone-brings field l (may.other some) (part-plain optional_branch k field refl parts.1 (ltb-true field 5 parts.0) l) (both _ _ (may.fit some))

    -- an arm's block has next 0
    block-brings : {kind : Kind} → kind_at rows row ≡ kind → (field : ℕ) → holds (eqb body_block) kind field ≡ true → brings field ≡ statement_rows (statement_at rows (link rows row field))
    unfolding is_required fits is_block
    block-brings k field t =
        let l = linked form bounds rows s row inside k body_block field refl t in
        let parts = both (eqb (number_at rows (link rows row field) 0) 42) _ l.fit in
        let block = eqb-true _ _ parts.0 in
        lone-brings field l.leads l.other (block-undefined rows _ block) (block-statement rows _ block, parts.1)

    part-brings : {kind : Kind} → kind_at rows row ≡ kind → (field : ℕ) → holds (eqb optional_expression) kind field ≡ true → brings field ≡ part_rows (part_at rows (link rows row field))
    unfolding is_link fits
    part-brings k field t = go (link rows row field) refl
      where
        go : (l : ℕ) → link rows row field ≡ l → brings field ≡ part_rows (part_at rows (link rows row field))
        go zero z = absent-brings field z ∙ (rw z)
        go (suc l) z =
            let p : 0 < link rows row field = omega arith in
            let fit = (may-link form bounds rows s row inside k optional_expression field refl t).fit p in
            some-link _ p ∙ expression-weight _ fit ∙ ap part_rows (sym (part-some rows _ p))

    list-brings : (field : ℕ) → MayLink rows row optional_item field → brings field ≡ items_rows (list_at rows (link rows row field))
    unfolding items_rows fits
    list-brings field may = go (link rows row field) refl
      where
        go : (l : ℕ) → link rows row field ≡ l → brings field ≡ items_rows (list_at rows (link rows row field))
        go zero z = absent-brings field z ∙ (rw z)
        go (suc l) z =
            let p : 0 < link rows row field = omega arith in
            some-link _ p ∙ statement-weight _ (may.fit p) (may.other p) ∙ ap items_rows (sym (list-some rows _ p))

    items-bring : {kind : Kind} → kind_at rows row ≡ kind → (field : ℕ) → holds (eqb optional_item) kind field ≡ true → brings field ≡ items_rows (list_at rows (link rows row field))
    unfolding is_link
    items-bring k field t = list-brings field (may-link form bounds rows s row inside k optional_item field refl t)

    arms-bring : {kind : Kind} → kind_at rows row ≡ kind → (field : ℕ) → holds (eqb optional_arm) kind field ≡ true → brings field ≡ arms_rows (arm_list_at rows (link rows row field))
    unfolding arms_rows is_link fits
    arms-bring k field t = go (link rows row field) refl
      where
        go : (l : ℕ) → link rows row field ≡ l → brings field ≡ arms_rows (arm_list_at rows (link rows row field))
        go zero z = absent-brings field z ∙ (rw z)
        go (suc l) z =
            let p : 0 < link rows row field = omega arith in
            let fit = (may-link form bounds rows s row inside k optional_arm field refl t).fit p in
            some-link _ p ∙ arm-weight _ fit ∙ ap arms_rows (sym (arms-some rows _ p))

    arguments-bring : {kind : Kind} → kind_at rows row ≡ kind → (field : ℕ) → holds (eqb optional_argument) kind field ≡ true → brings field ≡ arguments_rows (argument_list_at rows (link rows row field))
    unfolding expression_rows is_link fits
    arguments-bring k field t = go (link rows row field) refl
      where
        go : (l : ℕ) → link rows row field ≡ l → brings field ≡ arguments_rows (argument_list_at rows (link rows row field))
        go zero z = absent-brings field z ∙ (rw z)
        go (suc l) z =
            let p : 0 < link rows row field = omega arith in
            let fit = (may-link form bounds rows s row inside k optional_argument field refl t).fit p in
            some-link _ p ∙ argument-weight _ fit ∙ ap arguments_rows (sym (arguments-some rows _ p))

    parameters-bring : (field : ℕ) → (0 < link rows row field → is_parameter rows (link rows row field) ≡ true) → brings field ≡ length (parameter_list_at rows (link rows row field))
    parameters-bring field made = go (link rows row field) refl
      where
        go : (l : ℕ) → link rows row field ≡ l → brings field ≡ length (parameter_list_at rows (link rows row field))
        go zero z = absent-brings field z ∙ (rw z)
        go (suc l) z =
            let p : 0 < link rows row field = omega arith in
            some-link _ p ∙ parameter-weight _ (made p) ∙ ap length (sym (parameters-some rows _ p))

    -- fields without links bring nothing
    free : {kind : Kind} → kind_at rows row ≡ kind → (from count : ℕ) → all (holds no_link kind) from count ≡ true → total_from brings from count ≡ 0
    unfolding total_from all
    free k from zero t = refl
    free k from (suc count) t =
        let parts = both _ _ t in
        omega (arith, none-brings k from parts.0, free k (from + 1) count parts.1)

    -- ---- a row counts itself and what its links bring

    expression-adds : ExpressionRow rows row → expression_rows (expression_at rows row) ≡ 1 + total_from brings 1 5
    unfolding expression_rows place_rows total_from all sort_in kind_row expression_fields statement_fields mark_fields definition_fields member_fields is_link
    expression-adds (constant-row k e) = rw e (omega (arith, free k 1 5 refl))
    expression-adds (variable-row k e) = rw e (omega (arith, free k 1 5 refl))
    expression-adds (element-row k p e x) = rw e (omega (arith, none-brings k 1 refl, operand-brings k 2 refl, free k 3 3 refl))
    expression-adds (minus-row k p e x) = rw e (omega (arith, operand-brings k 1 refl, free k 2 4 refl))
    expression-adds (not-row k p e x) = rw e (omega (arith, operand-brings k 1 refl, free k 2 4 refl))
    expression-adds (binary-row k p q e x y) = rw e (omega (arith, operand-brings k 1 refl, operand-brings k 2 refl, free k 3 3 refl))
    expression-adds (and-row k p q e x y) = rw e (omega (arith, operand-brings k 1 refl, operand-brings k 2 refl, free k 3 3 refl))
    expression-adds (or-row k p q e x y) = rw e (omega (arith, operand-brings k 1 refl, operand-brings k 2 refl, free k 3 3 refl))
    expression-adds (comma-row k p q e x y) = rw e (omega (arith, operand-brings k 1 refl, operand-brings k 2 refl, free k 3 3 refl))
    expression-adds (conditional-row k p q r e x y z) =
        rw e (omega (arith, operand-brings k 1 refl, operand-brings k 2 refl, operand-brings k 3 refl, free k 4 2 refl))
    expression-adds (assign-row k p q i e x y) = rw e (omega (arith, place-brings k 1 refl i, operand-brings k 2 refl, free k 3 3 refl))
    expression-adds (compound-row k p q i e x y) = rw e (omega (arith, place-brings k 1 refl i, operand-brings k 2 refl, free k 3 3 refl))
    expression-adds (prefix-row k p i e x) = rw e (omega (arith, place-brings k 1 refl i, free k 2 4 refl))
    expression-adds (postfix-row k p i e x) = rw e (omega (arith, place-brings k 1 refl i, free k 2 4 refl))
    expression-adds (call-row k e x) = rw e (omega (arith, none-brings k 1 refl, arguments-bring k 2 refl, free k 3 3 refl))

    statement-adds : is_parameter rows row ≡ false → is_definition rows row ≡ false → StatementRow rows row → statement_rows (statement_at rows row) ≡ 1 + total_from brings 1 4
    unfolding statement_rows total_from all sort_in kind_row expression_fields statement_fields mark_fields definition_fields member_fields is_link
    statement-adds other plain (empty-row k e) = rw e (omega (arith, free k 1 4 refl))
    statement-adds other plain (express-row k p e x) = rw e (omega (arith, operand-brings k 1 refl, free k 2 3 refl))
    statement-adds other plain (block-row k e x) = rw e (omega (arith, items-bring k 1 refl, free k 2 3 refl))
    statement-adds other plain (if_then-row k p q z e x y) =
        rw e (omega (arith, operand-brings k 1 refl, body-brings k 2 refl, absent-brings 3 z, free k 4 1 refl))
    statement-adds other plain (if_else-row k p q r e x y z) =
        rw e (omega (arith, operand-brings k 1 refl, body-brings k 2 refl, otherwise-brings k 3 refl r, free k 4 1 refl))
    statement-adds other plain (while-row k p q e x y) = rw e (omega (arith, operand-brings k 1 refl, body-brings k 2 refl, free k 3 2 refl))
    statement-adds other plain (do_while-row k p q e x y) = rw e (omega (arith, body-brings k 1 refl, operand-brings k 2 refl, free k 3 2 refl))
    statement-adds other plain (for-row k p e x y z w) =
        rw e (omega (arith, part-brings k 1 refl, part-brings k 2 refl, part-brings k 3 refl, body-brings k 4 refl))
    statement-adds other plain (switch-row k p e x y) = rw e (omega (arith, operand-brings k 1 refl, items-bring k 2 refl, free k 3 2 refl))
    statement-adds other plain (case_row k e) = rw e (omega (arith, free k 1 4 refl))
    statement-adds other plain (default_row k e) = rw e (omega (arith, free k 1 4 refl))
    statement-adds other plain (break-row k e) = rw e (omega (arith, free k 1 4 refl))
    statement-adds other plain (continue-row k e) = rw e (omega (arith, free k 1 4 refl))
    statement-adds other plain (goto-row k e) = rw e (omega (arith, free k 1 4 refl))
    statement-adds other plain (label-row k e) = rw e (omega (arith, free k 1 4 refl))
    statement-adds other plain (guarded_if-row k e x) = rw e (omega (arith, arms-bring k 1 refl, free k 2 3 refl))
    statement-adds other plain (guarded_do-row k e x) = rw e (omega (arith, arms-bring k 1 refl, free k 2 3 refl))
    statement-adds other plain (abort-row k e) = rw e (omega (arith, free k 1 4 refl))
    statement-adds other plain (declare-row k p e x) = rw e (omega (arith, none-brings k 1 refl, initial-brings other k, free k 3 2 refl))
    statement-adds other plain (return-row k e x) = rw e (omega (arith, part-brings k 1 refl, free k 2 3 refl))
    statement-adds other plain (definition-row k e) = absurd (true≢false (sym (kind-definition rows row k) ∙ plain))

    arms-add : ArmsRow rows row → 0 < row → arms_rows (arm_list_at rows row) ≡ 1 + total_from brings 1 5
    unfolding arms_rows total_from all sort_in kind_row expression_fields statement_fields mark_fields definition_fields member_fields is_link
    arms-add (no-arms z e) some = absurd (omega arith)
    arms-add (arm-row p k q r e x y z) some = rw e (omega (arith, operand-brings k 1 refl, block-brings k 2 refl, free k 3 2 refl, arms-bring k 5 refl))

    arguments-add : ArgumentsRow rows row → 0 < row → arguments_rows (argument_list_at rows row) ≡ 1 + total_from brings 1 5
    unfolding expression_rows total_from all sort_in kind_row expression_fields statement_fields mark_fields definition_fields member_fields is_link
    arguments-add (no_arguments z e) some = absurd (omega arith)
    arguments-add (argument-row p k q e x y) some = rw e (omega (arith, operand-brings k 1 refl, free k 2 3 refl, arguments-bring k 5 refl))

    parameter-adds : is_parameter rows row ≡ true → ParametersRow rows row → 0 < row → length (parameter_list_at rows row) ≡ 1 + total_from brings 1 5
    unfolding total_from all sort_in kind_row expression_fields statement_fields mark_fields definition_fields member_fields is_link
    parameter-adds made (no-parameters z e) some = absurd (omega arith)
    parameter-adds made (parameter-row p k z e x) some =
        rw e (omega (arith, none-brings k 1 refl, absent-brings 2 z, free k 3 2 refl, parameters-bring 5 (parameter-fits form bounds rows s row inside made).next-parameter))

    definition-adds : kind_at rows row ≡ Definition → items_rows (items_at rows row) ≡ 1 + total_from brings 1 5
    unfolding items_rows statement_rows total_from all sort_in kind_row expression_fields statement_fields mark_fields definition_fields member_fields is_link
    definition-adds k =
        let own = defines form bounds rows s row inside k in
        let body : brings 3 ≡ 1 + items_rows (list_at rows (link rows (link rows row 3) 1)) = block-brings k 3 refl ∙ ap statement_rows own.body_is in
        rw own.items-is
        (omega (arith, none-brings k 1 refl, parameters-bring 2 (first-parameter form bounds rows s row inside (kind-definition rows row k)), body, free k 4 1 refl, list-brings 5 own.next))

    -- row 0 is a block, and no member
    member-some : {kind : MemberKind} → kind_at rows row ≡ OfMember kind → 0 < row
    member-some {kind} k = above_zero row (λ z. no_member (sym (root-kind form bounds rows s) ∙ (rw z at k)))
      where
        no_member : OfStatement Block ≡ OfMember kind → ⊥
        no_member e = true≢false (ap is_statement_kind e)

    parameter-counts : is_parameter rows row ≡ true → tree_rows rows row ≡ 1 + total_from brings 1 5
    unfolding is_declaration
    parameter-counts made =
        let number = eqb-true (number_at rows row 0) 58 (parameter-declaration rows row made) in
        let some = above_zero row (λ z. let block = s.block in let same = ap (λ (r : ℕ). number_at rows r 0) z in omega arith) in
        parameter-weight row made ∙ ap length (sym (parameters-some rows row some)) ∙ parameter-adds made (parameters-row form bounds rows s row inside made some) some

    statement-counts : is_statement rows row ≡ true → is_parameter rows row ≡ false → tree_rows rows row ≡ 1 + total_from brings 1 5
    unfolding total_from
    statement-counts e other =
        by_cases (is_definition rows row)
        (λ d. statement-weight row e other ∙ definition-adds (definition-kind rows row d))
        (λ d.
        let own = statement-adds other d (statement-held form bounds rows s row inside e other) in
        let behind = list-brings 5 (item-link form bounds rows s row inside other e) in
        omega (arith, statement-weight row e other, split-items row inside e other d, own, behind))

    pub row-adds : tree_rows rows row ≡ 1 + total_from brings 1 5
    unfolding total_from
    row-adds =
        ⊎_elim (λ e. expression-weight row e ∙ expression-adds (expression-row form bounds rows s row inside e))
        (⊎_elim (λ e. by_cases (is_parameter rows row) parameter-counts (statement-counts e))
        (⊎_elim (λ e.
        let some = member-some (arm_is rows row e) in
        arm-weight row e ∙ ap arms_rows (sym (arms-some rows row some)) ∙ arms-add (arms-row form bounds rows s row inside e some) some)
        (λ e.
        let some = member-some (argument_is rows row e) in
        argument-weight row e ∙ ap arguments_rows (sym (arguments-some rows row some)) ∙ arguments-add (arguments-row form bounds rows s row inside e some) some)))
        (row-sort form rows row (s.known row inside))

-- "Every other row is linked exactly once": the tree has a row for each row of the table.
pub decoded-rows : (form : Form) (bounds : Bounds) (rows : List ℤ) → Structured form bounds rows → ((row : ℕ) → row < row_count rows → DefinedInOrder rows row) → statement_rows (decode rows) ≡ row_count rows
unfolding decode
decoded-rows form bounds rows s ordered =
    let inside = root-inside form bounds rows s in
    let root = root-statement form bounds rows s in
    let other = root-other form bounds rows s in
    let plain = block-undefined rows 0 s.block in
    let all = gathers (tree_rows rows) rows (structured-tree form bounds rows s) (λ row. 1) (row-adds form bounds rows s ordered) in
    omega (arith, all, total-one (row_count rows), statement-weight form bounds rows s ordered 0 root other, lone-statement form bounds rows s ordered 0 inside root other plain s.lone)
