-- Rows of a plain kernel program, a legal one without functions: the statement at a row, by the number of its kind, with its links; and the list from a row on.
use Rattle.std.specs.Prelude.{◌≡◌, Bool, true, false, ◌&&◌, ◌||◌, List, ◌⊎◌, ℕ, ◌<◌, ◌≤◌, ltb, eqb, ℤ}
use Rattle.std.proofs.Math.Path.{refl, ap}
use Rattle.std.proofs.Common.{sym, ◌∙◌, arith}
use Rattle.std.proofs.Math.Bool.{not, true≢false}
use Rattle.std.proofs.Math.Logic.{inl, inr, ⊎_elim}
use borrow.Author.Tests.{ltb-false, le-ltb, eqb-true, eq-eqb, ne_eqb, not-true}
use Rattle.words.specs.Table.{row_count, number_at, Whole}
use Rattle.words.specs.Kinds.{kinds, kind_in, kind_of, kind_at, expression, optional_expression, place, branch, optional_branch, optional_item, body_block, optional_arm, optional_argument, optional_parameter, absent_link, expression_row, place_row, statement_row, arm_row, argument_row, between, sort_at, sort_of, is_link, is_required, sort_in, kind_row, expression_fields, statement_fields, mark_fields, definition_fields, member_fields, stands_in, is_function_number}
use Rattle.words.specs.KindLaws.{every_line, every-number, definition-number}
use Rattle.words.specs.SearchLaws.{from_on}
use Rattle.words.specs.Word.{pick}
use Rattle.words.specs.Laws.{both, either, by_cases}
use Rattle.words.specs.Links.{is_expression, is_place, is_statement, is_arm, is_argument, link, fits}
use Rattle.words.specs.declared.Form.TheVariants.{Kernel}
use Rattle.words.specs.declared.Kind.{Kind}
use Rattle.words.specs.declared.Kind.TheVariants.{OfStatement, Other}
use Rattle.words.specs.declared.StatementKind.TheVariants.{If}
use Rattle.language.specs.Trees.{empty, express, block, if_else, while, goto, abort, label, none, ◌then◌, ◌here◌}
use Rattle.language.specs.Decode.{expression_at, statement_of, statement_at, items_at, list_at}
use Rattle.language.specs.DecodeLaws.{statement-at, at-empty, at-express, at_block, at-if_else, at-while, at-goto, at-abort, at_item, at_label}
use Rattle.check_fields.specs.Fields.{bounds_of}
use Rattle.check_structure.specs.NoteLaws.{above_zero}
use Rattle.check_fields.specs.declared.Bounds.{Bounds}
use Rattle.check_structure.specs.Structured.{Leads, Structured}
use Rattle.check_plain.specs.Plain.{Plain}
use Rattle.check_plain.specs.PlainLaws.{no-parameter, plain-fitting, plain-undeclared, plain-number}
use Rattle.check_kernel_statements.specs.Statements.{is_atom, is_assignment, is_block, is_kernel_if, is_kernel_while, is_kernel_expression, is_kernel_return, is_kernel_parameter, is_of_function, is_kernel_statement}
use Rattle.accepted.specs.Sorts.{statement_number, between-true, number_is, sort-is, statement-kind, in-language, row-sort, arm_is}
use Rattle.accepted.proofs.Fields.{holds, MayLink, linked, may-link, item-link}
use Rattle.accepted.proofs.Expressions.{whole-rows}
use Rattle.accepted.proofs.Statements.{list-some}
use Rattle.flat_kernel_rows.specs.StatementLinks.{StatementLink, next-item, first-item, true_branch, false_branch, loop_body}

module _ (rows : List ℤ) where
  -- A link to a branch or body: a block with nothing behind it.
  pub record Lone (row field : ℕ) : Type 0 where
    pub leads : Leads rows row field
    pub same : link rows row field ≡ number_at rows row field
    pub later : row < number_at rows row field
    pub inside : number_at rows row field < row_count rows
    pub statement : is_statement rows (number_at rows row field) ≡ true
    pub block : number_at rows (number_at rows row field) 0 ≡ 42
    pub last : number_at rows (number_at rows row field) 5 ≡ 0

  -- A link to an expression.
  pub record Operand (row field : ℕ) : Type 0 where
    pub later : row < number_at rows row field
    pub inside : number_at rows row field < row_count rows

  -- A link to a list, or 0.
  pub record Listed (row field : ℕ) : Type 0 where
    pub same : link rows row field ≡ number_at rows row field
    pub leads : 0 < number_at rows row field → Leads rows row field
    pub later : 0 < number_at rows row field → row < number_at rows row field
    pub inside : 0 < number_at rows row field → number_at rows row field < row_count rows
    pub statement : 0 < number_at rows row field → is_statement rows (number_at rows row field) ≡ true

  module _ (row : ℕ) where
    abbrev a : ℕ
    a = number_at rows row 1

    abbrev b : ℕ
    b = number_at rows row 2

    abbrev c : ℕ
    c = number_at rows row 3

    pub record AssignRow : Type 0 where
      pub operand : Operand row 1
      pub assigns : is_assignment rows a ≡ true
      pub is : statement_at rows row ≡ express (expression_at rows a)

    pub record BlockRow : Type 0 where
      pub listed : Listed row 1
      pub is : statement_at rows row ≡ block (list_at rows a)

    pub record IfRow : Type 0 where
      pub operand : Operand row 1
      pub atom : is_atom rows a ≡ true
      pub on_true : Lone row 2
      pub on_false : Lone row 3
      pub is : statement_at rows row ≡ if_else (expression_at rows a) (statement_at rows b) (statement_at rows c)

    pub record WhileRow : Type 0 where
      pub operand : Operand row 1
      pub atom : is_atom rows a ≡ true
      pub body : Lone row 2
      pub is : statement_at rows row ≡ while (expression_at rows a) (statement_at rows b)

    -- What stands at a row, as a statement; a label by itself does nothing.
    pub data KernelRow : Type 0 where
      empty-row : number_at rows row 0 ≡ 40 → statement_at rows row ≡ empty → KernelRow
      assign-row : number_at rows row 0 ≡ 41 → AssignRow → KernelRow
      block-row : number_at rows row 0 ≡ 42 → BlockRow → KernelRow
      if-row : number_at rows row 0 ≡ 43 → IfRow → KernelRow
      while-row : number_at rows row 0 ≡ 44 → WhileRow → KernelRow
      goto-row : number_at rows row 0 ≡ 52 → statement_at rows row ≡ goto a → KernelRow
      label-row : number_at rows row 0 ≡ 53 → statement_at rows row ≡ empty → KernelRow
      abort-row : number_at rows row 0 ≡ 57 → statement_at rows row ≡ abort → KernelRow

-- ---- which fields link statements

-- the fields of the kernel's kinds that link a branch, a body or an item
abbrev pub may_link : ℕ → ℕ → Bool
may_link number field = (eqb number 42 && eqb field 1) || ((eqb number 43 && between 2 3 field) || (eqb number 44 && eqb field 2))

-- the kinds of the kernel's language, without those of functions
abbrev plain_kind : ℕ → Kind → Bool
plain_kind number kind = stands_in (kind_row kind).forms Kernel && not (is_function_number number)

abbrev tested : ℕ → Kind → ℕ → Bool
tested number kind field = pick (between branch body_block (sort_in kind field) && plain_kind number kind) (may_link number field) true

abbrev next_tested : ℕ → Kind → Bool
next_tested number kind = pick (between branch body_block (sort_in kind 5)) (eqb (sort_in kind 0) statement_row) true

abbrev links_tested : ℕ → Kind → Bool
links_tested number kind = next_tested number kind && (tested number kind 1 && (tested number kind 2 && (tested number kind 3 && tested number kind 4)))

links-tested : (number : ℕ) → links_tested number (kind_of number) ≡ true
unfolding every_line kinds is_function_number sort_in kind_row expression_fields statement_fields mark_fields definition_fields member_fields
links-tested number = every-number links_tested refl (λ number. refl) number

-- no field of theirs links parameters
abbrev parameterless : ℕ → Kind → ℕ → Bool
parameterless number kind field = pick (plain_kind number kind) (not (eqb (sort_in kind field) optional_parameter)) true

abbrev parameters_tested : ℕ → Kind → Bool
parameters_tested number kind = parameterless number kind 5 && (parameterless number kind 1 && (parameterless number kind 2 && (parameterless number kind 3 && parameterless number kind 4)))

parameters-tested : (number : ℕ) → parameters_tested number (kind_of number) ≡ true
unfolding every_line kinds is_function_number sort_in kind_row expression_fields statement_fields mark_fields definition_fields member_fields
parameters-tested number = every-number parameters_tested refl (λ number. refl) number

-- an argument is of the kinds of functions
abbrev argument_tested : ℕ → Kind → Bool
argument_tested number kind = pick (eqb (sort_in kind 0) argument_row) (is_function_number number) true

argument-number : (rows : List ℤ) (row : ℕ) → is_argument rows row ≡ true → is_function_number (number_at rows row 0) ≡ true
unfolding is_argument sort_at sort_of every_line kinds is_function_number sort_in kind_row expression_fields statement_fields mark_fields definition_fields member_fields
argument-number rows row e = rw e at (every-number argument_tested refl (λ number. refl) (number_at rows row 0))

-- an expression, a place or an arm is no statement
not-statement : (rows : List ℤ) (row least most : ℕ) → (statement_row < least) ⊎ (most < statement_row) → between least most (sort_at rows row 0) ≡ true → is_statement rows row ≡ false
unfolding is_statement
not-statement rows row least most h e =
    let range = between-true least most (sort_at rows row 0) e in
    ne_eqb _ _ (λ (q : sort_at rows row 0 ≡ statement_row). ⊎_elim (λ l. omega arith) (λ l. omega arith) h)

-- what fits a sort, and is a statement: the sort is one of branches, bodies and items
module _ (rows : List ℤ) (row : ℕ) where
  abbrev SortOf : ℕ → Type 0
  SortOf sort = fits rows sort row ≡ true → is_statement rows row ≡ true → between branch body_block sort ≡ true

  never : is_statement rows row ≡ false → is_statement rows row ≡ true → {A : Type 0} → A
  never f t = absurd (true≢false (sym t ∙ f))

  pub as-expression : is_expression rows row ≡ true → is_statement rows row ≡ false
  unfolding is_expression
  as-expression e = not-statement rows row expression_row place_row (inr (omega arith)) e

  as_place : is_place rows row ≡ true → is_statement rows row ≡ false
  unfolding is_place is_statement
  as_place e = ne_eqb _ _ (λ (q : sort_at rows row 0 ≡ statement_row). let z = eqb-true (sort_at rows row 0) place_row e in omega arith)

  as-arm : is_arm rows row ≡ true → is_statement rows row ≡ false
  unfolding is_arm is_statement
  as-arm e = ne_eqb _ _ (λ (q : sort_at rows row 0 ≡ statement_row). let z = eqb-true (sort_at rows row 0) arm_row e in omega arith)

  as-argument : is_argument rows row ≡ true → is_statement rows row ≡ false
  unfolding is_argument is_statement
  as-argument e = ne_eqb _ _ (λ (q : sort_at rows row 0 ≡ statement_row). let z = eqb-true (sort_at rows row 0) argument_row e in omega arith)

  statement-sort : (sort : ℕ) → is_link sort ≡ true → eqb sort optional_parameter ≡ false → SortOf sort
  unfolding fits is_link
  statement-sort sort l other =
      let range = between-true expression absent_link sort l in
      let apart : sort ≡ optional_parameter → ⊥ = λ q. true≢false (sym (eq-eqb _ _ q) ∙ other) in
      from_on SortOf sort expression range.0 (λ f t. never (as-expression f) t)
      (λ h. from_on SortOf sort optional_expression h (λ f t. never (as-expression f) t)
      (λ h. from_on SortOf sort place h (λ f t. never (as_place f) t)
      (λ h. from_on SortOf sort branch h (λ f t. refl)
      (λ h. from_on SortOf sort optional_branch h (λ f t. refl)
      (λ h. from_on SortOf sort optional_item h (λ f t. refl)
      (λ h. from_on SortOf sort body_block h (λ f t. refl)
      (λ h. from_on SortOf sort optional_arm h (λ f t. never (as-arm f) t)
      (λ h. from_on SortOf sort optional_argument h (λ f t. never (as-argument f) t)
      (λ h. from_on (λ (k : ℕ). (k ≡ optional_parameter → ⊥) → SortOf k) sort optional_parameter h (λ d f t. absurd (d refl))
      (λ h d. from_on SortOf sort absent_link h (λ f t. absurd (true≢false (sym f)))
      (λ h. absurd (omega arith))) apart)))))))))

module _ (header rows : List ℤ) (plain : Plain header rows) where
  abbrev bounds : Bounds
  bounds = bounds_of Kernel header

  s : Structured Kernel bounds rows
  s = plain.legal.structured

  whole : Whole rows
  whole = whole-rows Kernel bounds rows s

  module _ (row : ℕ) (n : row < row_count rows) where
    kind-of : (number : ℕ) → number_at rows row 0 ≡ number → kind_at rows row ≡ kind_of number
    unfolding kind_at
    kind-of number e = ap kind_of e

    -- no case and no default; no arm
    not-in-kernel : {kind : Kind} → kind_at rows row ≡ kind → stands_in (kind_row kind).forms Kernel ≡ false → ⊥
    not-in-kernel k f = true≢false (sym (in-language Kernel rows row (s.known row n) k) ∙ f)

    no-function : is_function_number (number_at rows row 0) ≡ true → ⊥
    no-function e = true≢false (sym e ∙ plain-number header rows plain row n)

    -- A row is an expression or a statement.
    pub expression-or-statement : (is_expression rows row ≡ true) ⊎ (is_statement rows row ≡ true)
    unfolding kind_row member_fields
    expression-or-statement =
        ⊎_elim (λ e. inl e) (λ h. ⊎_elim (λ e. inr e) (λ h. ⊎_elim (λ e. absurd (not-in-kernel (arm_is rows row e) refl)) (λ e. absurd (no-function (argument-number rows row e))) h) h)
        (row-sort Kernel rows row (s.known row n))

    -- The fields that link statements.
    is-link : (field : ℕ) → 0 < link rows row field → is_link (sort_at rows row field) ≡ true
    unfolding link
    is-link field p = by_cases (is_link (sort_at rows row field)) (λ e. e) (λ e. absurd (let q : 0 < 0 = rw e at p in omega arith))

    may-link-by : (field : ℕ) → may_link (number_at rows row 0) field ≡ true → StatementLink rows row field
    may-link-by field e =
        let number = number_at rows row 0 in
        ⊎_elim (λ h. let p = both (eqb number 42) (eqb field 1) h in first-item (eqb-true field 1 p.1) (eqb-true number 42 p.0))
        (λ h. ⊎_elim (λ h. let p = both (eqb number 43) (between 2 3 field) h in branch_by field (between-true 2 3 field p.1) (eqb-true number 43 p.0))
        (λ h. let p = both (eqb number 44) (eqb field 2) h in loop_body (eqb-true field 2 p.1) (eqb-true number 44 p.0))
        (either (eqb number 43 && between 2 3 field) _ h)) (either (eqb number 42 && eqb field 1) _ e)
      where
        branch_by : (field : ℕ) → (2 ≤ field) × (field ≤ 3) → number_at rows row 0 ≡ 43 → StatementLink rows row field
        branch_by field h k = from_on (λ (f : ℕ). f ≤ 3 → StatementLink rows row f) field 2 h.0 (λ m. true_branch refl k) (λ l. λ m. false_branch (omega arith) k) h.1

    abbrev Linking : ℕ → Type 0
    Linking field = between branch body_block (sort_in (kind_at rows row) field) ≡ true → StatementLink rows row field

    plain-kind : plain_kind (number_at rows row 0) (kind_at rows row) ≡ true
    plain-kind = rw (in-language Kernel rows row (s.known row n) refl, plain-number header rows plain row n)

    linking : (field : ℕ) → 1 ≤ field → field < 6 → Linking field
    unfolding kind_at is_statement
    linking field first last =
        let number = number_at rows row 0 in
        let all = links-tested number in
        let one = both (next_tested number (kind_of number)) _ all in
        let two = both (tested number (kind_of number) 1) _ one.1 in
        let three = both (tested number (kind_of number) 2) _ two.1 in
        let four = both (tested number (kind_of number) 3) _ three.1 in
        let kernel = plain-kind in
        from_on Linking field 1 first (λ e. may-link-by 1 (rw (e, kernel) at two.0))
        (λ h. from_on Linking field 2 h (λ e. may-link-by 2 (rw (e, kernel) at three.0))
        (λ h. from_on Linking field 3 h (λ e. may-link-by 3 (rw (e, kernel) at four.0))
        (λ h. from_on Linking field 4 h (λ e. may-link-by 4 (rw (e, kernel) at four.1))
        (λ h. from_on Linking field 5 h (λ e. next-item refl (rw (sort-is rows row 0) (rw e at one.0))) (λ h. absurd (omega arith))))))

    abbrev Parameterless : ℕ → Type 0
    Parameterless field = eqb (sort_in (kind_at rows row) field) optional_parameter ≡ false

    without-parameters : (field : ℕ) → 1 ≤ field → field < 6 → Parameterless field
    unfolding kind_at
    without-parameters field first last =
        let number = number_at rows row 0 in
        let one = both (parameterless number (kind_of number) 5) _ (parameters-tested number) in
        let two = both (parameterless number (kind_of number) 1) _ one.1 in
        let three = both (parameterless number (kind_of number) 2) _ two.1 in
        let four = both (parameterless number (kind_of number) 3) _ three.1 in
        let kernel = plain-kind in
        from_on Parameterless field 1 first (not-true _ (rw kernel at two.0))
        (λ h. from_on Parameterless field 2 h (not-true _ (rw kernel at three.0))
        (λ h. from_on Parameterless field 3 h (not-true _ (rw kernel at four.0))
        (λ h. from_on Parameterless field 4 h (not-true _ (rw kernel at four.1))
        (λ h. from_on Parameterless field 5 h (not-true _ (rw kernel at one.0)) (λ h. absurd (omega arith))))))

    pub statement-link : (field : ℕ) → 1 ≤ field → field < 6 → 0 < link rows row field → is_statement rows (link rows row field) ≡ true → StatementLink rows row field
    statement-link field first last p t =
        linking field first last
        (rw (sort-is rows row field) at (statement-sort rows (link rows row field) (sort_at rows row field) (is-link field p) (rw (sort-is rows row field) (without-parameters field first last)) (plain-fitting header rows plain row n field first last p) t))

    -- ---- links

    operand_at : {kind : Kind} → kind_at rows row ≡ kind → (field : ℕ) → holds (eqb expression) kind field ≡ true → Operand rows row field
    unfolding is_required
    operand_at k field t =
        let l = linked Kernel bounds rows s row n k expression field refl t in
        record { later = l.later; inside = rw l.same at l.leads.inside }

    lone-by : (field : ℕ) → Leads rows row field → link rows row field ≡ number_at rows row field → (is_statement rows (link rows row field) ≡ true) × (eqb (number_at rows (link rows row field) 5) 0 ≡ true)
        → is_block rows (number_at rows row field) ≡ true → Lone rows row field
    unfolding is_block
    lone-by field leads same parts e =
        record {
          leads = leads;
          same = same;
          later = rw same at leads.later;
          inside = rw same at leads.inside;
          statement = rw same at parts.0;
          block = eqb-true (number_at rows (number_at rows row field) 0) 42 (both (not (eqb (number_at rows row field) 0)) _ e).1;
          last = rw same at (eqb-true (number_at rows (link rows row field) 5) 0 parts.1);
        }

    lone-at : {kind : Kind} → kind_at rows row ≡ kind → (field : ℕ) → holds (eqb branch) kind field ≡ true → is_block rows (number_at rows row field) ≡ true → Lone rows row field
    unfolding is_required fits
    lone-at k field t e = let l = linked Kernel bounds rows s row n k branch field refl t in lone-by field l.leads l.same (both (is_statement rows (link rows row field)) _ l.fit) e

    else-at : kind_at rows row ≡ OfStatement If → is_block rows (number_at rows row 3) ≡ true → Lone rows row 3
    unfolding is_link sort_in kind_row expression_fields statement_fields mark_fields definition_fields member_fields fits is_block
    else-at k e =
        let c = may-link Kernel bounds rows s row n k optional_branch 3 refl refl in
        let there : 0 < link rows row 3 = rw c.same (above_zero _ (λ q. true≢false (sym (both (not (eqb (number_at rows row 3) 0)) _ e).0 ∙ ap not (eq-eqb _ _ q)))) in
        lone-by 3 (c.leads there) c.same (both (is_statement rows (link rows row 3)) _ (c.fit there)) e

    listed_by : (field : ℕ) → MayLink rows row optional_item field → Listed rows row field
    unfolding fits
    listed_by field may =
        record {
          same = may.same;
          leads = λ p. may.leads (rw may.same p);
          later = λ p. may.later p;
          inside = λ p. rw may.same at (may.leads (rw may.same p)).inside;
          statement = λ p. rw may.same at (may.fit (rw may.same p));
        }

    -- What stands behind a statement.
    pub next-at : is_statement rows row ≡ true → Listed rows row 5
    next-at t = listed_by 5 (item-link Kernel bounds rows s row n (no-parameter header rows plain row n) t)

    -- ---- statements, by the number of the kind

    pub assign-at : number_at rows row 0 ≡ 41 → is_kernel_expression rows row ≡ true → AssignRow rows row
    unfolding is_kernel_expression kind_of kind_in kinds sort_in kind_row expression_fields statement_fields mark_fields definition_fields member_fields
    assign-at k e =
        let kind = kind-of 41 k in
        let a = operand_at kind 1 refl in
        record { operand = a; assigns = (both (eqb (number_at rows row 0) 41) _ e).1; is = at-express rows whole row kind a.later }

    pub block_at : number_at rows row 0 ≡ 42 → BlockRow rows row
    unfolding kind_of kind_in kinds is_link sort_in kind_row expression_fields statement_fields mark_fields definition_fields member_fields
    block_at k =
        let kind = kind-of 42 k in
        let first = may-link Kernel bounds rows s row n kind optional_item 1 refl refl in
        record { listed = listed_by 1 first; is = at_block rows whole row kind first.later }

    if-at : number_at rows row 0 ≡ 43 → is_kernel_if rows row ≡ true → IfRow rows row
    unfolding is_kernel_if kind_of kind_in kinds sort_in kind_row expression_fields statement_fields mark_fields definition_fields member_fields
    if-at k e =
        let parts = both (eqb (number_at rows row 0) 43) _ e in
        let others = both (is_atom rows (number_at rows row 1)) _ parts.1 in
        let blocks = both (is_block rows (number_at rows row 2)) _ others.1 in
        let kind = kind-of 43 k in
        let a = operand_at kind 1 refl in
        let b = lone-at kind 2 refl blocks.0 in
        let c = else-at kind blocks.1 in
        record { operand = a; atom = others.0; on_true = b; on_false = c; is = at-if_else rows whole row kind a.later b.later c.later }

    while-at : number_at rows row 0 ≡ 44 → is_kernel_while rows row ≡ true → WhileRow rows row
    unfolding is_kernel_while kind_of kind_in kinds sort_in kind_row expression_fields statement_fields mark_fields definition_fields member_fields
    while-at k e =
        let parts = both (eqb (number_at rows row 0) 44) _ e in
        let others = both (is_atom rows (number_at rows row 1)) _ parts.1 in
        let kind = kind-of 44 k in
        let a = operand_at kind 1 refl in
        let b = lone-at kind 2 refl others.1 in
        record { operand = a; atom = others.0; body = b; is = at-while rows whole row kind a.later b.later }

    empty-is : number_at rows row 0 ≡ 40 → statement_at rows row ≡ empty
    unfolding kind_of kind_in kinds
    empty-is k = at-empty rows whole row (kind-of 40 k)

    goto-is : number_at rows row 0 ≡ 52 → statement_at rows row ≡ goto (number_at rows row 1)
    unfolding kind_of kind_in kinds
    goto-is k = at-goto rows whole row (kind-of 52 k)

    label_is : number_at rows row 0 ≡ 53 → statement_at rows row ≡ empty
    unfolding kind_of kind_in kinds statement_of
    label_is k = rw (statement-at rows whole row, kind-of 53 k)

    abort-is : number_at rows row 0 ≡ 57 → statement_at rows row ≡ abort
    unfolding kind_of kind_in kinds
    abort-is k = at-abort rows whole row (kind-of 57 k)

    none-of-function : is_of_function rows row ≡ true → ⊥
    unfolding is_of_function is_kernel_return is_kernel_parameter is_function_number
    none-of-function h =
        let number = number_at rows row 0 in
        ⊎_elim (λ e. no-function (rw (eqb-true number 59 e)))
        (λ h. ⊎_elim (λ e. let k : number_at rows row 0 ≡ 60 = eqb-true number 60 (both (eqb number 60) _ e).0 in no-function (rw k)) (λ e. plain-undeclared header rows plain row n (eqb-true number 58 (both (eqb number 58) _ e).0))
        (either (is_kernel_return rows row) _ h)) (either (eqb number 59) _ h)

    -- What stands at a statement's row.
    pub kernel-row : is_statement rows row ≡ true → KernelRow rows row
    unfolding is_kernel_statement is_kernel_if is_kernel_while is_kernel_expression
    kernel-row t =
        let number = number_at rows row 0 in
        ⊎_elim (λ h. let k = eqb-true number 40 h in empty-row k (empty-is k))
        (λ h. ⊎_elim (λ h. let k = eqb-true number 42 h in block-row k (block_at k))
        (λ h. ⊎_elim (λ h. let k = eqb-true number 43 (both (eqb number 43) _ h).0 in if-row k (if-at k h))
        (λ h. ⊎_elim (λ h. let k = eqb-true number 44 (both (eqb number 44) _ h).0 in while-row k (while-at k h))
        (λ h. ⊎_elim (λ h. let k = eqb-true number 52 h in goto-row k (goto-is k))
        (λ h. ⊎_elim (λ h. let k = eqb-true number 53 h in label-row k (label_is k))
        (λ h. ⊎_elim (λ h. let k = eqb-true number 57 h in abort-row k (abort-is k))
        (λ h. ⊎_elim (λ h. let k = eqb-true number 41 (both (eqb number 41) _ h).0 in assign-row k (assign-at k h)) (λ h. absurd (none-of-function h))
        (either (is_kernel_expression rows row) _ h)) (either (eqb number 57) _ h)) (either (eqb number 53) _ h)) (either (eqb number 52) _ h)) (either (is_kernel_while rows row) _ h)) (either (is_kernel_if rows row) _ h))
        (either (eqb number 42) _ h)) (either (eqb number 40) _ (plain.legal.formed row n t))

    -- What stands at a row of a kind.
    pub assign-of : number_at rows row 0 ≡ 41 → AssignRow rows row
    unfolding is_statement sort_at sort_of kind_of kind_in kinds sort_in kind_row statement_fields
    assign-of k = by (kernel-row (rw k))
      where
        by : KernelRow rows row → AssignRow rows row
        by (empty-row e r) = absurd (omega arith)
        by (assign-row e r) = r
        by (block-row e r) = absurd (omega arith)
        by (if-row e r) = absurd (omega arith)
        by (while-row e r) = absurd (omega arith)
        by (goto-row e r) = absurd (omega arith)
        by (label-row e r) = absurd (omega arith)
        by (abort-row e r) = absurd (omega arith)

    pub if-of : number_at rows row 0 ≡ 43 → IfRow rows row
    unfolding is_statement sort_at sort_of kind_of kind_in kinds sort_in kind_row statement_fields
    if-of k = by (kernel-row (rw k))
      where
        by : KernelRow rows row → IfRow rows row
        by (empty-row e r) = absurd (omega arith)
        by (assign-row e r) = absurd (omega arith)
        by (block-row e r) = absurd (omega arith)
        by (if-row e r) = r
        by (while-row e r) = absurd (omega arith)
        by (goto-row e r) = absurd (omega arith)
        by (label-row e r) = absurd (omega arith)
        by (abort-row e r) = absurd (omega arith)

    pub while-of : number_at rows row 0 ≡ 44 → WhileRow rows row
    unfolding is_statement sort_at sort_of kind_of kind_in kinds sort_in kind_row statement_fields
    while-of k = by (kernel-row (rw k))
      where
        by : KernelRow rows row → WhileRow rows row
        by (empty-row e r) = absurd (omega arith)
        by (assign-row e r) = absurd (omega arith)
        by (block-row e r) = absurd (omega arith)
        by (if-row e r) = absurd (omega arith)
        by (while-row e r) = r
        by (goto-row e r) = absurd (omega arith)
        by (label-row e r) = absurd (omega arith)
        by (abort-row e r) = absurd (omega arith)

    -- ---- lists

    -- The list from a statement's row on.
    pub label-list : number_at rows row 0 ≡ 53 → is_statement rows row ≡ true → items_at rows row ≡ label (number_at rows row 1) here list_at rows (number_at rows row 5)
    unfolding kind_of kind_in kinds
    label-list k t = let next = item-link Kernel bounds rows s row n (no-parameter header rows plain row n) t in at_label rows whole row (kind-of 53 k) next.later

    pub statement-list : (number_at rows row 0 ≡ 53 → ⊥) → is_statement rows row ≡ true → items_at rows row ≡ statement_at rows row then list_at rows (number_at rows row 5)
    unfolding is_statement kind_at sort_in kind_row expression_fields statement_fields mark_fields definition_fields member_fields statement_number
    statement-list other t =
        let next = item-link Kernel bounds rows s row n (no-parameter header rows plain row n) t in
        ⊎_elim (λ k. at_item rows whole row k next.later)
        (⊎_elim (λ k. absurd (not-in-kernel k refl))
        (⊎_elim (λ k. absurd (not-in-kernel k refl))
        (⊎_elim (λ k. absurd (other (number_is rows row k refl)))
        (λ k. absurd (no-function (definition-number (number_at rows row 0) k))))))
        (statement-kind rows row (eqb-true _ _ t))

  -- The list of a branch or body: its one statement.
  pub lone-list : {row field : ℕ} → Lone rows row field → items_at rows (number_at rows row field) ≡ statement_at rows (number_at rows row field) then none
  lone-list {row} {field} l =
      let b = number_at rows row field in
      let k = l.block in
      let last = l.last in
      statement-list b l.inside (λ (q : number_at rows b 0 ≡ 53). omega arith) l.statement ∙ (rw last)

  pub lone-branch : {row field : ℕ} → Lone rows row field → list_at rows (number_at rows row field) ≡ statement_at rows (number_at rows row field) then none
  lone-branch {row} {field} l = list-some rows (number_at rows row field) (let later = l.later in omega arith) ∙ lone-list l

-- ---- statements have numbers from 40 on

abbrev row_tested : ℕ → Kind → Bool
row_tested number kind = pick (ltb number 40) (not (eqb (sort_in kind 0) statement_row)) (not (between expression_row place_row (sort_in kind 0)))

row-tested : (number : ℕ) → row_tested number (kind_of number) ≡ true
unfolding every_line kinds sort_in kind_row expression_fields statement_fields mark_fields definition_fields member_fields
row-tested number = every-number row_tested refl other-passes number
  where
    other-passes : (number : ℕ) → row_tested number Other ≡ true
    other-passes number = by (ltb number 40)
      where
        by : (b : Bool) → pick b (not (eqb (sort_in Other 0) statement_row)) (not (between expression_row place_row (sort_in Other 0))) ≡ true
        by true = refl
        by false = refl

pub statement-number : (rows : List ℤ) (row : ℕ) → is_statement rows row ≡ true → 40 ≤ number_at rows row 0
unfolding is_statement sort_at sort_of
statement-number rows row t = by (ltb (number_at rows row 0) 40) refl
  where
    by : (b : Bool) → ltb (number_at rows row 0) 40 ≡ b → 40 ≤ number_at rows row 0
    by true e = absurd (true≢false (sym (rw (e, t) at (row-tested (number_at rows row 0)))))
    by false e = ltb-false (number_at rows row 0) 40 e

pub number-statement : (header rows : List ℤ) (plain : Plain header rows) (row : ℕ) → row < row_count rows → 40 ≤ number_at rows row 0 → is_statement rows row ≡ true
unfolding is_expression sort_at sort_of
number-statement header rows plain row n h =
    let tested-row = rw (le-ltb (number_at rows row 0) 40 h) at (row-tested (number_at rows row 0)) in
    ⊎_elim (λ e. absurd (true≢false (sym tested-row ∙ ap not e))) (λ t. t) (expression-or-statement header rows plain row n)

-- A row that links a statement is one.
pub linking-statement : (rows : List ℤ) (row : ℕ) {field : ℕ} → StatementLink rows row field → is_statement rows row ≡ true
unfolding is_statement sort_at sort_of kind_of kind_in kinds sort_in kind_row statement_fields
linking-statement rows row (next-item e t) = t
linking-statement rows row (first-item e k) = rw k
linking-statement rows row (true_branch e k) = rw k
linking-statement rows row (false_branch e k) = rw k
linking-statement rows row (loop_body e k) = rw k

pub label-statement : (rows : List ℤ) (row : ℕ) → number_at rows row 0 ≡ 53 → is_statement rows row ≡ true
unfolding is_statement sort_at sort_of kind_of kind_in kinds sort_in kind_row mark_fields
label-statement rows row k = rw k

-- The fields of a row that link no statement.
pub none-linked : (rows : List ℤ) (row number field : ℕ) → number_at rows row 0 ≡ number → may_link number field ≡ false → field < 5 → StatementLink rows row field → ⊥
none-linked rows row number field k m h (next-item e t) = omega arith
none-linked rows row number field k m h (first-item e t) = let a : number ≡ 42 = sym k ∙ t in true≢false (rw (a, e) at m)
none-linked rows row number field k m h (true_branch e t) = let a : number ≡ 43 = sym k ∙ t in true≢false (rw (a, e) at m)
none-linked rows row number field k m h (false_branch e t) = let a : number ≡ 43 = sym k ∙ t in true≢false (rw (a, e) at m)
none-linked rows row number field k m h (loop_body e t) = let a : number ≡ 44 = sym k ∙ t in true≢false (rw (a, e) at m)
