-- Statements: how the statements, lists and arms of a structured table lie on its rows: each row's tree is made of those at its links. What
-- is true of every statement of a table is shown by recursion on `StatementRow`, `ListRow` and `ArmsRow`.
use Rattle.std.specs.Prelude.{◌≡◌, List, [], ◌∷◌, eqb, ℤ}
use Rattle.std.proofs.Math.Path.{refl}
use Rattle.std.proofs.Common.{sym, ap, ◌∙◌}
use Rattle.std.proofs.Math.Bool.{true, false}
use Rattle.std.proofs.lemmas.Bool.{false≢true}
use Rattle.std.proofs.Math.Logic.{⊎_elim}
use Prim.Native.Nat.{ℕ, zero, suc, ◌+◌, ◌≤◌, ◌<◌}
use native.Mathlib.Omega.{arith}
use borrow.Author.Tests.{eqb-true}
use Rattle.words.specs.Table.{row_count, word_at, number_at, Whole}
use Rattle.words.specs.Kinds.{kinds, kind_in, kind_of, kind_at, expression, optional_expression, branch, optional_branch, optional_item, body_block, optional_arm, statement_row, is_link, is_required, sort_in, kind_row, expression_fields, statement_fields, mark_fields, definition_fields, member_fields}
use Rattle.words.specs.Laws.{both, by_cases}
use Rattle.words.specs.declared.Form.{Form}
use Rattle.words.specs.declared.Kind.{Kind}
use Rattle.words.specs.declared.Kind.TheVariants.{OfExpression, OfStatement, OfMark, OfMember, Definition, Other}
use Rattle.words.specs.declared.StatementKind.TheVariants.{Empty, Express, Block, If, While, Do, For, Switch, Break, Continue, Goto, GuardedIf, GuardedDo, Abort, Declare, Return}
use Rattle.words.specs.declared.MarkKind.TheVariants.{Case, Default, Label}
use Rattle.words.specs.declared.MemberKind.TheVariants.{Arm, Argument}
use Rattle.language.specs.Trees.{Expression, absent, present, case, default, label, Statement, empty, express, block, if_then, if_else, while, do_while, for, switch, break, continue, goto, guarded_if, guarded_do, abort, declare, give_back, no_arm, arm, none, ◌then◌, ◌here◌, define}
use Rattle.language.specs.Decode.{expression_at, parameters_at, block_items, statement_of, statement_at, items_at, arms_at, decode, list_at, arm_list_at, part_at, parameter_list_at}
use Rattle.language.specs.DecodeLaws.{statement-at, at-empty, at-express, at_block, at-if_then, at-if_else, at-while, at-do_while, at-for, at-switch, at-break, at-continue, at-goto, at-guarded_if, at-guarded_do, at-abort, at-declare, at_return, at_item, at-case, at_default, at_label, at-definition, at-parameter, at-arm, part-some}
use Rattle.words.specs.Links.{link, is_statement, is_block, is_arm, fits}
use Rattle.language.specs.Program.{contents}
use Rattle.check_structure.specs.StructuredLaws.{structured-tree}
use Rattle.check_structure.specs.RoleLaws.{parameter-fits, first-parameter}
use Rattle.words.specs.Declarations.{is_declaration}
use Rattle.words_roles.specs.Roles.{is_parameter}
use Rattle.words_roles.proofs.RoleLaws.{parameter-declaration}
use Rattle.accepted_calls.specs.Kinds.{kind-definition, declaration-kind}
use Rattle.accepted_calls.specs.CallsAlong.{link-same}
use Rattle.check_fields.specs.declared.Bounds.{Bounds}
use Rattle.check_structure.specs.Structured.{Leads, Structured}
use Rattle.accepted.specs.Sorts.{sort-is, operand-is, statement-kind, block-statement, arm_is}
use Rattle.accepted.proofs.Fields.{holds, links_other, Linked, MayLink, linked, may-link, item-link, initial-link}
use Rattle.accepted.proofs.Expressions.{ExpressionRow, whole-rows, expression-row}
use Rattle.accepted.proofs.Definitions.{Defines, defines}

module _ (rows : List ℤ) where
  abbrev pub expression_of : ℕ → ℕ → Expression
  expression_of row field = expression_at rows (link rows row field)

  abbrev pub statement_in : ℕ → ℕ → Statement
  statement_in row field = statement_at rows (link rows row field)

  -- Parameters, at a link: none, or a word and the parameters behind it.
  pub data ParametersRow : ℕ → Type 0 where
    no-parameters : {l : ℕ} → l ≡ 0 → parameter_list_at rows l ≡ [] → ParametersRow l
    parameter-row : {l : ℕ} → 0 < l → kind_at rows l ≡ OfStatement Declare → link rows l 2 ≡ 0
        → parameter_list_at rows l ≡ number_at rows l 1 ∷ parameter_list_at rows (link rows l 5) → ParametersRow (link rows l 5) → ParametersRow l

  -- A part of a for, at a link.
  pub data PartRow : ℕ → Type 0 where
    absent-part : {l : ℕ} → l ≡ 0 → part_at rows l ≡ absent → PartRow l
    present-part : {l : ℕ} → 0 < l → part_at rows l ≡ present (expression_at rows l) → ExpressionRow rows l → PartRow l

  mutual
    -- A row that holds a statement: its kind, its links, its statement, and the rows that it links. Of a mark the statement is empty, and so is
    -- that of a definition.
    pub data StatementRow : ℕ → Type 0 where
      empty-row : {row : ℕ} → kind_at rows row ≡ OfStatement Empty → statement_at rows row ≡ empty → StatementRow row
      express-row : {row : ℕ} → kind_at rows row ≡ OfStatement Express → Leads rows row 1
          → statement_at rows row ≡ express (expression_of row 1) → ExpressionRow rows (link rows row 1) → StatementRow row
      block-row : {row : ℕ} → kind_at rows row ≡ OfStatement Block
          → statement_at rows row ≡ block (list_at rows (link rows row 1)) → ListRow (link rows row 1) → StatementRow row
      if_then-row : {row : ℕ} → kind_at rows row ≡ OfStatement If → Leads rows row 1 → Leads rows row 2 → link rows row 3 ≡ 0
          → statement_at rows row ≡ if_then (expression_of row 1) (statement_in row 2)
          → ExpressionRow rows (link rows row 1) → StatementRow (link rows row 2) → StatementRow row
      if_else-row : {row : ℕ} → kind_at rows row ≡ OfStatement If → Leads rows row 1 → Leads rows row 2 → Leads rows row 3
          → statement_at rows row ≡ if_else (expression_of row 1) (statement_in row 2) (statement_in row 3)
          → ExpressionRow rows (link rows row 1) → StatementRow (link rows row 2) → StatementRow (link rows row 3) → StatementRow row
      while-row : {row : ℕ} → kind_at rows row ≡ OfStatement While → Leads rows row 1 → Leads rows row 2
          → statement_at rows row ≡ while (expression_of row 1) (statement_in row 2)
          → ExpressionRow rows (link rows row 1) → StatementRow (link rows row 2) → StatementRow row
      do_while-row : {row : ℕ} → kind_at rows row ≡ OfStatement Do → Leads rows row 1 → Leads rows row 2
          → statement_at rows row ≡ do_while (statement_in row 1) (expression_of row 2)
          → StatementRow (link rows row 1) → ExpressionRow rows (link rows row 2) → StatementRow row
      for-row : {row : ℕ} → kind_at rows row ≡ OfStatement For → Leads rows row 4
          → statement_at rows row ≡ for (part_at rows (link rows row 1)) (part_at rows (link rows row 2)) (part_at rows (link rows row 3)) (statement_in row 4)
          → PartRow (link rows row 1) → PartRow (link rows row 2) → PartRow (link rows row 3) → StatementRow (link rows row 4) → StatementRow row
      switch-row : {row : ℕ} → kind_at rows row ≡ OfStatement Switch → Leads rows row 1
          → statement_at rows row ≡ switch (expression_of row 1) (list_at rows (link rows row 2))
          → ExpressionRow rows (link rows row 1) → ListRow (link rows row 2) → StatementRow row
      case_row : {row : ℕ} → kind_at rows row ≡ OfMark Case → statement_at rows row ≡ empty → StatementRow row
      default_row : {row : ℕ} → kind_at rows row ≡ OfMark Default → statement_at rows row ≡ empty → StatementRow row
      break-row : {row : ℕ} → kind_at rows row ≡ OfStatement Break → statement_at rows row ≡ break → StatementRow row
      continue-row : {row : ℕ} → kind_at rows row ≡ OfStatement Continue → statement_at rows row ≡ continue → StatementRow row
      goto-row : {row : ℕ} → kind_at rows row ≡ OfStatement Goto → statement_at rows row ≡ goto (number_at rows row 1) → StatementRow row
      label-row : {row : ℕ} → kind_at rows row ≡ OfMark Label → statement_at rows row ≡ empty → StatementRow row
      guarded_if-row : {row : ℕ} → kind_at rows row ≡ OfStatement GuardedIf
          → statement_at rows row ≡ guarded_if (arm_list_at rows (link rows row 1)) → ArmsRow (link rows row 1) → StatementRow row
      guarded_do-row : {row : ℕ} → kind_at rows row ≡ OfStatement GuardedDo
          → statement_at rows row ≡ guarded_do (arm_list_at rows (link rows row 1)) → ArmsRow (link rows row 1) → StatementRow row
      abort-row : {row : ℕ} → kind_at rows row ≡ OfStatement Abort → statement_at rows row ≡ abort → StatementRow row
      declare-row : {row : ℕ} → kind_at rows row ≡ OfStatement Declare → Leads rows row 2
          → statement_at rows row ≡ declare (number_at rows row 1) (expression_of row 2) → ExpressionRow rows (link rows row 2) → StatementRow row
      return-row : {row : ℕ} → kind_at rows row ≡ OfStatement Return → statement_at rows row ≡ give_back (part_at rows (link rows row 1)) → PartRow (link rows row 1) → StatementRow row
      definition-row : {row : ℕ} → kind_at rows row ≡ Definition → statement_at rows row ≡ empty → StatementRow row

    -- A list, at a link: empty, or a statement, mark or definition and the list behind it.
    pub data ListRow : ℕ → Type 0 where
      no_items : {l : ℕ} → l ≡ 0 → list_at rows l ≡ none → ListRow l
      item : {l : ℕ} → 0 < l → list_at rows l ≡ statement_at rows l then list_at rows (link rows l 5)
          → StatementRow l → ListRow (link rows l 5) → ListRow l
      case-item : {l : ℕ} → 0 < l → kind_at rows l ≡ OfMark Case → list_at rows l ≡ case (word_at rows l 1) here list_at rows (link rows l 5)
          → StatementRow l → ListRow (link rows l 5) → ListRow l
      default-item : {l : ℕ} → 0 < l → kind_at rows l ≡ OfMark Default → list_at rows l ≡ default here list_at rows (link rows l 5)
          → StatementRow l → ListRow (link rows l 5) → ListRow l
      label-item : {l : ℕ} → 0 < l → kind_at rows l ≡ OfMark Label → list_at rows l ≡ label (number_at rows l 1) here list_at rows (link rows l 5)
          → StatementRow l → ListRow (link rows l 5) → ListRow l
      definition-item : {l : ℕ} → 0 < l → kind_at rows l ≡ Definition → Leads rows l 3 → kind_at rows (link rows l 3) ≡ OfStatement Block → statement_in l 3 ≡ block (list_at rows (link rows (link rows l 3) 1))
          → list_at rows l ≡ define (number_at rows l 1) (parameter_list_at rows (link rows l 2)) (list_at rows (link rows (link rows l 3) 1)) (list_at rows (link rows l 5))
          → ParametersRow (link rows l 2) → ListRow (link rows (link rows l 3) 1) → ListRow (link rows l 5) → ListRow l

    -- Arms, at a link: none, or a guard with its block and the arms behind it.
    pub data ArmsRow : ℕ → Type 0 where
      no-arms : {l : ℕ} → l ≡ 0 → arm_list_at rows l ≡ no_arm → ArmsRow l
      arm-row : {l : ℕ} → 0 < l → kind_at rows l ≡ OfMember Arm → Leads rows l 1 → Leads rows l 2
          → arm_list_at rows l ≡ arm (expression_of l 1) (statement_in l 2) (arm_list_at rows (link rows l 5))
          → ExpressionRow rows (link rows l 1) → StatementRow (link rows l 2) → ArmsRow (link rows l 5) → ArmsRow l

  pub list-some : (l : ℕ) → 0 < l → list_at rows l ≡ items_at rows l
  list-some zero p = absurd (omega arith)
  list-some (suc l) p = refl

  pub arms-some : (l : ℕ) → 0 < l → arm_list_at rows l ≡ arms_at rows l
  arms-some zero p = absurd (omega arith)
  arms-some (suc l) p = refl

  pub parameters-some : (l : ℕ) → 0 < l → parameter_list_at rows l ≡ parameters_at rows l
  parameters-some zero p = absurd (omega arith)
  parameters-some (suc l) p = refl

  -- the faces of a row
  record Held (row : ℕ) : Type 0 where
    statement : is_statement rows row ≡ true → is_parameter rows row ≡ false → StatementRow row
    list : is_statement rows row ≡ true → is_parameter rows row ≡ false → 0 < row → ListRow row
    arms : is_arm rows row ≡ true → 0 < row → ArmsRow row
    parameters : is_parameter rows row ≡ true → 0 < row → ParametersRow row

module _ (form : Form) (bounds : Bounds) (rows : List ℤ) (s : Structured form bounds rows) where
  whole : Whole rows
  whole = whole-rows form bounds rows s

  module _ (row : ℕ) (inside : row < row_count rows) (later_rows : (l : ℕ) → row < l → l < row_count rows → Held rows l) where
    -- the row that a field links: an expression, a branch or body, an else, a part of a for, a list, an arm's block, arms
    link_at : {kind : Kind} → kind_at rows row ≡ kind → (field : ℕ) → holds (eqb expression) kind field ≡ true → Linked rows row expression field
    unfolding is_required
    link_at k field t = linked form bounds rows s row inside k expression field refl t

    operand : {field : ℕ} → Linked rows row expression field → ExpressionRow rows (link rows row field)
    unfolding fits
    operand l = expression-row form bounds rows s _ l.leads.inside l.fit

    body-at : {kind : Kind} → kind_at rows row ≡ kind → (field : ℕ) → holds (eqb branch) kind field ≡ true → Linked rows row branch field
    unfolding is_required
    body-at k field t = linked form bounds rows s row inside k branch field refl t

    body : {field : ℕ} → Linked rows row branch field → StatementRow rows (link rows row field)
    unfolding fits
    body l = (later_rows _ l.leads.later l.leads.inside).statement (both _ _ l.fit).0 l.other

    may_at : {kind : Kind} → kind_at rows row ≡ kind → (sort field : ℕ) → links_other sort ≡ true → holds (eqb sort) kind field ≡ true → MayLink rows row sort field
    may_at = may-link form bounds rows s row inside

    otherwise : {field : ℕ} → MayLink rows row optional_branch field → 0 < link rows row field → StatementRow rows (link rows row field)
    unfolding fits
    otherwise l p = (later_rows _ (l.leads p).later (l.leads p).inside).statement (both _ _ (l.fit p)).0 (l.other p)

    part : {field : ℕ} → MayLink rows row optional_expression field → PartRow rows (link rows row field)
    unfolding fits
    part {field} l = go (link rows row field) refl
      where
        go : (l : ℕ) → link rows row field ≡ l → PartRow rows (link rows row field)
        go zero z = absent-part z (rw z)
        go (suc next) z =
            let p : 0 < link rows row field = omega arith in
            present-part p (part-some rows _ p) (expression-row form bounds rows s _ (l.leads p).inside (l.fit p))

    items : {field : ℕ} → MayLink rows row optional_item field → ListRow rows (link rows row field)
    unfolding fits
    items {field} l = go (link rows row field) refl
      where
        go : (l : ℕ) → link rows row field ≡ l → ListRow rows (link rows row field)
        go zero z = no_items z (rw z)
        go (suc next) z =
            let p : 0 < link rows row field = omega arith in
            (later_rows _ (l.leads p).later (l.leads p).inside).list (l.fit p) (l.other p) p

    arm_body : Linked rows row body_block 2 → StatementRow rows (link rows row 2)
    unfolding fits is_block
    arm_body l = (later_rows _ l.leads.later l.leads.inside).statement (block-statement rows _ (eqb-true _ _ (both (eqb (number_at rows (link rows row 2) 0) 42) _ l.fit).0)) l.other

    arms-from : {field : ℕ} → MayLink rows row optional_arm field → ArmsRow rows (link rows row field)
    unfolding fits
    arms-from {field} l = go (link rows row field) refl
      where
        go : (l : ℕ) → link rows row field ≡ l → ArmsRow rows (link rows row field)
        go zero z = no-arms z (rw z)
        go (suc next) z =
            let p : 0 < link rows row field = omega arith in
            (later_rows _ (l.leads p).later (l.leads p).inside).arms (l.fit p) p

    parameters-from : {field : ℕ} → (0 < link rows row field → Leads rows row field × (is_parameter rows (link rows row field) ≡ true)) → ParametersRow rows (link rows row field)
    parameters-from {field} l = go (link rows row field) refl
      where
        go : (l : ℕ) → link rows row field ≡ l → ParametersRow rows (link rows row field)
        go zero z = no-parameters z (rw z)
        go (suc next) z =
            let p : 0 < link rows row field = omega arith in
            (later_rows _ (l p).0.later (l p).0.inside).parameters (l p).1 p

    if-by : kind_at rows row ≡ OfStatement If → (l : ℕ) → link rows row 3 ≡ l → StatementRow rows row
    unfolding sort_in kind_row expression_fields statement_fields mark_fields definition_fields member_fields is_link
    if-by k zero z =
        let a = link_at k 1 refl in
        let b = body-at k 2 refl in
        let c = may_at k optional_branch 3 refl refl in
        if_then-row k a.leads b.leads z (rw (a.same, b.same) (at-if_then rows whole row k a.later b.later (sym c.same ∙ z)))
        (operand a) (body b)
    if-by k (suc l) z =
        let a = link_at k 1 refl in
        let b = body-at k 2 refl in
        let c = may_at k optional_branch 3 refl refl in
        let p : 0 < link rows row 3 = omega arith in
        if_else-row k a.leads b.leads (c.leads p)
        (rw (a.same, b.same, c.same) (at-if_else rows whole row k a.later b.later (c.later (rw (← c.same) p))))
        (operand a) (body b) (otherwise c p)

    statement-by : is_parameter rows row ≡ false → (kind : Kind) → kind_at rows row ≡ kind → eqb (sort_in kind 0) statement_row ≡ true → StatementRow rows row
    unfolding sort_in kind_row expression_fields statement_fields mark_fields definition_fields member_fields is_link statement_of
    statement-by other (OfStatement Empty) k t = empty-row k (at-empty rows whole row k)
    statement-by other (OfStatement Express) k t =
        let a = link_at k 1 refl in
        express-row k a.leads (rw a.same (at-express rows whole row k a.later)) (operand a)
    statement-by other (OfStatement Block) k t =
        let a = may_at k optional_item 1 refl refl in
        block-row k (rw a.same (at_block rows whole row k a.later)) (items a)
    statement-by other (OfStatement If) k t = if-by k (link rows row 3) refl
    statement-by other (OfStatement While) k t =
        let a = link_at k 1 refl in
        let b = body-at k 2 refl in
        while-row k a.leads b.leads (rw (a.same, b.same) (at-while rows whole row k a.later b.later)) (operand a) (body b)
    statement-by other (OfStatement Do) k t =
        let a = body-at k 1 refl in
        let b = link_at k 2 refl in
        do_while-row k a.leads b.leads (rw (a.same, b.same) (at-do_while rows whole row k a.later b.later)) (body a) (operand b)
    statement-by other (OfStatement For) k t =
        let a = may_at k optional_expression 1 refl refl in
        let b = may_at k optional_expression 2 refl refl in
        let c = may_at k optional_expression 3 refl refl in
        let d = body-at k 4 refl in
        for-row k d.leads (rw (a.same, b.same, c.same, d.same) (at-for rows whole row k a.later b.later c.later d.later))
        (part a) (part b) (part c) (body d)
    statement-by other (OfStatement Switch) k t =
        let a = link_at k 1 refl in
        let b = may_at k optional_item 2 refl refl in
        switch-row k a.leads (rw (a.same, b.same) (at-switch rows whole row k a.later b.later)) (operand a) (items b)
    statement-by other (OfMark Case) k t = case_row k (rw (statement-at rows whole row, k))
    statement-by other (OfMark Default) k t = default_row k (rw (statement-at rows whole row, k))
    statement-by other (OfStatement Break) k t = break-row k (at-break rows whole row k)
    statement-by other (OfStatement Continue) k t = continue-row k (at-continue rows whole row k)
    statement-by other (OfStatement Goto) k t = goto-row k (at-goto rows whole row k)
    statement-by other (OfMark Label) k t = label-row k (rw (statement-at rows whole row, k))
    statement-by other (OfStatement GuardedIf) k t =
        let a = may_at k optional_arm 1 refl refl in
        guarded_if-row k (rw a.same (at-guarded_if rows whole row k a.later)) (arms-from a)
    statement-by other (OfStatement GuardedDo) k t =
        let a = may_at k optional_arm 1 refl refl in
        guarded_do-row k (rw a.same (at-guarded_do rows whole row k a.later)) (arms-from a)
    statement-by other (OfStatement Abort) k t = abort-row k (at-abort rows whole row k)
    statement-by other (OfStatement Declare) k t =
        let b = initial-link form bounds rows s row inside other k in
        declare-row k b.leads (rw b.same (at-declare rows whole row k b.later)) (operand b)
    statement-by other (OfStatement Return) k t =
        let a = may_at k optional_expression 1 refl refl in
        return-row k (rw a.same (at_return rows whole row k a.later)) (part a)
    statement-by other (OfMember Arm) k t = absurd (false≢true t)
    statement-by other (OfMember Argument) k t = absurd (false≢true t)
    statement-by other Definition k t = definition-row k (rw (statement-at rows whole row, k))
    statement-by other (OfExpression kind) k t = absurd (false≢true (rw (eqb-true (sort_in (OfExpression kind) 0) statement_row t) at (operand-is rows row k)))
    statement-by other Other k t = absurd (false≢true t)

    -- the items of a function's block
    body-items : (l : ℕ) → row < l → MayLink rows l optional_item 1 → ListRow rows (link rows l 1)
    unfolding fits
    body-items l b may = go (link rows l 1) refl
      where
        go : (first : ℕ) → link rows l 1 ≡ first → ListRow rows (link rows l 1)
        go zero z = no_items z (rw z)
        go (suc next) z =
            let p : 0 < link rows l 1 = omega arith in
            let later : row < link rows l 1 = (let on = (may.leads p).later in omega arith) in
            (later_rows _ later (may.leads p).inside).list (may.fit p) (may.other p) p

    definition-by : 0 < row → is_parameter rows row ≡ false → kind_at rows row ≡ Definition → ListRow rows row
    definition-by p other k =
        let own = defines form bounds rows s row inside k in
        let forward = s.forward row inside 2 (omega arith) (omega arith) in
        definition-item p k own.leads own.body-kind own.body_is (list-some rows row p ∙ own.items-is)
        (parameters-from (λ q. (forward q, first-parameter form bounds rows s row inside (kind-definition rows row k) q)))
        (body-items (link rows row 3) own.leads.later own.first) (items own.next)

    list-by : 0 < row → is_statement rows row ≡ true → is_parameter rows row ≡ false → StatementRow rows row → ListRow rows row
    unfolding is_statement
    list-by p e other held =
        let next = item-link form bounds rows s row inside other e in
        let begins = list-some rows row p in
        ⊎_elim (λ t. item p (rw next.same (begins ∙ at_item rows whole row t next.later)) held (items next))
        (⊎_elim (λ k. case-item p k (rw next.same (begins ∙ at-case rows whole row k next.later)) held (items next))
        (⊎_elim (λ k. default-item p k (rw next.same (begins ∙ at_default rows whole row k next.later)) held (items next))
        (⊎_elim (λ k. label-item p k (rw next.same (begins ∙ at_label rows whole row k next.later)) held (items next))
        (λ k. definition-by p other k))))
        (statement-kind rows row (eqb-true _ _ e))

    arms-by : 0 < row → kind_at rows row ≡ OfMember Arm → ArmsRow rows row
    unfolding sort_in kind_row expression_fields statement_fields mark_fields definition_fields member_fields is_link is_required
    arms-by p k =
        let a = link_at k 1 refl in
        let b = linked form bounds rows s row inside k body_block 2 refl refl in
        let next = may_at k optional_arm 5 refl refl in
        arm-row p k a.leads b.leads
        (rw (a.same, b.same, next.same) (arms-some rows row p ∙ at-arm rows whole row k a.later b.later next.later))
        (operand a) (arm_body b) (arms-from next)

    parameters-by : 0 < row → is_parameter rows row ≡ true → ParametersRow rows row
    unfolding sort_in kind_row expression_fields statement_fields mark_fields definition_fields member_fields is_link
    parameters-by p t =
        let declared = parameter-declaration rows row t in
        let k = declaration-kind rows row declared in
        let tree = structured-tree form bounds rows s in
        let fits-role = parameter-fits form bounds rows s row inside t in
        let same = link-same rows tree row inside k 5 refl in
        let forward = s.forward row inside 5 (omega arith) (omega arith) in
        parameter-row p k (link-same rows tree row inside k 2 refl ∙ fits-role.no-initial)
        (rw same (parameters-some rows row p ∙ at-parameter rows whole row declared (λ q. rw (← same) (forward (rw same q)).later)))
        (parameters-from (λ q. (forward q, fits-role.next-parameter q)))

    held-by : Held rows row
    unfolding is_statement
    held-by =
        let own : is_statement rows row ≡ true → is_parameter rows row ≡ false → StatementRow rows row = λ t o. statement-by o (kind_at rows row) refl (rw (sort-is rows row 0) at t) in
        record { statement = own; list = λ t o p. list-by p t o (own t o); arms = λ t p. arms-by p (arm_is rows row t); parameters = λ t p. parameters-by p t }

  held_rows : (links row : ℕ) → row_count rows ≤ row + links → row < row_count rows → Held rows row
  held_rows zero row enough inside = absurd (omega arith)
  held_rows (suc links) row enough inside = held-by row inside (λ l later there. held_rows links l (omega arith) there)

  held-row : (row : ℕ) → row < row_count rows → Held rows row
  held-row row inside = held_rows (row_count rows) row (omega arith) inside

  -- Every row of a statement's kind holds a statement, and is, but for row 0, where a list begins; and an arm's row is where arms begin.
  pub statement-held : (row : ℕ) → row < row_count rows → is_statement rows row ≡ true → is_parameter rows row ≡ false → StatementRow rows row
  statement-held row inside = (held-row row inside).statement

  pub list_held : (row : ℕ) → row < row_count rows → is_statement rows row ≡ true → is_parameter rows row ≡ false → 0 < row → ListRow rows row
  list_held row inside = (held-row row inside).list

  pub arms-row : (row : ℕ) → row < row_count rows → is_arm rows row ≡ true → 0 < row → ArmsRow rows row
  arms-row row inside = (held-row row inside).arms

  -- The items of a function's block.
  pub body-row : (row : ℕ) → Defines form bounds rows s row → ListRow rows (link rows (link rows row 3) 1)
  body-row row own = items (link rows row 3) own.leads.inside (λ l later there. held-row l there) own.first

  pub parameters-row : (row : ℕ) → row < row_count rows → is_parameter rows row ≡ true → 0 < row → ParametersRow rows row
  parameters-row row inside = (held-row row inside).parameters

  -- ---- row 0: "Row 0 is a block with next 0"

  pub root-kind : kind_at rows 0 ≡ OfStatement Block
  unfolding kind_at kind_of kind_in kinds
  root-kind = rw s.block

  pub root-inside : 0 < row_count rows
  root-inside = (structured-tree form bounds rows s).some_rows

  pub root-statement : is_statement rows 0 ≡ true
  root-statement = block-statement rows 0 s.block

  pub root-other : is_parameter rows 0 ≡ false
  unfolding is_declaration
  root-other = by_cases (is_parameter rows 0) (λ p. absurd (let block = s.block in let declared = eqb-true (number_at rows 0 0) 58 (parameter-declaration rows 0 p) in omega arith)) (λ p. p)

  pub root-row : StatementRow rows 0
  root-row = statement-held 0 root-inside root-statement root-other

  -- The program is a block, and its items hang at row 0's field a.
  root-link : MayLink rows 0 optional_item 1
  unfolding sort_in kind_row expression_fields statement_fields mark_fields definition_fields member_fields is_link
  root-link = may-link form bounds rows s 0 root-inside root-kind optional_item 1 refl refl

  pub program-list : ListRow rows (link rows 0 1)
  program-list = items 0 root-inside (λ l later there. held-row l there) root-link

  pub program-contents : contents rows ≡ list_at rows (link rows 0 1)
  unfolding contents
  program-contents = rw root-link.same

  pub program-block : decode rows ≡ block (contents rows)
  unfolding decode contents
  program-block = at_block rows whole 0 root-kind root-link.later
