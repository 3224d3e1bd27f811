-- Expressions: how the expressions of a structured table lie on its rows: each row's expression is made of those at its links. What is true
-- of every expression of a table is shown by recursion on `ExpressionRow`.
use Rattle.std.specs.Prelude.{◌≡◌, true, List, eqb, ℤ}
use Rattle.std.proofs.Math.Path.{refl}
use Rattle.std.proofs.Common.{sym, ◌∙◌, eqb-true}
use Rattle.std.proofs.lemmas.Bool.{false≢true}
use Rattle.std.proofs.Math.Logic.{⊎_elim}
use Prim.Native.Nat.{ℕ, zero, suc, ◌+◌, ◌≤◌, ◌<◌}
use native.Mathlib.Omega.{arith}
use Rattle.words.specs.Table.{row_count, word_at, number_at, Whole}
use Rattle.words.specs.Kinds.{kind_at, expression, place, optional_argument, expression_row, place_row, between, sort_at, is_link, is_required, sort_in, kind_row, expression_fields, statement_fields, mark_fields, definition_fields, member_fields}
use Rattle.words.specs.declared.Form.{Form}
use Rattle.words.specs.declared.Operator.{Operator}
use Rattle.words.specs.declared.Kind.{Kind}
use Rattle.words.specs.declared.Kind.TheVariants.{OfExpression, OfStatement, OfMark, OfMember, Definition, Other}
use Rattle.words.specs.declared.ExpressionKind.TheVariants.{Constant, Variable, Element, Minus, Not, Binary, And, Or, Conditional, Comma, Assign, Compound, Prefix, Postfix, Call}
use Rattle.words.specs.declared.MemberKind.TheVariants.{Arm, Argument}
use Rattle.language.specs.Trees.{constant, read, minus, not, binary, and, or, comma, conditional, assign, compound, prefix, postfix, call, Place, variable, element, no_more, ◌also◌}
use Rattle.language.specs.Decode.{place_of, expression_at, arguments_at, argument_list_at}
use Rattle.language.specs.DecodeLaws.{at_constant, at-variable, at-element, at-minus, at-not, at-binary, at-and, at-or, at-comma, at-conditional, at-assign, at-compound, at-prefix, at-postfix, at_call, at-argument}
use Rattle.words.specs.Links.{is_expression, is_place, is_argument, link, fits}
use Rattle.check_structure.specs.StructuredLaws.{structured-tree}
use Rattle.check_fields.specs.declared.Bounds.{Bounds}
use Rattle.check_structure.specs.Structured.{Leads, Structured}
use Rattle.accepted.specs.Sorts.{sort-is, place-kind, argument_is}
use Rattle.accepted.proofs.Fields.{holds, Linked, MayLink, linked, may-link}

-- The place that a row holds.
abbrev pub place_at : List ℤ → ℕ → Place
place_at rows row = place_of (expression_at rows row)

module _ (rows : List ℤ) where
  mutual
    -- A row that holds an expression: its kind, its links, its expression, and the rows that it links.
    pub data ExpressionRow : ℕ → Type 0 where
      constant-row : {row : ℕ} → kind_at rows row ≡ OfExpression Constant → expression_at rows row ≡ constant (word_at rows row 1) → ExpressionRow row
      variable-row : {row : ℕ} → kind_at rows row ≡ OfExpression Variable → expression_at rows row ≡ read (variable (number_at rows row 1)) → ExpressionRow row
      element-row : {row : ℕ} → kind_at rows row ≡ OfExpression Element → Leads rows row 2
          → expression_at rows row ≡ read (element (number_at rows row 1) (expression_at rows (link rows row 2))) → ExpressionRow (link rows row 2) → ExpressionRow row
      minus-row : {row : ℕ} → kind_at rows row ≡ OfExpression Minus → Leads rows row 1
          → expression_at rows row ≡ minus (expression_at rows (link rows row 1)) → ExpressionRow (link rows row 1) → ExpressionRow row
      not-row : {row : ℕ} → kind_at rows row ≡ OfExpression Not → Leads rows row 1
          → expression_at rows row ≡ not (expression_at rows (link rows row 1)) → ExpressionRow (link rows row 1) → ExpressionRow row
      binary-row : {row : ℕ} {o : Operator} → kind_at rows row ≡ OfExpression (Binary o) → Leads rows row 1 → Leads rows row 2
          → expression_at rows row ≡ binary o (expression_at rows (link rows row 1)) (expression_at rows (link rows row 2))
          → ExpressionRow (link rows row 1) → ExpressionRow (link rows row 2) → ExpressionRow row
      and-row : {row : ℕ} → kind_at rows row ≡ OfExpression And → Leads rows row 1 → Leads rows row 2
          → expression_at rows row ≡ and (expression_at rows (link rows row 1)) (expression_at rows (link rows row 2))
          → ExpressionRow (link rows row 1) → ExpressionRow (link rows row 2) → ExpressionRow row
      or-row : {row : ℕ} → kind_at rows row ≡ OfExpression Or → Leads rows row 1 → Leads rows row 2
          → expression_at rows row ≡ or (expression_at rows (link rows row 1)) (expression_at rows (link rows row 2))
          → ExpressionRow (link rows row 1) → ExpressionRow (link rows row 2) → ExpressionRow row
      comma-row : {row : ℕ} → kind_at rows row ≡ OfExpression Comma → Leads rows row 1 → Leads rows row 2
          → expression_at rows row ≡ comma (expression_at rows (link rows row 1)) (expression_at rows (link rows row 2))
          → ExpressionRow (link rows row 1) → ExpressionRow (link rows row 2) → ExpressionRow row
      conditional-row : {row : ℕ} → kind_at rows row ≡ OfExpression Conditional → Leads rows row 1 → Leads rows row 2 → Leads rows row 3
          → expression_at rows row ≡ conditional (expression_at rows (link rows row 1)) (expression_at rows (link rows row 2)) (expression_at rows (link rows row 3))
          → ExpressionRow (link rows row 1) → ExpressionRow (link rows row 2) → ExpressionRow (link rows row 3) → ExpressionRow row
      assign-row : {row : ℕ} → kind_at rows row ≡ OfExpression Assign → Leads rows row 1 → Leads rows row 2
          → expression_at rows (link rows row 1) ≡ read (place_at rows (link rows row 1))
          → expression_at rows row ≡ assign (place_at rows (link rows row 1)) (expression_at rows (link rows row 2))
          → ExpressionRow (link rows row 1) → ExpressionRow (link rows row 2) → ExpressionRow row
      compound-row : {row : ℕ} {o : Operator} → kind_at rows row ≡ OfExpression (Compound o) → Leads rows row 1 → Leads rows row 2
          → expression_at rows (link rows row 1) ≡ read (place_at rows (link rows row 1))
          → expression_at rows row ≡ compound o (place_at rows (link rows row 1)) (expression_at rows (link rows row 2))
          → ExpressionRow (link rows row 1) → ExpressionRow (link rows row 2) → ExpressionRow row
      prefix-row : {row : ℕ} {o : Operator} → kind_at rows row ≡ OfExpression (Prefix o) → Leads rows row 1
          → expression_at rows (link rows row 1) ≡ read (place_at rows (link rows row 1))
          → expression_at rows row ≡ prefix o (place_at rows (link rows row 1)) → ExpressionRow (link rows row 1) → ExpressionRow row
      postfix-row : {row : ℕ} {o : Operator} → kind_at rows row ≡ OfExpression (Postfix o) → Leads rows row 1
          → expression_at rows (link rows row 1) ≡ read (place_at rows (link rows row 1))
          → expression_at rows row ≡ postfix o (place_at rows (link rows row 1)) → ExpressionRow (link rows row 1) → ExpressionRow row
      call-row : {row : ℕ} → kind_at rows row ≡ OfExpression Call
          → expression_at rows row ≡ call (number_at rows row 1) (argument_list_at rows (link rows row 2)) → ArgumentsRow (link rows row 2) → ExpressionRow row

    -- Arguments, at a link: none, or an expression and the arguments behind it.
    pub data ArgumentsRow : ℕ → Type 0 where
      no_arguments : {l : ℕ} → l ≡ 0 → argument_list_at rows l ≡ no_more → ArgumentsRow l
      argument-row : {l : ℕ} → 0 < l → kind_at rows l ≡ OfMember Argument → Leads rows l 1
          → argument_list_at rows l ≡ expression_at rows (link rows l 1) also argument_list_at rows (link rows l 5)
          → ExpressionRow (link rows l 1) → ArgumentsRow (link rows l 5) → ArgumentsRow l

  pub arguments-some : (l : ℕ) → 0 < l → argument_list_at rows l ≡ arguments_at rows l
  arguments-some zero p = absurd (omega arith)
  arguments-some (suc l) p = refl

  -- the faces of a row
  record Valued (row : ℕ) : Type 0 where
    expression : is_expression rows row ≡ true → ExpressionRow row
    arguments : is_argument rows row ≡ true → 0 < row → ArgumentsRow row

module _ (form : Form) (bounds : Bounds) (rows : List ℤ) (s : Structured form bounds rows) where
  pub whole-rows : Whole rows
  whole-rows = sym (structured-tree form bounds rows s).whole

  -- a row of a place's kind holds a place
  pub read-place : (row : ℕ) → row < row_count rows → is_place rows row ≡ true → expression_at rows row ≡ read (place_at rows row)
  unfolding is_place sort_in kind_row expression_fields statement_fields mark_fields definition_fields member_fields is_required
  read-place row inside e =
      ⊎_elim (λ k. rw (at-variable rows whole-rows row k))
      (λ k. rw (at-element rows whole-rows row k (linked form bounds rows s row inside k expression 2 refl refl).later))
      (place-kind rows row (eqb-true _ _ e))

  pub place-expression : (row : ℕ) → is_place rows row ≡ true → is_expression rows row ≡ true
  unfolding is_place is_expression
  place-expression row e = rw (eqb-true (sort_at rows row 0) place_row e)

  module _ (row : ℕ) (inside : row < row_count rows) (later_rows : (l : ℕ) → row < l → l < row_count rows → Valued rows l) where
    -- the operand at a field, and its row
    link_at : {kind : Kind} → kind_at rows row ≡ kind → (field : ℕ) → holds (eqb expression) kind field ≡ true → Linked rows row expression field
    unfolding is_required
    link_at k field t = linked form bounds rows s row inside k expression field refl t

    operand : {field : ℕ} → Linked rows row expression field → ExpressionRow rows (link rows row field)
    unfolding fits
    operand l = (later_rows _ l.leads.later l.leads.inside).expression l.fit

    -- the place at a field, and its row
    place-at : {kind : Kind} → kind_at rows row ≡ kind → (field : ℕ) → holds (eqb place) kind field ≡ true → Linked rows row place field
    unfolding is_required
    place-at k field t = linked form bounds rows s row inside k place field refl t

    a-place : {field : ℕ} → Linked rows row place field → ExpressionRow rows (link rows row field)
    unfolding fits
    a-place l = (later_rows _ l.leads.later l.leads.inside).expression (place-expression _ l.fit)

    reads : {field : ℕ} → Linked rows row place field → expression_at rows (link rows row field) ≡ read (place_at rows (link rows row field))
    unfolding fits
    reads l = read-place _ l.leads.inside l.fit

    -- the arguments at a field
    arguments-from : {field : ℕ} → MayLink rows row optional_argument field → ArgumentsRow rows (link rows row field)
    unfolding fits
    arguments-from {field} l = go (link rows row field) refl
      where
        go : (l : ℕ) → link rows row field ≡ l → ArgumentsRow rows (link rows row field)
        go zero z = no_arguments z (rw z)
        go (suc next) z =
            let p : 0 < link rows row field = omega arith in
            (later_rows _ (l.leads p).later (l.leads p).inside).arguments (l.fit p) p

    expression-by : (kind : Kind) → kind_at rows row ≡ kind → between expression_row place_row (sort_in kind 0) ≡ true → ExpressionRow rows row
    unfolding sort_in kind_row expression_fields statement_fields mark_fields definition_fields member_fields is_link
    expression-by (OfExpression Constant) k t = constant-row k (at_constant rows whole-rows row k)
    expression-by (OfExpression Variable) k t = variable-row k (at-variable rows whole-rows row k)
    expression-by (OfExpression Element) k t =
        let b = link_at k 2 refl in
        element-row k b.leads (rw b.same (at-element rows whole-rows row k b.later)) (operand b)
    expression-by (OfExpression Minus) k t =
        let a = link_at k 1 refl in
        minus-row k a.leads (rw a.same (at-minus rows whole-rows row k a.later)) (operand a)
    expression-by (OfExpression Not) k t =
        let a = link_at k 1 refl in
        not-row k a.leads (rw a.same (at-not rows whole-rows row k a.later)) (operand a)
    expression-by (OfExpression (Binary o)) k t =
        let a = link_at k 1 refl in
        let b = link_at k 2 refl in
        binary-row k a.leads b.leads (rw (a.same, b.same) (at-binary rows whole-rows row o k a.later b.later)) (operand a) (operand b)
    expression-by (OfExpression And) k t =
        let a = link_at k 1 refl in
        let b = link_at k 2 refl in
        and-row k a.leads b.leads (rw (a.same, b.same) (at-and rows whole-rows row k a.later b.later)) (operand a) (operand b)
    expression-by (OfExpression Or) k t =
        let a = link_at k 1 refl in
        let b = link_at k 2 refl in
        or-row k a.leads b.leads (rw (a.same, b.same) (at-or rows whole-rows row k a.later b.later)) (operand a) (operand b)
    expression-by (OfExpression Comma) k t =
        let a = link_at k 1 refl in
        let b = link_at k 2 refl in
        comma-row k a.leads b.leads (rw (a.same, b.same) (at-comma rows whole-rows row k a.later b.later)) (operand a) (operand b)
    expression-by (OfExpression Conditional) k t =
        let a = link_at k 1 refl in
        let b = link_at k 2 refl in
        let c = link_at k 3 refl in
        conditional-row k a.leads b.leads c.leads (rw (a.same, b.same, c.same) (at-conditional rows whole-rows row k a.later b.later c.later))
        (operand a) (operand b) (operand c)
    expression-by (OfExpression Assign) k t =
        let a = place-at k 1 refl in
        let b = link_at k 2 refl in
        assign-row k a.leads b.leads (reads a) (rw (a.same, b.same) (at-assign rows whole-rows row k a.later b.later)) (a-place a) (operand b)
    expression-by (OfExpression (Compound o)) k t =
        let a = place-at k 1 refl in
        let b = link_at k 2 refl in
        compound-row k a.leads b.leads (reads a) (rw (a.same, b.same) (at-compound rows whole-rows row o k a.later b.later)) (a-place a) (operand b)
    expression-by (OfExpression (Prefix o)) k t =
        let a = place-at k 1 refl in
        prefix-row k a.leads (reads a) (rw a.same (at-prefix rows whole-rows row o k a.later)) (a-place a)
    expression-by (OfExpression (Postfix o)) k t =
        let a = place-at k 1 refl in
        postfix-row k a.leads (reads a) (rw a.same (at-postfix rows whole-rows row o k a.later)) (a-place a)
    expression-by (OfExpression Call) k t =
        let b = may-link form bounds rows s row inside k optional_argument 2 refl refl in
        call-row k (rw b.same (at_call rows whole-rows row k b.later)) (arguments-from b)
    expression-by (OfStatement kind) k t = absurd (false≢true t)
    expression-by (OfMark kind) k t = absurd (false≢true t)
    expression-by (OfMember Arm) k t = absurd (false≢true t)
    expression-by (OfMember Argument) k t = absurd (false≢true t)
    expression-by Definition k t = absurd (false≢true t)
    expression-by Other k t = absurd (false≢true t)

    arguments-by : 0 < row → kind_at rows row ≡ OfMember Argument → ArgumentsRow rows row
    unfolding sort_in kind_row expression_fields statement_fields mark_fields definition_fields member_fields is_link
    arguments-by p k =
        let a = link_at k 1 refl in
        let next = may-link form bounds rows s row inside k optional_argument 5 refl refl in
        argument-row p k a.leads (rw (a.same, next.same) (arguments-some rows row p ∙ at-argument rows whole-rows row k a.later next.later)) (operand a) (arguments-from next)

    valued_by : Valued rows row
    unfolding is_expression
    valued_by = record { expression = λ t. expression-by (kind_at rows row) refl (rw (sort-is rows row 0) at t); arguments = λ t p. arguments-by p (argument_is rows row t) }

  valued-rows : (links row : ℕ) → row_count rows ≤ row + links → row < row_count rows → Valued rows row
  valued-rows zero row enough inside = absurd (omega arith)
  valued-rows (suc links) row enough inside = valued_by row inside (λ l later there. valued-rows links l (omega arith) there)

  -- Every row of an expression's kind holds an expression.
  pub expression-row : (row : ℕ) → row < row_count rows → is_expression rows row ≡ true → ExpressionRow rows row
  expression-row row inside = (valued-rows (row_count rows) row (omega arith) inside).expression

  -- and an argument's row is where arguments begin
  pub arguments-row : (row : ℕ) → row < row_count rows → is_argument rows row ≡ true → 0 < row → ArgumentsRow rows row
  arguments-row row inside = (valued-rows (row_count rows) row (omega arith) inside).arguments
