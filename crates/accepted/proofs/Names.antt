-- Names: every variable and array number in the tree of a structured table names one. By recursion on the rows.
use Rattle.std.specs.Prelude.{◌≡◌, refl, List, ℕ, ◌≤◌, ◌<◌, ℤ}
use Rattle.std.proofs.Common.{inl, inr, ⊎_elim, arith}
use Rattle.words.specs.Table.{row_count, number_at}
use Rattle.words.specs.Kinds.{kind_at, kind_row, expression_fields, statement_fields, mark_fields, definition_fields, member_fields, sort_in}
use Rattle.words.specs.Layout.{Layout, layout_of, store_size, header_store}
use Rattle.words.specs.declared.Form.{Form}
use Rattle.words.specs.declared.Form.TheVariants.{Source}
use Rattle.words.specs.declared.Kind.TheVariants.{OfExpression}
use Rattle.words.specs.declared.ExpressionKind.TheVariants.{Variable}
use Rattle.language.specs.Decode.{expression_at, statement_at, decode, list_at, arm_list_at, part_at, parameter_list_at}
use Rattle.language.specs.Program.{contents}
use Rattle.language.specs.WellFormed.{NamedExpression, NamedWords, NamedPart, NamedStatement, NamedArms, NamedItems, SourceName}
use Rattle.words.specs.Links.{link}
use Rattle.check_fields.specs.Fields.{bounds_in, bounds_of}
use Rattle.check_fields.specs.declared.NumberRange.{NumberRange}
use Rattle.check_fields.specs.declared.Bounds.{Bounds}
use Rattle.check_structure.specs.Structured.{Structured}
use Rattle.accepted.specs.NamedWords.{NamesVariable, DeclaredNames}
use Rattle.accepted.proofs.Fields.{stays, names-variable, names-declared}
use Rattle.accepted.proofs.Expressions.{ExpressionRow}
use Rattle.accepted.proofs.NamedBelow.{named-below, named-part-below}
use Rattle.accepted.proofs.Statements.{PartRow, StatementRow, empty-row, express-row, block-row, if_then-row, if_else-row, while-row, do_while-row, for-row, switch-row, case_row, default_row, break-row, continue-row, goto-row, label-row, guarded_if-row, guarded_do-row, abort-row, declare-row, return-row, definition-row, ArmsRow, no-arms, arm-row, ListRow, no_items, item, case-item, default-item, label-item, definition-item, ParametersRow, no-parameters, parameter-row, root-inside, program-list, program-contents, program-block}

-- `Names` is what variable numbers within the bounds satisfy, and so the numbers of declarations.
module _ (form : Form) (bounds : Bounds) (rows : List ℤ) (s : Structured form bounds rows) (declared : DeclaredNames bounds)
    (Names : ℕ → Type 0) (names : (number : ℕ) → NamesVariable bounds number → Names number) where
  abbrev arrays : ℕ
  arrays = bounds.arrays

  -- they satisfy it at every row
  abbrev Anywhere : ℕ → Type 0
  Anywhere row = Unit {0}

  variable-named : (row : ℕ) → row < row_count rows → kind_at rows row ≡ OfExpression Variable → Anywhere row → Names (number_at rows row 1)
  unfolding sort_in kind_row expression_fields statement_fields mark_fields definition_fields member_fields
  variable-named row inside k b = names _ (names-variable form bounds rows s row inside k 1 refl)

  pub named-expression : {row : ℕ} → ExpressionRow rows row → row < row_count rows → NamedExpression Names arrays (expression_at rows row)
  named-expression x inside = named-below form bounds rows s Names Anywhere variable-named (λ row field h l b. tt) (λ row k l b. tt) x inside tt

  named-part : {l : ℕ} → PartRow rows l → (0 < l → l < row_count rows) → NamedPart Names arrays (part_at rows l)
  named-part x inside = named-part-below form bounds rows s Names Anywhere variable-named (λ row field h l b. tt) (λ row k l b. tt) x (λ p. (inside p, tt))

  named-parameters : {l : ℕ} → ParametersRow rows l → (0 < l → l < row_count rows) → NamedWords Names arrays (parameter_list_at rows l)
  unfolding sort_in kind_row expression_fields statement_fields mark_fields definition_fields member_fields
  named-parameters (no-parameters z e) inside = rw e tt
  named-parameters {l} (parameter-row p k z e x) inside =
      rw e (names _ (declared _ (names-declared form bounds rows s l (inside p) k 1 refl)), named-parameters x (stays form bounds rows s l (inside p) 5 refl))

  mutual
    unfolding NamedStatement NamedArms NamedItems sort_in kind_row expression_fields statement_fields mark_fields definition_fields member_fields

    pub named-statement : {row : ℕ} → StatementRow rows row → row < row_count rows → NamedStatement Names arrays (statement_at rows row)
    named-statement (empty-row k e) inside = rw e tt
    named-statement (express-row k p e x) inside = rw e (named-expression x p.inside)
    named-statement {row} (block-row k e x) inside = rw e (named-list x (stays form bounds rows s row inside 1 refl))
    named-statement (if_then-row k p q z e x y) inside = rw e (named-expression x p.inside, named-statement y q.inside)
    named-statement (if_else-row k p q r e x y z) inside = rw e (named-expression x p.inside, named-statement y q.inside, named-statement z r.inside)
    named-statement (while-row k p q e x y) inside = rw e (named-expression x p.inside, named-statement y q.inside)
    named-statement (do_while-row k p q e x y) inside = rw e (named-statement x p.inside, named-expression y q.inside)
    named-statement {row} (for-row k p e x y z w) inside =
        let at = stays form bounds rows s row inside in
        rw e (named-part x (at 1 refl), named-part y (at 2 refl), named-part z (at 3 refl), named-statement w p.inside)
    named-statement {row} (switch-row k p e x y) inside = rw e (named-expression x p.inside, named-list y (stays form bounds rows s row inside 2 refl))
    named-statement (case_row k e) inside = rw e tt
    named-statement (default_row k e) inside = rw e tt
    named-statement (break-row k e) inside = rw e tt
    named-statement (continue-row k e) inside = rw e tt
    named-statement (goto-row k e) inside = rw e tt
    named-statement (label-row k e) inside = rw e tt
    named-statement {row} (guarded_if-row k e x) inside = rw e (named-arms x (stays form bounds rows s row inside 1 refl))
    named-statement {row} (guarded_do-row k e x) inside = rw e (named-arms x (stays form bounds rows s row inside 1 refl))
    named-statement (abort-row k e) inside = rw e tt
    named-statement {row} (declare-row k p e x) inside = rw e (names _ (declared _ (names-declared form bounds rows s row inside k 1 refl)), named-expression x p.inside)
    named-statement {row} (return-row k e x) inside = rw e (named-part x (stays form bounds rows s row inside 1 refl))
    named-statement (definition-row k e) inside = rw e tt

    named-arms : {l : ℕ} → ArmsRow rows l → (0 < l → l < row_count rows) → NamedArms Names arrays (arm_list_at rows l)
    named-arms (no-arms z e) inside = rw e tt
    named-arms {l} (arm-row p k q r e x y z) inside =
        rw e (named-expression x q.inside, named-statement y r.inside, named-arms z (stays form bounds rows s l (inside p) 5 refl))

    named-list : {l : ℕ} → ListRow rows l → (0 < l → l < row_count rows) → NamedItems Names arrays (list_at rows l)
    named-list (no_items z e) inside = rw e tt
    named-list {l} (item p e x y) inside = rw e (named-statement x (inside p), named-list y (stays form bounds rows s l (inside p) 5 refl))
    named-list {l} (case-item p k e x y) inside = rw e (named-list y (stays form bounds rows s l (inside p) 5 refl))
    named-list {l} (default-item p k e x y) inside = rw e (named-list y (stays form bounds rows s l (inside p) 5 refl))
    named-list {l} (label-item p k e x y) inside = rw e (named-list y (stays form bounds rows s l (inside p) 5 refl))
    named-list {l} (definition-item p k q c b e x y z) inside =
        rw e (named-parameters x (stays form bounds rows s l (inside p) 2 refl), named-list y (stays form bounds rows s (link rows l 3) q.inside 1 refl), named-list z (stays form bounds rows s l (inside p) 5 refl))

  pub named-contents : NamedItems Names arrays (contents rows)
  named-contents = rw (program-contents form bounds rows s) (named-list (program-list form bounds rows s) (stays form bounds rows s 0 (root-inside form bounds rows s) 1 refl))

-- "Variable, array or label number outside" is refused: every number in the tree names a variable within the bounds, and every array number an array.
pub structured-named : (form : Form) (bounds : Bounds) (rows : List ℤ) → Structured form bounds rows → DeclaredNames bounds
    → NamedStatement (NamesVariable bounds) bounds.arrays (decode rows)
unfolding NamedStatement
structured-named form bounds rows s declared = rw (program-block form bounds rows s) (named-contents form bounds rows s declared (NamesVariable bounds) (λ number n. n))

-- They name words of the source that no array has.
pub source-name : (L : Layout) (declared : NumberRange) (words : ℕ) → store_size L ≤ words → (number : ℕ) → NamesVariable (bounds_in L declared words) number → SourceName L words number
unfolding store_size
source-name L declared words fits number = ⊎_elim (λ b. record { inside = omega arith; apart = inl b }) (λ b. record { inside = b.1; apart = inr b.0 })

-- The source has no temporaries.
pub source-variable : (header : List ℤ) (number : ℕ) → NamesVariable (bounds_of Source header) number → number < (layout_of Source header).variables
unfolding bounds_of header_store
source-variable header number = ⊎_elim (λ h. h) (λ h. absurd (omega arith))
