-- Words: every constant and case value in the tree of a structured table is a word of the table. By recursion on the rows.
use Rattle.std.specs.Prelude.{◌≡◌, List, ℕ, ◌+◌, ◌*◌, ◌^◌, ◌<◌, ℤ, pos, get_or}
use Rattle.std.proofs.Math.Path.{subst}
use Rattle.std.specs.Int.Signed.{mag}
use Rattle.words.specs.Table.{word_at}
use Rattle.words.specs.declared.Form.{Form}
use Rattle.language.specs.Trees.{read}
use Rattle.language.specs.Decode.{expression_at, argument_list_at, statement_at, decode, list_at, arm_list_at, part_at}
use Rattle.words.specs.Links.{link}
use Rattle.check_fields.specs.declared.Bounds.{Bounds}
use Rattle.check_structure.specs.Structured.{Structured}
use Rattle.accepted.specs.Worded.{ValuedExpression, ValuedPlace, ValuedArguments, ValuedPart, ValuedStatement, ValuedArms, ValuedItems, IsWord, Worded}
use Rattle.accepted.proofs.Expressions.{ExpressionRow, constant-row, variable-row, element-row, minus-row, not-row, binary-row, and-row, or-row, comma-row, conditional-row, assign-row, compound-row, prefix-row, postfix-row, call-row, ArgumentsRow, no_arguments, argument-row, place_at}
use Rattle.accepted.proofs.Statements.{PartRow, absent-part, present-part, StatementRow, empty-row, express-row, block-row, if_then-row, if_else-row, while-row, do_while-row, for-row, switch-row, case_row, default_row, break-row, continue-row, goto-row, label-row, guarded_if-row, guarded_do-row, abort-row, declare-row, return-row, definition-row, ArmsRow, no-arms, arm-row, ListRow, no_items, item, case-item, default-item, label-item, definition-item, program-list, program-contents, program-block}

module _ (rows : List ℤ) (Value : ℤ → Type 0) (values : (i : ℕ) → Value (get_or rows i (pos 0))) where
  -- an operand that is a place
  valued-place : (row : ℕ) → expression_at rows row ≡ read (place_at rows row) → ValuedExpression Value (expression_at rows row) → ValuedPlace Value (place_at rows row)
  unfolding ValuedExpression
  valued-place row e n = subst (ValuedExpression Value) e n

  mutual
    unfolding ValuedExpression ValuedPlace word_at

    pub valued-expression : {row : ℕ} → ExpressionRow rows row → ValuedExpression Value (expression_at rows row)
    valued-expression {row} (constant-row k e) = rw e (values (6 * row + 1))
    valued-expression (variable-row k e) = rw e tt
    valued-expression (element-row k p e x) = rw e (valued-expression x)
    valued-expression (minus-row k p e x) = rw e (valued-expression x)
    valued-expression (not-row k p e x) = rw e (valued-expression x)
    valued-expression (binary-row k p q e x y) = rw e (valued-expression x, valued-expression y)
    valued-expression (and-row k p q e x y) = rw e (valued-expression x, valued-expression y)
    valued-expression (or-row k p q e x y) = rw e (valued-expression x, valued-expression y)
    valued-expression (comma-row k p q e x y) = rw e (valued-expression x, valued-expression y)
    valued-expression (conditional-row k p q r e x y z) = rw e (valued-expression x, valued-expression y, valued-expression z)
    valued-expression {row} (assign-row k p q i e x y) = rw e (valued-place (link rows row 1) i (valued-expression x), valued-expression y)
    valued-expression {row} (compound-row k p q i e x y) = rw e (valued-place (link rows row 1) i (valued-expression x), valued-expression y)
    valued-expression {row} (prefix-row k p i e x) = rw e (valued-place (link rows row 1) i (valued-expression x))
    valued-expression {row} (postfix-row k p i e x) = rw e (valued-place (link rows row 1) i (valued-expression x))
    valued-expression (call-row k e x) = rw e (valued-arguments x)

    valued-arguments : {l : ℕ} → ArgumentsRow rows l → ValuedArguments Value (argument_list_at rows l)
    valued-arguments (no_arguments z e) = rw e tt
    valued-arguments (argument-row p k q e x y) = rw e (valued-expression x, valued-arguments y)

  valued-part : {l : ℕ} → PartRow rows l → ValuedPart Value (part_at rows l)
  valued-part (absent-part z e) = rw e tt
  valued-part (present-part p e x) = rw e (valued-expression x)

  mutual
    unfolding ValuedStatement ValuedArms ValuedItems word_at

    pub valued-statement : {row : ℕ} → StatementRow rows row → ValuedStatement Value (statement_at rows row)
    valued-statement (empty-row k e) = rw e tt
    valued-statement (express-row k p e x) = rw e (valued-expression x)
    valued-statement (block-row k e x) = rw e (valued-list x)
    valued-statement (if_then-row k p q z e x y) = rw e (valued-expression x, valued-statement y)
    valued-statement (if_else-row k p q r e x y z) = rw e (valued-expression x, valued-statement y, valued-statement z)
    valued-statement (while-row k p q e x y) = rw e (valued-expression x, valued-statement y)
    valued-statement (do_while-row k p q e x y) = rw e (valued-statement x, valued-expression y)
    valued-statement (for-row k p e x y z w) = rw e (valued-part x, valued-part y, valued-part z, valued-statement w)
    valued-statement (switch-row k p e x y) = rw e (valued-expression x, valued-list y)
    valued-statement (case_row k e) = rw e tt
    valued-statement (default_row k e) = rw e tt
    valued-statement (break-row k e) = rw e tt
    valued-statement (continue-row k e) = rw e tt
    valued-statement (goto-row k e) = rw e tt
    valued-statement (label-row k e) = rw e tt
    valued-statement (guarded_if-row k e x) = rw e (valued-arms x)
    valued-statement (guarded_do-row k e x) = rw e (valued-arms x)
    valued-statement (abort-row k e) = rw e tt
    valued-statement (declare-row k p e x) = rw e (valued-expression x)
    valued-statement (return-row k e x) = rw e (valued-part x)
    valued-statement (definition-row k e) = rw e tt

    valued-arms : {l : ℕ} → ArmsRow rows l → ValuedArms Value (arm_list_at rows l)
    valued-arms (no-arms z e) = rw e tt
    valued-arms (arm-row p k q r e x y z) = rw e (valued-expression x, valued-statement y, valued-arms z)

    valued-list : {l : ℕ} → ListRow rows l → ValuedItems Value (list_at rows l)
    valued-list (no_items z e) = rw e tt
    valued-list (item p e x y) = rw e (valued-statement x, valued-list y)
    valued-list {l} (case-item p k e x y) = rw e (values (6 * l + 1), valued-list y)
    valued-list (default-item p k e x y) = rw e (tt, valued-list y)
    valued-list (label-item p k e x y) = rw e (tt, valued-list y)
    valued-list (definition-item p k q c b e x y z) = rw e (valued-list y, valued-list z)

-- Every constant and every case value in the tree is a word of the table: what holds of all its words holds of them.
pub structured-valued : (form : Form) (bounds : Bounds) (rows : List ℤ) → Structured form bounds rows
    → (Value : ℤ → Type 0) → ((i : ℕ) → Value (get_or rows i (pos 0))) → ValuedStatement Value (decode rows)
unfolding ValuedStatement
structured-valued form bounds rows s Value values = rw (program-block form bounds rows s, program-contents form bounds rows s) (valued-list rows Value values (program-list form bounds rows s))

pub structured-worded : (form : Form) (bounds : Bounds) (rows : List ℤ) → Structured form bounds rows → ((i : ℕ) → mag (get_or rows i (pos 0)) < 2 ^ 31) → Worded (decode rows)
structured-worded form bounds rows s = structured-valued form bounds rows s IsWord
