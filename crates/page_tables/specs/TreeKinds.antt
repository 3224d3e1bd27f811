-- Kinds of trees: in a structured table a row's kind is that of the tree decoded there, and rows of one kind have its number.
use Rattle.std.specs.Prelude.{◌≡◌, refl, Bool, true, List, ℕ, ◌+◌, eqb, ℤ}
use Rattle.std.proofs.Common.{sym, ap, ◌∙◌, true≢false, eqb-true}
use Rattle.words.specs.Table.{number_at}
use Rattle.words.specs.Kinds.{kinds, kind_of, kind_at, is_statement_kind}
use Rattle.words.specs.KindLaws.{every_line, every-number}
use Rattle.words.specs.declared.Kind.{Kind}
use Rattle.words.specs.declared.Kind.TheVariants.{OfExpression, OfStatement, OfMark, OfMember, Definition, Other}
use Rattle.words.specs.declared.ExpressionKind.{ExpressionKind}
use Rattle.words.specs.declared.ExpressionKind.TheVariants.{Constant, Variable, Element, Minus, Not, Binary, And, Or, Conditional, Comma, Assign, Compound, Prefix, Postfix, Call}
use Rattle.words.specs.declared.StatementKind.TheVariants.{Empty, Express, Block, If, While, Do, For, Switch, Break, Continue, Goto, GuardedIf, GuardedDo, Abort, Declare, Return}
use Rattle.words.specs.declared.MemberKind.{MemberKind}
use Rattle.words.specs.declared.MemberKind.TheVariants.{Arm, Argument}
use Rattle.language.specs.Trees.{Expression, constant, read, minus, not, binary, and, or, comma, conditional, assign, compound, prefix, postfix, call, variable, element, Statement, empty, express, block, if_then, if_else, while, do_while, for, switch, break, continue, goto, guarded_if, guarded_do, abort, declare, give_back}
use Rattle.language.specs.Decode.{expression_at, statement_at}
use Rattle.language_emission.specs.Emission.{operator_number}
use Rattle.accepted.specs.Sorts.{statement_number}
use Rattle.accepted.proofs.Expressions.{ExpressionRow, constant-row, variable-row, element-row, minus-row, not-row, binary-row, and-row, or-row, comma-row, conditional-row, assign-row, compound-row, prefix-row, postfix-row, call-row}
use Rattle.accepted.proofs.Statements.{StatementRow, empty-row, express-row, block-row, if_then-row, if_else-row, while-row, do_while-row, for-row, switch-row, case_row, default_row, break-row, continue-row, goto-row, label-row, guarded_if-row, guarded_do-row, abort-row, declare-row, return-row, definition-row}

abbrev pub expression_kind : Expression → Kind
expression_kind (constant v) = OfExpression Constant
expression_kind (read (variable i)) = OfExpression Variable
expression_kind (read (element array e)) = OfExpression Element
expression_kind (minus e) = OfExpression Minus
expression_kind (not e) = OfExpression Not
expression_kind (binary o a b) = OfExpression (Binary o)
expression_kind (and a b) = OfExpression And
expression_kind (or a b) = OfExpression Or
expression_kind (comma a b) = OfExpression Comma
expression_kind (conditional c a b) = OfExpression Conditional
expression_kind (assign p e) = OfExpression Assign
expression_kind (compound o p e) = OfExpression (Compound o)
expression_kind (prefix o p) = OfExpression (Prefix o)
expression_kind (postfix o p) = OfExpression (Postfix o)
expression_kind (call f arguments) = OfExpression Call

abbrev pub statement_kind : Statement → Kind
statement_kind empty = OfStatement Empty
statement_kind (express e) = OfStatement Express
statement_kind (block is) = OfStatement Block
statement_kind (if_then e on_true) = OfStatement If
statement_kind (if_else e on_true on_false) = OfStatement If
statement_kind (while e body) = OfStatement While
statement_kind (do_while body e) = OfStatement Do
statement_kind (for first test action body) = OfStatement For
statement_kind (switch e is) = OfStatement Switch
statement_kind break = OfStatement Break
statement_kind continue = OfStatement Continue
statement_kind (goto l) = OfStatement Goto
statement_kind (guarded_if arms) = OfStatement GuardedIf
statement_kind (guarded_do arms) = OfStatement GuardedDo
statement_kind abort = OfStatement Abort
statement_kind (declare word e) = OfStatement Declare
statement_kind (give_back value) = OfStatement Return

module _ (rows : List ℤ) where
  pub expression-kind : {row : ℕ} → ExpressionRow rows row → kind_at rows row ≡ expression_kind (expression_at rows row)
  expression-kind (constant-row k e) = k ∙ sym (ap expression_kind e)
  expression-kind (variable-row k e) = k ∙ sym (ap expression_kind e)
  expression-kind (element-row k p e x) = k ∙ sym (ap expression_kind e)
  expression-kind (minus-row k p e x) = k ∙ sym (ap expression_kind e)
  expression-kind (not-row k p e x) = k ∙ sym (ap expression_kind e)
  expression-kind (binary-row k p q e x y) = k ∙ sym (ap expression_kind e)
  expression-kind (and-row k p q e x y) = k ∙ sym (ap expression_kind e)
  expression-kind (or-row k p q e x y) = k ∙ sym (ap expression_kind e)
  expression-kind (comma-row k p q e x y) = k ∙ sym (ap expression_kind e)
  expression-kind (conditional-row k p q r e x y z) = k ∙ sym (ap expression_kind e)
  expression-kind (assign-row k p q i e x y) = k ∙ sym (ap expression_kind e)
  expression-kind (compound-row k p q i e x y) = k ∙ sym (ap expression_kind e)
  expression-kind (prefix-row k p i e x) = k ∙ sym (ap expression_kind e)
  expression-kind (postfix-row k p i e x) = k ∙ sym (ap expression_kind e)
  expression-kind (call-row k e x) = k ∙ sym (ap expression_kind e)

  -- Of marks and definitions the statement is empty.
  pub kind-of-statement : {row : ℕ} → StatementRow rows row → is_statement_kind (kind_at rows row) ≡ true → kind_at rows row ≡ statement_kind (statement_at rows row)
  kind-of-statement (empty-row k e) t = k ∙ sym (ap statement_kind e)
  kind-of-statement (express-row k p e x) t = k ∙ sym (ap statement_kind e)
  kind-of-statement (block-row k e x) t = k ∙ sym (ap statement_kind e)
  kind-of-statement (if_then-row k p q z e x y) t = k ∙ sym (ap statement_kind e)
  kind-of-statement (if_else-row k p q r e x y z) t = k ∙ sym (ap statement_kind e)
  kind-of-statement (while-row k p q e x y) t = k ∙ sym (ap statement_kind e)
  kind-of-statement (do_while-row k p q e x y) t = k ∙ sym (ap statement_kind e)
  kind-of-statement (for-row k p e x y z w) t = k ∙ sym (ap statement_kind e)
  kind-of-statement (switch-row k p e x y) t = k ∙ sym (ap statement_kind e)
  kind-of-statement (case_row k e) t = absurd (true≢false (sym t ∙ ap is_statement_kind k))
  kind-of-statement (default_row k e) t = absurd (true≢false (sym t ∙ ap is_statement_kind k))
  kind-of-statement (break-row k e) t = k ∙ sym (ap statement_kind e)
  kind-of-statement (continue-row k e) t = k ∙ sym (ap statement_kind e)
  kind-of-statement (goto-row k e) t = k ∙ sym (ap statement_kind e)
  kind-of-statement (label-row k e) t = absurd (true≢false (sym t ∙ ap is_statement_kind k))
  kind-of-statement (guarded_if-row k e x) t = k ∙ sym (ap statement_kind e)
  kind-of-statement (guarded_do-row k e x) t = k ∙ sym (ap statement_kind e)
  kind-of-statement (abort-row k e) t = k ∙ sym (ap statement_kind e)
  kind-of-statement (declare-row k p e x) t = k ∙ sym (ap statement_kind e)
  kind-of-statement (return-row k e x) t = k ∙ sym (ap statement_kind e)
  kind-of-statement (definition-row k e) t = absurd (true≢false (sym t ∙ ap is_statement_kind k))

-- ---- the number of a kind

expression_number : ExpressionKind → ℕ
expression_number Constant = 1
expression_number Variable = 2
expression_number Element = 3
expression_number Minus = 4
expression_number Not = 5
expression_number (Binary o) = 6 + operator_number o
expression_number And = 17
expression_number Or = 18
expression_number Conditional = 19
expression_number Comma = 20
expression_number Assign = 21
expression_number (Compound o) = 22 + operator_number o
expression_number (Prefix o) = 27 + operator_number o
expression_number (Postfix o) = 29 + operator_number o
expression_number Call = 31

member_number : MemberKind → ℕ
member_number Arm = 56
member_number Argument = 32

kind_number : Kind → ℕ
kind_number (OfExpression kind) = expression_number kind
kind_number (OfStatement kind) = statement_number (OfStatement kind)
kind_number (OfMark kind) = statement_number (OfMark kind)
kind_number (OfMember kind) = member_number kind
kind_number Definition = 59
kind_number Other = 0

abbrev has_number : ℕ → Kind → Bool
has_number number (OfExpression kind) = eqb (kind_number (OfExpression kind)) number
has_number number (OfStatement kind) = eqb (kind_number (OfStatement kind)) number
has_number number (OfMark kind) = eqb (kind_number (OfMark kind)) number
has_number number (OfMember kind) = eqb (kind_number (OfMember kind)) number
has_number number Definition = eqb (kind_number Definition) number
has_number number Other = true

number-of : (number : ℕ) → (kind_of number ≡ Other → ⊥) → kind_number (kind_of number) ≡ number
unfolding every_line kinds expression_number member_number kind_number statement_number
number-of number known = go (kind_of number) known (every-number has_number refl (λ number. refl) number)
  where
    go : (kind : Kind) → (kind ≡ Other → ⊥) → has_number number kind ≡ true → kind_number kind ≡ number
    go (OfExpression kind) f e = eqb-true _ _ e
    go (OfStatement kind) f e = eqb-true _ _ e
    go (OfMark kind) f e = eqb-true _ _ e
    go (OfMember kind) f e = eqb-true _ _ e
    go Definition f e = eqb-true _ _ e
    go Other f e = absurd (f refl)

pub kind-number : (rows other : List ℤ) (row that : ℕ) → (kind_at rows row ≡ Other → ⊥) → kind_at other that ≡ kind_at rows row → number_at other that 0 ≡ number_at rows row 0
unfolding kind_at
kind-number rows other row that known e =
    sym (number-of (number_at other that 0) (λ o. known (sym e ∙ o))) ∙ ap kind_number e ∙ number-of (number_at rows row 0) known
