-- Kinds of functions: a row's kind and its number, for definitions and calls; and what their fields link.
use Rattle.std.specs.Prelude.{◌≡◌, refl, Bool, true, List, ℕ, eqb, ℤ}
use Rattle.std.proofs.Common.{eqb-true}
use Rattle.std.proofs.Math.Path.{ap}
use Rattle.words.specs.Word.{pick}
use Rattle.words.specs.Table.{number_at}
use Rattle.words.specs.Kinds.{kinds, kind_in, kind_of, kind_at, declared_number, sort_in, kind_row, statement_fields}
use Rattle.words.specs.KindLaws.{every_line, every-number}
use Rattle.words.specs.Declarations.{is_declaration}
use Rattle.words.specs.declared.Kind.{Kind}
use Rattle.words.specs.declared.Kind.TheVariants.{OfExpression, OfStatement, OfMark, OfMember, Definition, Other}
use Rattle.words.specs.declared.ExpressionKind.TheVariants.{Constant, Variable, Element, Minus, Not, Binary, And, Or, Conditional, Comma, Assign, Compound, Prefix, Postfix, Call}
use Rattle.words.specs.declared.StatementKind.TheVariants.{Block, Declare}
use Rattle.check_function_causes.specs.Functions.{is_definition, is_call}

abbrev own_number : ℕ → Kind → Bool
own_number number (OfExpression Constant) = true
own_number number (OfExpression Variable) = true
own_number number (OfExpression Element) = true
own_number number (OfExpression Minus) = true
own_number number (OfExpression Not) = true
own_number number (OfExpression (Binary o)) = true
own_number number (OfExpression And) = true
own_number number (OfExpression Or) = true
own_number number (OfExpression Conditional) = true
own_number number (OfExpression Comma) = true
own_number number (OfExpression Assign) = true
own_number number (OfExpression (Compound o)) = true
own_number number (OfExpression (Prefix o)) = true
own_number number (OfExpression (Postfix o)) = true
own_number number (OfExpression Call) = eqb number 31
own_number number (OfStatement kind) = pick (eqb (sort_in (OfStatement kind) 1) declared_number) (eqb number 58) true
own_number number (OfMark kind) = true
own_number number (OfMember kind) = true
own_number number Definition = eqb number 59
own_number number Other = true

own-number : (number : ℕ) → own_number number (kind_of number) ≡ true
unfolding every_line kinds sort_in kind_row statement_fields
own-number number = every-number own_number refl (λ n. refl) number

module _ (rows : List ℤ) (row : ℕ) where
  pub definition-kind : is_definition rows row ≡ true → kind_at rows row ≡ Definition
  unfolding is_definition kind_at kind_of kind_in kinds
  definition-kind d = ap kind_of (eqb-true (number_at rows row 0) 59 d)

  pub kind-definition : kind_at rows row ≡ Definition → is_definition rows row ≡ true
  unfolding is_definition kind_at
  kind-definition k = rw k at (own-number (number_at rows row 0))

  pub kind-call : kind_at rows row ≡ OfExpression Call → is_call rows row ≡ true
  unfolding is_call kind_at
  kind-call k = rw k at (own-number (number_at rows row 0))

  pub declaration-kind : is_declaration rows row ≡ true → kind_at rows row ≡ OfStatement Declare
  unfolding is_declaration kind_at kind_of kind_in kinds
  declaration-kind d = ap kind_of (eqb-true (number_at rows row 0) 58 d)

  pub kind-declaration : kind_at rows row ≡ OfStatement Declare → is_declaration rows row ≡ true
  unfolding is_declaration kind_at sort_in kind_row statement_fields
  kind-declaration k = rw k at (own-number (number_at rows row 0))

  pub block-kind : number_at rows row 0 ≡ 42 → kind_at rows row ≡ OfStatement Block
  unfolding kind_at kind_of kind_in kinds
  block-kind b = ap kind_of b
