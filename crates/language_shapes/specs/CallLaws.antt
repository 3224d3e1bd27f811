-- The row of a call: its kind, its function's number and its arguments are those of the tree; so what holds of the calls of a table holds of it.
use Rattle.std.specs.Prelude.{◌≡◌, Bool, true, List, ℕ, ◌<◌, ◌≤◌, ℤ}
use Rattle.std.proofs.Math.Path.{refl}
use Rattle.std.proofs.Common.{sym, ap, subst, ◌∙◌, arith}
use Rattle.std.proofs.lemmas.Bool.{false≢true}
use Rattle.words.specs.Table.{row_count, number_at}
use Rattle.words.specs.Kinds.{kind_at, is_link, expression_fields, kind_row, sort_in}
use Rattle.words.specs.declared.Kind.{Kind}
use Rattle.words.specs.declared.Kind.TheVariants.{OfExpression, OfStatement, OfMark, OfMember, Definition, Other}
use Rattle.words.specs.declared.ExpressionKind.TheVariants.{Constant, Variable, Element, Minus, Not, Binary, And, Or, Conditional, Comma, Assign, Compound, Prefix, Postfix, Call}
use Rattle.language.specs.Trees.{Expression, constant, read, minus, not, binary, and, or, comma, conditional, assign, compound, prefix, postfix, call, Arguments, no_more}
use Rattle.language.specs.Calls.{argument_count}
use Rattle.language.specs.Functions.{function_count}
use Rattle.language.specs.Program.{contents}
use Rattle.language.specs.Decode.{expression_of, expression_at, argument_list_at}
use Rattle.language.specs.DecodeLaws.{expression-at, at_call}
use Rattle.language_shapes.specs.Functions.{is_call}
use Rattle.language_shapes.specs.Source.{Source}
use Rattle.language.specs.SoundLaws.{optional-link-of}

call-kind : (kind : Kind) (word : ℕ → ℤ) (tree : ℕ → Expression) (arguments : ℕ → Arguments) → is_call (expression_of kind word tree arguments) ≡ true → kind ≡ OfExpression Call
unfolding expression_of
call-kind (OfExpression Constant) word tree arguments h = absurd (false≢true h)
call-kind (OfExpression Variable) word tree arguments h = absurd (false≢true h)
call-kind (OfExpression Element) word tree arguments h = absurd (false≢true h)
call-kind (OfExpression Minus) word tree arguments h = absurd (false≢true h)
call-kind (OfExpression Not) word tree arguments h = absurd (false≢true h)
call-kind (OfExpression (Binary o)) word tree arguments h = absurd (false≢true h)
call-kind (OfExpression And) word tree arguments h = absurd (false≢true h)
call-kind (OfExpression Or) word tree arguments h = absurd (false≢true h)
call-kind (OfExpression Conditional) word tree arguments h = absurd (false≢true h)
call-kind (OfExpression Comma) word tree arguments h = absurd (false≢true h)
call-kind (OfExpression Assign) word tree arguments h = absurd (false≢true h)
call-kind (OfExpression (Compound o)) word tree arguments h = absurd (false≢true h)
call-kind (OfExpression (Prefix o)) word tree arguments h = absurd (false≢true h)
call-kind (OfExpression (Postfix o)) word tree arguments h = absurd (false≢true h)
call-kind (OfExpression Call) word tree arguments h = refl
call-kind (OfStatement kind) word tree arguments h = absurd (false≢true h)
call-kind (OfMark kind) word tree arguments h = absurd (false≢true h)
call-kind (OfMember kind) word tree arguments h = absurd (false≢true h)
call-kind Definition word tree arguments h = absurd (false≢true h)
call-kind Other word tree arguments h = absurd (false≢true h)

-- What a call calls and passes; of another expression nothing.
abbrev called_number : Expression → ℕ
called_number (constant v) = 0
called_number (read p) = 0
called_number (minus e) = 0
called_number (not e) = 0
called_number (binary operator a b) = 0
called_number (and a b) = 0
called_number (or a b) = 0
called_number (comma a b) = 0
called_number (conditional c a b) = 0
called_number (assign p e) = 0
called_number (compound operator p e) = 0
called_number (prefix operator p) = 0
called_number (postfix operator p) = 0
called_number (call f arguments) = f

abbrev passed_arguments : Expression → Arguments
passed_arguments (constant v) = no_more
passed_arguments (read p) = no_more
passed_arguments (minus e) = no_more
passed_arguments (not e) = no_more
passed_arguments (binary operator a b) = no_more
passed_arguments (and a b) = no_more
passed_arguments (or a b) = no_more
passed_arguments (comma a b) = no_more
passed_arguments (conditional c a b) = no_more
passed_arguments (assign p e) = no_more
passed_arguments (compound operator p e) = no_more
passed_arguments (prefix operator p) = no_more
passed_arguments (postfix operator p) = no_more
passed_arguments (call f arguments) = arguments

module _ {rows : List ℤ} {row f : ℕ} {arguments : Arguments} (s : Source rows) (inside : row < row_count rows) (is : expression_at rows row ≡ call f arguments) where
  is-call : kind_at rows row ≡ OfExpression Call
  is-call = call-kind (kind_at rows row) _ _ _ (sym (ap is_call (expression-at rows s.sound.whole row)) ∙ ap is_call is)

  first-link : 0 < number_at rows row 2 → row < number_at rows row 2
  unfolding sort_in kind_row expression_fields is_link
  first-link h = (optional-link-of s.sound inside is-call 2 (omega arith) (omega arith) refl h).later

  read-call : expression_at rows row ≡ call (number_at rows row 1) (argument_list_at rows (number_at rows row 2))
  read-call = at_call rows s.sound.whole row is-call first-link

  number_is : f ≡ number_at rows row 1
  number_is = ap called_number (sym is ∙ read-call)

  pub call-defined : f < function_count (contents rows)
  call-defined = rw number_is (s.functions.defined row inside is-call)

  pub call-behind : f < row
  call-behind = rw number_is (s.functions.behind row inside is-call)

  pub call-arguments : argument_count arguments ≤ 64
  call-arguments = rw (ap passed_arguments (sym is ∙ read-call)) (s.functions.few_arguments row inside is-call)
