-- Read-back: decode gives the tree from which a table was emitted. By induction over the emitted tree; a row's tree by its kind is the
-- language's.
use Rattle.std.specs.Prelude.{◌≡◌, refl, true, false, List, [], ◌∷◌, ℕ, zero, suc, ◌+◌, ◌≤◌, ◌<◌, ℤ, eqb, length}
use Rattle.std.proofs.Common.{ap, ap₂, ◌∙◌, arith}
use Rattle.words.specs.Table.{number_at, Whole}
use Rattle.words.specs.Declarations.{is_declaration, declaration_kind}
use Rattle.words.specs.Kinds.{kinds, kind_in, kind_of, kind_at, is_statement_kind}
use Rattle.words.specs.declared.Operator.{Operator}
use Rattle.words.specs.declared.Operator.TheVariants.{Add, Subtract, Multiply, Divide, Remainder, Less, Greater, LessOrEqual, GreaterOrEqual, Equal, NotEqual}
use Rattle.words.specs.declared.Kind.{Kind}
use Rattle.words.specs.declared.Kind.TheVariants.{OfExpression, OfStatement, OfMark, OfMember, Definition}
use Rattle.words.specs.declared.ExpressionKind.TheVariants.{Constant, Variable, Element, Minus, Binary, Assign, Call}
use Rattle.words.specs.declared.StatementKind.TheVariants.{Empty, Express, Block, If, While, Goto, Abort, Return}
use Rattle.words.specs.declared.MarkKind.TheVariants.{Label}
use Rattle.words.specs.declared.MemberKind.TheVariants.{Argument}
use Rattle.language.specs.Trees.{Expression, constant, read, minus, binary, assign, call, Place, variable, element, Arguments, no_more, ◌also◌, present, label, Statement, express, block, while, goto, give_back, Items, none, ◌then◌, ◌here◌, define}
use Rattle.language.specs.Decode.{place_of, expression_at, arguments_at, parameters_at, part_at, block_items, statement_at, items_at, decode, Forward, list_at, argument_list_at, parameter_list_at}
use Rattle.language.specs.DecodeLaws.{part-some, at_constant, at-variable, at-element, at-minus, at-binary, at-assign, at_call, at-empty, at-express, at_block, at-if_else, at-while, at-goto, at-abort, at_return, at_item, at_label, at-definition, at-parameter, at-argument}
use Rattle.language.specs.Sizes.{statement_rows, items_rows}
use Rattle.language.specs.TreeLaws.{statement-some}
use Rattle.language.specs.Program.{contents}
use Rattle.language_emission.specs.Emission.{operator_number, arguments_link, list_link, parameters_link, emit}
use Rattle.language_emission.specs.EmissionLaws.{length-emit}
use Rattle.language_emission.specs.KernelKinds.{StatementInKernel, a_block, ItemsInKernel}
use Rattle.language_emission.specs.Emitted.{Row, EmittedExpression, constant-at, read_at, minus-at, binary-at, assign-at, call_at, EmittedPlace, variable-at, element-at, EmittedArguments, no-more-at, argument-at, EmittedParameters, no_parameter_at, parameter-at, EmittedStatement, empty-at, express-at, block_at, if-at, while-at, goto-at, abort-at, return-at, EmittedItems, none-at, then_at, label_at, define-at}
use Rattle.language_emission.proofs.EmittedLaws.{emitted}

-- ---- links forward

-- The link to a list is absent or leads to where the list begins.
pub link-most : (is : Items) (base : ℕ) → list_link false is base ≤ base
link-most none base = omega arith
link-most (s then is) base = omega arith
link-most (m here is) base = omega arith
link-most (define f words body is) base = omega arith

pub link-forward : (is : Items) (row base : ℕ) → row < base → Forward row (list_link false is base)
link-forward none row base h p = absurd (omega arith)
link-forward (s then is) row base h p = h
link-forward (m here is) row base h p = h
link-forward (define f words body is) row base h p = h

pub arguments-forward : (arguments : Arguments) (row base : ℕ) → row < base → Forward row (arguments_link arguments base)
arguments-forward no_more row base h p = absurd (omega arith)
arguments-forward (e also arguments) row base h p = h

pub parameters-forward : (words : List ℕ) (row base : ℕ) → row < base → Forward row (parameters_link words base)
parameters-forward [] row base h p = absurd (omega arith)
parameters-forward (word ∷ words) row base h p = h

-- ---- kinds

-- The kinds 6 to 16 are the operators in their order.
pub kind-binary : (o : Operator) → kind_of (6 + operator_number o) ≡ OfExpression (Binary o)
unfolding kind_of kind_in kinds
kind-binary Add = refl
kind-binary Subtract = refl
kind-binary Multiply = refl
kind-binary Divide = refl
kind-binary Remainder = refl
kind-binary Less = refl
kind-binary Greater = refl
kind-binary LessOrEqual = refl
kind-binary GreaterOrEqual = refl
kind-binary Equal = refl
kind-binary NotEqual = refl

row-kind : {rows : List ℤ} {row kind a b c d next : ℕ} (k : Kind) → kind_of kind ≡ k → Row rows row kind a b c d next → kind_at rows row ≡ k
unfolding kind_at
row-kind k e r = ap kind_of r.kind_is ∙ e

-- The row of a parameter is a declaration's.
parameter-declared : {rows : List ℤ} {row word b c d next : ℕ} → Row rows row 58 word b c d next → is_declaration rows row ≡ true
unfolding is_declaration
parameter-declared r = ap (λ k. eqb k declaration_kind) r.kind_is

-- The kind of a statement's row is a statement's; its next field.
statement-row : {rows : List ℤ} {s : Statement} {base next : ℕ} → EmittedStatement rows s base next → (is_statement_kind (kind_at rows base) ≡ true) × (number_at rows base 5 ≡ next)
unfolding kind_of kind_in kinds
statement-row (empty-at r) = (ap is_statement_kind (row-kind (OfStatement Empty) refl r), r.next_is)
statement-row (express-at r m) = (ap is_statement_kind (row-kind (OfStatement Express) refl r), r.next_is)
statement-row (block_at r m) = (ap is_statement_kind (row-kind (OfStatement Block) refl r), r.next_is)
statement-row (if-at r m n o) = (ap is_statement_kind (row-kind (OfStatement If) refl r), r.next_is)
statement-row (while-at r m n) = (ap is_statement_kind (row-kind (OfStatement While) refl r), r.next_is)
statement-row (goto-at r) = (ap is_statement_kind (row-kind (OfStatement Goto) refl r), r.next_is)
statement-row (abort-at r) = (ap is_statement_kind (row-kind (OfStatement Abort) refl r), r.next_is)
statement-row (return-at r m) = (ap is_statement_kind (row-kind (OfStatement Return) refl r), r.next_is)

module _ (rows : List ℤ) (whole : Whole rows) where
  -- The arguments and the parameters at a link.
  arguments-link : (base : ℕ) → 0 < base → argument_list_at rows base ≡ arguments_at rows base
  arguments-link zero h = absurd (omega arith)
  arguments-link (suc base) h = refl

  parameters-link : (base : ℕ) → 0 < base → parameter_list_at rows base ≡ parameters_at rows base
  parameters-link zero h = absurd (omega arith)
  parameters-link (suc base) h = refl

  mutual
    unfolding kind_of kind_in kinds

    pub read-expression : {e : Expression} {base : ℕ} → EmittedExpression rows e base → expression_at rows base ≡ e
    read-expression (constant-at {v} {base} r w) = at_constant rows whole base (row-kind (OfExpression Constant) refl r) ∙ ap constant w
    read-expression (read_at p) = read-place p
    read-expression (minus-at {e} {base} r m) = at-minus rows whole base (row-kind (OfExpression Minus) refl r) (omega (arith, r.a_is)) ∙ rw r.a_is (ap minus (read-expression m))
    read-expression (binary-at {o} {a} {b} {base} r m n) =
        at-binary rows whole base o (row-kind (OfExpression (Binary o)) (kind-binary o) r) (omega (arith, r.a_is)) (omega (arith, r.b_is))
        ∙ rw (r.a_is, r.b_is) (ap₂ (binary o) (read-expression m) (read-expression n))
    read-expression (assign-at {p} {e} {base} r m n) =
        at-assign rows whole base (row-kind (OfExpression Assign) refl r) (omega (arith, r.a_is)) (omega (arith, r.b_is))
        ∙ rw (r.a_is, r.b_is) (ap₂ assign (ap place_of (read-place m)) (read-expression n))
    read-expression (call_at {f} {arguments} {base} r m) =
        at_call rows whole base (row-kind (OfExpression Call) refl r) (rw r.b_is (arguments-forward arguments base (base + 1) (omega arith)))
        ∙ rw (r.a_is, r.b_is) (ap (call f) (read-arguments (omega arith) m))

    pub read-place : {p : Place} {base : ℕ} → EmittedPlace rows p base → expression_at rows base ≡ read p
    read-place (variable-at {i} {base} r) = at-variable rows whole base (row-kind (OfExpression Variable) refl r) ∙ ap (λ n. read (variable n)) r.a_is
    read-place (element-at {array} {e} {base} r m) =
        at-element rows whole base (row-kind (OfExpression Element) refl r) (omega (arith, r.b_is))
        ∙ rw (r.a_is, r.b_is) (ap (λ i. read (element array i)) (read-expression m))

    -- The arguments that begin at their link.
    pub read-arguments : {arguments : Arguments} {base : ℕ} → 0 < base → EmittedArguments rows arguments base → argument_list_at rows (arguments_link arguments base) ≡ arguments
    read-arguments h no-more-at = refl
    read-arguments h (argument-at {e} {arguments} {base} r m n) =
        arguments-link base h
        ∙ at-argument rows whole base (row-kind (OfMember Argument) refl r) (omega (arith, r.a_is)) (rw r.next_is (arguments-forward arguments base _ (omega arith)))
        ∙ rw (r.a_is, r.next_is) (ap₂ ◌also◌ (read-expression m) (read-arguments (omega arith) n))

  pub read-parameters : {words : List ℕ} {base : ℕ} → 0 < base → EmittedParameters rows words base → parameter_list_at rows (parameters_link words base) ≡ words
  read-parameters h no_parameter_at = refl
  read-parameters h (parameter-at {word} {words} {base} r n) =
      parameters-link base h
      ∙ at-parameter rows whole base (parameter-declared r) (rw r.next_is (parameters-forward words base (base + 1) (omega arith)))
      ∙ rw (r.a_is, r.next_is) (ap (λ (rest : List ℕ). word ∷ rest) (read-parameters (omega arith) n))

  -- The list at a link.
  list-at : (base : ℕ) → 0 < base → list_at rows base ≡ items_at rows base
  list-at zero h = absurd (omega arith)
  list-at (suc base) h = refl

  mutual
    unfolding kind_of kind_in kinds

    pub read-statement : {s : Statement} {base next : ℕ} → EmittedStatement rows s base next → statement_at rows base ≡ s
    read-statement (empty-at {base} r) = at-empty rows whole base (row-kind (OfStatement Empty) refl r)
    read-statement (express-at {e} {base} r m) = at-express rows whole base (row-kind (OfStatement Express) refl r) (omega (arith, r.a_is)) ∙ rw r.a_is (ap express (read-expression m))
    read-statement (block_at {is} {base} r m) =
        at_block rows whole base (row-kind (OfStatement Block) refl r) (rw r.a_is (link-forward is base (base + 1) (omega arith)))
        ∙ rw r.a_is (ap block (read-items (omega arith) m))
    read-statement (if-at {e} {on_true} {on_false} {base} r m n o) =
        at-if_else rows whole base (row-kind (OfStatement If) refl r) (omega (arith, r.a_is)) (omega (arith, r.b_is)) (omega (arith, r.c_is))
        ∙ rw (r.a_is, r.b_is, r.c_is) (cc (read-expression m, read-statement n, read-statement o))
    read-statement (while-at {e} {body} {base} r m n) =
        at-while rows whole base (row-kind (OfStatement While) refl r) (omega (arith, r.a_is)) (omega (arith, r.b_is))
        ∙ rw (r.a_is, r.b_is) (ap₂ while (read-expression m) (read-statement n))
    read-statement (goto-at {l} {base} r) = at-goto rows whole base (row-kind (OfStatement Goto) refl r) ∙ ap goto r.a_is
    read-statement (abort-at {base} r) = at-abort rows whole base (row-kind (OfStatement Abort) refl r)
    read-statement (return-at {e} {base} r m) =
        at_return rows whole base (row-kind (OfStatement Return) refl r) (λ p. omega (arith, r.a_is))
        ∙ rw r.a_is (ap give_back (part-some rows (base + 1) (omega arith) ∙ ap present (read-expression m)))

    -- The list that begins at a list's link.
    pub read-items : {is : Items} {base : ℕ} → 0 < base → EmittedItems rows is base → list_at rows (list_link false is base) ≡ is
    read-items h none-at = refl
    read-items h (then_at {s} {is} {base} m n) =
        let next = base + statement_rows s in
        let first = statement-row m in
        let grows : 0 < statement_rows s = statement-some s in
        list-at base h
        ∙ at_item rows whole base first.0 (rw first.1 (link-forward is base next (omega arith)))
        ∙ rw first.1 (ap₂ (λ a b. a then b) (read-statement m) (read-items (omega arith) n))
    read-items h (label_at {l} {is} {base} r n) =
        list-at base h
        ∙ at_label rows whole base (row-kind (OfMark Label) refl r) (rw r.next_is (link-forward is base (base + 1) (omega arith)))
        ∙ rw (r.a_is, r.next_is) (ap (λ b. label l here b) (read-items (omega arith) n))
    read-items h (define-at {f} {words} {body} {is} {base} r p m n) =
        let own = base + 1 + length words in
        list-at base h
        ∙ at-definition rows whole base (row-kind Definition refl r) (rw r.b_is (parameters-forward words base (base + 1) (omega arith))) (omega (arith, r.c_is))
        (rw r.next_is (link-forward is base (own + 1 + items_rows body) (omega arith)))
        ∙ rw (r.a_is, r.b_is, r.c_is, r.next_is) (cc (read-parameters (omega arith) p, ap block_items (read-statement m), read-items (omega arith) n))

-- The items of the table of a program are the program.
pub contents-emit : {program : Items} → ItemsInKernel program → contents (emit (block program)) ≡ program
unfolding contents
contents-emit {program} k = go (emitted (a_block k))
  where
    size : Whole (emit (block program))
    size = let own = length-emit (block program) in omega arith

    go : EmittedStatement (emit (block program)) (block program) 0 0 → list_at (emit (block program)) (number_at (emit (block program)) 0 1) ≡ program
    go (block_at r m) = rw r.a_is (read-items (emit (block program)) size (omega arith) m)

-- Decode reads back what emission writes.
pub decode-emit : {program : Statement} → StatementInKernel program → decode (emit program) ≡ program
unfolding decode
decode-emit {program} k =
    let size = length-emit program in
    let whole : Whole (emit program) = omega arith in
    read-statement (emit program) whole (emitted k)
