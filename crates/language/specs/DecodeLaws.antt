-- Laws of decode: a row's tree by its kind, where its links lead to later rows.
use Rattle.std.specs.Prelude.{◌≡◌, Bool, true, false, ltb, ℤ, pos}
use Rattle.std.proofs.Math.Path.{refl, ap, ap₂, fun_ext}
use Rattle.std.proofs.Common.{sym, ◌∙◌, true≢false}
use Rattle.std.proofs.lemmas.Bool.{false≢true}
use mathlib.Core.List.{List, [], ◌∷◌}
use Prim.Native.Nat.{ℕ, zero, suc, ◌+◌, ◌*◌, ◌≤◌, ◌<◌}
use native.Mathlib.Omega.{arith}
use borrow.Author.Tests.{ltb-true, lt-ltb, le-ltb}
use Rattle.std.proofs.Math.ListN.{length, get_or-eq_default}
use Rattle.words.specs.Word.{natural, pick}
use Rattle.words.specs.Table.{row_count, Whole, word_at, number_at}
use Rattle.words.specs.Declarations.{is_declaration}
use Rattle.words.specs.Kinds.{kinds, kind_in, kind_of, kind_at, is_expression_kind, is_statement_kind}
use Rattle.words.specs.declared.Operator.{Operator}
use Rattle.words.specs.declared.Kind.{Kind}
use Rattle.words.specs.declared.Kind.TheVariants.{OfExpression, OfStatement, OfMark, OfMember, Definition, Other}
use Rattle.words.specs.declared.ExpressionKind.TheVariants.{Constant, Variable, Element, Minus, Not, Binary, And, Or, Conditional, Comma, Assign, Compound, Prefix, Postfix, Call}
use Rattle.words.specs.declared.StatementKind.TheVariants.{Empty, Express, Block, If, While, Do, For, Switch, Break, Continue, Goto, GuardedIf, GuardedDo, Abort, Declare, Return}
use Rattle.words.specs.declared.MarkKind.TheVariants.{Case, Default, Label}
use Rattle.words.specs.declared.MemberKind.TheVariants.{Arm, Argument}
use Rattle.language.specs.Trees.{Expression, constant, read, minus, not, binary, and, or, comma, conditional, assign, compound, prefix, postfix, call, variable, element, Arguments, no_more, ◌also◌, present, case, default, label, Statement, empty, express, block, if_then, if_else, while, do_while, for, switch, break, continue, goto, guarded_if, guarded_do, abort, declare, give_back, Arms, no_arm, arm, Items, none, ◌then◌, ◌here◌, define}
use Rattle.language.specs.Decode.{later, place_of, expression_of, arguments_of, values_of, values_by, expression_at, arguments_at, parameters_by, parameters_at, part_of, if_of, block_items, statement_of, items_of, arms_of, trees_of, trees_by, statement_at, items_at, arms_at, Forward, list_at, arm_list_at, part_at, argument_list_at, parameter_list_at}

later_same : {A : Type 0} (other : A) (row : ℕ) (f g : ℕ → A) → ((l : ℕ) → row < l → f l ≡ g l) → (l : ℕ) → later other row f l ≡ later other row g l
later_same {A} other row f g h l = by (ltb row l) refl
  where
    by : (t : Bool) → ltb row l ≡ t → pick t (f l) other ≡ pick t (g l) other
    by true e = h l (ltb-true row l e)
    by false e = refl

pub part-some : (rows : List ℤ) (l : ℕ) → 0 < l → part_at rows l ≡ present (expression_at rows l)
part-some rows zero h = absurd (omega arith)
part-some rows (suc l) h = refl

-- A row that is no expression, or no statement, decodes to something harmless.
no-expression-of : (k : Kind) (word : ℕ → ℤ) (tree : ℕ → Expression) (arguments : ℕ → Arguments) → is_expression_kind k ≡ false → expression_of k word tree arguments ≡ constant (pos 0)
unfolding expression_of
no-expression-of (OfExpression k) word tree arguments e = absurd (true≢false e)
no-expression-of (OfStatement k) word tree arguments e = refl
no-expression-of (OfMark k) word tree arguments e = refl
no-expression-of (OfMember k) word tree arguments e = refl
no-expression-of Definition word tree arguments e = refl
no-expression-of Other word tree arguments e = refl

no-statement-of : (k : Kind) (word : ℕ → ℤ) (expression : ℕ → Expression) (statement : ℕ → Statement) (items : ℕ → Items) (arms : ℕ → Arms) → is_statement_kind k ≡ false
    → statement_of k word expression statement items arms ≡ empty
unfolding statement_of
no-statement-of (OfExpression k) word expression statement items arms e = refl
no-statement-of (OfStatement k) word expression statement items arms e = absurd (true≢false e)
no-statement-of (OfMark k) word expression statement items arms e = refl
no-statement-of (OfMember k) word expression statement items arms e = refl
no-statement-of Definition word expression statement items arms e = refl
no-statement-of Other word expression statement items arms e = refl

items-statement : (k : Kind) (word : ℕ → ℤ) (s : Statement) (words : List ℕ) (body : Statement) (is : Items) → is_statement_kind k ≡ true → items_of k word s words body is ≡ s then is
unfolding items_of
items-statement (OfExpression k) word s words body is e = refl
items-statement (OfStatement k) word s words body is e = refl
items-statement (OfMark k) word s words body is e = absurd (false≢true e)
items-statement (OfMember k) word s words body is e = absurd (false≢true e)
items-statement Definition word s words body is e = absurd (false≢true e)
items-statement Other word s words body is e = absurd (false≢true e)

if_some : (l : ℕ) (e : Expression) (s t : Statement) → 0 < l → if_of l e s t ≡ if_else e s t
if_some zero e s t h = absurd (omega arith)
if_some (suc l) e s t h = refl

ap₃ : {A B C D : Type 0} (f : A → B → C → D) {x x' : A} {y y' : B} {z z' : C} → x ≡ x' → y ≡ y' → z ≡ z' → f x y z ≡ f x' y' z'
ap₃ f {x} {x'} {y} {y'} {z} {z'} p q r = ap₂ (λ g w. g w) (ap₂ f p q) r

module _ (rows : List ℤ) (whole : Whole rows) where
  -- Beyond the table there is no kind.
  pub kind-beyond : (row : ℕ) → row_count rows ≤ row → kind_at rows row ≡ Other
  unfolding kind_at number_at word_at natural kind_of kind_in kinds
  kind-beyond row h = let l : length rows ≤ 6 * row + 0 = omega arith in rw (get_or-eq_default rows (pos 0) l)

  -- and no declaration
  declaration-beyond : (row : ℕ) → row_count rows ≤ row → is_declaration rows row ≡ false
  unfolding is_declaration number_at word_at natural
  declaration-beyond row h = let l : length rows ≤ 6 * row + 0 = omega arith in rw (get_or-eq_default rows (pos 0) l)

  values_same : (k n row : ℕ) → row_count rows ≤ row + k → row_count rows ≤ row + n → values_by k rows row ≡ values_by n rows row
  unfolding values_by values_of expression_of arguments_of
  values_same zero zero row p q = refl
  values_same zero (suc n) row p q = rw (kind-beyond row (omega arith))
  values_same (suc k) zero row p q = rw (kind-beyond row (omega arith))
  values_same (suc k) (suc n) row p q =
      ap₂ (values_of (kind_at rows row) (word_at rows row))
      (fun_ext (later_same (constant (pos 0)) row (λ l. (values_by k rows l).expression) (λ l. (values_by n rows l).expression) (λ l h. ap (λ t. t.expression) (values_same k n l (omega arith) (omega arith)))))
      (fun_ext (later_same no_more row (λ l. (values_by k rows l).arguments) (λ l. (values_by n rows l).arguments) (λ l h. ap (λ t. t.arguments) (values_same k n l (omega arith) (omega arith)))))

  parameters-same : (k n row : ℕ) → row_count rows ≤ row + k → row_count rows ≤ row + n → parameters_by k rows row ≡ parameters_by n rows row
  unfolding parameters_by
  parameters-same zero zero row p q = refl
  parameters-same zero (suc n) row p q = rw (declaration-beyond row (omega arith))
  parameters-same (suc k) zero row p q = rw (declaration-beyond row (omega arith))
  parameters-same (suc k) (suc n) row p q =
      ap (λ (words : List ℕ). pick (is_declaration rows row) (number_at rows row 1 ∷ words) [])
      (later_same [] row (parameters_by k rows) (parameters_by n rows) (λ l h. parameters-same k n l (omega arith) (omega arith)) (number_at rows row 5))

  trees-same : (k n row : ℕ) → row_count rows ≤ row + k → row_count rows ≤ row + n → trees_by k rows row ≡ trees_by n rows row
  unfolding trees_by trees_of statement_of items_of arms_of
  trees-same zero zero row p q = refl
  trees-same zero (suc n) row p q = rw (kind-beyond row (omega arith))
  trees-same (suc k) zero row p q = rw (kind-beyond row (omega arith))
  trees-same (suc k) (suc n) row p q =
      ap₃ (trees_of (kind_at rows row) (word_at rows row) (later (constant (pos 0)) row (expression_at rows)) (later [] row (parameters_at rows)))
      (fun_ext (later_same empty row (λ l. (trees_by k rows l).statement) (λ l. (trees_by n rows l).statement) (λ l h. ap (λ t. t.statement) (trees-same k n l (omega arith) (omega arith)))))
      (fun_ext (later_same none row (λ l. (trees_by k rows l).items) (λ l. (trees_by n rows l).items) (λ l h. ap (λ t. t.items) (trees-same k n l (omega arith) (omega arith)))))
      (fun_ext (later_same no_arm row (λ l. (trees_by k rows l).arms) (λ l. (trees_by n rows l).arms) (λ l h. ap (λ t. t.arms) (trees-same k n l (omega arith) (omega arith)))))

  values-at : (row : ℕ) → values_by (row_count rows) rows row ≡ values_of (kind_at rows row) (word_at rows row) (later (constant (pos 0)) row (expression_at rows)) (later no_more row (arguments_at rows))
  unfolding values_by expression_at arguments_at
  values-at row = values_same (row_count rows) (suc (row_count rows)) row (omega arith) (omega arith)

  -- One row's expression, from the trees at its links; the arguments and the parameters from it on.
  pub expression-at : (row : ℕ) → expression_at rows row ≡ expression_of (kind_at rows row) (word_at rows row) (later (constant (pos 0)) row (expression_at rows)) (later no_more row (arguments_at rows))
  unfolding values_of expression_at
  expression-at row = ap (λ t. t.expression) (values-at row)

  pub arguments-at : (row : ℕ) → arguments_at rows row ≡ arguments_of (kind_at rows row) (later (constant (pos 0)) row (expression_at rows) (number_at rows row 1)) (later no_more row (arguments_at rows) (number_at rows row 5))
  unfolding values_of arguments_at number_at
  arguments-at row = ap (λ t. t.arguments) (values-at row)

  pub parameters-at : (row : ℕ) → parameters_at rows row ≡ pick (is_declaration rows row) (number_at rows row 1 ∷ later [] row (parameters_at rows) (number_at rows row 5)) []
  unfolding parameters_at parameters_by
  parameters-at row = parameters-same (row_count rows) (suc (row_count rows)) row (omega arith) (omega arith)

  trees-at : (row : ℕ) → trees_by (row_count rows) rows row ≡ trees_of (kind_at rows row) (word_at rows row) (later (constant (pos 0)) row (expression_at rows)) (later [] row (parameters_at rows)) (later empty row (statement_at rows)) (later none row (items_at rows)) (later no_arm row (arms_at rows))
  unfolding trees_by statement_at items_at arms_at
  trees-at row = trees-same (row_count rows) (suc (row_count rows)) row (omega arith) (omega arith)

  -- One row's statement, and the list from it on.
  pub statement-at : (row : ℕ) → statement_at rows row ≡ statement_of (kind_at rows row) (word_at rows row) (later (constant (pos 0)) row (expression_at rows)) (later empty row (statement_at rows)) (later none row (items_at rows)) (later no_arm row (arms_at rows))
  unfolding trees_of statement_at
  statement-at row = ap (λ t. t.statement) (trees-at row)

  pub items-at : (row : ℕ) → items_at rows row ≡ items_of (kind_at rows row) (word_at rows row) (statement_at rows row) (later [] row (parameters_at rows) (number_at rows row 2)) (later empty row (statement_at rows) (number_at rows row 3)) (later none row (items_at rows) (number_at rows row 5))
  unfolding trees_of items_at number_at
  items-at row =
      ap (λ t. t.items) (trees-at row)
      ∙ ap (λ s. items_of (kind_at rows row) (word_at rows row) s (later [] row (parameters_at rows) (natural (word_at rows row 2))) (later empty row (statement_at rows) (natural (word_at rows row 3))) (later none row (items_at rows) (natural (word_at rows row 5)))) (sym (statement-at row))

  pub arms-at : (row : ℕ) → arms_at rows row ≡ arms_of (kind_at rows row) (later (constant (pos 0)) row (expression_at rows) (number_at rows row 1)) (later empty row (statement_at rows) (number_at rows row 2)) (later no_arm row (arms_at rows) (number_at rows row 5))
  unfolding trees_of arms_at number_at
  arms-at row = ap (λ t. t.arms) (trees-at row)

  -- A link is absent or leads to a later row.
  pub later-list : (row l : ℕ) → Forward row l → later none row (items_at rows) l ≡ list_at rows l
  later-list row zero p = rw (le-ltb row 0 (omega arith))
  later-list row (suc l) p = rw (lt-ltb row (suc l) (p (omega arith)))

  later-arms : (row l : ℕ) → Forward row l → later no_arm row (arms_at rows) l ≡ arm_list_at rows l
  later-arms row zero p = rw (le-ltb row 0 (omega arith))
  later-arms row (suc l) p = rw (lt-ltb row (suc l) (p (omega arith)))

  later-arguments : (row l : ℕ) → Forward row l → later no_more row (arguments_at rows) l ≡ argument_list_at rows l
  later-arguments row zero p = rw (le-ltb row 0 (omega arith))
  later-arguments row (suc l) p = rw (lt-ltb row (suc l) (p (omega arith)))

  later-parameters : (row l : ℕ) → Forward row l → later [] row (parameters_at rows) l ≡ parameter_list_at rows l
  later-parameters row zero p = rw (le-ltb row 0 (omega arith))
  later-parameters row (suc l) p = rw (lt-ltb row (suc l) (p (omega arith)))

  later-part : (row l : ℕ) → Forward row l → part_of l (later (constant (pos 0)) row (expression_at rows) l) ≡ part_at rows l
  later-part row zero p = refl
  later-part row (suc l) p = rw (lt-ltb row (suc l) (p (omega arith)))

  -- An absent expression is that of row 0, where row 0 is none.
  later-expression : is_expression_kind (kind_at rows 0) ≡ false → (row l : ℕ) → Forward row l → later (constant (pos 0)) row (expression_at rows) l ≡ expression_at rows l
  later-expression k row zero p = rw (le-ltb row 0 (omega arith)) (sym (expression-at 0 ∙ no-expression-of (kind_at rows 0) (word_at rows 0) _ _ k))
  later-expression k row (suc l) p = rw (lt-ltb row (suc l) (p (omega arith)))

  -- Fields by name: the trees at the links a, b, c, d and next of a row.
  module _ (row : ℕ) where
    abbrev a : ℕ
    a = number_at rows row 1

    abbrev b : ℕ
    b = number_at rows row 2

    abbrev c : ℕ
    c = number_at rows row 3

    abbrev d : ℕ
    d = number_at rows row 4

    abbrev e_at : ℕ → Expression
    e_at l = expression_at rows l

    -- ---- kinds 1 to 31

    pub at-no-expression : is_expression_kind (kind_at rows row) ≡ false → expression_at rows row ≡ constant (pos 0)
    at-no-expression k = expression-at row ∙ no-expression-of (kind_at rows row) (word_at rows row) _ _ k

    pub at_constant : kind_at rows row ≡ OfExpression Constant → expression_at rows row ≡ constant (word_at rows row 1)
    unfolding expression_of
    at_constant k = rw (expression-at row, k)

    pub at-variable : kind_at rows row ≡ OfExpression Variable → expression_at rows row ≡ read (variable a)
    unfolding expression_of number_at
    at-variable k = rw (expression-at row, k)

    pub at-element : kind_at rows row ≡ OfExpression Element → row < b → expression_at rows row ≡ read (element a (e_at b))
    unfolding expression_of number_at
    at-element k p = rw (expression-at row, k, lt-ltb row b p)

    pub at-minus : kind_at rows row ≡ OfExpression Minus → row < a → expression_at rows row ≡ minus (e_at a)
    unfolding expression_of number_at
    at-minus k p = rw (expression-at row, k, lt-ltb row a p)

    pub at-not : kind_at rows row ≡ OfExpression Not → row < a → expression_at rows row ≡ not (e_at a)
    unfolding expression_of number_at
    at-not k p = rw (expression-at row, k, lt-ltb row a p)

    pub at-binary : (o : Operator) → kind_at rows row ≡ OfExpression (Binary o) → row < a → row < b → expression_at rows row ≡ binary o (e_at a) (e_at b)
    unfolding expression_of number_at
    at-binary o k p q = rw (expression-at row, k, lt-ltb row a p, lt-ltb row b q)

    pub at-and : kind_at rows row ≡ OfExpression And → row < a → row < b → expression_at rows row ≡ and (e_at a) (e_at b)
    unfolding expression_of number_at
    at-and k p q = rw (expression-at row, k, lt-ltb row a p, lt-ltb row b q)

    pub at-or : kind_at rows row ≡ OfExpression Or → row < a → row < b → expression_at rows row ≡ or (e_at a) (e_at b)
    unfolding expression_of number_at
    at-or k p q = rw (expression-at row, k, lt-ltb row a p, lt-ltb row b q)

    pub at-comma : kind_at rows row ≡ OfExpression Comma → row < a → row < b → expression_at rows row ≡ comma (e_at a) (e_at b)
    unfolding expression_of number_at
    at-comma k p q = rw (expression-at row, k, lt-ltb row a p, lt-ltb row b q)

    pub at-conditional : kind_at rows row ≡ OfExpression Conditional → row < a → row < b → row < c → expression_at rows row ≡ conditional (e_at a) (e_at b) (e_at c)
    unfolding expression_of number_at
    at-conditional k p q r = rw (expression-at row, k, lt-ltb row a p, lt-ltb row b q, lt-ltb row c r)

    pub at-assign : kind_at rows row ≡ OfExpression Assign → row < a → row < b → expression_at rows row ≡ assign (place_of (e_at a)) (e_at b)
    unfolding expression_of number_at
    at-assign k p q = rw (expression-at row, k, lt-ltb row a p, lt-ltb row b q)

    pub at-compound : (o : Operator) → kind_at rows row ≡ OfExpression (Compound o) → row < a → row < b → expression_at rows row ≡ compound o (place_of (e_at a)) (e_at b)
    unfolding expression_of number_at
    at-compound o k p q = rw (expression-at row, k, lt-ltb row a p, lt-ltb row b q)

    pub at-prefix : (o : Operator) → kind_at rows row ≡ OfExpression (Prefix o) → row < a → expression_at rows row ≡ prefix o (place_of (e_at a))
    unfolding expression_of number_at
    at-prefix o k p = rw (expression-at row, k, lt-ltb row a p)

    pub at-postfix : (o : Operator) → kind_at rows row ≡ OfExpression (Postfix o) → row < a → expression_at rows row ≡ postfix o (place_of (e_at a))
    unfolding expression_of number_at
    at-postfix o k p = rw (expression-at row, k, lt-ltb row a p)

    pub at_call : kind_at rows row ≡ OfExpression Call → Forward row b → expression_at rows row ≡ call a (argument_list_at rows b)
    unfolding expression_of number_at
    at_call k p = rw (expression-at row, k) (ap (call a) (later-arguments row b p))

    -- ---- kinds 40 to 60

    abbrev s_at : ℕ → Statement
    s_at l = statement_at rows l

    pub at-no-statement : is_statement_kind (kind_at rows row) ≡ false → statement_at rows row ≡ empty
    at-no-statement k = statement-at row ∙ no-statement-of (kind_at rows row) (word_at rows row) _ _ _ _ k

    pub at-empty : kind_at rows row ≡ OfStatement Empty → statement_at rows row ≡ empty
    unfolding statement_of
    at-empty k = rw (statement-at row, k)

    pub at-express : kind_at rows row ≡ OfStatement Express → row < a → statement_at rows row ≡ express (e_at a)
    unfolding statement_of number_at
    at-express k p = rw (statement-at row, k, lt-ltb row a p)

    pub at_block : kind_at rows row ≡ OfStatement Block → Forward row a → statement_at rows row ≡ block (list_at rows a)
    unfolding statement_of number_at
    at_block k p = rw (statement-at row, k) (ap block (later-list row a p))

    pub at-if_then : kind_at rows row ≡ OfStatement If → row < a → row < b → c ≡ 0 → statement_at rows row ≡ if_then (e_at a) (s_at b)
    unfolding statement_of number_at
    at-if_then k p q z = rw (statement-at row, k, lt-ltb row a p, lt-ltb row b q, z)

    pub at-if_else : kind_at rows row ≡ OfStatement If → row < a → row < b → row < c → statement_at rows row ≡ if_else (e_at a) (s_at b) (s_at c)
    unfolding statement_of number_at
    at-if_else k p q r = rw (statement-at row, k, lt-ltb row a p, lt-ltb row b q, lt-ltb row c r) (if_some c (e_at a) (s_at b) (s_at c) (omega arith))

    pub at-while : kind_at rows row ≡ OfStatement While → row < a → row < b → statement_at rows row ≡ while (e_at a) (s_at b)
    unfolding statement_of number_at
    at-while k p q = rw (statement-at row, k, lt-ltb row a p, lt-ltb row b q)

    pub at-do_while : kind_at rows row ≡ OfStatement Do → row < a → row < b → statement_at rows row ≡ do_while (s_at a) (e_at b)
    unfolding statement_of number_at
    at-do_while k p q = rw (statement-at row, k, lt-ltb row a p, lt-ltb row b q)

    pub at-for : kind_at rows row ≡ OfStatement For → Forward row a → Forward row b → Forward row c → row < d
        → statement_at rows row ≡ for (part_at rows a) (part_at rows b) (part_at rows c) (s_at d)
    unfolding statement_of number_at
    at-for k p q r t = rw (statement-at row, k, lt-ltb row d t) (ap₃ (λ x y z. for x y z (s_at d)) (later-part row a p) (later-part row b q) (later-part row c r))

    pub at-switch : kind_at rows row ≡ OfStatement Switch → row < a → Forward row b → statement_at rows row ≡ switch (e_at a) (list_at rows b)
    unfolding statement_of number_at
    at-switch k p q = rw (statement-at row, k, lt-ltb row a p) (ap (switch (e_at a)) (later-list row b q))

    pub at-break : kind_at rows row ≡ OfStatement Break → statement_at rows row ≡ break
    unfolding statement_of
    at-break k = rw (statement-at row, k)

    pub at-continue : kind_at rows row ≡ OfStatement Continue → statement_at rows row ≡ continue
    unfolding statement_of
    at-continue k = rw (statement-at row, k)

    pub at-goto : kind_at rows row ≡ OfStatement Goto → statement_at rows row ≡ goto a
    unfolding statement_of number_at
    at-goto k = rw (statement-at row, k)

    pub at-guarded_if : kind_at rows row ≡ OfStatement GuardedIf → Forward row a → statement_at rows row ≡ guarded_if (arm_list_at rows a)
    unfolding statement_of number_at
    at-guarded_if k p = rw (statement-at row, k) (ap guarded_if (later-arms row a p))

    pub at-guarded_do : kind_at rows row ≡ OfStatement GuardedDo → Forward row a → statement_at rows row ≡ guarded_do (arm_list_at rows a)
    unfolding statement_of number_at
    at-guarded_do k p = rw (statement-at row, k) (ap guarded_do (later-arms row a p))

    pub at-abort : kind_at rows row ≡ OfStatement Abort → statement_at rows row ≡ abort
    unfolding statement_of
    at-abort k = rw (statement-at row, k)

    pub at-declare : kind_at rows row ≡ OfStatement Declare → row < b → statement_at rows row ≡ declare a (e_at b)
    unfolding statement_of number_at
    at-declare k p = rw (statement-at row, k, lt-ltb row b p)

    -- The same of kind 58 in each of its roles, where row 0 is no expression: the b of a parameter is 0.
    pub at-declared : is_expression_kind (kind_at rows 0) ≡ false → kind_at rows row ≡ OfStatement Declare → Forward row b → statement_at rows row ≡ declare a (e_at b)
    unfolding statement_of number_at
    at-declared root k p = rw (statement-at row, k) (ap (declare a) (later-expression root row b p))

    pub at_return : kind_at rows row ≡ OfStatement Return → Forward row a → statement_at rows row ≡ give_back (part_at rows a)
    unfolding statement_of number_at
    at_return k p = rw (statement-at row, k) (ap give_back (later-part row a p))

    -- ---- items: a statement, a mark or a definition, and the list behind it

    abbrev behind : ℕ
    behind = number_at rows row 5

    pub at-items : Forward row behind → items_at rows row ≡ items_of (kind_at rows row) (word_at rows row) (statement_at rows row) (later [] row (parameters_at rows) b) (later empty row (statement_at rows) c) (list_at rows behind)
    at-items p = items-at row ∙ ap (items_of (kind_at rows row) (word_at rows row) (statement_at rows row) _ _) (later-list row behind p)

    pub at_item : is_statement_kind (kind_at rows row) ≡ true → Forward row behind → items_at rows row ≡ statement_at rows row then list_at rows behind
    at_item k p = items-at row ∙ items-statement (kind_at rows row) (word_at rows row) (statement_at rows row) _ _ _ k ∙ ap (λ l. statement_at rows row then l) (later-list row behind p)

    pub at-case : kind_at rows row ≡ OfMark Case → Forward row behind → items_at rows row ≡ case (word_at rows row 1) here list_at rows behind
    unfolding items_of
    at-case k p = rw (items-at row, k) (ap (λ l. case (word_at rows row 1) here l) (later-list row behind p))

    pub at_default : kind_at rows row ≡ OfMark Default → Forward row behind → items_at rows row ≡ default here list_at rows behind
    unfolding items_of
    at_default k p = rw (items-at row, k) (ap (λ l. default here l) (later-list row behind p))

    pub at_label : kind_at rows row ≡ OfMark Label → Forward row behind → items_at rows row ≡ label a here list_at rows behind
    unfolding items_of number_at
    at_label k p = rw (items-at row, k) (ap (λ l. label a here l) (later-list row behind p))

    pub at-definition : kind_at rows row ≡ Definition → Forward row b → row < c → Forward row behind → items_at rows row ≡ define a (parameter_list_at rows b) (block_items (s_at c)) (list_at rows behind)
    unfolding items_of number_at
    at-definition k p q r = rw (items-at row, k, lt-ltb row c q) (ap₂ (λ words l. define a words (block_items (s_at c)) l) (later-parameters row b p) (later-list row behind r))

    -- ---- members: the parameters of a definition, the arguments of a call, arms; and those behind them

    pub at-parameter : is_declaration rows row ≡ true → Forward row behind → parameters_at rows row ≡ a ∷ parameter_list_at rows behind
    at-parameter k p = rw (parameters-at row, k) (ap (λ words. a ∷ words) (later-parameters row behind p))

    pub at-argument : kind_at rows row ≡ OfMember Argument → row < a → Forward row behind → arguments_at rows row ≡ e_at a also argument_list_at rows behind
    unfolding arguments_of
    at-argument k p q = rw (arguments-at row, k, lt-ltb row a p) (ap (λ l. e_at a also l) (later-arguments row behind q))

    pub at-arm : kind_at rows row ≡ OfMember Arm → row < a → row < b → Forward row behind → arms_at rows row ≡ arm (e_at a) (s_at b) (arm_list_at rows behind)
    unfolding arms_of
    at-arm k p q r = rw (arms-at row, k, lt-ltb row a p, lt-ltb row b q) (ap (arm (e_at a) (s_at b)) (later-arms row behind r))
