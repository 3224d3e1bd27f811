-- Tables without the kinds of functions: no tree of theirs has a call. By induction on the links.
use Rattle.std.specs.Prelude.{◌≡◌, refl, ltb, ℤ, pos}
use Rattle.std.proofs.Common.{sym, ◌∙◌, ap, true≢false, arith}
use Rattle.std.proofs.Math.Bool.{Bool, true, false}
use mathlib.Core.List.{List, []}
use Prim.Native.Nat.{ℕ, zero, suc, ◌<◌}
use Rattle.std.proofs.Math.Decide.{dec_lt}
use Rattle.words.specs.Word.{natural, pick}
use Rattle.words.specs.Table.{row_count, Whole, word_at, number_at}
use Rattle.words.specs.Kinds.{kind_of, kind_at, is_function_number}
use Rattle.words.specs.KindLaws.{call-number}
use Rattle.words.specs.declared.Kind.{Kind}
use Rattle.words.specs.declared.Kind.TheVariants.{OfExpression, OfStatement, OfMark, OfMember, Definition, Other}
use Rattle.words.specs.declared.ExpressionKind.TheVariants.{Constant, Variable, Element, Minus, Not, Binary, And, Or, Conditional, Comma, Assign, Compound, Prefix, Postfix, Call}
use Rattle.words.specs.declared.StatementKind.TheVariants.{Empty, Express, Block, If, While, Do, For, Switch, Break, Continue, Goto, GuardedIf, GuardedDo, Abort, Declare, Return}
use Rattle.words.specs.declared.MarkKind.TheVariants.{Case, Default, Label}
use Rattle.words.specs.declared.MemberKind.TheVariants.{Arm, Argument}
use Rattle.language.specs.Trees.{Expression, constant, read, minus, not, binary, and, or, comma, conditional, assign, compound, prefix, postfix, call, Arguments, Part, absent, present, Statement, empty, if_then, Arms, no_arm, Items, none, ◌then◌, ◌here◌, define}
use Rattle.language.specs.Decode.{later, place_of, expression_of, values_of, values_by, expression_at, parameters_at, part_of, if_of, statement_of, items_of, arms_of, RowTrees, trees_of, trees_by, items_at, list_at}
use Rattle.language.specs.DecodeLaws.{kind-beyond}
use Rattle.language.specs.Functions.{function_count, function_of}
use Rattle.language.specs.Calls.{CallsBelow, PlaceCallsBelow, PartCallsBelow, StatementCallsBelow, ArmsCallBelow, ItemsCallBelow, arity_in, Numbered, CallsInOrder}
use Rattle.language.proofs.PlainTables.{no-functions}
use Rattle.language.specs.Program.{contents}

module _ (arity : ℕ → ℕ) (limit : ℕ) where
  place-calls : (e : Expression) → CallsBelow arity limit e → PlaceCallsBelow arity limit (place_of e)
  unfolding CallsBelow
  place-calls (constant v) h = tt
  place-calls (read p) h = h
  place-calls (minus e) h = tt
  place-calls (not e) h = tt
  place-calls (binary o a b) h = tt
  place-calls (and a b) h = tt
  place-calls (or a b) h = tt
  place-calls (comma a b) h = tt
  place-calls (conditional c a b) h = tt
  place-calls (assign p e) h = tt
  place-calls (compound o p e) h = tt
  place-calls (prefix o p) h = tt
  place-calls (postfix o p) h = tt
  place-calls (call f arguments) h = tt

  -- ---- a row, from the trees at its links

  calls-of : (kind : Kind) (word : ℕ → ℤ) (tree : ℕ → Expression) (arguments : ℕ → Arguments) → (kind ≡ OfExpression Call → ⊥) → ((l : ℕ) → CallsBelow arity limit (tree l))
      → CallsBelow arity limit (expression_of kind word tree arguments)
  unfolding expression_of CallsBelow
  calls-of (OfExpression Constant) word tree arguments n h = tt
  calls-of (OfExpression Variable) word tree arguments n h = tt
  calls-of (OfExpression Element) word tree arguments n h = h _
  calls-of (OfExpression Minus) word tree arguments n h = h _
  calls-of (OfExpression Not) word tree arguments n h = h _
  calls-of (OfExpression (Binary o)) word tree arguments n h = (h _, h _)
  calls-of (OfExpression And) word tree arguments n h = (h _, h _)
  calls-of (OfExpression Or) word tree arguments n h = (h _, h _)
  calls-of (OfExpression Conditional) word tree arguments n h = (h _, h _, h _)
  calls-of (OfExpression Comma) word tree arguments n h = (h _, h _)
  calls-of (OfExpression Assign) word tree arguments n h = (place-calls (tree (natural (word 1))) (h (natural (word 1))), h _)
  calls-of (OfExpression (Compound o)) word tree arguments n h = (place-calls (tree (natural (word 1))) (h (natural (word 1))), h _)
  calls-of (OfExpression (Prefix o)) word tree arguments n h = place-calls (tree (natural (word 1))) (h (natural (word 1)))
  calls-of (OfExpression (Postfix o)) word tree arguments n h = place-calls (tree (natural (word 1))) (h (natural (word 1)))
  calls-of (OfExpression Call) word tree arguments n h = absurd (n refl)
  calls-of (OfStatement kind) word tree arguments n h = tt
  calls-of (OfMark kind) word tree arguments n h = tt
  calls-of (OfMember kind) word tree arguments n h = tt
  calls-of Definition word tree arguments n h = tt
  calls-of Other word tree arguments n h = tt

  part-calls : (l : ℕ) (e : Expression) → CallsBelow arity limit e → PartCallsBelow arity limit (part_of l e)
  part-calls zero e h = tt
  part-calls (suc l) e h = h

  if-calls : (l : ℕ) (e : Expression) (s t : Statement) → CallsBelow arity limit e → StatementCallsBelow arity limit s → StatementCallsBelow arity limit t → StatementCallsBelow arity limit (if_of l e s t)
  unfolding StatementCallsBelow
  if-calls zero e s t p q r = (p, q)
  if-calls (suc l) e s t p q r = (p, q, r)

  record RowCalls (t : RowTrees) : Type 0 where
    statement : StatementCallsBelow arity limit t.statement
    items : ItemsCallBelow arity limit t.items
    arms : ArmsCallBelow arity limit t.arms

  module _ (word : ℕ → ℤ) (expression : ℕ → Expression) (statement : ℕ → Statement) (items : ℕ → Items) (arms : ℕ → Arms)
      (e : (l : ℕ) → CallsBelow arity limit (expression l)) (s : (l : ℕ) → StatementCallsBelow arity limit (statement l))
      (i : (l : ℕ) → ItemsCallBelow arity limit (items l)) (a : (l : ℕ) → ArmsCallBelow arity limit (arms l)) where
    statement-calls : (kind : Kind) → StatementCallsBelow arity limit (statement_of kind word expression statement items arms)
    unfolding statement_of StatementCallsBelow
    statement-calls (OfExpression kind) = tt
    statement-calls (OfStatement Empty) = tt
    statement-calls (OfStatement Express) = e _
    statement-calls (OfStatement Block) = i _
    statement-calls (OfStatement If) = if-calls (natural (word 3)) _ _ _ (e _) (s _) (s _)
    statement-calls (OfStatement While) = (e _, s _)
    statement-calls (OfStatement Do) = (s _, e _)
    statement-calls (OfStatement For) = (part-calls (natural (word 1)) _ (e _), part-calls (natural (word 2)) _ (e _), part-calls (natural (word 3)) _ (e _), s _)
    statement-calls (OfStatement Switch) = (e _, i _)
    statement-calls (OfStatement Break) = tt
    statement-calls (OfStatement Continue) = tt
    statement-calls (OfStatement Goto) = tt
    statement-calls (OfStatement GuardedIf) = a _
    statement-calls (OfStatement GuardedDo) = a _
    statement-calls (OfStatement Abort) = tt
    statement-calls (OfStatement Declare) = e _
    statement-calls (OfStatement Return) = part-calls (natural (word 1)) _ (e _)
    statement-calls (OfMark kind) = tt
    statement-calls (OfMember kind) = tt
    statement-calls Definition = tt
    statement-calls Other = tt

    items-call : (kind : Kind) (own : Statement) (words : List ℕ) (body : Statement) → StatementCallsBelow arity limit own → (l : ℕ)
        → ItemsCallBelow arity limit (items_of kind word own words body (items l))
    unfolding items_of ItemsCallBelow
    items-call (OfExpression kind) own words body h l = (h, i l)
    items-call (OfStatement kind) own words body h l = (h, i l)
    items-call (OfMark Case) own words body h l = i l
    items-call (OfMark Default) own words body h l = i l
    items-call (OfMark Label) own words body h l = i l
    items-call (OfMember kind) own words body h l = (h, i l)
    items-call Definition own words body h l = i l
    items-call Other own words body h l = tt

    arms-call : (kind : Kind) (x y l : ℕ) → ArmsCallBelow arity limit (arms_of kind (expression x) (statement y) (arms l))
    unfolding arms_of ArmsCallBelow
    arms-call (OfExpression kind) x y l = tt
    arms-call (OfStatement kind) x y l = tt
    arms-call (OfMark kind) x y l = tt
    arms-call (OfMember Arm) x y l = (e x, s y, a l)
    arms-call (OfMember Argument) x y l = tt
    arms-call Definition x y l = tt
    arms-call Other x y l = tt

    row-calls : (kind : Kind) (parameters : ℕ → List ℕ) → RowCalls (trees_of kind word expression parameters statement items arms)
    unfolding trees_of
    row-calls kind parameters = record {
      statement = statement-calls kind;
      items = items-call kind _ _ _ (statement-calls kind) (natural (word 5));
      arms = arms-call kind (natural (word 1)) (natural (word 2)) (natural (word 5));
    }

  -- ---- the table

  -- What holds of the trees of a table, and of the harmless one, holds of the tree at a link.
  at-link : {A : Type 0} (P : A → Type 0) (other : A) (row : ℕ) (tree : ℕ → A) → P other → ((l : ℕ) → P (tree l)) → (l : ℕ) → P (later other row tree l)
  at-link P other row tree o h l = by (ltb row l)
    where
      by : (onward : Bool) → P (pick onward (tree l) other)
      by true = h l
      by false = o

  module _ (rows : List ℤ) (whole : Whole rows) (without : (row : ℕ) → row < row_count rows → is_function_number (number_at rows row 0) ≡ false) where
    no_call : (row : ℕ) → kind_at rows row ≡ OfExpression Call → ⊥
    unfolding kind_at
    no_call row k = go (dec_lt row (row_count rows))
      where
        is_other : Kind → Bool
        is_other (OfExpression kind) = false
        is_other (OfStatement kind) = false
        is_other (OfMark kind) = false
        is_other (OfMember kind) = false
        is_other Definition = false
        is_other Other = true

        go : Dec (row < row_count rows) → ⊥
        go (yes h) = true≢false (sym (call-number (number_at rows row 0) k) ∙ without row h)
        go (no h) = true≢false (ap is_other (sym (kind-beyond rows whole row (omega (arith, h))) ∙ k))

    expression-by : (links row : ℕ) → CallsBelow arity limit (values_by links rows row).expression
    unfolding values_by values_of CallsBelow
    expression-by zero row = tt
    expression-by (suc links) row =
        calls-of (kind_at rows row) (word_at rows row) _ _ (no_call row) (at-link (CallsBelow arity limit) (constant (pos 0)) row (λ l. (values_by links rows l).expression) tt (λ l. expression-by links l))

    expression-linked : (row l : ℕ) → CallsBelow arity limit (later (constant (pos 0)) row (expression_at rows) l)
    unfolding expression_at CallsBelow
    expression-linked row l = at-link (CallsBelow arity limit) (constant (pos 0)) row (expression_at rows) tt (λ k. expression-by (row_count rows) k) l

    trees-by : (links row : ℕ) → RowCalls (trees_by links rows row)
    unfolding trees_by trees_of StatementCallsBelow
    trees-by zero row = record { statement = tt; items = tt; arms = tt }
    trees-by (suc links) row =
        row-calls (word_at rows row) (later (constant (pos 0)) row (expression_at rows))
        (later empty row (λ l. (trees_by links rows l).statement)) (later none row (λ l. (trees_by links rows l).items)) (later no_arm row (λ l. (trees_by links rows l).arms))
        (expression-linked row)
        (at-link (StatementCallsBelow arity limit) empty row (λ l. (trees_by links rows l).statement) tt (λ l. (trees-by links l).statement))
        (at-link (ItemsCallBelow arity limit) none row (λ l. (trees_by links rows l).items) tt (λ l. (trees-by links l).items))
        (at-link (ArmsCallBelow arity limit) no_arm row (λ l. (trees_by links rows l).arms) tt (λ l. (trees-by links l).arms))
        (kind_at rows row) (later [] row (parameters_at rows))

    list-calls : (l : ℕ) → ItemsCallBelow arity limit (list_at rows l)
    unfolding items_at ItemsCallBelow
    list-calls zero = tt
    list-calls (suc l) = (trees-by (row_count rows) (suc l)).items

none-numbered : (program : Items) → function_count program ≡ 0 → Numbered 0 program
unfolding function_count Numbered
none-numbered none e = tt
none-numbered (s then is) e = tt
none-numbered (m here is) e = tt
none-numbered (define f words body is) e = absurd (omega arith)

pub plain-calls : (rows : List ℤ) → Whole rows → ((row : ℕ) → row < row_count rows → is_function_number (number_at rows row 0) ≡ false) → CallsInOrder (contents rows)
unfolding contents
plain-calls rows whole without = record {
  numbered = none-numbered (contents rows) (no-functions rows whole without);
  lower = λ f inside. absurd (omega (arith, no-functions rows whole without));
  main = list-calls (arity_in (contents rows)) (function_count (contents rows)) rows whole without (number_at rows 0 1);
}
