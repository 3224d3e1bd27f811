-- Calls along the links: where a property goes along the links of a table, and every call at a row that has it goes to a number below the
-- limit with as many arguments as the function has parameters, the trees at such rows call below the limit. By induction on the links.
use Rattle.std.specs.Prelude.{◌≡◌, Bool, true, ◌&&◌, List, ltb, ℤ, pos}
use Rattle.std.proofs.Math.Path.{refl}
use Rattle.std.proofs.Common.{sym, arith}
use Prim.Native.Nat.{ℕ, zero, suc, ◌+◌, ◌≤◌, ◌<◌}
use borrow.Author.Tests.{ltb-true, le-ltb}
use Rattle.words.specs.Table.{row_count, Whole, number_at}
use Rattle.words.specs.Laws.{both, by_cases}
use Rattle.words.specs.Kinds.{kind_at, is_expression_kind, is_link, sort_in, sort_of, sort_at, kind_row, expression_fields, statement_fields, mark_fields, definition_fields, member_fields}
use Rattle.words.specs.Links.{link}
use Rattle.words.specs.declared.Kind.{Kind}
use Rattle.words.specs.declared.Kind.TheVariants.{OfExpression, OfStatement, OfMark, OfMember, Definition, Other}
use Rattle.words.specs.declared.ExpressionKind.TheVariants.{Constant, Variable, Element, Minus, Not, Binary, And, Or, Conditional, Comma, Assign, Compound, Prefix, Postfix, Call}
use Rattle.words.specs.declared.StatementKind.TheVariants.{Empty, Express, Block, If, While, Do, For, Switch, Break, Continue, Goto, GuardedIf, GuardedDo, Abort, Declare, Return}
use Rattle.words.specs.declared.MarkKind.TheVariants.{Case, Default, Label}
use Rattle.words.specs.declared.MemberKind.TheVariants.{Arm, Argument}
use Rattle.check_structure.specs.Structured.{Leads, Tree}
use Rattle.language.specs.Trees.{Expression, constant, read, minus, not, binary, and, or, comma, conditional, assign, compound, prefix, postfix, call, no_more, Statement, empty, no_arm, none}
use Rattle.language.specs.Decode.{later, place_of, expression_of, arguments_of, expression_at, arguments_at, part_of, if_of, statement_of, items_of, arms_of, statement_at, items_at, arms_at, list_at, argument_list_at}
use Rattle.language.specs.DecodeLaws.{expression-at, arguments-at, statement-at, items-at, arms-at, at_call}
use Rattle.language.specs.Calls.{argument_count, CallsBelow, PlaceCallsBelow, ArgumentsCallBelow, PartCallsBelow, StatementCallsBelow, ArmsCallBelow, ItemsCallBelow}

-- The field of a kind holds a link.
abbrev pub linking : Kind → ℕ → Bool
linking kind field = ltb field 6 && is_link (sort_in kind field)

module _ (rows : List ℤ) (t : Tree rows) (row : ℕ) (n : row < row_count rows) where
  -- a link that is followed leads on
  pub record Followed (field : ℕ) : Type 0 where
    pub leads : Leads rows row field
    pub same : link rows row field ≡ number_at rows row field

  pub link-same : {kind : Kind} → kind_at rows row ≡ kind → (field : ℕ) → is_link (sort_in kind field) ≡ true → link rows row field ≡ number_at rows row field
  unfolding link sort_at sort_of kind_at
  link-same k field e = rw (k, e)

  pub followed : {kind : Kind} → kind_at rows row ≡ kind → (field : ℕ) → linking kind field ≡ true → 0 < number_at rows row field → Followed field
  followed k field e p =
      let parts = both (ltb field 6) _ e in
      let same = link-same k field parts.1 in
      record { leads = t.forward row field n (ltb-true field 6 parts.0) (rw same p); same = same }

module _ (arity : ℕ → ℕ) (limit : ℕ) where
  place-calls : (e : Expression) → CallsBelow arity limit e → PlaceCallsBelow arity limit (place_of e)
  unfolding CallsBelow
  place-calls (constant v) h = tt
  place-calls (read p) h = h
  place-calls (minus e) h = tt
  place-calls (not e) h = tt
  place-calls (binary o a b) h = tt
  place-calls (and a b) h = tt
  place-calls (or a b) h = tt
  place-calls (comma a b) h = tt
  place-calls (conditional c a b) h = tt
  place-calls (assign p e) h = tt
  place-calls (compound o p e) h = tt
  place-calls (prefix o p) h = tt
  place-calls (postfix o p) h = tt
  place-calls (call f arguments) h = tt

  part-calls : (l : ℕ) (e : Expression) → CallsBelow arity limit e → PartCallsBelow arity limit (part_of l e)
  part-calls zero e h = tt
  part-calls (suc l) e h = h

  if-calls : (l : ℕ) (e : Expression) (s u : Statement) → CallsBelow arity limit e → StatementCallsBelow arity limit s → StatementCallsBelow arity limit u → StatementCallsBelow arity limit (if_of l e s u)
  unfolding StatementCallsBelow
  if-calls zero e s u p q r = (p, q)
  if-calls (suc l) e s u p q r = (p, q, r)

  -- "Expressions have next 0."
  module _ (rows : List ℤ) (t : Tree rows) (lone : (row : ℕ) → row < row_count rows → is_expression_kind (kind_at rows row) ≡ true → number_at rows row 5 ≡ 0) (Allowed : ℕ → Type 0)
      (along : (row field : ℕ) → field < 6 → Leads rows row field → Allowed row → Allowed (link rows row field))
      (fitting : (row : ℕ) → row < row_count rows → kind_at rows row ≡ OfExpression Call → Allowed row
      → (number_at rows row 1 < limit) × (argument_count (argument_list_at rows (number_at rows row 2)) ≡ arity (number_at rows row 1))) where
    whole : Whole rows
    whole = sym t.whole

    -- What is shown of the trees at a row.
    record Values (row : ℕ) : Type 0 where
      expression : CallsBelow arity limit (expression_at rows row)
      arguments : ArgumentsCallBelow arity limit (arguments_at rows row)

    record Trees (row : ℕ) : Type 0 where
      statement : StatementCallsBelow arity limit (statement_at rows row)
      items : ItemsCallBelow arity limit (items_at rows row)
      arms : ArmsCallBelow arity limit (arms_at rows row)

    -- A row of the table that is allowed.
    pub record Standing (row : ℕ) : Type 0 where
      pub inside : row < row_count rows
      pub allowed : Allowed row

    -- ---- one row

    module _ (row : ℕ) (own : Standing row) where
      -- the row that a field links is a later one, and allowed
      standing : {kind : Kind} → kind_at rows row ≡ kind → (field : ℕ) → linking kind field ≡ true → 0 < number_at rows row field → (row < number_at rows row field) × Standing (number_at rows row field)
      standing k field e p =
          let f = followed rows t row own.inside k field e p in
          let h = ltb-true field 6 (both (ltb field 6) _ e).0 in
          (rw (← f.same) f.leads.later, record { inside = rw (← f.same) f.leads.inside; allowed = rw (← f.same) (along row field h f.leads own.allowed) })

      -- so what holds of the harmless tree and of the trees there holds of the tree at the field
      at_field : {A : Type 0} (Q : A → Type 0) (other : A) (tree : ℕ → A) {kind : Kind} → kind_at rows row ≡ kind → (field : ℕ) → linking kind field ≡ true
          → Q other → ((l : ℕ) → row < l → Standing l → Q (tree l)) → Q (later other row tree (number_at rows row field))
      at_field Q other tree k field e o h =
          by_cases (ltb row (number_at rows row field))
          (λ l. let s = standing k field e (let b = ltb-true row (number_at rows row field) l in omega arith) in rw l (h (number_at rows row field) s.0 s.1))
          (λ l. rw l o)

    -- ---- expressions and arguments

    module _ (row : ℕ) (own : Standing row) (rest : (l : ℕ) → row < l → Standing l → Values l) where
      operand : {kind : Kind} → kind_at rows row ≡ kind → (field : ℕ) → linking kind field ≡ true → CallsBelow arity limit (later (constant (pos 0)) row (expression_at rows) (number_at rows row field))
      unfolding CallsBelow
      operand k field e = at_field row own (CallsBelow arity limit) (constant (pos 0)) (expression_at rows) k field e tt (λ l b s. (rest l b s).expression)

      place : {kind : Kind} → kind_at rows row ≡ kind → (field : ℕ) → linking kind field ≡ true → PlaceCallsBelow arity limit (place_of (later (constant (pos 0)) row (expression_at rows) (number_at rows row field)))
      place k field e = place-calls (later (constant (pos 0)) row (expression_at rows) (number_at rows row field)) (operand k field e)

      arguments-listed : (l : ℕ) → (0 < l → (row < l) × Standing l) → ArgumentsCallBelow arity limit (argument_list_at rows l)
      unfolding ArgumentsCallBelow
      arguments-listed zero s = tt
      arguments-listed (suc l) s = let there = s (omega arith) in (rest (suc l) there.0 there.1).arguments

      expression-by : (kind : Kind) → kind_at rows row ≡ kind → CallsBelow arity limit (expression_at rows row)
      unfolding expression_of CallsBelow number_at sort_in kind_row expression_fields statement_fields mark_fields definition_fields member_fields is_link
      expression-by (OfExpression Constant) k = rw (expression-at rows whole row, k) tt
      expression-by (OfExpression Variable) k = rw (expression-at rows whole row, k) tt
      expression-by (OfExpression Element) k = rw (expression-at rows whole row, k) (operand k 2 refl)
      expression-by (OfExpression Minus) k = rw (expression-at rows whole row, k) (operand k 1 refl)
      expression-by (OfExpression Not) k = rw (expression-at rows whole row, k) (operand k 1 refl)
      expression-by (OfExpression (Binary o)) k = rw (expression-at rows whole row, k) (operand k 1 refl, operand k 2 refl)
      expression-by (OfExpression And) k = rw (expression-at rows whole row, k) (operand k 1 refl, operand k 2 refl)
      expression-by (OfExpression Or) k = rw (expression-at rows whole row, k) (operand k 1 refl, operand k 2 refl)
      expression-by (OfExpression Conditional) k = rw (expression-at rows whole row, k) (operand k 1 refl, operand k 2 refl, operand k 3 refl)
      expression-by (OfExpression Comma) k = rw (expression-at rows whole row, k) (operand k 1 refl, operand k 2 refl)
      expression-by (OfExpression Assign) k = rw (expression-at rows whole row, k) (place k 1 refl, operand k 2 refl)
      expression-by (OfExpression (Compound o)) k = rw (expression-at rows whole row, k) (place k 1 refl, operand k 2 refl)
      expression-by (OfExpression (Prefix o)) k = rw (expression-at rows whole row, k) (place k 1 refl)
      expression-by (OfExpression (Postfix o)) k = rw (expression-at rows whole row, k) (place k 1 refl)
      expression-by (OfExpression Call) k =
          let right = fitting row own.inside k own.allowed in
          rw (at_call rows whole row k (λ p. (standing row own k 2 refl p).0)) (right.0, right.1, arguments-listed (number_at rows row 2) (standing row own k 2 refl))
      expression-by (OfStatement kind) k = rw (expression-at rows whole row, k) tt
      expression-by (OfMark kind) k = rw (expression-at rows whole row, k) tt
      expression-by (OfMember kind) k = rw (expression-at rows whole row, k) tt
      expression-by Definition k = rw (expression-at rows whole row, k) tt
      expression-by Other k = rw (expression-at rows whole row, k) tt

      arguments-by : (kind : Kind) → kind_at rows row ≡ kind → ArgumentsCallBelow arity limit (arguments_at rows row)
      unfolding arguments_of ArgumentsCallBelow sort_in kind_row expression_fields statement_fields mark_fields definition_fields member_fields is_link
      arguments-by (OfExpression kind) k = rw (arguments-at rows whole row, k) tt
      arguments-by (OfStatement kind) k = rw (arguments-at rows whole row, k) tt
      arguments-by (OfMark kind) k = rw (arguments-at rows whole row, k) tt
      arguments-by (OfMember Arm) k = rw (arguments-at rows whole row, k) tt
      arguments-by (OfMember Argument) k =
          rw (arguments-at rows whole row, k)
          (operand k 1 refl, at_field row own (ArgumentsCallBelow arity limit) no_more (arguments_at rows) k 5 refl tt (λ l b s. (rest l b s).arguments))
      arguments-by Definition k = rw (arguments-at rows whole row, k) tt
      arguments-by Other k = rw (arguments-at rows whole row, k) tt

    values : (links row : ℕ) → row_count rows ≤ row + links → Standing row → Values row
    values zero row h own = let i = own.inside in absurd (omega arith)
    values (suc links) row h own =
        let rest : ((l : ℕ) → row < l → Standing l → Values l) = λ l b s. values links l (omega arith) s in
        record { expression = expression-by row own rest (kind_at rows row) refl; arguments = arguments-by row own rest (kind_at rows row) refl }

    pub expression-calls : (row : ℕ) → Standing row → CallsBelow arity limit (expression_at rows row)
    expression-calls row own = (values (row_count rows) row (omega arith) own).expression

    -- ---- statements, lists and arms

    module _ (row : ℕ) (own : Standing row) (rest : (l : ℕ) → row < l → Standing l → Trees l) where
      tested : {kind : Kind} → kind_at rows row ≡ kind → (field : ℕ) → linking kind field ≡ true → CallsBelow arity limit (later (constant (pos 0)) row (expression_at rows) (number_at rows row field))
      unfolding CallsBelow
      tested k field e = at_field row own (CallsBelow arity limit) (constant (pos 0)) (expression_at rows) k field e tt (λ l b s. expression-calls l s)

      part : {kind : Kind} → kind_at rows row ≡ kind → (field : ℕ) → linking kind field ≡ true → PartCallsBelow arity limit (part_of (number_at rows row field) (later (constant (pos 0)) row (expression_at rows) (number_at rows row field)))
      part k field e = part-calls (number_at rows row field) (later (constant (pos 0)) row (expression_at rows) (number_at rows row field)) (tested k field e)

      body : {kind : Kind} → kind_at rows row ≡ kind → (field : ℕ) → linking kind field ≡ true → StatementCallsBelow arity limit (later empty row (statement_at rows) (number_at rows row field))
      unfolding StatementCallsBelow
      body k field e = at_field row own (StatementCallsBelow arity limit) empty (statement_at rows) k field e tt (λ l b s. (rest l b s).statement)

      list : {kind : Kind} → kind_at rows row ≡ kind → (field : ℕ) → linking kind field ≡ true → ItemsCallBelow arity limit (later none row (items_at rows) (number_at rows row field))
      unfolding ItemsCallBelow
      list k field e = at_field row own (ItemsCallBelow arity limit) none (items_at rows) k field e tt (λ l b s. (rest l b s).items)

      arms-from : {kind : Kind} → kind_at rows row ≡ kind → (field : ℕ) → linking kind field ≡ true → ArmsCallBelow arity limit (later no_arm row (arms_at rows) (number_at rows row field))
      unfolding ArmsCallBelow
      arms-from k field e = at_field row own (ArmsCallBelow arity limit) no_arm (arms_at rows) k field e tt (λ l b s. (rest l b s).arms)

      statement-by : (kind : Kind) → kind_at rows row ≡ kind → StatementCallsBelow arity limit (statement_at rows row)
      unfolding statement_of StatementCallsBelow number_at sort_in kind_row expression_fields statement_fields mark_fields definition_fields member_fields is_link
      statement-by (OfExpression kind) k = rw (statement-at rows whole row, k) tt
      statement-by (OfStatement Empty) k = rw (statement-at rows whole row, k) tt
      statement-by (OfStatement Express) k = rw (statement-at rows whole row, k) (tested k 1 refl)
      statement-by (OfStatement Block) k = rw (statement-at rows whole row, k) (list k 1 refl)
      statement-by (OfStatement If) k = rw (statement-at rows whole row, k) (if-calls (number_at rows row 3) _ _ _ (tested k 1 refl) (body k 2 refl) (body k 3 refl))
      statement-by (OfStatement While) k = rw (statement-at rows whole row, k) (tested k 1 refl, body k 2 refl)
      statement-by (OfStatement Do) k = rw (statement-at rows whole row, k) (body k 1 refl, tested k 2 refl)
      statement-by (OfStatement For) k = rw (statement-at rows whole row, k) (part k 1 refl, part k 2 refl, part k 3 refl, body k 4 refl)
      statement-by (OfStatement Switch) k = rw (statement-at rows whole row, k) (tested k 1 refl, list k 2 refl)
      statement-by (OfStatement Break) k = rw (statement-at rows whole row, k) tt
      statement-by (OfStatement Continue) k = rw (statement-at rows whole row, k) tt
      statement-by (OfStatement Goto) k = rw (statement-at rows whole row, k) tt
      statement-by (OfStatement GuardedIf) k = rw (statement-at rows whole row, k) (arms-from k 1 refl)
      statement-by (OfStatement GuardedDo) k = rw (statement-at rows whole row, k) (arms-from k 1 refl)
      statement-by (OfStatement Abort) k = rw (statement-at rows whole row, k) tt
      statement-by (OfStatement Declare) k = rw (statement-at rows whole row, k) (tested k 2 refl)
      statement-by (OfStatement Return) k = rw (statement-at rows whole row, k) (part k 1 refl)
      statement-by (OfMark kind) k = rw (statement-at rows whole row, k) tt
      statement-by (OfMember kind) k = rw (statement-at rows whole row, k) tt
      statement-by Definition k = rw (statement-at rows whole row, k) tt
      statement-by Other k = rw (statement-at rows whole row, k) tt

      items-by : (kind : Kind) → kind_at rows row ≡ kind → StatementCallsBelow arity limit (statement_at rows row) → ItemsCallBelow arity limit (items_at rows row)
      unfolding items_of ItemsCallBelow sort_in kind_row expression_fields statement_fields mark_fields definition_fields member_fields is_link
      items-by (OfExpression kind) k h = rw (items-at rows whole row, k) (h, rw (lone row own.inside (rw k), le-ltb row 0 (omega arith)) tt)
      items-by (OfStatement kind) k h = rw (items-at rows whole row, k) (h, list k 5 refl)
      items-by (OfMark Case) k h = rw (items-at rows whole row, k) (list k 5 refl)
      items-by (OfMark Default) k h = rw (items-at rows whole row, k) (list k 5 refl)
      items-by (OfMark Label) k h = rw (items-at rows whole row, k) (list k 5 refl)
      items-by (OfMember Arm) k h = rw (items-at rows whole row, k) (h, list k 5 refl)
      items-by (OfMember Argument) k h = rw (items-at rows whole row, k) (h, list k 5 refl)
      items-by Definition k h = rw (items-at rows whole row, k) (list k 5 refl)
      items-by Other k h = rw (items-at rows whole row, k) tt

      arms-by : (kind : Kind) → kind_at rows row ≡ kind → ArmsCallBelow arity limit (arms_at rows row)
      unfolding arms_of ArmsCallBelow sort_in kind_row expression_fields statement_fields mark_fields definition_fields member_fields is_link
      arms-by (OfExpression kind) k = rw (arms-at rows whole row, k) tt
      arms-by (OfStatement kind) k = rw (arms-at rows whole row, k) tt
      arms-by (OfMark kind) k = rw (arms-at rows whole row, k) tt
      arms-by (OfMember Arm) k = rw (arms-at rows whole row, k) (tested k 1 refl, body k 2 refl, arms-from k 5 refl)
      arms-by (OfMember Argument) k = rw (arms-at rows whole row, k) tt
      arms-by Definition k = rw (arms-at rows whole row, k) tt
      arms-by Other k = rw (arms-at rows whole row, k) tt

    trees : (links row : ℕ) → row_count rows ≤ row + links → Standing row → Trees row
    trees zero row h own = let i = own.inside in absurd (omega arith)
    trees (suc links) row h own =
        let rest : ((l : ℕ) → row < l → Standing l → Trees l) = λ l b s. trees links l (omega arith) s in
        let statement = statement-by row own rest (kind_at rows row) refl in
        record { statement = statement; items = items-by row own rest (kind_at rows row) refl statement; arms = arms-by row own rest (kind_at rows row) refl }

    pub statement-calls : (row : ℕ) → Standing row → StatementCallsBelow arity limit (statement_at rows row)
    statement-calls row own = (trees (row_count rows) row (omega arith) own).statement

    pub list-calls : (l : ℕ) → (0 < l → Standing l) → ItemsCallBelow arity limit (list_at rows l)
    unfolding ItemsCallBelow
    list-calls zero own = tt
    list-calls (suc l) own = (trees (row_count rows) (suc l) (omega arith) (own (omega arith))).items
