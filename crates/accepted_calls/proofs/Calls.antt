-- Calls: the functions of a program and its calls are in order, and what a run asks of them holds.
use Rattle.std.specs.Prelude.{◌≡◌, List, ℕ, ◌<◌, ◌≤◌, ℤ, length}
use Rattle.std.proofs.Math.Path.{refl, sym, ap}
use Rattle.std.proofs.Common.{subst, ◌∙◌, arith}
use Rattle.std.proofs.Math.Decide.{dec_lt}
use Rattle.words.specs.Table.{row_count, Whole, number_at}
use Rattle.words.specs.Kinds.{kind_at, is_link, sort_in, kind_row, expression_fields, statement_fields, definition_fields}
use Rattle.words.specs.Links.{link}
use Rattle.words.specs.declared.Kind.TheVariants.{OfExpression, OfStatement}
use Rattle.words.specs.declared.ExpressionKind.TheVariants.{Call}
use Rattle.words.specs.declared.StatementKind.TheVariants.{Block}
use Rattle.check_structure.specs.LinkLaws.{part-inside}
use Rattle.check_structure.specs.Structured.{Leads}
use Rattle.language.specs.Decode.{block_items, list_at, argument_list_at}
use Rattle.language.specs.DecodeLaws.{at_block}
use Rattle.language.specs.Functions.{Function, function_of, function_count}
use Rattle.language.specs.Calls.{argument_count, ItemsCallBelow, arity_in, CallsInOrder}
use Rattle.language.specs.Program.{contents}
use Rattle.check_function_causes.specs.Demands.{InFront, Within, function_part, function_along, Listed, Called}
use Rattle.check_function_causes.proofs.FrontLaws.{front-defines, front-inside}
use Rattle.check_function_causes.proofs.LengthLaws.{length-listed}
use Rattle.check_function_causes.specs.Functions.{list_length}
use Rattle.check_parameter_causes.specs.Demands.{first_parameter}
use Rattle.machine_operations.specs.Functions.{SoundCalls}
use Rattle.accepted_calls.specs.Tables.{FunctionTable, FewParameters}
use Rattle.accepted_calls.specs.Kinds.{definition-kind, kind-call}
use Rattle.accepted_calls.specs.Owners.{front-number}
use Rattle.accepted_calls.proofs.Front.{none-beyond, root, front-links, program-list, program-numbered, program-first, function-own, function-below, function-defined}
use Rattle.accepted_calls.proofs.Counts.{arguments-counted, parameters-counted}
use Rattle.accepted_calls.specs.CallsAlong.{link-same, list-calls}

module _ (rows : List ℤ) (table : FunctionTable rows) where
  whole : Whole rows
  whole = sym table.tree.whole

  -- ---- as many parameters as the list of its definition has rows

  pub arity-listed : {definition number count : ℕ} → InFront rows definition number → Listed rows (link rows definition 2) count → arity_in (contents rows) number ≡ count
  arity-listed {definition} f listed =
      ap (λ (function : Function). length function.parameters) (function-own rows table f)
      ∙ parameters-counted rows table definition listed (λ p. first_parameter (front-defines rows f) (table.tree.forward definition 2 (front-inside rows f) (omega arith) p))

  -- ---- a call

  module _ (row : ℕ) (n : row < row_count rows) (k : kind_at rows row ≡ OfExpression Call) where
    called : Called rows row
    called = table.well_called.called row n (kind-call rows row k)

    -- "a call to no function"
    pub call-defined : number_at rows row 1 < function_count (contents rows)
    call-defined = function-below rows table called.function

    -- "or with the wrong number of arguments"
    pub call-fitting : argument_count (argument_list_at rows (number_at rows row 2)) ≡ arity_in (contents rows) (number_at rows row 1)
    unfolding sort_in kind_row expression_fields is_link
    call-fitting =
        let same = link-same rows table.tree row n k 2 refl in
        let given = arguments-counted rows table called.arguments
        (λ p. record { inside = (table.tree.forward row 2 n (omega arith) p).inside; kind = rw same (table.links.first_argument row n k (rw (← same) p)) }) in
        (rw same at given) ∙ sym (arity-listed called.function called.parameters)

  -- ---- the calls of the program, and of a function's block

  calls-main : ItemsCallBelow (arity_in (contents rows)) (function_count (contents rows)) (contents rows)
  calls-main =
      subst (ItemsCallBelow (arity_in (contents rows)) (function_count (contents rows))) (sym (program-list rows table))
      (list-calls (arity_in (contents rows)) (function_count (contents rows)) rows table.tree table.links.lone (λ (row : ℕ). Unit {0})
      (λ row field h leads own. tt) (λ row n k own. (call-defined row n k, call-fitting row n k)) (link rows 0 1)
      (λ p. record { inside = (table.tree.forward 0 1 table.tree.some_rows (omega arith) p).inside; allowed = tt }))

  module _ {definition number : ℕ} (f : InFront rows definition number) where
    body-leads : Leads rows definition 3
    unfolding sort_in kind_row definition_fields is_link
    body-leads =
        let n = front-inside rows f in
        table.tree.forward definition 3 n (omega arith) (rw (front-links rows table f 3 refl) (table.links.body_there definition n (definition-kind rows definition (front-defines rows f))))

    body-kind : kind_at rows (link rows definition 3) ≡ OfStatement Block
    unfolding sort_in kind_row definition_fields is_link
    body-kind = rw (front-links rows table f 3 refl) (table.links.body-block definition (front-inside rows f) (definition-kind rows definition (front-defines rows f)))

    pub body-list : (function_of number (contents rows)).body ≡ list_at rows (link rows (link rows definition 3) 1)
    unfolding sort_in kind_row statement_fields is_link
    body-list =
        let row = link rows definition 3 in
        let n = body-leads.inside in
        let same = link-same rows table.tree (link rows definition 3) n body-kind 1 refl in
        ap (λ (function : Function). function.body) (function-own rows table f)
        ∙ rw same (ap block_items (at_block rows whole row body-kind (λ q. rw (← same) (table.tree.forward row 1 n (omega arith) (rw same q)).later)))

    -- "to its own or a higher one"
    calls-lower : ItemsCallBelow (arity_in (contents rows)) number (function_of number (contents rows)).body
    calls-lower =
        let n = body-leads.inside in
        subst (ItemsCallBelow (arity_in (contents rows)) number) (sym body-list)
        (list-calls (arity_in (contents rows)) number rows table.tree table.links.lone (Within rows definition)
        (λ row field h leads own. function_along h leads own)
        (λ row n k own. (subst (λ (x : ℕ). number_at rows row 1 < x) (front-number rows table.tree (root rows table) table.well_called.in_order f) ((called row n k).lower definition own), call-fitting row n k))
        (link rows (link rows definition 3) 1)
        (λ p. let leads = table.tree.forward (link rows definition 3) 1 n (omega arith) p in
        record { inside = leads.inside; allowed = function_along (omega arith) leads (function_part (omega arith) (front-defines rows f) body-leads) }))

  pub calls-in-order : CallsInOrder (contents rows)
  calls-in-order = record {
    numbered = program-numbered rows table;
    lower = λ f h. calls-lower (function-defined rows table f h).front;
    main = calls-main;
  }

  -- ---- what a run asks

  module _ (few : FewParameters rows) where
    pub few_parameters : (number : ℕ) → arity_in (contents rows) number ≤ 64
    few_parameters number = go (dec_lt number (function_count (contents rows)))
      where
        go : Dec (number < function_count (contents rows)) → arity_in (contents rows) number ≤ 64
        go (no h) =
            rw (none-beyond number 0 (contents rows) (program-numbered rows table) (program-first rows table) (omega (arith, h))) (omega arith)
        go (yes h) =
            let f = (function-defined rows table number h).front in
            let definition = (function-defined rows table number h).definition in
            let listed = length-listed rows table.tree (link rows definition 2) (part-inside rows table.tree definition 2 (link rows definition 2) (front-inside rows f) (omega arith) refl) in
            subst (λ (x : ℕ). x ≤ 64) (sym (arity-listed f listed)) (few definition (list_length rows (link rows definition 2)) (front-inside rows f) (front-defines rows f) listed)

    pub sound-calls : SoundCalls rows
    sound-calls = record {
      order = calls-in-order;
      in_front = program-first rows table;
      arguments = record { first_argument = table.links.first_argument; next_argument = table.links.next_argument };
      body-block = table.links.body-block;
      defined = call-defined;
      fitting = call-fitting;
      few_parameters = few_parameters;
    }
