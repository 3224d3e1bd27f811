-- Independence: a resolved source program runs alike from stores that agree on the first S words, whatever the D words behind them hold, in the two
-- runs independently.
use Rattle.std.specs.Prelude.{◌≡◌, refl, List, ◌++◌, ◌+◌, ◌≤◌, ◌<◌, ℤ, pos, length}
use Rattle.std.proofs.Math.Path.{sym}
use Rattle.std.proofs.Common.{ap, ◌∙◌, length-append}
use native.Mathlib.Omega.{arith}
use Rattle.std.proofs.Math.ListN.{get_or-append}
use Rattle.words.specs.Declarations.{declaration_count}
use Rattle.words.specs.Laws.{array-in-store}
use Rattle.words.specs.Layout.{Layout, store_size}
use Rattle.computation.specs.Agreement.{Words}
use Rattle.computation.specs.Run.{State, start, Result, Limit, run, final, ending_of}
use Rattle.language.specs.Decode.{block_items, decode}
use Rattle.language.specs.Meaning.{Signal, exec}
use Rattle.language.specs.Trees.{Statement, block, Items, none, define}
use Rattle.language.specs.Functions.{Function, function_of, function_count, call_by, context_of}
use Rattle.language.specs.Program.{contents}
use Rattle.language_renaming.proofs.RenamingLaws.{itself, statement-itself}
use Rattle.language_renaming.specs.Twin.{Twin, TwinResult, Equal, Renames, Callings}
use Rattle.language_renaming.proofs.TwinLaws.{twin-start, twin-ending, twin-final}
use Rattle.language_renaming.proofs.Renamed.{independent-runs}
use Rattle.language_renaming.specs.Renaming.{renamed_statement}
use Rattle.language_renaming.proofs.RenamedFunctions.{renamed_function, renamed-calls}
use Rattle.names.specs.Names.{resolved}
use Rattle.accepted_scopes.specs.Sources.{SourceRows}
use Rattle.accepted_scopes.proofs.Scoped.{program-scoped}
use Rattle.accepted_scopes.proofs.Functions.{function-scoped}

module _ (L : Layout) (rows : List ℤ) where
  -- The words of the header's variables and arrays; and all words of the store.
  abbrev pub Outer : Words
  Outer word = word < store_size L

  abbrev pub Stored : Words
  Stored word = word < store_size L + declaration_count rows

  outer-renames : Renames L (length L.lengths) Stored itself Outer Outer
  outer-renames =
      record {
        apart = λ i j a b e. e;
        known = λ i p. omega arith;
        visible = λ i p. p;
        elements = λ array b i least most. (omega (arith, array-in-store L array b), refl);
      }

  abbrev pub run_from : Limit → List ℤ → Result Signal
  run_from limit store = run limit (exec (context_of L (contents (resolved (store_size L) rows))) (decode (resolved (store_size L) rows))) (start store)

  -- stores that begin with the same S words
  same_start : (store first second : List ℤ) → length store ≡ store_size L → declaration_count rows ≤ length first → declaration_count rows ≤ length second
      → Twin Stored itself Outer (start (store ++ first)) (start (store ++ second))
  same_start store first second e h k =
      twin-start (store ++ first) (store ++ second)
      (λ i p. get_or-append store second (pos 0) i (omega arith) ∙ sym (get_or-append store first (pos 0) i (omega arith)))
      (λ i (p : Stored i). (rw (length-append store first) (omega arith), rw (length-append store second) (omega arith)))

  abbrev program : Items
  program = contents (resolved (store_size L) rows)

  module _ (source : SourceRows L rows) where
    variables-fit : L.variables ≤ store_size L
    unfolding store_size
    variables-fit = omega arith

    -- a function that is renamed to itself
    function-itself : (function : Function) → function ≡ renamed_function itself itself function
    unfolding renamed_statement function_of
    function-itself function = sym (ap (λ (program : Statement). function_of 0 (block_items program)) (statement-itself (block (define 0 function.parameters function.body none))))

    -- its calls go alike in both runs
    calls-alike : Callings L (length L.lengths) Stored itself itself Outer (call_by (function_count program) L program) (call_by (function_count program) L program)
    calls-alike = renamed-calls program program (λ f. function-itself (function_of f program)) (function-scoped L rows source Stored (λ word w. w.most) Outer (λ word h. omega (arith, variables-fit))) (function_count program)

    twin-runs : (limit : Limit) (σ τ : State) → Twin Stored itself Outer σ τ
        → TwinResult Stored itself Outer Outer Equal (run limit (exec (context_of L (contents (resolved (store_size L) rows))) (decode (resolved (store_size L) rows))) σ) (run limit (exec (context_of L (contents (resolved (store_size L) rows))) (decode (resolved (store_size L) rows))) τ)
    unfolding context_of
    twin-runs =
        (independent-runs calls-alike outer-renames (decode (resolved (store_size L) rows))
        (program-scoped L rows source Stored (λ word w. w.most) Outer (λ word h. omega (arith, variables-fit))))

    -- The same ending; the same count, the same writes and the same first S words.
    pub independent-start : (limit : Limit) (store first second : List ℤ) → length store ≡ store_size L → declaration_count rows ≤ length first → declaration_count rows ≤ length second
        → (ending_of (run_from limit (store ++ second)) ≡ ending_of (run_from limit (store ++ first))) × Twin Stored itself Outer (final (run_from limit (store ++ first))) (final (run_from limit (store ++ second)))
    independent-start limit store first second e h k =
        let twins = twin-runs limit (start (store ++ first)) (start (store ++ second)) (same_start store first second e h k) in
        (twin-ending twins, twin-final (λ i p. p) twins)
