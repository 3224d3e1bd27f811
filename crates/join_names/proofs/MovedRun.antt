-- Runs of a join's parts: what is shown of them does not hang on where their declared words stand and which numbers their functions have, nor on what
-- these words held at the start.
use Rattle.std.specs.Prelude.{◌≡◌, refl, List, [], ◌∷◌, ◌++◌, ℕ, zero, suc, ◌+◌, ◌≤◌, ◌<◌, ℤ, pos, length, get_or, take}
use Rattle.std.proofs.Common.{sym, ◌∙◌, ap, subst, length-append, length-take-le, get_or-take}
use native.Mathlib.Omega.{arith}
use Rattle.std.proofs.Math.ListN.{get_or-append}
use Rattle.words.specs.Laws.{array-in-store}
use Rattle.words.specs.Declarations.{declaration_count}
use Rattle.words.specs.Layout.{Layout, store_size}
use Rattle.words.specs.declared.Ending.{Ending}
use Rattle.computation.specs.Agreement.{Words}
use Rattle.computation.specs.Computation.{Computation}
use Rattle.computation.specs.Run.{start, Result, Limit, run, final, ending_of}
use Rattle.computation.proofs.RunLaws.{store-keeps-length}
use Rattle.language.specs.Calls.{CallsInOrder}
use Rattle.language.specs.Decode.{decode}
use Rattle.language.specs.Meaning.{Signal, exec}
use Rattle.language.specs.Functions.{function_of, function_count, context_of}
use Rattle.language.specs.Program.{Finished, finished, contents}
use Rattle.language.specs.Trees.{block, Items}
use Rattle.language_renaming.specs.Renaming.{renamed_statement, renamed_items}
use Rattle.language_renaming.proofs.Renamed.{scoped-runs}
use Rattle.language_renaming.proofs.RenamedFunctions.{renamed_function, renamed-calls}
use Rattle.language_renaming.specs.Twin.{Twin, TwinResult, twin-ok, twin-stopped, Equal, Renames}
use Rattle.language_renaming.proofs.TwinLaws.{twin-start, twin-ending, twin-final}
use Rattle.names.specs.Names.{resolved}
use Rattle.accepted.specs.Gives.{Gives}
use Rattle.accepted_scopes.specs.Sources.{SourceRows}
use Rattle.accepted_scopes.proofs.Scoped.{program-scoped}
use Rattle.accepted_scopes.proofs.Functions.{function-scoped}
use Rattle.accepted_scopes.proofs.Independent.{Outer, Stored}
use Rattle.join_names.specs.JoinedFate.{shown}
use Rattle.join_names.specs.JoinedCalls.{program-enough}

-- ---- the first words of two stores

take-alike : (n : ℕ) (s t : List ℤ) → n ≤ length s → n ≤ length t → ((i : ℕ) → i < n → get_or s i (pos 0) ≡ get_or t i (pos 0)) → take n s ≡ take n t
take-alike zero s t h k same = refl
take-alike (suc n) [] t h k same = absurd (omega arith)
take-alike (suc n) (x ∷ s) [] h k same = absurd (omega arith)
take-alike (suc n) (x ∷ s) (y ∷ t) h k same =
    ap (λ (v : ℤ). v ∷ take n s) (same 0 (omega arith)) ∙ ap (λ (l : List ℤ). y ∷ l) (take-alike n s t (omega arith) (omega arith) (λ i b. same (suc i) (omega arith)))

same-finished : (run other : Finished) → run.ending ≡ other.ending → run.count ≡ other.count → run.store ≡ other.store → run ≡ other
same-finished run other e c s =
    ap (λ (ending : Ending). record { ending = ending; count = run.count; store = run.store }) e
    ∙ ap (λ (count : ℕ). record { ending = other.ending; count = count; store = run.store }) c
    ∙ ap (λ (store : List ℤ). record { ending = other.ending; count = other.count; store = store }) s

-- Two results that are twins on the first S words show the same.
module _ {All : Words} {π : ℕ → ℕ} (S : ℕ) (outer : (i : ℕ) → i < S → π i ≡ i) (r q : Result Signal) where
  shown-alike : S ≤ length (final r).store → S ≤ length (final q).store → ending_of q ≡ ending_of r → Twin All π (λ i. i < S) (final r) (final q) → shown S (finished q) ≡ shown S (finished r)
  shown-alike h k e t =
      let words : take S (final q).store ≡ take S (final r).store =
      take-alike S (final q).store (final r).store k h (λ i p. ap (λ (j : ℕ). get_or (final q).store j (pos 0)) (sym (outer i p)) ∙ t.values i p) in
      same-finished (shown S (finished q)) (shown S (finished r)) e t.counts words

-- ---- a program, and the renamed one in another

module _ (L : Layout) (rows : List ℤ) (source : SourceRows L rows) where
  abbrev S : ℕ
  S = store_size L

  abbrev D : ℕ
  D = declaration_count rows

  abbrev items : Items
  items = contents (resolved S rows)

  variables-fit : L.variables ≤ S
  unfolding store_size
  variables-fit = omega arith

  -- the final store is as long as the first
  long : (limit : Limit) (m : Computation Signal) (store : List ℤ) → S ≤ length store → S ≤ length (final (run limit m (start store))).store
  long limit m store h = let same = store-keeps-length limit m (start store) in omega arith

  -- the program by itself
  abbrev ran_from : Limit → List ℤ → Result Signal
  ran_from limit store = run limit (exec (context_of L items) (block items)) (start store)

  -- `words` words stand behind the first S in the other program.
  module _ (π φ : ℕ → ℕ) (words : ℕ) (program : Items) (outer : (i : ℕ) → i < S → π i ≡ i) (apart : (i j : ℕ) → i < S + D → j < S + D → π i ≡ π j → i ≡ j) (below : (i : ℕ) → i < S + D → π i < S + words)
      (is_Block : decode (resolved S rows) ≡ block items) (order : CallsInOrder items)
      (same : (f : ℕ) → function_of (φ f) program ≡ renamed_function π φ (function_of f items)) (more : function_count items ≤ function_count program) where
    renames : Renames L (length L.lengths) (Stored L rows) π (Outer L rows) (Outer L rows)
    renames =
        record {
          apart = λ i j a b e. apart i j a b e;
          known = λ i p. omega arith;
          visible = λ i p. p;
          elements = λ array b i least most. let inside : i < S = omega (arith, array-in-store L array b) in (inside, sym (outer i inside));
        }

    -- the renamed program in the other one
    abbrev pub ran_renamed : Limit → List ℤ → Result Signal
    ran_renamed limit store = run limit (exec (context_of L program) (block (renamed_items π φ items))) (start store)

    module _ (left other : List ℤ) (room : S + words ≤ length left) (own : D ≤ length other) where
      front : length (take S left) ≡ S
      front = length-take-le S left (omega arith)

      begins : Twin (Stored L rows) π (Outer L rows) (start (take S left ++ other)) (start left)
      begins =
          twin-start (take S left ++ other) left
          (λ i p. ap (λ (j : ℕ). get_or left j (pos 0)) (outer i p) ∙ sym (get_or-append (take S left) other (pos 0) i (omega (arith, front)) ∙ get_or-take S left i (pos 0) p))
          (λ i (p : Stored L rows i). (rw (length-append (take S left) other, front) (omega arith), (let there = below i p in omega arith)))

      twins : (limit : Limit) → TwinResult (Stored L rows) π (Outer L rows) (Outer L rows) Equal (ran_from limit (take S left ++ other)) (ran_renamed limit left)
      unfolding context_of renamed_statement
      twins limit =
          let enough = program-enough L items order (function_count program) more in
          rw (is_Block, enough) at (scoped-runs (renamed-calls items program same (function-scoped L rows source (Stored L rows) (λ word w. w.most) (Outer L rows) (λ word h. omega (arith, variables-fit))) (function_count program)) renames (decode (resolved S rows))
          (program-scoped L rows source (Stored L rows) (λ word w. w.most) (Outer L rows) (λ word h. omega (arith, variables-fit))) limit (start (take S left ++ other)) (start left) begins)

      -- the same ending, count and first S words
      pub moved-shown : (limit : Limit) → shown S (finished (ran_renamed limit left)) ≡ shown S (finished (ran_from limit (take S left ++ other)))
      moved-shown limit =
          shown-alike {π = π} S outer (ran_from limit (take S left ++ other)) (ran_renamed limit left)
          (long limit _ (take S left ++ other) (omega (arith, length-append (take S left) other, front))) (long limit _ left (omega arith)) (twin-ending (twins limit)) (twin-final (λ i p. p) (twins limit))

      -- and the same signal
      pub moved-gives : (P : Signal → Type 0) (limit : Limit) → Gives P (ran_from limit (take S left ++ other)) → Gives P (ran_renamed limit left)
      moved-gives P limit g = go (ran_from limit (take S left ++ other)) (ran_renamed limit left) (twins limit) g
        where
          go : (r q : Result Signal) → TwinResult (Stored L rows) π (Outer L rows) (Outer L rows) Equal r q → Gives P r → Gives P q
          go r q (twin-ok v t) g = subst P v g
          go r q (twin-stopped t) g = tt
