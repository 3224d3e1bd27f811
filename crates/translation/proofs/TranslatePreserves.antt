-- The translation preserves runs. Demand 3 on trees: with no limit on steps the source's run ends exactly when its translation's does;
-- then both plainly or both with a fault of the same sort, all S words equal, and the kernel's count at most its rows times the
-- source's. From `items-run`, which relates the two runs under `rounds c` for every c, by the laws of limits; calls by `functions-alike`.
use Rattle.std.specs.Prelude.{◌≡◌, refl, Bool, ◌↔◌, ℕ, suc, ◌+◌, ◌*◌, ◌≤◌, ℤ}
use Rattle.std.proofs.Math.Path.{sym, ap}
use Rattle.std.proofs.Common.{◌∙◌, le_trans, arith}
use Rattle.std.proofs.Math.Bool.{false}
use mathlib.Core.List.{List, [], ◌++◌, append-nil}
use Rattle.std.proofs.Math.ListN.{length}
use Rattle.words.specs.Layout.{Layout, store_size}
use Rattle.words.specs.declared.FaultSort.{FaultSort}
use Rattle.computation.specs.Computation.{Computation}
use Rattle.computation.specs.Run.{State, start, spent, fault, Result, ok, stopped, Limit, steps, rounds, run, final, ending_of, Settled}
use Rattle.computation.proofs.RunLaws.{budget-rounds, rounds-budget}
use Rattle.computation.specs.Unlimited.{Ends}
use Rattle.language.specs.Trees.{block, Items}
use Rattle.language.specs.Meaning.{Signal, next, enter, items, perform, exec}
use Rattle.language.specs.Functions.{function_count, context_by, call_by, context_of}
use Rattle.language.specs.Calls.{arity_in}
use Rattle.language.specs.FunctionWrites.{functions_write}
use Rattle.language.specs.Sizes.{statement_rows}
use Rattle.language.specs.WellFormed.{SourceTree}
use Rattle.translation.specs.Translate.{exits, items_code, items_levels, program_levels, program_code, translate, temporaries}
use Rattle.translation.specs.TranslateSize.{program_size}
use Rattle.translation.proofs.TranslateRows.{translation-rows}
use Rattle.translation.specs.Stack.{bottom}
use Rattle.translation.specs.RunThen.{run_then, run_then-run}
use Rattle.translation.specs.Related.{Measure, Setting, source_in, kernel_in, Frame, Logs, logs_none, Related, Stood, Alike, alike_ok, alike_spent, alike_fault, related-ran, related-step, related-stood}
use Rattle.translation.proofs.CallRules.{CallsGo}
use Rattle.translation.proofs.StatementRules.{leads_next}
use Rattle.translation.proofs.StatementPreserves.{items-run}
use Rattle.translation.proofs.FunctionCode.{main_of, main-levels, main-size, main_label, main-label-least, main-named, main-placed, main-calls, items-main, code-main, code-count}
use Rattle.translation.proofs.FunctionPreserves.{setting_at, function-in, goes-below, functions-alike}

-- ---- what is shown

-- The kernel's store is the source's words and then T temporaries; and the kernel made at most `rows` steps to a source step.
pub record SameWords (rows T : ℕ) (source kernel : State) : Type 0 where
  -- what the temporaries hold then
  pub left : List ℤ
  pub left_are : length left ≡ T
  pub same_words : kernel.store ≡ source.store ++ left
  pub few_steps : kernel.count ≤ rows * source.count

-- Two results next to each other: both ended plainly, both with a fault of one sort, or neither ended.
pub data SameEnd (rows T : ℕ) : Result Signal → Result Signal → Type 0 where
  both_plain : {s t : Signal} {σ κ : State} → SameWords rows T σ κ → SameEnd rows T (ok s σ) (ok t κ)
  both_fault : {sort : FaultSort} {σ κ : State} → SameWords rows T σ κ → SameEnd rows T (stopped (fault sort) σ) (stopped (fault sort) κ)
  neither : {σ κ : State} → SameEnd rows T (stopped spent σ) (stopped spent κ)

-- What a program does, and what its translation does: each is read in its own context.
abbrev pub source_program : Layout → Items → Computation Signal
source_program L program = exec (context_of L program) (block program)

abbrev pub kernel_program : Layout → ℕ → Items → Computation Signal
kernel_program L first program = source_program L (translate first program)

-- The two runs under a limit, from a store and any content of the temporaries, which begin at the store word `first`.
abbrev pub source_run : Layout → Items → List ℤ → Limit → Result Signal
source_run L program store limit = run limit (source_program L program) (start store)

abbrev pub kernel_run : Layout → ℕ → Items → List ℤ → List ℤ → Limit → Result Signal
kernel_run L first program store temporaryWords limit = run limit (kernel_program L first program) (start (store ++ temporaryWords))

-- Demand 3 for a program, a store and temporaries.
pub record SharedFate (L : Layout) (first : ℕ) (program : Items) (store temporaryWords : List ℤ) : Type 0 where
  -- With no limit on steps, the source's run ends exactly when the kernel's does.
  pub ends_together : Ends (source_program L program) (start store) ↔ Ends (kernel_program L first program) (start (store ++ temporaryWords))
  -- For any two budgets that are enough: the same ending, equal words, and a bound on the kernel's count.
  pub same_ending : (b d : ℕ) → Settled (source_run L program store (steps b)) → Settled (kernel_run L first program store temporaryWords (steps d))
      → ending_of (kernel_run L first program store temporaryWords (steps d)) ≡ ending_of (source_run L program store (steps b))
  pub same_state : (b d : ℕ) → Settled (source_run L program store (steps b)) → Settled (kernel_run L first program store temporaryWords (steps d))
      → SameWords (statement_rows (block (translate first program))) (length temporaryWords) (final (source_run L program store (steps b))) (final (kernel_run L first program store temporaryWords (steps d)))
  -- The kernel's rows times the source's count is a budget that is enough.
  pub enough : (b d : ℕ) → Settled (source_run L program store (steps b)) → statement_rows (block (translate first program)) * (final (source_run L program store (steps b))).count ≤ d
      → Settled (kernel_run L first program store temporaryWords (steps d))

-- ---- proof

module _ {rows T : ℕ} where
  there : {r q : Result Signal} → SameEnd rows T r q → Settled r → Settled q
  there (both_plain w) s = tt
  there (both_fault w) s = tt
  there neither s = s

  back : {r q : Result Signal} → SameEnd rows T r q → Settled q → Settled r
  back (both_plain w) s = tt
  back (both_fault w) s = tt
  back neither s = s

  ending : {r q : Result Signal} → SameEnd rows T r q → ending_of q ≡ ending_of r
  ending (both_plain w) = refl
  ending (both_fault w) = refl
  ending neither = refl

  words : {r q : Result Signal} → SameEnd rows T r q → Settled r → SameWords rows T (final r) (final q)
  words (both_plain w) s = w
  words (both_fault w) s = w
  words neither s = absurd s

stood-words : {μ : Measure} {σ κ : State} → Stood μ σ κ → SameWords μ.rate μ.behind σ κ
stood-words n = record { left = n.left; left_are = n.left_words; same_words = n.stores; few_steps = n.few_steps }

data Ended (μ : Measure) : Signal → Signal → State → State → Type 0 where
  ended : {s t : Signal} {σ κ : State} → Stood μ σ κ → Ended μ s t σ κ

-- The logs of the two runs under one limit.
pub record Logged (rows S : ℕ) (r q : Result Signal) : Type 0 where
  pub measured : Measure
  pub rate_is : measured.rate ≡ rows
  pub words_are : measured.words ≡ S
  pub logs : Logs measured (final r).writes (final q).writes

alike-logs : {μ : Measure} {r q : Result Signal} → Alike μ (Ended μ) r q → Logs μ (final r).writes (final q).writes
alike-logs (alike_ok (ended n)) = n.logs
alike-logs (alike_spent l) = l
alike-logs (alike_fault n) = n.logs

same_end : {μ : Measure} {r q : Result Signal} → Alike μ (Ended μ) r q → SameEnd μ.rate μ.behind r q
same_end (alike_ok (ended n)) = both_plain (stood-words n)
same_end (alike_spent l) = neither
same_end (alike_fault n) = both_fault (stood-words n)

module _ (L : Layout) (first : ℕ) (inside : store_size L ≤ first) (program : Items) (store temporaryWords : List ℤ) (tree : SourceTree L first program) (all_words : length store ≡ first) (enough : temporaries program ≤ length temporaryWords) where
  abbrev Rows : ℕ
  Rows = statement_rows (block (translate first program))

  abbrev called : ℕ → ℕ → Bool
  called = functions_write program

  abbrev measure : Measure
  measure = record { words = first; behind = length temporaryWords; rate = Rows }

  room : program_levels called program ≤ length temporaryWords
  unfolding temporaries
  room = enough

  sized : 1 + program_size called program ≤ Rows
  sized = omega (arith, translation-rows first program)

  all-calls : function_count program ≤ function_count program
  all-calls = omega arith

  -- The setting of the whole program, under `rounds c`.
  abbrev setting : ℕ → Setting
  setting c = setting_at L first inside program tree (length temporaryWords) Rows c room sized (function_count program) all-calls

  -- The frame of the main part: nothing is held below its temporaries.
  frame : (c : ℕ) → Frame (setting c)
  unfolding setting_at
  frame c = record {
    under = [];
    first = first;
    first_is = omega arith;
    temporaries = items_levels called (main_of program);
    room = length temporaryWords;
    fits = omega (arith, main-levels called first program, room);
    all_words = omega arith;
  }

  main-goes : (c : ℕ) → CallsGo (frame c) (function_count program)
  unfolding setting_at frame
  main-goes c = goes-below L first inside program tree (length temporaryWords) Rows c room sized (function_count program) all-calls (frame c) (function_count program) (omega arith)
      (λ f h. (function-in L first inside program tree (length temporaryWords) Rows c room sized f h).above)
      (λ C D R f h values. functions-alike L first inside program tree (length temporaryWords) Rows c room sized (function_count program) all-calls (frame c) {C = C} {D = D} {R = R} f h values)

  -- Both run their main part, behind the step of the block.
  source_is : (c : ℕ) → source_program L program ≡ enter (items (source_in (setting c)) (main_of program) next)
  unfolding perform context_of setting_at
  source_is c = ap enter (items-main called first (source_in (setting c)) program next)

  abbrev main_code : Items
  main_code = items_code called first (main_of program) (exits 0 0) (main_label called first program 1)

  kernel-is : (c : ℕ) → kernel_program L first program ≡ enter (items (kernel_in (setting c)) main_code next)
  unfolding perform context_of setting_at translate
  kernel-is c =
      let code = program_code called first program 1 in
      ap (λ (n : ℕ). exec (context_by L (call_by n L code)) (block code)) (code-count called first program 1 tree.placed) ∙ ap enter (code-main called first (kernel_in (setting c)) program 1 next)

  alike-main : (c : ℕ) → Alike measure (Ended measure) (run (rounds c) (enter (items (source_in (setting c)) (main_of program) next)) (start store)) (run (rounds c) (enter (items (kernel_in (setting c)) main_code next)) (start (store ++ temporaryWords)))
  unfolding run_then setting_at frame
  alike-main c =
      let fr = frame c in
      let at-start : Related fr bottom 0 (start store) (start (store ++ temporaryWords)) = record { spare = temporaryWords; stores = sym (ap (λ (l : List ℤ). l ++ temporaryWords) (append-nil store)); source_words = all_words; kernel_words = omega arith; cost = omega arith; logs = logs_none } in
      rw (← run_then-run c (enter (items (source_in (setting c)) (main_of program) next)) (start store), ← run_then-run c (enter (items (kernel_in (setting c)) main_code next)) (start (store ++ temporaryWords)))
      ((items-run fr (arity_in program) (function_count program) (main-goes c) (main_of program) (exits 0 0) (main_label called first program 1) false false false false (omega (arith, main-label-least called first program 1))
      (main-named called first L program tree.named) (main-calls called first (arity_in program) (function_count program) program tree.calls.main) (main-placed called first program tree.placed) (omega arith) (omega (arith, main-size called first program, sized))
      ).runs next next leads_next 0 _ _ _ _ (related-ran _ (omega arith) (related-step {y = 1} (omega (arith, sized)) at-start)) (λ t u τ ν w m. alike_ok (ended (related-stood m))))

  alike-rounds : (c : ℕ) → Alike measure (Ended measure) (source_run L program store (rounds c)) (kernel_run L first program store temporaryWords (rounds c))
  alike-rounds c = rw (source_is c, kernel-is c) (alike-main c)

  -- The relation under `rounds c`, for every c: runs that do not end are cut off together.
  pub runs-alike : (c : ℕ) → SameEnd Rows (length temporaryWords) (source_run L program store (rounds c)) (kernel_run L first program store temporaryWords (rounds c))
  runs-alike c = same_end (alike-rounds c)

  -- Under `rounds c` both have made the same writes, cut off or not.
  pub runs-logged : (c : ℕ) → Logged Rows first (source_run L program store (rounds c)) (kernel_run L first program store temporaryWords (rounds c))
  runs-logged c = record { measured = measure; rate_is = refl; words_are = refl; logs = alike-logs (alike-rounds c) }

  same-limits : (b d : ℕ) → Settled (source_run L program store (steps b)) → Settled (kernel_run L first program store temporaryWords (steps d))
      → SameEnd Rows (length temporaryWords) (source_run L program store (steps b)) (kernel_run L first program store temporaryWords (steps d))
  same-limits b d s t =
      rw (← budget-rounds (source_program L program) (start store) b (suc (b + d)) (omega arith) s, ← budget-rounds (kernel_program L first program) (start (store ++ temporaryWords)) d (suc (b + d)) (omega arith) t)
      (runs-alike (suc (b + d)))

  kernel-enough : (b d : ℕ) → Settled (source_run L program store (steps b)) → Rows * (final (source_run L program store (steps b))).count ≤ d → Settled (kernel_run L first program store temporaryWords (steps d))
  kernel-enough b d s most =
      let a : SameEnd Rows (length temporaryWords) (source_run L program store (steps b)) (kernel_run L first program store temporaryWords (rounds (suc b)))
      = rw (← budget-rounds (source_program L program) (start store) b (suc b) (omega arith) s) (runs-alike (suc b)) in
      rw (rounds-budget (kernel_program L first program) (start (store ++ temporaryWords)) (suc b) d (there a s) (le_trans (words a s).few_steps most)) (there a s)

  source-ends : Ends (kernel_program L first program) (start (store ++ temporaryWords)) → Ends (source_program L program) (start store)
  source-ends e =
      let c = suc e.budget in
      let k : Settled (kernel_run L first program store temporaryWords (rounds c)) = rw (budget-rounds (kernel_program L first program) (start (store ++ temporaryWords)) e.budget c (omega arith) e.settled) e.settled in
      let s : Settled (source_run L program store (rounds c)) = back (runs-alike c) k in
      let b = (final (source_run L program store (rounds c))).count in
      record { budget = b; settled = rw (rounds-budget (source_program L program) (start store) c b s (omega arith)) s }

  kernel-ends : Ends (source_program L program) (start store) → Ends (kernel_program L first program) (start (store ++ temporaryWords))
  kernel-ends e =
      let d = Rows * (final (source_run L program store (steps e.budget))).count in
      record { budget = d; settled = kernel-enough e.budget d e.settled (omega arith) }

  -- Demand 3, for every source program, every store of as many words as stand before the temporaries, and every content of the temporaries.
  pub translation-preserves : SharedFate L first program store temporaryWords
  translation-preserves = record {
    ends_together = (kernel-ends, source-ends);
    same_ending = λ b d s t. ending (same-limits b d s t);
    same_state = λ b d s t. words (same-limits b d s t) s;
    enough = kernel-enough;
  }
