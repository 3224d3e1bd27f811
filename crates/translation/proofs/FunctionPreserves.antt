-- Every call and the kernel's go alike: the parameters are stored in both, then the block runs in a frame of its own, behind what the callers hold. By
-- induction on the calls within calls, both programs with as many.
use Rattle.std.specs.Prelude.{◌≡◌, refl, Bool, ℤ, pos, length}
use Rattle.std.proofs.Common.{ap, le_trans}
use Rattle.std.proofs.Math.Bool.{true, false}
use mathlib.Core.List.{List, [], ◌∷◌}
use Prim.Native.Nat.{ℕ, zero, suc, ◌+◌, ◌≤◌, ◌<◌}
use native.Mathlib.Omega.{arith}
use Rattle.words.specs.Layout.{Layout, store_size}
use Rattle.words.specs.Laws.{array-in-store}
use Rattle.computation.specs.Computation.{Computation, ret, ◌>>=◌, ◌>>◌}
use Rattle.computation.specs.Run.{State, Result}
use Rattle.language.specs.Trees.{block, Items}
use Rattle.language.specs.Meaning.{Signal, next, perform, exec}
use Rattle.language.specs.Functions.{Function, function_of, function_count, storing, returned, invoke, context_by, call_by}
use Rattle.language.specs.Calls.{arity_in}
use Rattle.language.specs.FunctionWrites.{functions_write}
use Rattle.language.proofs.FunctionUntouched.{function-leaves}
use Rattle.language.specs.WellFormed.{NamedWords, SourceName, SourceTree}
use Rattle.translation.specs.Translate.{Exits, exits, items_code, items_levels, program_levels, program_code, translate}
use Rattle.translation.specs.TranslateSize.{program_size}
use Rattle.translation.specs.Stack.{Stack, bottom}
use Rattle.translation.specs.RunThen.{run_then}
use Rattle.translation.specs.Related.{Measure, Setting, Frame, Related, Alike, related-save, related-step, related-ran}
use Rattle.translation.proofs.Held.{source}
use Rattle.translation.proofs.CallRules.{raised, CallsAlike, CallsGo}
use Rattle.translation.proofs.StatementRules.{Leads, leads_next, leads_break, leads_continue, leads_return}
use Rattle.translation.proofs.StatementPreserves.{items-run}
use Rattle.translation.proofs.FunctionCode.{place_of, FunctionAt, function-at, places-in-order}

-- ---- the parameters

module _ {setting : Setting} (fr : Frame setting) {C D : Type 0} {R : C → D → State → State → Type 0} where
  stored : {F : Stack ℤ} {x : ℕ} (words : List ℕ) (values : List ℤ) (arrays : ℕ) → NamedWords (SourceName setting.layout setting.measure.words) arrays words
      → (σ κ : State) (f : Unit {0} → State → Result C) (g : Unit {0} → State → Result D) → Related fr F x σ κ
      → ((τ ν : State) → Related fr F x τ ν → Alike setting.measure R (f tt τ) (g tt ν)) → Alike setting.measure R (source fr (storing words values) σ f) (source fr (storing words values) κ g)
  unfolding run_then storing
  stored [] values arrays h σ κ f g n k = k σ κ n
  stored (i ∷ words) [] arrays h σ κ f g n k = stored words [] arrays h.1 _ _ f g (related-save i (pos 0) h.0.inside n) k
  stored (i ∷ words) (v ∷ values) arrays h σ κ f g n k = stored words values arrays h.1 _ _ f g (related-save i v h.0.inside n) k

-- Whatever a block ends with, both give the same value back.
gives_back : {x : Exits} {t u : Signal} → Leads x t u → returned u ≡ returned t
gives_back leads_next = refl
gives_back leads_break = refl
gives_back leads_continue = refl
gives_back leads_return = refl

-- ---- the functions of a program

-- The words behind the source's are `behind`, enough for the program's temporaries; `rate` kernel steps go to a source step.
module _ (L : Layout) (first : ℕ) (inside : store_size L ≤ first) (program : Items) (tree : SourceTree L first program) (behind rate rounds : ℕ)
    (enough : program_levels (functions_write program) program ≤ behind) (sized : 1 + program_size (functions_write program) program ≤ rate) where
  abbrev called : ℕ → ℕ → Bool
  called = functions_write program

  abbrev code : Items
  code = program_code called first program 1

  abbrev measure : Measure
  measure = record { words = first; behind = behind; rate = rate }

  -- With so many calls within calls.
  unfoldable pub setting_at : (calls : ℕ) → calls ≤ function_count program → Setting
  setting_at calls few = record {
    layout = L;
    source_calls = call_by calls L program;
    kernel_calls = call_by calls L code;
    called = called;
    leaves = λ i apart f values n. function-leaves L program i apart calls f values few n;
    measure = measure;
    rounds = rounds;
    arrays_inside = λ array h. le_trans (array-in-store L array h) inside;
  }

  -- Where f's temporaries begin, and how many it has.
  abbrev pub place_in : ℕ → ℕ
  place_in f = place_of called first program f

  abbrev pub levels_in : ℕ → ℕ
  levels_in f = items_levels called (function_of f program).body

  pub function-in : (f : ℕ) → f < function_count program → FunctionAt called first L program 1 (function_of f program) (function_of f code) (place_in f)
  function-in f few = function-at called first L program 1 0 f tree.calls.numbered tree.named tree.placed (omega arith) (omega arith)

  module _ (calls others : ℕ) (few : calls ≤ function_count program) (fewer : others ≤ function_count program) where
    -- A frame is the same with any number of calls within calls, and so are related states.
    unfoldable reframed : Frame (setting_at calls few) → Frame (setting_at others fewer)
    unfolding setting_at
    reframed fr = record { under = fr.under; first = fr.first; first_is = fr.first_is; temporaries = fr.temporaries; room = fr.room; fits = fr.fits; all_words = fr.all_words }

    there : {fr : Frame (setting_at calls few)} {F : Stack ℤ} {x : ℕ} {σ κ : State} → Related fr F x σ κ → Related (reframed fr) F x σ κ
    unfolding setting_at reframed
    there n = record { spare = n.spare; stores = n.stores; source_words = n.source_words; kernel_words = n.kernel_words; cost = n.cost; logs = n.logs }

    back : {fr : Frame (setting_at calls few)} {F : Stack ℤ} {x : ℕ} {σ κ : State} → Related (reframed fr) F x σ κ → Related fr F x σ κ
    unfolding setting_at reframed
    back n = record { spare = n.spare; stores = n.stores; source_words = n.source_words; kernel_words = n.kernel_words; cost = n.cost; logs = n.logs }

  -- What is known of the functions below `limit`, from calls that go alike.
  pub goes-below : (calls : ℕ) (few : calls ≤ function_count program) (fr : Frame (setting_at calls few)) (limit : ℕ) → limit ≤ function_count program → ((f : ℕ) → f < limit → fr.first + fr.temporaries ≤ place_in f)
      → ((C D : Type 0) (R : C → D → State → State → Type 0) (f : ℕ) → f < function_count program → (values : List ℤ) → CallsAlike fr R (place_in f) (levels_in f) (call_by calls L program f values) (call_by calls L code f values))
      → CallsGo fr limit
  unfolding setting_at
  goes-below calls few fr limit most above alike = record {
    begin = place_in;
    own = levels_in;
    above = above;
    inside = λ f h. omega (arith, (function-in f (omega arith)).inside, fr.first_is, fr.all_words);
    alike = λ {C} {D} {R} f h values. alike C D R f (omega arith) values;
  }

  pub functions-alike : (calls : ℕ) (few : calls ≤ function_count program) (fr : Frame (setting_at calls few)) {C D : Type 0} {R : C → D → State → State → Type 0} (f : ℕ) → f < function_count program → (values : List ℤ)
      → CallsAlike fr R (place_in f) (levels_in f) (call_by calls L program f values) (call_by calls L code f values)
  unfolding call_by invoke perform setting_at reframed run_then
  functions-alike zero few fr f h values = record { calls = λ more room at e fits x σ κ k g n follows. follows (pos 0) σ κ n }
  functions-alike (suc calls) few fr f h values =
      let fewer : calls ≤ function_count program = omega arith in
      let known = function-in f h in
      record {
        calls = λ more room at e fits x σ κ k g n follows.
            let own = raised fr more (place_in f) (levels_in f) room at e fits in
            let inner = reframed (suc calls) calls few fewer own in
            let below = goes-below calls fewer inner f (omega arith) (λ g less. places-in-order called first L program 0 f g tree.calls.numbered tree.named tree.placed (omega arith) less (omega arith)) (λ C D R g most values. functions-alike calls fewer inner {C = C} {D = D} {R = R} g most values) in
            rw known.code_is (stored inner (function_of f program).parameters values (length L.lengths) known.words-named σ κ _ _ (there (suc calls) calls few fewer n) λ τ ν m.
            (items-run inner (arity_in program) f below (function_of f program).body (exits 0 0) known.label true false false false (omega (arith, known.label-least)) known.named (tree.calls.lower f h) known.placed (omega arith) (omega (arith, known.small))
            ).runs next next leads_next x _ _ _ _ (related-ran _ (omega arith) (related-step {y = suc x} (omega arith) m)) (λ t u τ ν w m. rw (gives_back w) (follows _ _ _ (back (suc calls) calls few fewer m))));
      }
