-- Two runs of a translation that start alike but for the temporaries show the same. The code of a function is blind as that of the main part is, by
-- induction on the calls within calls: what is known where a function is called stays known.
use Rattle.std.specs.Prelude.{◌≡◌, refl, Bool, true, false, eqb, ℤ, pos, length, get_or, take}
use Rattle.std.proofs.Common.{sym, ◌∙◌, ap, arith, length-append}
use mathlib.Core.List.{List, [], ◌∷◌, ◌++◌}
use Prim.Native.Nat.{ℕ, zero, suc, ◌+◌, ◌≤◌, ◌<◌}
use Rattle.std.proofs.Math.ListN.{get_or-append}
use Rattle.words.specs.Word.{pick}
use Rattle.words.specs.Layout.{Layout, store_size}
use Rattle.words.specs.Laws.{array-in-store}
use Rattle.computation.specs.Computation.{Computation}
use Rattle.computation.specs.Run.{spent, fault, State, Result, start, final, ending_of}
use Rattle.computation.specs.Agreement.{Words, ◌within◌, Agree}
use Rattle.computation.proofs.AgreementLaws.{Same, same_ok, same-stopped, Blind, blind-ret, blind-then, blind-step, blind-save}
use Rattle.language.specs.Trees.{block, Items, none, ◌then◌, ◌here◌, define}
use Rattle.language.specs.Meaning.{Signal, next, breaking, continuing, seeking, returning, perform, exec}
use Rattle.language.specs.Functions.{Function, function_of, function_count, storing, returned, invoke, context_by, call_by, context_of}
use Rattle.language.specs.FunctionWrites.{functions_write}
use Rattle.language.specs.WellFormed.{NamedItems, SourceName, SourceTree}
use Rattle.translation.specs.Translate.{exits, items_labels, items_code, program_levels, program_code, translate}
use Rattle.translation.proofs.PassedCode.{labelled-items, labelled-count}
use Rattle.translation.proofs.FunctionCode.{main_of, main_label, main-named, code-main}
use Rattle.translation_form.specs.BlindCode.{Ground, after, BlindItems, items-none}
use Rattle.translation_form.specs.TranslateBlind.{items-blind}

-- Fewer words seen where a run stops.
pub blind-fewer : {A : Type 0} {few many P : Words} {Q : A → Words} {m : Computation A} → few within many → Blind many P Q m → Blind few P Q m
blind-fewer {A} {few} {many} {Q = Q} h b = record { same = λ l σ τ g. fewer (b.same l σ τ g) }
  where
    fewer : {r q : Result A} → Same many Q r q → Same few Q r q
    fewer (same_ok g) = same_ok g
    fewer (same-stopped g) = same-stopped (record { counts = g.counts; lengths = g.lengths; values = λ i v. g.values i (h i v) })

-- A list without definitions has no function.
pub no-function : (f : ℕ) (is : Items) → function_count is ≡ 0 → function_of f is ≡ record { parameters = []; body = none }
unfolding function_count function_of
no-function f none e = refl
no-function f (s then is) e = no-function f is e
no-function f (m here is) e = no-function f is e
no-function f (define g words body is) e = absurd (omega arith)

module _ (L : Layout) (first : ℕ) (inside : store_size L ≤ first) where
  -- What the dispatcher sees.
  abbrev Visible : Words
  Visible i = i < first

  -- Calls that leave known what is known, whatever that is.
  abbrev CallsBlind : (ℕ → List ℤ → Computation ℤ) → Type 1
  CallsBlind calling = (f : ℕ) (values : List ℤ) (P : Words) → Visible within P → Blind P P (λ _. P) (calling f values)

  abbrev ground : (calling : ℕ → List ℤ → Computation ℤ) → CallsBlind calling → (P : Words) → Visible within P → Ground
  ground calling calls P seen = record {
    context = context_by L calling;
    known = P;
    calls_blind = λ f values Q more. blind-fewer more (calls f values Q (λ i v. more i (seen i v)));
  }

  module _ (calling : ℕ → List ℤ → Computation ℤ) (calls : CallsBlind calling) (P : Words) (seen : Visible within P) where
    abbrev G : Ground
    G = ground calling calls P seen

    -- The code of items, with the temporaries anywhere.
    code-blind : (called : ℕ → ℕ → Bool) (S : ℕ) (is : Items) (l : ℕ) → NamedItems (SourceName L first) (length L.lengths) is → BlindItems G P P (items_code called S is (exits 0 0) l)
    code-blind called S is l h =
        items-blind G L first seen (λ array a i b. seen i (omega (arith, array-in-store L array a))) called S is (exits 0 0) l h

    -- Whatever the signal, P is known.
    known-after : (signal : Signal) → P within after G P signal
    known-after next i p = p
    known-after breaking i p = p
    known-after continuing i p = p
    known-after (seeking m) i p = p
    known-after (returning v) i p = p

    storing-blind : (words : List ℕ) (values : List ℤ) → Blind P P (λ _. P) (storing words values)
    unfolding storing
    storing-blind [] values = blind-ret P tt (λ i p. p)
    storing-blind (word ∷ words) [] = blind-then P (blind-save P word (pos 0) (λ j p d. p)) (λ _. storing-blind words [])
    storing-blind (word ∷ words) (v ∷ values) = blind-then P (blind-save P word v (λ j p d. p)) (λ _. storing-blind words values)

    invoke-blind : (function : Function) (values : List ℤ) → BlindItems G P P function.body → Blind P P (λ _. P) (invoke (context_by L calling) function values)
    unfolding invoke perform
    invoke-blind function values body =
        blind-then P (storing-blind function.parameters values) (λ _. blind-then P (blind-then P (blind-step P (λ i p. p)) (λ _. body.blind next)) (λ signal. blind-ret P (returned signal) (known-after signal)))

    -- The functions of a program's code.
    function-blind : (called : ℕ → ℕ → Bool) (program : Items) (l f : ℕ) → NamedItems (SourceName L first) (length L.lengths) program → BlindItems G P P (function_of f (program_code called first program l)).body
    unfolding function_of program_code NamedItems
    function-blind called none l f h = items-none G
    function-blind called (s then is) l f h = rw (no-function f (items_code called first (s then is) (exits 0 0) l) (labelled-count (labelled-items called first (s then is) (exits 0 0) l))) (items-none G)
    function-blind called (m here is) l f h = rw (no-function f (items_code called first (m here is) (exits 0 0) l) (labelled-count (labelled-items called first (m here is) (exits 0 0) l))) (items-none G)
    function-blind called (define g words body is) l f h = by (eqb f g) (function-blind called is (l + items_labels body) f h.2)
      where
        own : Function
        own = record { parameters = words; body = items_code called (first + program_levels called is) body (exits 0 0) l }

        by : (same : Bool) → BlindItems G P P (function_of f (program_code called first is (l + items_labels body))).body
            → BlindItems G P P (pick same own (function_of f (program_code called first is (l + items_labels body)))).body
        by true rest = code-blind called (first + program_levels called is) body l h.1
        by false rest = rest

  module _ (program : Items) (tree : SourceTree L first program) where
    abbrev code : Items
    code = translate first program

    pub calls_blind : (calls : ℕ) → CallsBlind (call_by calls L code)
    unfolding call_by translate
    calls_blind zero f values P seen = blind-ret P (pos 0) (λ i p. p)
    calls_blind (suc calls) f values P seen =
        invoke-blind (call_by calls L code) (calls_blind calls) P seen (function_of f code) values (function-blind (call_by calls L code) (calls_blind calls) P seen (functions_write program) program 1 f tree.named)

    abbrev main_ground : Ground
    main_ground = ground (call_by (function_count code) L code) (calls_blind (function_count code)) Visible (λ i v. v)

    pub translated-blind : Blind Visible Visible (after main_ground Visible) (exec (context_of L code) (block code))
    unfolding translate perform context_of
    translated-blind =
        blind-then Visible (blind-step Visible (λ i v. v)) (λ _. rw (code-main (functions_write program) first (context_of L code) program 1 next)
        ((code-blind (call_by (function_count code) L code) (calls_blind (function_count code)) Visible (λ i v. v) (functions_write program) first (main_of program) (main_label (functions_write program) first program 1)
        (main-named (functions_write program) first L program tree.named)).blind next))

-- ---- two runs of a translation that start alike but for the temporaries

-- The same ending, the same first S words, the same count.
pub record Shown (S : ℕ) (r q : Result Signal) : Type 0 where
  pub same_ending : ending_of r ≡ ending_of q
  pub same_words : take S (final r).store ≡ take S (final q).store
  pub same_count : (final r).count ≡ (final q).count

pub take_same : (n : ℕ) (s t : List ℤ) → length s ≡ length t → ((i : ℕ) → i < n → get_or s i (pos 0) ≡ get_or t i (pos 0)) → take n s ≡ take n t
take_same zero s t e h = refl
take_same (suc n) [] [] e h = refl
take_same (suc n) [] (y ∷ t) e h = absurd (omega arith)
take_same (suc n) (x ∷ s) [] e h = absurd (omega arith)
take_same (suc n) (x ∷ s) (y ∷ t) e h = ap (λ (v : ℤ). v ∷ take n s) (h 0 (omega arith)) ∙ ap (λ (l : List ℤ). y ∷ l) (take_same n s t (omega arith) (λ i b. h (suc i) (omega arith)))

-- The temporaries begin at the store word `S`.
module _ (L : Layout) (S : ℕ) (inside : store_size L ≤ S) (program : Items) (tree : SourceTree L S program) (store : List ℤ) (All-words : length store ≡ S) where
  pub start-agree : (temporaries others : List ℤ) → length temporaries ≡ length others → Agree (Visible L S inside) (start (store ++ temporaries)) (start (store ++ others))
  start-agree temporaries others e = record {
    counts = refl;
    lengths = omega (arith, length-append store temporaries, length-append store others);
    values = λ i k. get_or-append store temporaries (pos 0) i (omega arith) ∙ sym (get_or-append store others (pos 0) i (omega arith));
  }

  pub shown : {r q : Result Signal} → Same (Visible L S inside) (after (main_ground L S inside program tree) (Visible L S inside)) r q → Shown S r q
  shown (same_ok {a = signal} {σ} {τ} g) = let a : Agree (Visible L S inside) σ τ = seen signal σ τ g in record { same_ending = refl; same_words = take_same S _ _ a.lengths a.values; same_count = a.counts }
    where
      seen : (signal : Signal) (σ τ : State) → Agree (after (main_ground L S inside program tree) (Visible L S inside) signal) σ τ → Agree (Visible L S inside) σ τ
      seen next σ τ g = g
      seen breaking σ τ g = g
      seen continuing σ τ g = g
      seen (seeking m) σ τ g = g
      seen (returning v) σ τ g = g
  shown (same-stopped {why = spent} g) = record { same_ending = refl; same_words = take_same S _ _ g.lengths g.values; same_count = g.counts }
  shown (same-stopped {why = fault sort} g) = record { same_ending = refl; same_words = take_same S _ _ g.lengths g.values; same_count = g.counts }
