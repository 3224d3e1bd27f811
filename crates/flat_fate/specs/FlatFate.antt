-- Equal fate: with no limit on steps the flat run and the kernel run both end or neither does; if they end, ending and every store word
-- agree. From Follows, under every number of rounds, and since the flat run is determined.
use Rattle.std.specs.Prelude.{◌≡◌, refl, false, ◌↔◌, List, [], ◌∷◌, ℕ, zero, suc, ◌+◌, ◌<◌, ℤ, length}
use Rattle.std.proofs.Common.{sym, ◌∙◌, ap, arith, zero-add, suc-add, add-suc}
use Rattle.words.specs.Layout.{Layout}
use Rattle.words.specs.declared.Ending.TheVariants.{Plain, Spent, Fault}
use Rattle.computation.specs.Run.{State, start, stepped, spent, fault, Result, ok, stopped, Limit, steps, rounds, run, final, ending_of, Settled}
use Rattle.computation.proofs.RunLaws.{budget-rounds, rounds-budget}
use Rattle.computation.specs.Unlimited.{Ends}
use Rattle.language.specs.Trees.{block, Items, none}
use Rattle.language.specs.Functions.{plain}
use Rattle.language.specs.Meaning.{Signal, next, perform, exec}
use Rattle.language.specs.Program.{Finished}
use Rattle.translation.specs.KernelForm.{KernelItems, kernel_main}
use Rattle.accepted.specs.Gives.{Gives}
use Rattle.accepted_kernel.specs.Jumps.{program-lands}
use Rattle.flat.specs.Lines.{FlatLine, Next, goes, faults, ends, next_at, stop, follow, run_from}
use Rattle.flat_fate.specs.Stands.{StandsItems}
use Rattle.flat_fate.specs.Follows.{Reaches, stay, on, moves-on, moves-to, Follows, follows-ok, follows-fault, follows-spent, items-follows}

module _ (L : Layout) (lines : List FlatLine) (address : ℕ → ℕ) where
  -- ---- what the flat run makes of lines that it reaches

  run-reaches : {i k n : ℕ} {s t : List ℤ} → Reaches L lines address i s n k t → (left count : ℕ) → run_from L lines (n + left) count i s ≡ run_from L lines left (n + count) k t
  run-reaches {i} {s = s} stay left count = rw (zero-add, zero-add)
  run-reaches {i} {n = suc n} {s = s} (on {j = j} {t = t} e p) left count =
      rw (suc-add) (ap (λ q. follow (λ j t. run_from L lines (n + left) (suc count) j t) count s q) e ∙ run-reaches p left (suc count) ∙ rw (add-suc, suc-add))

  run-spent : {i k n : ℕ} {s t : List ℤ} → Reaches L lines address i s n k t → (b count : ℕ) → b < n → (run_from L lines b count i s).ending ≡ Spent
  run-spent stay b count h = absurd (omega arith)
  run-spent {s = s} (on e p) zero count h = ap (λ q. (stop count s q).ending) e
  run-spent {s = s} (on {j = j} {t = t} e p) (suc b) count h = ap (λ q. (follow (λ j t. run_from L lines b (suc count) j t) count s q).ending) e ∙ run-spent p b (suc count) (omega arith)

  past_end : (xs : List FlatLine) (i : ℕ) (s : List ℤ) → next_at L xs (length xs) i s ≡ ends
  past_end [] i s = refl
  past_end (x ∷ xs) i s = past_end xs i s

  -- just past the last line the run has ended, whatever is left of the budget
  ended : (left count : ℕ) (s : List ℤ) → run_from L lines left count (length lines) s ≡ record { ending = Plain; count = count; store = s }
  ended zero count s = ap (λ q. stop count s q) (past_end lines (length lines) s)
  ended (suc left) count s = ap (λ q. follow (λ j t. run_from L lines left (suc count) j t) count s q) (past_end lines (length lines) s)

  -- A flat run that ended with d lines is the same with every larger budget.
  wider-stop : (more : ℕ → List ℤ → Finished) (count : ℕ) (s : List ℤ) (q : Next) → ((stop count s q).ending ≡ Spent → ⊥) → follow more count s q ≡ stop count s q
  wider-stop more count s (goes j t) h = absurd (h refl)
  wider-stop more count s (faults sort) h = absurd (h refl)
  wider-stop more count s ends h = refl

  wider-follow : (more other : ℕ → List ℤ → Finished) (count : ℕ) (s : List ℤ) (q : Next) → ((follow other count s q).ending ≡ Spent → ⊥)
      → ((j : ℕ) (t : List ℤ) → ((other j t).ending ≡ Spent → ⊥) → more j t ≡ other j t) → follow more count s q ≡ follow other count s q
  wider-follow more other count s (goes j t) h k = k j t h
  wider-follow more other count s (faults sort) h k = refl
  wider-follow more other count s ends h k = refl

  flat-wider : (d left : ℕ) (i count : ℕ) (s : List ℤ) → ((run_from L lines d count i s).ending ≡ Spent → ⊥) → run_from L lines (d + left) count i s ≡ run_from L lines d count i s
  flat-wider zero zero i count s h = ap (λ (m : ℕ). run_from L lines m count i s) (zero-add zero)
  flat-wider zero (suc left) i count s h = ap (λ (m : ℕ). run_from L lines m count i s) (zero-add (suc left)) ∙ wider-stop (λ j t. run_from L lines left (suc count) j t) count s (next_at L lines i i s) h
  flat-wider (suc d) left i count s h = ap (λ (m : ℕ). run_from L lines m count i s) (suc-add d left) ∙ wider-follow (λ j t. run_from L lines (d + left) (suc count) j t) (λ j t. run_from L lines d (suc count) j t) count s (next_at L lines i i s) h (λ j t k. flat-wider d left j (suc count) t k)

  -- ---- what the flat run gives, for what the kernel gave under `rounds c`

  pub data FlatGives (c : ℕ) (s : List ℤ) : Result Signal → Type 0 where
    flat-settled : {r : Result Signal} {count : ℕ} (n : ℕ) → Settled r → ((left : ℕ) → run_from L lines (n + left) 0 0 s ≡ record { ending = ending_of r; count = count; store = (final r).store }) → FlatGives c s r
    flat-spent : {τ : State} → ((b : ℕ) → b < c → (run_from L lines b 0 0 s).ending ≡ Spent) → FlatGives c s (stopped spent τ)

  flat-gives : {c : ℕ} {s : List ℤ} (r : Result Signal) → Gives (λ signal. signal ≡ next) r → Follows L lines address c 0 s (length lines) r → FlatGives c s r
  flat-gives {c} {s} (ok signal τ) g (follows-ok {n} p moves-on) = flat-settled n tt (λ left. run-reaches p left 0 ∙ ended left (n + 0) τ.store)
  flat-gives (ok signal τ) g (follows-ok p moves-to) = absurd (let z : ◌≡◌ {A = ℕ} 0 1 = cc in omega arith)
  flat-gives {c} {s} (stopped (fault sort) τ) g (follows-fault {n} {k} p e) = flat-settled (suc n) tt (λ left. by left)
    where
      by : (left : ℕ) → run_from L lines (suc n + left) 0 0 s ≡ record { ending = Fault sort; count = suc (n + 0); store = τ.store }
      by left = let same : suc n + left ≡ n + suc left = omega arith in
          ap (λ (m : ℕ). run_from L lines m 0 0 s) same ∙ run-reaches p (suc left) 0 ∙ ap (λ q. follow (λ j t. run_from L lines left (suc (n + 0)) j t) (n + 0) τ.store q) e
  flat-gives (stopped spent τ) g (follows-spent {n} b p) = flat-spent (λ d h. run-spent p d 0 (omega arith))

  -- ---- equal fate

  module _ (contents : Items) (stands : StandsItems L lines address 0 contents (length lines)) (form : KernelItems false none contents) (store : List ℤ) where
    abbrev kernel : Limit → Result Signal
    kernel limit = run limit (exec (plain L) (block contents)) (start store)

    abbrev flat : ℕ → Finished
    flat budget = run_from L lines budget 0 0 store

    -- under every number of rounds
    pub flat-follows : (c : ℕ) → FlatGives c store (kernel (rounds c))
    unfolding run perform
    flat-follows c = flat-gives (kernel (rounds c)) (program-lands (plain L) (rounds c) contents (kernel_main form) (start store)) (items-follows L lines address c stands moves-on (stepped (start store)))

    pub record FlatEnds : Type 0 where
      pub budget : ℕ
      pub ends : (flat budget).ending ≡ Spent → ⊥

    pub record FlatFate : Type 0 where
      -- "both end or neither does"
      pub end-together : Ends (exec (plain L) (block contents)) (start store) ↔ FlatEnds
      -- "if they end, ending and every store word agree", for any two budgets that are enough
      pub same_ending : (b d : ℕ) → Settled (kernel (steps b)) → ((flat d).ending ≡ Spent → ⊥) → (flat d).ending ≡ ending_of (kernel (steps b))
      pub same_store : (b d : ℕ) → Settled (kernel (steps b)) → ((flat d).ending ≡ Spent → ⊥) → (flat d).store ≡ (final (kernel (steps b))).store

    settled_plain : (r : Result Signal) → Settled r → ending_of r ≡ Spent → ⊥
    settled_plain (ok a σ) s e = let z : ◌≡◌ {A = ℕ} 0 1 = cc in omega arith
    settled_plain (stopped spent σ) s e = s
    settled_plain (stopped (fault sort) σ) s e = let z : ◌≡◌ {A = ℕ} 0 1 = cc in omega arith

    enough : {c : ℕ} {r : Result Signal} → FlatGives c store r → Settled r → FlatEnds
    enough (flat-settled {r = r} n s e) t = record { budget = n + 0; ends = λ f. settled_plain r s (sym (ap (λ q. q.ending) (e 0)) ∙ f) }
    enough (flat-spent h) t = absurd t

    settles : {c : ℕ} {r : Result Signal} → FlatGives c store r → (d : ℕ) → d < c → ((flat d).ending ≡ Spent → ⊥) → Settled r
    settles (flat-settled n s e) d h f = s
    settles (flat-spent k) d h f = absurd (f (k d h))

    -- what the flat run gave with d lines it gives with every larger budget
    agrees : {c : ℕ} {r : Result Signal} → FlatGives c store r → (d : ℕ) → d < c → ((flat d).ending ≡ Spent → ⊥) → ((flat d).ending ≡ ending_of r) × ((flat d).store ≡ (final r).store)
    agrees (flat-settled n s e) d h f =
        let swap : d + n ≡ n + d = omega arith in
        let same = sym (flat-wider d n 0 0 store f) ∙ ap (λ (m : ℕ). flat m) swap ∙ e d in
        (ap (λ q. q.ending) same, ap (λ q. q.store) same)
    agrees (flat-spent k) d h f = absurd (f (k d h))

    kernel-ends : FlatEnds → Ends (exec (plain L) (block contents)) (start store)
    kernel-ends e =
        let c = suc e.budget in
        let s : Settled (kernel (rounds c)) = settles (flat-follows c) e.budget (omega arith) e.ends in
        let b = (final (kernel (rounds c))).count in
        record { budget = b; settled = rw (rounds-budget (exec (plain L) (block contents)) (start store) c b s (omega arith)) s }

    flat-ends : Ends (exec (plain L) (block contents)) (start store) → FlatEnds
    flat-ends e =
        let c = suc e.budget in
        let same = budget-rounds (exec (plain L) (block contents)) (start store) e.budget c (omega arith) e.settled in
        enough (flat-follows c) (rw same e.settled)

    both : (b d : ℕ) → Settled (kernel (steps b)) → ((flat d).ending ≡ Spent → ⊥) → ((flat d).ending ≡ ending_of (kernel (steps b))) × ((flat d).store ≡ (final (kernel (steps b))).store)
    both b d s f =
        let c = suc (b + d) in
        rw (budget-rounds (exec (plain L) (block contents)) (start store) b c (omega arith) s) at (agrees (flat-follows c) d (omega arith) f)

    -- For every legal kernel program whose lines stand in the list, and every store.
    pub flat-fate : FlatFate
    flat-fate = record {
      end-together = (flat-ends, kernel-ends);
      same_ending = λ b d s f. (both b d s f).0;
      same_store = λ b d s f. (both b d s f).1;
    }
