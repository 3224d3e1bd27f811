-- Both runs make the same writes, also where they never end: the translation makes those of the source, in their order and in time, and no
-- others. From the logs that the relation carries under `rounds c`, by the laws of limits.
use Rattle.std.specs.Prelude.{◌≡◌, ℕ, suc, ◌+◌, ◌*◌, ◌≤◌, ltb, ℤ, length}
use Rattle.std.proofs.Math.Path.{refl, ap}
use Rattle.std.proofs.Common.{sym, ◌∙◌, arith, le_refl, le-ltb}
use mathlib.Core.List.{List, [], ◌∷◌, ◌++◌, append-nil}
use Rattle.std.proofs.Math.Nat.{mul-le-mul_left}
use Rattle.words.specs.Word.{pick}
use Rattle.words.specs.Layout.{Layout, store_size}
use Rattle.computation.specs.Run.{Write, State, start, steps, rounds, final}
use Rattle.computation.proofs.RunLaws.{Timed, timed_none, timed_more, timed-wider, Added, count-never-passes, writes-in-time, writes_later, writes-wider, enough-rounds, wider-rounds}
use Rattle.computation.specs.WritesMade.{visible, made, FirstOf}
use Rattle.computation.proofs.WritesMadeLaws.{visible-append, first-trans}
use Rattle.language.specs.Trees.{block, Items}
use Rattle.language.specs.Sizes.{statement_rows}
use Rattle.language.specs.WellFormed.{SourceTree}
use Rattle.translation.specs.Translate.{translate, temporaries}
use Rattle.translation.specs.Related.{Measure, Logs, logs_none, logs_both, logs_kernel}
use Rattle.translation.proofs.TranslatePreserves.{source_program, kernel_program, source_run, kernel_run, runs-logged}
use Rattle.translation.proofs.WritesShown.{kernel_steps, SameWrites}

-- ---- logs

-- `S` words are shown, all of them before the temporaries.
module _ {μ : Measure} (S : ℕ) (shown : S ≤ μ.words) where
  logs-visible : {ws vs : List Write} → Logs μ ws vs → visible S vs ≡ visible S ws
  unfolding visible
  logs-visible logs_none = refl
  logs-visible (logs_both {i = i} {v = v} h b l) = ap (λ l. l ++ pick (ltb i S) (record { place = i; value = v } ∷ []) []) (logs-visible l)
  logs-visible (logs_kernel {i = i} h l) = rw (le-ltb i S (omega arith)) (append-nil _ ∙ logs-visible l)

  -- The kernel's writes up to b, where those of the source up to n are made by then.
  first_made : (n b : ℕ) {most : ℕ} (ls ws lk vs : List Write) → μ.rate * n ≤ b → Logs μ (ls ++ ws) (lk ++ vs) → Timed (suc b) most lk → Timed 0 n ws → FirstOf (visible S ws) (visible S vs)
  unfolding visible
  first_made n b ls ws [] vs r g late early = record { later = visible S ls; are = logs-visible g ∙ visible-append S ls ws }
  first_made n b [] [] (k ∷ lk) vs r g late early = record { later = visible S vs; are = refl }
  first_made n b [] (w ∷ ws) (k ∷ lk) vs r (logs_both h t g) (timed_more p q late) (timed_more e f early) = absurd (omega (arith, mul-le-mul_left μ.rate f))
  first_made n b [] (w ∷ ws) (k ∷ lk) vs r (logs_kernel h g) (timed_more p q late) early = first_made n b [] (w ∷ ws) lk vs r g late early
  first_made n b (l ∷ ls) ws (k ∷ lk) vs r (logs_both h t g) (timed_more p q late) early = first_made n b ls ws lk vs r g late early
  first_made n b (l ∷ ls) ws (k ∷ lk) vs r (logs_kernel h g) (timed_more p q late) early = first_made n b (l ∷ ls) ws lk vs r g late early

-- Of one log told twice: ws are its writes up to n and ls later ones; those behind us were made after n. So ws are the first ones of us.
within-log : (n : ℕ) {most : ℕ} (ls ws lk us : List Write) → lk ++ us ≡ ls ++ ws → Timed (suc n) most lk → Timed 0 n ws → (S : ℕ) → FirstOf (visible S ws) (visible S us)
unfolding visible
within-log n ls ws [] us e late early S = record { later = visible S ls; are = ap (visible S) e ∙ visible-append S ls ws }
within-log n [] [] (k ∷ lk) us e late early S = record { later = visible S us; are = refl }
within-log n [] (w ∷ ws) (k ∷ lk) us e (timed_more p q late) (timed_more a b early) S = let z : k ≡ w = cc in absurd (omega (arith, ap (λ (x : Write). x.when) z))
within-log n (l ∷ ls) ws (k ∷ lk) us e (timed_more p q late) early S = let z : lk ++ us ≡ ls ++ ws = cc in within-log n ls ws lk us z late early S

-- The writes of a run that starts with none.
started : {n : ℕ} {store : List ℤ} {τ : State} → Added 0 (start store) τ → τ.count ≤ n → Timed 0 n τ.writes
started r h = rw (r.writes_are, append-nil r.added) (timed-wider (omega arith) h r.in_time)

-- ---- both directions

module _ (L : Layout) (first : ℕ) (inside : store_size L ≤ first) (program : Items) (store temporaryWords : List ℤ) (tree : SourceTree L first program) (All-words : length store ≡ first) (enough : temporaries program ≤ length temporaryWords) where
  abbrev S : ℕ
  S = store_size L

  kernel-first : (N : ℕ) → FirstOf (made S (source_run L program store (steps N))) (made S (kernel_run L first program store temporaryWords (steps (kernel_steps first program N))))
  kernel-first N =
      let c = suc (N + kernel_steps first program N) in
      let g = runs-logged L first inside program store temporaryWords tree All-words enough c in
      let s = writes_later (source_program L program) (start store) N (rounds c) (enough-rounds N c (omega arith)) (omega arith) in
      let k = writes_later (kernel_program L first program) (start (store ++ temporaryWords)) (kernel_steps first program N) (rounds c) (enough-rounds (kernel_steps first program N) c (omega arith)) (omega arith) in
      let early = started (writes-in-time (source_program L program) (start store) (steps N)) (count-never-passes N (source_program L program) (start store) (omega arith)) in
      let logs : Logs g.measured (s.added ++ (final (source_run L program store (steps N))).writes) (k.added ++ (final (kernel_run L first program store temporaryWords (steps (kernel_steps first program N)))).writes) = rw (← s.writes_are, ← k.writes_are) g.logs in
      first_made {μ = g.measured} S (rw g.words_are inside) N (kernel_steps first program N) s.added _ k.added _ (rw g.rate_is (omega arith)) logs k.in_time early

  -- As many steps as the source makes while each of its loops goes round at most N + 1 times.
  abbrev enough_steps : ℕ → ℕ
  enough_steps N = (final (source_run L program store (rounds (suc N)))).count

  source_first : (N : ℕ) → FirstOf (made S (kernel_run L first program store temporaryWords (steps N))) (made S (source_run L program store (steps (enough_steps N))))
  source_first N =
      let c = suc N in
      let g = runs-logged L first inside program store temporaryWords tree All-words enough c in
      let k = writes_later (kernel_program L first program) (start (store ++ temporaryWords)) N (rounds c) (enough-rounds N c (omega arith)) (omega arith) in
      let M = enough_steps N in
      let d = suc (M + c) in
      let w = writes-wider (source_program L program) (start store) (rounds c) (rounds d) (wider-rounds c d (omega arith)) in
      let u = writes_later (source_program L program) (start store) M (rounds d) (enough-rounds M d (omega arith)) (omega arith) in
      let early = started (writes-in-time (source_program L program) (start store) (rounds c)) (le_refl M) in
      let same : visible S (final (kernel_run L first program store temporaryWords (rounds c))).writes ≡ visible S (final (source_run L program store (rounds c))).writes = logs-visible {μ = g.measured} S (rw g.words_are inside) g.logs in
      let of-kernel : FirstOf (made S (kernel_run L first program store temporaryWords (steps N))) (made S (source_run L program store (rounds c))) =
      record { later = visible S k.added; are = sym same ∙ ap (visible S) k.writes_are ∙ visible-append S k.added _ } in
      first-trans of-kernel (within-log M w.0 _ u.added _ (sym u.writes_are ∙ w.1) u.in_time early S)

  pub translation-writes : SameWrites L first program store temporaryWords
  translation-writes = record { kernel_follows = kernel-first; source_steps = enough_steps; source_follows = source_first }
