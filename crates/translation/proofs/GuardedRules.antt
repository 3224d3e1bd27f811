-- Guarded statements and their code go alike: rules for an arm, for the arms of a guarded if and for the rounds of a guarded do, over any
-- computation and any code of their parts. Where a block has run the kernel jumps to the label `out`; where no guard is true it comes to the
-- end of the arms.
use Prim.Native.Nat.{ℕ, suc, ◌+◌, ◌≤◌}
use Rattle.std.specs.Prelude.{◌≡◌, false, ℤ}
use Rattle.std.proofs.Math.Path.{refl}
use Rattle.std.proofs.Common.{arith, eq-eqb, ne_eqb}
use Rattle.arithmetic.specs.Arithmetic.{is_true}
use Rattle.words.specs.Laws.{by_cases}
use Rattle.computation.specs.Computation.{Computation, Turn, again, leave, ret, ◌>>=◌, loop, ◌>>◌}
use Rattle.computation.specs.Run.{State, Result}
use Rattle.language.specs.Trees.{Mark, label, same_mark, has, goto, abort, Items, none, ◌then◌, ◌here◌, ◌⧺◌}
use Rattle.language.specs.Meaning.{Signal, next, breaking, continuing, seeking, returning, Choice, none_true, ran, after_choice, after_arms, try_arm, enter, evaluate, perform, items}
use Rattle.translation.specs.Translate.{Atom, atom, choosing, loop_code, Exits}
use Rattle.translation.specs.Stack.{bottom}
use Rattle.translation.specs.RunThen.{run_then}
use Rattle.translation.specs.Related.{Setting, source_in, Frame, Related, Alike, alike-loop, alike-stop, related-step, related-ran, related-less}
use Rattle.translation.proofs.Held.{source, kernel, kernel-append, see, release}
use Rattle.translation.proofs.ExpressionRules.{Goes}
use Rattle.translation.proofs.PassedCode.{passes, passes-return}
use Rattle.translation.proofs.StatementRules.{Leads, leads_next, leads_break, leads_continue, leads_return, Below, SignalFollows, Runs}

-- What arms come to leads their code to a signal.
pub data ChoiceLeads (x : Exits) (out : ℕ) : Choice → Signal → Type 0 where
  choice_none : ChoiceLeads x out none_true next
  choice_ran : ChoiceLeads x out (ran next) (seeking (label out))
  choice_break : ChoiceLeads x out (ran breaking) (seeking (label x.on_break))
  choice_continue : ChoiceLeads x out (ran continuing) (seeking (label x.on_continue))
  choice_return : {v : ℤ} → ChoiceLeads x out (ran (returning v)) (returning v)

module _ {setting : Setting} (fr : Frame setting) {C D : Type 0} (R : C → D → State → State → Type 0) where
  -- Where arms and their code lead, what follows goes alike.
  abbrev pub ChoiceFollows : Exits → ℕ → ℕ → (Choice → State → Result C) → (Signal → State → Result D) → Type 0
  ChoiceFollows x out c f g = (t : Choice) (u : Signal) (τ ν : State) → ChoiceLeads x out t u → Related fr bottom c τ ν → Alike setting.measure R (f t τ) (g u ν)

  -- The arms from one on and kernel items go alike, at a cost of `own` kernel steps.
  pub record Chooses (own : ℕ) (x : Exits) (out : ℕ) (m : Computation Choice) (xs : Items) : Type 0 where
    pub chooses : (c y : ℕ) (σ κ : State) (f : Choice → State → Result C) (g : Signal → State → Result D) → Related fr bottom y σ κ → c + own ≤ y → ChoiceFollows x out c f g
        → Alike setting.measure R (source fr m σ f) (kernel fr xs next κ g)

  -- A guarded do is left for the label behind it, or by a break, continue or return.
  data LeftArms (x : Exits) (l c : ℕ) : Signal → Signal → State → State → Type 0 where
    left-past : {σ κ : State} → Related fr bottom c σ κ → LeftArms x l c next (seeking (label l)) σ κ
    left-break : {σ κ : State} → Related fr bottom c σ κ → LeftArms x l c breaking (seeking (label x.on_break)) σ κ
    left-continue : {σ κ : State} → Related fr bottom c σ κ → LeftArms x l c continuing (seeking (label x.on_continue)) σ κ
    left-return : {v : ℤ} {σ κ : State} → Related fr bottom c σ κ → LeftArms x l c (returning v) (returning v) σ κ

module _ {setting : Setting} (fr : Frame setting) {C D : Type 0} {R : C → D → State → State → Type 0} {x : Exits} where
  pub chooses_none : {out : ℕ} → Chooses fr R 0 x out (ret none_true) none
  unfolding run_then items
  chooses_none = record { chooses = λ c y σ κ f g n le k. k _ _ _ _ choice_none (related-less (omega arith) n) }

  -- The step of entering an arm's row pays.
  pub chooses-enter : {own out : ℕ} {m : Computation Choice} {xs : Items} → own ≤ setting.measure.rate → Chooses fr R own x out m xs → Chooses fr R 0 x out (enter m) xs
  unfolding run_then
  chooses-enter {own} r p = record { chooses = λ c y σ κ f g n le k. p.chooses c (c + own) _ _ _ _ (related-step (omega arith) n) (omega arith) k }

  -- A jump out of an arm's block passes the arms behind it, whose code has no mark.
  pub chooses-arm : {a : Computation ℤ} {b : Computation Signal} {rest : Computation Choice} {xs ys zs : Items} {h : Atom} {out : ℕ} → ((m : Mark) → has m ys ≡ false)
      → Goes fr R 0 bottom a xs h → Runs fr R 0 x b zs → Chooses fr R 0 x out rest ys
      → Chooses fr R 4 x out (try_arm a b rest) (xs ⧺ choosing fr.first (atom fr.first 0 h) (zs ⧺ goto out then none) none ys)
  unfolding run_then items perform
  chooses-arm {ys = ys} {zs = zs} {out = out} plain p q r = record {
    chooses = λ c y σ κ f g n le k.
        rw kernel-append (p.goes y y _ _ _ _ n (omega arith) λ v F' τ ν holds m.
        rw (see fr refl holds m, run_then) (by_cases (is_true v)
        (λ e. rw (e, run_then, kernel-append fr zs) (q.runs (c + 1) (c + 1) _ _ _ _ (release fr holds (related-ran _ (omega arith) m)) (omega arith) λ t u τ ν w m. after w c τ ν f g m k))
        (λ e. rw (e, run_then) (r.chooses c c _ _ _ _ (release fr holds (related-ran _ (omega arith) m)) (omega arith) k))));
  }
    where
      after : {t u : Signal} → Leads x t u → (c : ℕ) (τ ν : State) (f : Choice → State → Result C) (g : Signal → State → Result D) → Related fr bottom (c + 1) τ ν → ChoiceFollows fr R x out c f g
          → Alike setting.measure R (f (ran t) τ) (kernel fr (goto out then none) u ν (λ s κ. kernel fr ys s κ g))
      after leads_next c τ ν f g m k = rw (passes fr (label out) ys _ _ (plain _)) (k _ _ _ _ choice_ran (related-ran _ (omega arith) m))
      after (leads_return {v = v}) c τ ν f g m k = rw (passes-return fr v ys) (k _ _ _ _ choice_return (related-less (omega arith) m))
      after leads_break c τ ν f g m k = rw (passes fr (label x.on_break) ys _ _ (plain _)) (k _ _ _ _ choice_break (related-less (omega arith) m))
      after leads_continue c τ ν f g m k = rw (passes fr (label x.on_continue) ys _ _ (plain _)) (k _ _ _ _ choice_continue (related-less (omega arith) m))

  -- "Both runs share this fault too": where no guard is true, the source fails and the kernel aborts.
  pub runs-guarded_if : {m : Computation Choice} {xs : Items} {l : ℕ} → Below x l → Chooses fr R 0 x l m xs → Runs fr R 1 x (do choice ← m; after_choice choice) (xs ⧺ abort then label l here none)
  unfolding run_then items perform same_mark
  runs-guarded_if {xs = xs} {l = l} below p = record {
    runs = λ c y σ κ f g n le k. rw (kernel-append fr xs) (p.chooses (c + 1) y _ _ _ _ n (omega arith) λ t u τ ν w m. after w c τ ν f g m k);
  }
    where
      after : {t : Choice} {u : Signal} → ChoiceLeads x l t u → (c : ℕ) (τ ν : State) (f : Signal → State → Result C) (g : Signal → State → Result D) → Related fr bottom (c + 1) τ ν → SignalFollows fr R x c f g
          → Alike setting.measure R (source fr (after_choice t) τ f) (kernel fr (abort then label l here none) u ν g)
      after choice_none c τ ν f g m k = alike-stop _ (omega arith) m
      after choice_ran c τ ν f g m k = rw (eq-eqb l l refl, run_then) (k _ _ _ _ leads_next (related-ran _ (omega arith) m))
      after choice_return c τ ν f g m k = k _ _ _ _ leads_return (related-less (omega arith) m)
      after choice_break c τ ν f g m k = rw (ne_eqb x.on_break l (omega arith), run_then) (k _ _ _ _ leads_break (related-less (omega arith) m))
      after choice_continue c τ ν f g m k = rw (ne_eqb x.on_continue l (omega arith), run_then) (k _ _ _ _ leads_continue (related-less (omega arith) m))

  -- A round's first step, the entry of the first arm, pays for the round.
  pub runs-guarded_do : {m : Computation Choice} {xs : Items} {own l : ℕ} → own + 3 ≤ setting.measure.rate → Below x l → Chooses fr R own x (l + 1) m xs
      → Runs fr R 2 x (loop (do choice ← m; ret (after_arms choice))) (loop_code fr.first (xs ⧺ goto l then label (l + 1) here none) l)
  unfolding run_then items perform evaluate is_true same_mark
  runs-guarded_do {m} {xs} {own} {l} r below p = record {
    runs = λ c y σ κ f g n le k.
        alike-loop (Related fr bottom (suc c)) (LeftArms fr R x l (suc c)) (λ σ κ m. m.logs) f _ (λ a b τ ν e. ends c f g k e) _ _
        (λ σ κ n f g goes leaves. rw (kernel-append fr xs) (p.chooses (suc c + 1) (suc c + 1 + own) _ _ _ _ (related-ran _ (omega arith) (related-step {y = suc c + own + 3} (omega arith) n)) (omega arith)
        λ t u τ ν w m. after w c τ ν f _ m (λ τ ν m. goes τ ν m) (λ a j τ ν e. leaves a (seeking (label j)) τ ν e) (λ v τ ν e. leaves (returning v) (returning v) τ ν e)))
        setting.rounds _ _ (related-ran _ (omega arith) n);
  }
    where
      ends : (c : ℕ) (f : Signal → State → Result C) (g : Signal → State → Result D) → SignalFollows fr R x c f g
          → {a b : Signal} {σ κ : State} → LeftArms fr R x l (suc c) a b σ κ → Alike setting.measure R (f a σ) (kernel fr (label l here none) b κ g)
      ends c f g k (left-past n) = rw (eq-eqb l l refl, run_then) (k _ _ _ _ leads_next (related-ran _ (omega arith) n))
      ends c f g k (left-return n) = k _ _ _ _ leads_return (related-less (omega arith) n)
      ends c f g k (left-break n) = rw (ne_eqb x.on_break l (omega arith), run_then) (k _ _ _ _ leads_break (related-less (omega arith) n))
      ends c f g k (left-continue n) = rw (ne_eqb x.on_continue l (omega arith), run_then) (k _ _ _ _ leads_continue (related-less (omega arith) n))

      after : {t : Choice} {u : Signal} → ChoiceLeads x (l + 1) t u → (c : ℕ) (τ ν : State) (f : Turn Signal → State → Result C) (h : Signal → State → Result D) → Related fr bottom (suc c + 1) τ ν
          → ((τ ν : State) → Related fr bottom (suc c) τ ν → Alike setting.measure R (f again τ) (h next ν))
          → ((a : Signal) (j : ℕ) (τ ν : State) → LeftArms fr R x l (suc c) a (seeking (label j)) τ ν → Alike setting.measure R (f (leave a) τ) (h (seeking (label j)) ν))
          → ((v : ℤ) (τ ν : State) → LeftArms fr R x l (suc c) (returning v) (returning v) τ ν → Alike setting.measure R (f (leave (returning v)) τ) (h (returning v) ν))
          → Alike setting.measure R (f (after_arms t) τ) (kernel fr (goto l then label (l + 1) here none) u ν h)
      after choice_none c τ ν f h m k j z = rw (ne_eqb l (l + 1) (omega arith), run_then) (j _ _ _ _ (left-past (related-ran _ (omega arith) m)))
      after choice_ran c τ ν f h m k j z = rw (eq-eqb (l + 1) (l + 1) refl, run_then) (k _ _ (related-ran _ (omega arith) m))
      after (choice_return {v = v}) c τ ν f h m k j z = z v _ _ (left-return (related-less (omega arith) m))
      after choice_break c τ ν f h m k j z = rw (ne_eqb x.on_break (l + 1) (omega (arith, below.break_below)), run_then) (j _ _ _ _ (left-break (related-less (omega arith) m)))
      after choice_continue c τ ν f h m k j z = rw (ne_eqb x.on_continue (l + 1) (omega (arith, below.continue_below)), run_then) (j _ _ _ _ (left-continue (related-less (omega arith) m)))
