-- A statement and its code go alike: a rule a kind, over any computation and any code of its parts. Between statements no temporary is in
-- use. A break or continue of the source is a jump of the kernel, which passes code that does not have its label.
use Rattle.std.proofs.Math.Path.{◌≡◌, refl}
use Rattle.std.specs.Prelude.{Bool, ℤ, pos}
use Rattle.std.proofs.Math.Bool.{true, false}
use Prim.Native.Nat.{ℕ, suc, ◌+◌, ◌*◌, ◌≤◌, ◌<◌}
use Rattle.std.proofs.Common.{arith}
use borrow.Author.Tests.{eq-eqb, ne_eqb}
use Rattle.words.specs.Word.{same_word, pick}
use Rattle.arithmetic.specs.Arithmetic.{is_true, bit, apply}
use Rattle.words.specs.Laws.{by_cases}
use Rattle.computation.specs.Computation.{Computation, Turn, again, leave, ret, ◌>>=◌, save, loop, ◌>>◌}
use Rattle.computation.specs.Run.{State, Result}
use Rattle.language.specs.Trees.{constant, variable, present, Mark, case, default, label, same_mark, has, Statement, empty, block, goto, give_back, Items, none, ◌then◌, ◌here◌, define, ◌⧺◌}
use Rattle.language.specs.Meaning.{Signal, next, breaking, continuing, seeking, returning, enter, if_true, target, after_switch, after_body, after_test, evaluate, perform, items}
use Rattle.translation.specs.declared.Use.TheVariants.{Dropped as dropped, Stored as stored}
use Rattle.translation.specs.Translate.{Atom, taken, atom, choosing, store_code, or_empty, labels, label_of, Exits, exits, loop_code, case_tests}
use Rattle.translation.specs.TranslateSize.{cases}
use Rattle.translation.specs.Stack.{Stack, bottom, depth}
use Rattle.translation.specs.RunThen.{run_then}
use Rattle.translation.specs.Related.{Setting, source_in, Frame, Related, Alike, alike-loop, logs-temporary, related-logged, related-step, related-ran, related-less, related-save, related-push, related-top, related-pop}
use Rattle.translation.proofs.Held.{Holds, holds-depth, source, kernel, kernel-append, see, release}
use Rattle.translation.proofs.ExpressionRules.{Goes, GoesFor}
use Rattle.translation.proofs.PassedCode.{has-neither, passes, passes-return, plain-tests, Apart, apart_below, apart_above, label-least, label-absent}

-- The signal with which a statement ends leads its code to a signal.
pub data Leads (x : Exits) : Signal → Signal → Type 0 where
  leads_next : Leads x next next
  leads_break : Leads x breaking (seeking (label x.on_break))
  leads_continue : Leads x continuing (seeking (label x.on_continue))
  leads_return : {v : ℤ} → Leads x (returning v) (returning v)

-- The labels of the exits are below l.
pub record Below (x : Exits) (l : ℕ) : Type 0 where
  pub break_below : x.on_break < l
  pub continue_below : x.on_continue < l

module _ {setting : Setting} (fr : Frame setting) {C D : Type 0} (R : C → D → State → State → Type 0) where
  -- Where the signals of a statement and of its code lead, what follows goes alike.
  abbrev pub SignalFollows : Exits → ℕ → (Signal → State → Result C) → (Signal → State → Result D) → Type 0
  SignalFollows x c f g = (t u : Signal) (τ ν : State) → Leads x t u → Related fr bottom c τ ν → Alike setting.measure R (f t τ) (g u ν)

  -- A statement's computation and kernel items go alike, at a cost of `own` kernel steps.
  pub record Runs (own : ℕ) (x : Exits) (m : Computation Signal) (xs : Items) : Type 0 where
    pub runs : (c y : ℕ) (σ κ : State) (f : Signal → State → Result C) (g : Signal → State → Result D) → Related fr bottom y σ κ → c + own ≤ y → SignalFollows x c f g
        → Alike setting.measure R (source fr m σ f) (kernel fr xs next κ g)

  -- A list and its code, whose labels begin at l: after an item that ended with t, and after a jump to a mark of the list.
  pub record RunsOn (x : Exits) (l : ℕ) (is xs : Items) : Type 0 where
    pub runs : (t u : Signal) → Leads x t u → (c : ℕ) (σ κ : State) (f : Signal → State → Result C) (g : Signal → State → Result D) → Related fr bottom c σ κ → SignalFollows x c f g
        → Alike setting.measure R (source fr (items (source_in setting) is t) σ f) (kernel fr xs u κ g)
    pub finds : (m : Mark) → has m is ≡ true → (other c : ℕ) (σ κ : State) (f : Signal → State → Result C) (g : Signal → State → Result D) → Related fr bottom c σ κ → SignalFollows x c f g
        → Alike setting.measure R (source fr (items (source_in setting) is (seeking m)) σ f) (kernel fr xs (seeking (label (label_of m is l other))) κ g)

  -- A part of a loop's round: the source goes round again where the kernel comes to the end of the part, and leaves where it jumps to l, or where
  -- both return.
  pub record Turns (own l : ℕ) (m : Computation (Turn Signal)) (xs : Items) : Type 0 where
    pub turns : (c y : ℕ) (σ κ : State) (f : Turn Signal → State → Result C) (g : Signal → State → Result D) → Related fr bottom y σ κ → c + own ≤ y
        → ((τ ν : State) → Related fr bottom c τ ν → Alike setting.measure R (f again τ) (g next ν))
        → ((τ ν : State) → Related fr bottom c τ ν → Alike setting.measure R (f (leave next) τ) (g (seeking (label l)) ν))
        → ((v : ℤ) (τ ν : State) → Related fr bottom c τ ν → Alike setting.measure R (f (leave (returning v)) τ) (g (returning v) ν))
        → Alike setting.measure R (source fr m σ f) (kernel fr xs next κ g)
    pub free : has (label l) xs ≡ false

  -- A part of a for: its value is dropped.
  pub record Drops (m : Computation ℤ) (xs : Items) : Type 0 where
    pub drops : (c : ℕ) (σ κ : State) (f : ℤ → State → Result C) (g : Signal → State → Result D) → Related fr bottom c σ κ
        → ((v : ℤ) (τ ν : State) → Related fr bottom c τ ν → Alike setting.measure R (f v τ) (g next ν)) → Alike setting.measure R (source fr m σ f) (kernel fr xs next κ g)

  -- A loop is left for the label behind it, or by a return.
  data Left (l c : ℕ) : Signal → Signal → State → State → Type 0 where
    left : {σ κ : State} → Related fr bottom c σ κ → Left l c next (seeking (label l)) σ κ
    left-return : {v : ℤ} {σ κ : State} → Related fr bottom c σ κ → Left l c (returning v) (returning v) σ κ

-- ---- the parts of a round

module _ {setting : Setting} (fr : Frame setting) {C D : Type 0} {R : C → D → State → State → Type 0} where
  pub drops-absent : Drops fr R (ret (pos 0)) none
  unfolding run_then items
  drops-absent = record { drops = λ c σ κ f g n k. k _ _ _ n }

  pub drops-present : {m : Computation ℤ} {xs : Items} {h : Atom} {straight : Bool} → GoesFor fr R true dropped straight 0 bottom m xs h → Drops fr R m xs
  unfolding run_then
  drops-present p = record { drops = λ c σ κ f g n k. p.goes c c σ κ f g n (omega arith) k }

  pub turns-action : {m : Computation ℤ} {xs : Items} {l : ℕ} → Drops fr R m xs → has (label l) xs ≡ false → Turns fr R 0 l (do m; ret again) xs
  unfolding run_then
  turns-action p e = record { turns = λ c y σ κ f g n le k j z. p.drops c _ _ _ _ (related-less (omega arith) n) (λ v τ ν m. k τ ν m); free = e }

  pub turns-again : {l : ℕ} → Turns fr R 0 l (ret again) none
  unfolding run_then items has
  turns-again = record { turns = λ c y σ κ f g n le k j z. k _ _ (related-less (omega arith) n); free = refl }

  pub turns-test : {a : Computation ℤ} {b : Computation (Turn Signal)} {xs ys : Items} {h : Atom} {m n l : ℕ} → has (label l) xs ≡ false → Goes fr R m bottom a xs h → Turns fr R n l b ys
      → Turns fr R (m + n + 4) l (do v ← a; after_test b v) (xs ⧺ choosing fr.first (atom fr.first 0 h) none (goto l then none) ys)
  unfolding run_then items perform has
  turns-test {xs = xs} {ys = ys} {n = n'} {l = l} e p q = record {
    turns = λ c y σ κ f g n le k j z.
        rw kernel-append (p.goes (c + n' + 4) y _ _ _ _ n (omega arith) λ v F' τ ν holds m.
        rw (see fr refl holds m, run_then) (by_cases (is_true v)
        (λ e. rw (e, run_then) (q.turns c (c + n') _ _ _ _ (release fr holds (related-ran _ (omega arith) m)) (omega arith) k j z))
        (λ e. rw (e, run_then, passes fr (label l) ys _ _ q.free) (j _ _ (release fr holds (related-ran _ (omega arith) m))))));
    free = has-neither (label l) xs _ e q.free;
  }

  pub turns-body : {a : Computation Signal} {b : Computation (Turn Signal)} {xs ys : Items} {m n l : ℕ} → has (label l) xs ≡ false → Runs fr R m (exits l (l + 1)) a xs → Turns fr R n l b ys
      → Turns fr R (m + n + 1) l (do signal ← a; after_body b signal) (xs ⧺ label (l + 1) here ys)
  unfolding run_then items perform has same_mark
  turns-body {b = b} {xs = xs} {ys = ys} {n = n'} {l = l} e p q = record {
    turns = λ c y σ κ f g n le k j z. rw kernel-append (p.runs (c + n' + 1) y _ _ _ _ n (omega arith) λ t u τ ν w m. after w c τ ν f g m k j z);
    free = has-neither (label l) xs _ e (rw (ne_eqb l (l + 1) (omega arith)) q.free);
  }
    where
      after : {t u : Signal} → Leads (exits l (l + 1)) t u → (c : ℕ) (τ ν : State) (f : Turn Signal → State → Result C) (g : Signal → State → Result D) → Related fr bottom (c + n' + 1) τ ν
          → ((τ ν : State) → Related fr bottom c τ ν → Alike setting.measure R (f again τ) (g next ν))
          → ((τ ν : State) → Related fr bottom c τ ν → Alike setting.measure R (f (leave next) τ) (g (seeking (label l)) ν))
          → ((v : ℤ) (τ ν : State) → Related fr bottom c τ ν → Alike setting.measure R (f (leave (returning v)) τ) (g (returning v) ν))
          → Alike setting.measure R (source fr (after_body b t) τ f) (kernel fr (label (l + 1) here ys) u ν g)
      after leads_next c τ ν f g m k j z = q.turns c (c + n') _ _ _ _ (related-ran _ (omega arith) m) (omega arith) k j z
      after (leads_return {v = v}) c τ ν f g m k j z = rw (passes-return fr v ys) (z v _ _ (related-less (omega arith) m))
      after leads_break c τ ν f g m k j z = rw (ne_eqb l (l + 1) (omega arith), run_then, passes fr (label l) ys _ _ q.free) (j _ _ (related-less (omega arith) m))
      after leads_continue c τ ν f g m k j z = rw (eq-eqb (l + 1) (l + 1) refl, run_then) (q.turns c (c + n') _ _ _ _ (related-ran _ (omega arith) m) (omega arith) k j z)

-- ---- statements

module _ {setting : Setting} (fr : Frame setting) {C D : Type 0} {R : C → D → State → State → Type 0} {x : Exits} where
  -- The step of entering the row pays.
  pub pay-statement : {own : ℕ} {m : Computation Signal} {xs : Items} → own ≤ setting.measure.rate → Runs fr R own x m xs → Runs fr R 0 x (enter m) xs
  unfolding run_then
  pay-statement {own} r p = record { runs = λ c y σ κ f g n le k. p.runs c (c + own) _ _ _ _ (related-step (omega arith) n) (omega arith) k }

  pub runs-empty : Runs fr R 1 x (ret next) (empty then none)
  unfolding run_then items perform
  runs-empty = record { runs = λ c y σ κ f g n le k. k _ _ _ _ leads_next (related-ran _ (omega arith) n) }

  -- A value that nobody uses is still computed.
  pub runs-express : {m : Computation ℤ} {xs : Items} → Drops fr R m xs → Runs fr R 1 x (do m; ret next) (or_empty fr.first xs)
  unfolding run_then items perform
  runs-express {m} {xs} p = record { runs = λ c y σ κ f g n le k. by xs p c y σ κ f g n le k }
    where
      by : (xs : Items) → Drops fr R m xs → (c y : ℕ) (σ κ : State) (f : Signal → State → Result C) (g : Signal → State → Result D) → Related fr bottom y σ κ → c + 1 ≤ y → SignalFollows fr R x c f g
          → Alike setting.measure R (source fr (do m; ret next) σ f) (kernel fr (or_empty fr.first xs) next κ g)
      by none p c y σ κ f g n le k = p.drops (c + 1) σ κ _ (λ s ν. kernel fr (empty then none) s ν g) (related-less (omega arith) n) (λ v τ ν m. k _ _ _ _ leads_next (related-ran _ (omega arith) m))
      by (s then xs) p c y σ κ f g n le k = p.drops c σ κ _ g (related-less (omega arith) n) (λ v τ ν m. k _ _ _ _ leads_next m)
      by (s here xs) p c y σ κ f g n le k = p.drops c σ κ _ g (related-less (omega arith) n) (λ v τ ν m. k _ _ _ _ leads_next m)
      by (define f' words body xs) p c y σ κ f g n le k = p.drops c σ κ _ g (related-less (omega arith) n) (λ v τ ν m. k _ _ _ _ leads_next m)

  -- A declaration's value is stored: it went straight into its word, or is assigned from what holds it.
  pub runs-declare : (i : ℕ) → i < setting.measure.words → (straight : Bool) {m : Computation ℤ} {xs : Items} {h : Atom} → GoesFor fr R false (stored i) straight 0 bottom m xs h
      → Runs fr R (pick straight 0 4) x (do v ← m; save i v; ret next) (xs ⧺ store_code fr.first (variable i) straight (atom fr.first 0 h))
  unfolding run_then items perform evaluate
  runs-declare i b true p = record {
    runs = λ c y σ κ f g n le k. rw kernel-append (p.goes c y σ κ (λ v. f next) _ n (omega arith) λ v F' τ ν holds m. k _ _ _ _ leads_next (release fr holds m));
  }
  runs-declare i b false p = record {
    runs = λ c y σ κ f g n le k.
        rw kernel-append (p.goes (c + 4) y σ κ _ _ n (omega arith) λ v F' τ ν holds m.
        rw (see fr refl holds m, run_then) (k _ _ _ _ leads_next (related-save i v b (release fr holds (related-ran _ (omega arith) m)))));
  }

  pub runs_block : {l : ℕ} {is xs : Items} → RunsOn fr R x l is xs → Runs fr R 1 x (items (source_in setting) is next) (block xs then none)
  unfolding run_then items perform
  runs_block p = record { runs = λ c y σ κ f g n le k. p.runs next next leads_next c _ _ _ _ (related-ran _ (omega arith) n) k }

  pub runs-if_then : {a : Computation ℤ} {b : Computation Signal} {xs ys : Items} {h : Atom} → Goes fr R 0 bottom a xs h → Runs fr R 0 x b ys
      → Runs fr R 3 x (do test ← a; if_true test b (ret next)) (xs ⧺ choosing fr.first (atom fr.first 0 h) ys none none)
  unfolding run_then items perform
  runs-if_then p q = record {
    runs = λ c y σ κ f g n le k.
        rw kernel-append (p.goes y y _ _ _ _ n (omega arith) λ v F' τ ν holds m.
        rw (see fr refl holds m, run_then) (by_cases (is_true v)
        (λ e. rw (e, run_then) (q.runs c c _ _ _ _ (release fr holds (related-ran _ (omega arith) m)) (omega arith) k))
        (λ e. rw (e, run_then) (k _ _ _ _ leads_next (release fr holds (related-ran _ (omega arith) m))))));
  }

  pub runs-if_else : {a : Computation ℤ} {b d : Computation Signal} {xs ys zs : Items} {h : Atom} → Goes fr R 0 bottom a xs h → Runs fr R 0 x b ys → Runs fr R 0 x d zs
      → Runs fr R 3 x (do test ← a; if_true test b d) (xs ⧺ choosing fr.first (atom fr.first 0 h) ys zs none)
  unfolding run_then items perform
  runs-if_else p q r = record {
    runs = λ c y σ κ f g n le k.
        rw kernel-append (p.goes y y _ _ _ _ n (omega arith) λ v F' τ ν holds m.
        rw (see fr refl holds m, run_then) (by_cases (is_true v)
        (λ e. rw (e, run_then) (q.runs c c _ _ _ _ (release fr holds (related-ran _ (omega arith) m)) (omega arith) k))
        (λ e. rw (e, run_then) (r.runs c c _ _ _ _ (release fr holds (related-ran _ (omega arith) m)) (omega arith) k))));
  }

  -- A return leaves every list, as the kernel's does.
  pub runs_return : {m : Computation ℤ} {xs : Items} {h : Atom} → Goes fr R 0 bottom m xs h → Runs fr R 2 x (do v ← m; ret (returning v)) (xs ⧺ give_back (present (atom fr.first 0 h)) then none)
  unfolding run_then items perform evaluate
  runs_return p = record {
    runs = λ c y σ κ f g n le k.
        rw kernel-append (p.goes y y _ _ _ _ n (omega arith) λ v F' τ ν holds m.
        rw (see fr refl holds m, run_then) (k _ _ _ _ leads_return (release fr holds (related-ran _ (omega arith) m))));
  }

  pub runs-return-nothing : Runs fr R 2 x (do v ← ret (pos 0); ret (returning v)) (give_back (present (constant (pos 0))) then none)
  unfolding run_then items perform evaluate
  runs-return-nothing = record { runs = λ c y σ κ f g n le k. k _ _ _ _ leads_return (related-ran _ (omega arith) n) }

  pub runs-break : Runs fr R 1 x (ret breaking) (goto x.on_break then none)
  unfolding run_then items perform
  runs-break = record { runs = λ c y σ κ f g n le k. k _ _ _ _ leads_break (related-ran _ (omega arith) n) }

  pub runs-continue : Runs fr R 1 x (ret continuing) (goto x.on_continue then none)
  unfolding run_then items perform
  runs-continue = record { runs = λ c y σ κ f g n le k. k _ _ _ _ leads_continue (related-ran _ (omega arith) n) }

  -- A round's first step pays for the round.
  pub runs_loop : {m : Computation (Turn Signal)} {xs : Items} {own l : ℕ} → own + 2 ≤ setting.measure.rate → Turns fr R own l m xs → Runs fr R 2 x (loop m) (loop_code fr.first xs l)
  unfolding run_then items perform evaluate is_true same_mark
  runs_loop {own = own} {l = l} r p = record {
    runs = λ c y σ κ f g n le k.
        alike-loop (Related fr bottom (suc c)) (Left fr R l (suc c)) (λ σ κ m. m.logs) f _ (λ a b τ ν e. ends c f g k e) _ _
        (λ σ κ n f g goes leaves. p.turns (suc c) (suc c + own) _ _ _ _ (related-ran _ (omega arith) (related-step {y = suc c + own + 2} (omega arith) n)) (omega arith)
        (λ τ ν m. goes τ ν m) (λ τ ν m. leaves next (seeking (label l)) τ ν (left m)) (λ v τ ν m. leaves (returning v) (returning v) τ ν (left-return m)))
        setting.rounds _ _ (related-ran _ (omega arith) n);
  }
    where
      ends : (c : ℕ) (f : Signal → State → Result C) (g : Signal → State → Result D) → SignalFollows fr R x c f g
          → {a b : Signal} {σ κ : State} → Left fr R l (suc c) a b σ κ → Alike setting.measure R (f a σ) (kernel fr (label l here none) b κ g)
      ends c f g k (left n) = rw (eq-eqb l l refl, run_then) (k _ _ _ _ leads_next (related-ran _ (omega arith) n))
      ends c f g k (left-return n) = k _ _ _ _ leads_return (related-less (omega arith) n)

  pub runs_after : {a : Computation ℤ} {b : Computation Signal} {xs ys : Items} {own : ℕ} → Drops fr R a xs → Runs fr R own x b ys → Runs fr R own x (do a; b) (xs ⧺ ys)
  unfolding run_then
  runs_after p q = record { runs = λ c y σ κ f g n le k. rw kernel-append (p.drops y _ _ _ _ n λ v τ ν m. q.runs c y _ _ _ _ m le k) }

-- ---- lists

module _ {setting : Setting} (fr : Frame setting) {C D : Type 0} {R : C → D → State → State → Type 0} {x : Exits} where
  pub runs_none : {l : ℕ} → RunsOn fr R x l none none
  unfolding run_then items has
  runs_none = record { runs = λ t u w c σ κ f g n k. k t u _ _ w n; finds = λ m e. absurd (let z : ◌≡◌ {A = ℕ} 0 1 = cc in omega arith) }

  pub runs_then : {s : Statement} {is xs ys : Items} {l : ℕ} → Below x l → ((j : ℕ) → Apart l (labels s) j → has (label j) xs ≡ false)
      → Runs fr R 0 x (enter (perform (source_in setting) s)) xs → RunsOn fr R x (l + labels s) is ys → RunsOn fr R x l (s then is) (xs ⧺ ys)
  unfolding run_then items has label_of
  runs_then {s} {is} {xs} {ys} {l} below e p q = record {
    runs = λ t u w. goes w;
    finds = λ m h other c σ κ f g n k.
        let least = label-least m is (l + labels s) other h in
        rw (kernel-append, passes fr (label (label_of m is (l + labels s) other)) xs _ _ (e _ (apart_above l (labels s) _ least))) (q.finds m h other c _ _ _ _ n k);
  }
    where
      goes : {t u : Signal} → Leads x t u → (c : ℕ) (σ κ : State) (f : Signal → State → Result C) (g : Signal → State → Result D) → Related fr bottom c σ κ → SignalFollows fr R x c f g
          → Alike setting.measure R (source fr (items (source_in setting) (s then is) t) σ f) (kernel fr (xs ⧺ ys) u κ g)
      goes leads_next c σ κ f g n k = rw kernel-append (p.runs c c _ _ _ _ n (omega arith) λ t u τ ν w m. q.runs t u w c _ _ _ _ m k)
      goes (leads_return {v = v}) c σ κ f g n k = rw (kernel-append, passes-return fr v xs) (q.runs _ _ leads_return c _ _ _ _ n k)
      goes leads_break c σ κ f g n k = rw (kernel-append, passes fr (label x.on_break) xs _ _ (e _ (apart_below l (labels s) _ below.break_below))) (q.runs _ _ leads_break c _ _ _ _ n k)
      goes leads_continue c σ κ f g n k = rw (kernel-append, passes fr (label x.on_continue) xs _ _ (e _ (apart_below l (labels s) _ below.continue_below))) (q.runs _ _ leads_continue c _ _ _ _ n k)

  pub runs_here : {n : Mark} {is ys : Items} {l : ℕ} → Below x l → 1 ≤ setting.measure.rate → RunsOn fr R x (l + 1) is ys → RunsOn fr R x l (n here is) (label l here ys)
  unfolding run_then items has label_of same_mark
  runs_here {n = mark} {is} {ys} {l} below r q = record {
    runs = λ t u w. goes w;
    finds = λ m h other c σ κ f g n k. by_cases (same_mark m mark)
        (λ e. rw (e, run_then, eq-eqb l l refl, run_then) (q.runs _ _ leads_next c _ _ _ _ (related-ran _ (omega arith) (related-step {y = suc c} (omega arith) n)) k))
        (λ e. let later : has m is ≡ true = rw e at h in
        let least = label-least m is (l + 1) other later in
        rw (e, run_then, ne_eqb (label_of m is (l + 1) other) l (omega arith), run_then) (q.finds m later other c _ _ _ _ n k));
  }
    where
      goes : {t u : Signal} → Leads x t u → (c : ℕ) (σ κ : State) (f : Signal → State → Result C) (g : Signal → State → Result D) → Related fr bottom c σ κ → SignalFollows fr R x c f g
          → Alike setting.measure R (source fr (items (source_in setting) (mark here is) t) σ f) (kernel fr (label l here ys) u κ g)
      goes leads_next c σ κ f g n k = q.runs _ _ leads_next c _ _ _ _ (related-ran _ (omega arith) (related-step {y = suc c} (omega arith) n)) k
      goes leads_return c σ κ f g n k = q.runs _ _ leads_return c _ _ _ _ n k
      goes leads_break c σ κ f g n k = rw (ne_eqb x.on_break l (omega arith), run_then) (q.runs _ _ leads_break c _ _ _ _ n k)
      goes leads_continue c σ κ f g n k = rw (ne_eqb x.on_continue l (omega arith), run_then) (q.runs _ _ leads_continue c _ _ _ _ n k)

-- ---- switch

module _ {setting : Setting} (fr : Frame setting) {C D : Type 0} {R : C → D → State → State → Type 0} {h : Atom} {v : ℤ} {F : Stack ℤ} {σ : State} (holds : Holds fr bottom h v F σ) (above : depth F ≡ taken h) (room : taken h < fr.temporaries)
    (r : Result C) (g : Signal → State → Result D) (c other : ℕ) where
  -- The tests come to the label of the case that equals v, or to their end.
  tests-go : (is : Items) (l y : ℕ) (κ : State) → Related fr F y σ κ → c + 11 * cases is ≤ y
      → (has (case v) is ≡ true → (ν : State) → Related fr bottom c σ ν → Alike setting.measure R r (g (seeking (label (label_of (case v) is l other))) ν))
      → (has (case v) is ≡ false → (ν : State) → Related fr bottom c σ ν → Alike setting.measure R r (g next ν))
      → Alike setting.measure R r (kernel fr (case_tests fr.first (atom fr.first 0 h) (taken h) is l) next κ g)
  unfolding run_then items perform evaluate apply bit is_true case_tests has label_of same_mark
  tests-go none l y κ n le hit miss = miss refl κ (release fr holds (related-less (omega arith) n))
  tests-go (define f words body is) l y κ n le hit miss = tests-go is l y κ n le hit miss
  tests-go (s then is) l y κ n le hit miss = tests-go is (l + labels s) y κ n le hit miss
  tests-go (case w here is) l y κ n le hit miss =
      rw (see fr refl holds n, related-top above (related-push (bit (same_word v w)) above room n), run_then) (by_cases (same_word v w)
      (λ e. rw (e, run_then, passes fr (label l) (case_tests fr.first (atom fr.first 0 h) (taken h) is (l + 1)) _ _ (plain-tests setting.called fr.first (atom fr.first 0 h) (taken h) is (l + 1) (label l)))
      (rw e at (hit (rw e)) _ (release fr holds (related-pop (related-logged _ _ (omega arith) (logs-temporary fr (taken h) n.logs) (related-push (pos 1) above room n))))))
      (λ e. rw (e, run_then) (tests-go is (l + 1) (c + 11 * cases is) _ (related-pop (related-logged _ _ (omega arith) (logs-temporary fr (taken h) n.logs) (related-push (pos 0) above room n))) (omega arith)
      (λ i ν q. (rw e at (hit (rw e i))) ν q) (λ i ν q. miss (rw e i) ν q))))
  tests-go (default here is) l y κ n le hit miss = tests-go is (l + 1) y κ n le hit miss
  tests-go (label k here is) l y κ n le hit miss = tests-go is (l + 1) y κ n le hit miss

module _ {setting : Setting} (fr : Frame setting) {C D : Type 0} {R : C → D → State → State → Type 0} {x : Exits} where
  pub runs_switch : {a : Computation ℤ} {xs is ys : Items} {h : Atom} {l : ℕ} → Below x l → taken h < fr.temporaries → Goes fr R 0 bottom a xs h → RunsOn fr R (exits l x.on_continue) (l + 1) is ys
      → Runs fr R (11 * cases is + 2) x (do v ← a; signal ← items (source_in setting) is (target v is); ret (after_switch signal))
      (xs ⧺ case_tests fr.first (atom fr.first 0 h) (taken h) is (l + 1) ⧺ goto (label_of default is (l + 1) l) then ys ⧺ label l here none)
  unfolding run_then items perform same_mark
  runs_switch {is = is} {ys = ys} {l = l} below room p q = record {
    runs = λ c y σ κ f g n le k.
        rw kernel-append (p.goes y y _ _ _ _ n (omega arith) λ v F τ ν holds m.
        rw kernel-append (tests-go fr holds (omega (arith, holds-depth fr refl holds)) room _ _ (c + 2) l is (l + 1) y ν m (omega arith)
        (λ e ν m. rw (e, kernel-append fr ys) (q.finds (case v) e l (c + 1) _ _ _ _ (related-less (omega arith) m) (λ t u τ ν s m. ends c f g k s m)))
        (λ e ν m. rw (e, kernel-append fr ys) (by_cases (has default is)
        (λ i. rw i (q.finds default i l (c + 1) _ _ _ _ (related-ran _ (omega arith) m) (λ t u τ ν s m. ends c f g k s m)))
        (λ i. rw (i, label-absent default is (l + 1) l i) (q.runs breaking _ leads_break (c + 1) _ _ _ _ (related-ran _ (omega arith) m) (λ t u τ ν s m. ends c f g k s m)))))));
  }
    where
      ends : (c : ℕ) (f : Signal → State → Result C) (g : Signal → State → Result D) → SignalFollows fr R x c f g
          → {t u : Signal} {τ ν : State} → Leads (exits l x.on_continue) t u → Related fr bottom (c + 1) τ ν → Alike setting.measure R (f (after_switch t) τ) (kernel fr (label l here none) u ν g)
      ends c f g k leads_next m = k _ _ _ _ leads_next (related-ran _ (omega arith) m)
      ends c f g k leads_break m = rw (eq-eqb l l refl, run_then) (k _ _ _ _ leads_next (related-ran _ (omega arith) m))
      ends c f g k leads_return m = k _ _ _ _ leads_return (related-less (omega arith) m)
      ends c f g k leads_continue m = rw (ne_eqb x.on_continue l (omega arith), run_then) (k _ _ _ _ leads_continue (related-less (omega arith) m))
