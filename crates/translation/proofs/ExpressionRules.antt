-- An expression and its code go alike: a rule a kind, over any computation and any code of its parts. Straight code computes; each
-- rule follows the source's computation by cases and pays for the kernel's steps.
use Rattle.std.specs.Prelude.{◌≡◌, Bool, ℕ, zero, suc, ◌+◌, ◌*◌, ◌-◌, ◌≤◌, ◌<◌, pos, negsuc, Ok, Result as Outcome}
use Rattle.words.specs.declared.FaultSort.{FaultSort}
use Rattle.std.proofs.Math.Path.{refl}
use Rattle.std.proofs.Common.{◌∙◌, arith}
use Rattle.std.proofs.Math.Bool.{true, false}
use Rattle.std.proofs.Math.Dec.{eqb-suc-zero}
use Rattle.std.proofs.Math.IntN.{ℤ}
use Rattle.std.proofs.Math.ListN.{get_or}
use Rattle.words.specs.Word.{same_word, pick}
use Rattle.words.specs.Layout.{array_base, array_length}
use Rattle.arithmetic.specs.Arithmetic.{is_true, truth, bit, logical_not, apply, minus as minus_word, element as element_word}
use Rattle.words.specs.Laws.{by_cases}
use Rattle.words.specs.declared.Operator.{Operator}
use Rattle.words.specs.declared.Operator.TheVariants.{Equal, NotEqual}
use Rattle.computation.specs.Computation.{Computation, ret, ◌>>=◌, load, save, settle, ◌>>◌}
use Rattle.computation.specs.Run.{State, written, Result, ok, rounds, run}
use Rattle.language.specs.Trees.{constant, read, minus, binary, Place, variable, element, Items, none, ◌⧺◌}
use Rattle.language.specs.Meaning.{Signal, next, enter, if_true, update, old_value, new_value, evaluate, perform, items}
use Rattle.language.specs.Untouched.{Untouched, untouched_ok, Leaves, Any}
use Rattle.language.specs.WellFormed.{SourceName}
use Rattle.translation.specs.Uses.{passed_on}
use Rattle.translation.specs.declared.Use.{Use}
use Rattle.translation.specs.declared.Use.TheVariants.{Dropped as dropped, Wanted as wanted, Stored as stored}
use Rattle.translation.specs.Translate.{Atom, number, word, top, held, taken, temporary, atom, assigning, choosing, copy_code, move_code, target, target_word, step_code}
use Rattle.translation.specs.Holding.{hold_code}
use Rattle.translation.specs.TranslateSize.{copy_rows, hold_rows}
use Rattle.translation.specs.Stack.{Stack, ◌▹◌, depth}
use Rattle.translation.specs.RunThen.{run_then, then-run, run_then-run}
use Rattle.translation.specs.Related.{Setting, kernel_in, Frame, Related, Alike, alike_ok, alike_then, alike-stop, alike-logged, logs-temporary, related-logged, by-outcome, related-step, related-ran, related-less, related-load, related-save, related-push, related-top, related-pop, related-skip}
use Rattle.translation.proofs.Held.{Holds, holds-number, holds-word, holds-top, Keeps, holds_later, holds-stored, holds-saved, after-step, holds-depth, source, kernel, kernel-append, see, release, Kept, kept-later, keep, Aims, aims-variable, aims-element, aims-inside, aims-release, see-place, aims-under}

-- == 0 and != 0 give the truth of a value.
zero-equal : (v : ℤ) → apply Equal v (pos 0) ≡ Ok (logical_not v)
unfolding apply logical_not bit is_true same_word
zero-equal (pos zero) = refl
zero-equal (pos (suc n)) = rw (eqb-suc-zero n)
zero-equal (negsuc n) = refl

zero-differs : (v : ℤ) → apply NotEqual v (pos 0) ≡ Ok (truth v)
unfolding apply truth bit is_true same_word
zero-differs (pos zero) = refl
zero-differs (pos (suc n)) = rw (eqb-suc-zero n)
zero-differs (negsuc n) = refl

-- What the source has yet to do where the kernel has stored a value straight in its variable; and what holds the value then. An assignment
-- has a row for its place, which is `entered`; a declaration has none.
abbrev pub storing : Use → Bool → Bool → ℤ → Computation ℤ
storing dropped straight entered v = ret v
storing wanted straight entered v = ret v
storing (stored i) false entered v = ret v
storing (stored i) true true v = do
  position ← enter (ret i)
  save position v
  ret v
storing (stored i) true false v = do
  save i v
  ret v

abbrev pub stored_atom : Use → Bool → Atom → Atom
stored_atom dropped straight h = h
stored_atom wanted straight h = h
stored_atom (stored i) straight h = pick straight (word i) h

module _ {setting : Setting} (fr : Frame setting) {C D : Type 0} (R : C → D → State → State → Type 0) where
  -- Where the atom h, above the stack F, holds the value of an expression, what follows goes alike.
  abbrev pub ValueFollows : Stack ℤ → Atom → ℕ → (ℤ → State → Result C) → (Signal → State → Result D) → Type 0
  ValueFollows F h x f g = (v : ℤ) (F' : Stack ℤ) (τ ν : State) → Holds fr F h v F' τ → Related fr F' x τ ν → Alike setting.measure R (f v τ) (g next ν)

  -- The promise of expression translation. The computation m and the kernel items xs go alike, at a cost of `own` kernel steps beyond
  -- what m's own steps pay; after them the atom h, above the stack F, holds m's value.
  pub record Goes (own : ℕ) (F : Stack ℤ) (m : Computation ℤ) (xs : Items) (h : Atom) : Type 0 where
    pub goes : (x y : ℕ) (σ κ : State) (f : ℤ → State → Result C) (g : Signal → State → Result D) → Related fr F y σ κ → x + own ≤ y → ValueFollows F h x f g
        → Alike setting.measure R (source fr m σ f) (kernel fr xs next κ g)

  -- What follows an expression whose value has a use: nothing holds one that is dropped.
  abbrev pub UseFollows : Use → Stack ℤ → Atom → ℕ → (ℤ → State → Result C) → (Signal → State → Result D) → Type 0
  UseFollows dropped F h x f g = (v : ℤ) (τ ν : State) → Related fr F x τ ν → Alike setting.measure R (f v τ) (g next ν)
  UseFollows wanted F h x f g = ValueFollows F h x f g
  UseFollows (stored i) F h x f g = ValueFollows F h x f g

  -- The same promise for a use of the value. Where it is stored straight in its variable, the source's store belongs to it.
  pub record GoesFor (entered : Bool) (u : Use) (straight : Bool) (own : ℕ) (F : Stack ℤ) (m : Computation ℤ) (xs : Items) (h : Atom) : Type 0 where
    pub goes : (x y : ℕ) (σ κ : State) (f : ℤ → State → Result C) (g : Signal → State → Result D) → Related fr F y σ κ → x + own ≤ y → UseFollows u F (stored_atom u straight h) x f g
        → Alike setting.measure R (source fr (do v ← m; storing u straight entered v) σ f) (kernel fr xs next κ g)

  -- The same of a computation that writes no variable but those of W: what is held meanwhile stays held.
  pub record GoesWithin (W : ℕ → Bool) (F : Stack ℤ) (m : Computation ℤ) (xs : Items) (h : Atom) : Type 0 where
    pub goes : (x : ℕ) (σ κ : State) (f : ℤ → State → Result C) (g : Signal → State → Result D) → Related fr F x σ κ
        → ((v : ℤ) (F' : Stack ℤ) (τ ν : State) → Keeps fr W σ τ → Holds fr F h v F' τ → Related fr F' x τ ν → Alike setting.measure R (f v τ) (g next ν))
        → Alike setting.measure R (source fr m σ f) (kernel fr xs next κ g)

  -- The same for a place, whose index takes k temporaries and writes no variable but those of W. Where it is outside its array, the source's run stops at
  -- once and the kernel's when it uses the place.
  pub record Points (W : ℕ → Bool) (F : Stack ℤ) (m : Computation ℕ) (xs : Items) (q : Place) (n k : ℕ) : Type 0 where
    pub goes : (x : ℕ) (σ κ : State) (f : ℕ → State → Result C) (g : Signal → State → Result D) → Related fr F x σ κ
        → ((o : Outcome ℕ FaultSort) (F' : Stack ℤ) (τ ν : State) → Keeps fr W σ τ → Aims fr F q o F' n τ → depth F' ≡ depth F + k → Related fr F' x τ ν → Alike setting.measure R (source fr (settle o) τ f) (g next ν))
        → Alike setting.measure R (source fr m σ f) (kernel fr xs next κ g)

-- ---- what an expression leaves alone

-- A value held above F, where the kernel's list is at its end.
pub record HeldAtEnd {setting : Setting} (fr : Frame setting) (F : Stack ℤ) (h : Atom) (x : ℕ) (v : ℤ) (s : Signal) (σ κ : State) : Type 0 where
  pub stack : Stack ℤ
  pub holds : Holds fr F h v stack σ
  pub related : Related fr stack x σ κ
  pub at_end : s ≡ next

module _ {setting : Setting} (fr : Frame setting) {C D : Type 0} {R : C → D → State → State → Type 0} {F : Stack ℤ} where
  -- A rule that holds whatever follows, of a computation that leaves alone the variables outside W.
  pub within : {m : Computation ℤ} {xs : Items} {h : Atom} (W : ℕ → Bool)
      → ((x : ℕ) → Goes fr (HeldAtEnd fr F h x) 0 F m xs h) → ((i : ℕ) → SourceName setting.layout setting.measure.words i → W i ≡ false → Leaves i Any m) → GoesWithin fr R W F m xs h
  within {m} {xs} {h} W p leaves = record {
    goes = λ x σ κ f g n k.
        let alone : Alike setting.measure (HeldAtEnd fr F h x) (run (rounds setting.rounds) m σ) (run (rounds setting.rounds) (items (kernel_in setting) xs next) κ) =
        rw (← run_then-run setting.rounds m σ, ← run_then-run setting.rounds (items (kernel_in setting) xs next) κ)
        ((p x).goes x x σ κ ok ok n (omega arith) λ v F' τ ν holds l. alike_ok (record { stack = F'; holds = holds; related = l; at_end = refl })) in
        rw (then-run setting.rounds m σ f, then-run setting.rounds (items (kernel_in setting) xs next) κ g) (alike_then alone
        (λ v s τ ν e q. rw q.at_end (k v q.stack τ ν (record { keeps = λ i b o. kept i (rw e at ((leaves i b o).leaves (rounds setting.rounds) σ)) }) q.holds q.related)));
  }
    where
      kept : {v w : ℤ} {τ : State} (i : ℕ) → Untouched i Any w (ok v τ) → get_or τ.store i (pos 0) ≡ w
      kept i (untouched_ok e q) = e

module _ {setting : Setting} (fr : Frame setting) {C D : Type 0} {R : C → D → State → State → Type 0} {F : Stack ℤ} where
  -- A rule for a wanted value, and for every use of one that is not stored straight.
  pub goes-for : {entered : Bool} {own : ℕ} {m : Computation ℤ} {xs : Items} {h : Atom} (u : Use) → Goes fr R own F m xs h → GoesFor fr R entered u false own F m xs h
  unfolding run_then
  goes-for dropped p = record { goes = λ x y σ κ f g n le k. p.goes x y σ κ f g n le (λ v F' τ ν holds m. k v τ ν (release fr holds m)) }
  goes-for wanted p = record { goes = λ x y σ κ f g n le k. p.goes x y σ κ f g n le k }
  goes-for (stored i) p = record { goes = λ x y σ κ f g n le k. p.goes x y σ κ f g n le k }

  pub goes-wanted : {straight : Bool} {own : ℕ} {m : Computation ℤ} {xs : Items} {h : Atom} → GoesFor fr R true wanted straight own F m xs h → Goes fr R own F m xs h
  unfolding run_then
  goes-wanted p = record { goes = λ x y σ κ f g n le k. p.goes x y σ κ f g n le k }

  -- A rule may cost more.
  pub goes-within : {own : ℕ} {m : Computation ℤ} {xs : Items} {h : Atom} (more : ℕ) → own ≤ more → Goes fr R own F m xs h → Goes fr R more F m xs h
  goes-within more le p = record { goes = λ x y σ κ f g n l k. p.goes x y σ κ f g n (omega arith) k }

  -- The step of entering the row pays.
  pub pay : {entered : Bool} {u : Use} {straight : Bool} {own : ℕ} {m : Computation ℤ} {xs : Items} {h : Atom} → own ≤ setting.measure.rate → GoesFor fr R entered u straight own F m xs h → GoesFor fr R entered u straight 0 F (enter m) xs h
  unfolding run_then
  pay {own = own} r p = record { goes = λ x y σ κ f g n le k. p.goes x (x + own) _ _ _ _ (related-step (omega arith) n) (omega arith) k }

  pub goes-constant : (v : ℤ) → Goes fr R 0 F (ret v) none (number v)
  unfolding run_then items
  goes-constant v = record { goes = λ x y σ κ f g n le k. k v F σ κ holds-number (related-less (omega arith) n) }

  -- A variable stands for its own value: no code, no step.
  pub goes-variable : (i : ℕ) → SourceName setting.layout setting.measure.words i → Goes fr R 0 F (do position ← ret i; load position) none (word i)
  unfolding run_then items
  goes-variable i b = record { goes = λ x y σ κ f g n le k. k _ F σ κ (holds-word b refl) (related-less (omega arith) n) }

  pub points-variable : {W : ℕ → Bool} (i : ℕ) → i < setting.measure.words → Points fr R W F (ret i) none (variable i) 0 0
  unfolding run_then items
  points-variable i b = record { goes = λ x σ κ f g n k. k (Ok i) F σ κ (record { keeps = λ i b e. refl }) (aims-variable b) (omega arith) n }

-- There is room for a result: its temporary is one of T, or its variable one of the source's.
abbrev pub UseRoom : {setting : Setting} → Frame setting → Use → ℕ → Type 0
UseRoom fr dropped t = t < fr.temporaries
UseRoom fr wanted t = t < fr.temporaries
UseRoom {setting} fr (stored i) t = SourceName setting.layout setting.measure.words i

module _ {setting : Setting} (fr : Frame setting) {C D : Type 0} {R : C → D → State → State → Type 0} {F : Stack ℤ} {t : ℕ} (at : depth F ≡ t) where
  -- The kernel has assigned a result.
  pub lands : (u : Use) (entered : Bool) → UseRoom fr u t → (v : ℤ) (x : ℕ) {τ ν : State} (f : ℤ → State → Result C) (g : Signal → State → Result D) → Related fr F x τ ν → UseFollows fr R u F (stored_atom u true top) x f g
      → Alike setting.measure R (source fr (storing u true entered v) τ f) (g next (written (target_word fr.first u t) v ν))
  unfolding run_then
  lands dropped entered room v x f g m k = k _ _ _ (related-pop (related-push v at room m))
  lands wanted entered room v x f g m k = k _ _ _ _ holds-top (related-push v at room m)
  lands (stored i) true room v x f g m k =
      let entered = related-step {y = x} (omega arith) m in
      k _ _ _ _ (holds-saved fr room entered) (related-save i v room.inside entered)
  lands (stored i) false room v x f g m k = k _ _ _ _ (holds-saved fr room m) (related-save i v room.inside m)

  pub points-element : {W : ℕ → Bool} {m : Computation ℤ} {xs : Items} {h : Atom} (array : ℕ) → array_base setting.layout array + array_length setting.layout array ≤ setting.measure.words → GoesWithin fr R W F m xs h
      → Points fr R W F (do index ← m; settle (element_word (array_base setting.layout array) (array_length setting.layout array) index)) xs (element array (atom fr.first t h)) 1 (taken h)
  unfolding run_then items
  points-element array s p = record { goes = λ x σ κ f g n k. p.goes x _ _ _ _ n λ v F' τ ν kept holds m. k _ F' τ ν kept (aims-element s at holds) (holds-depth fr refl holds) m }

  pub goes-read : {entered : Bool} {W : ℕ → Bool} {m : Computation ℕ} {xs : Items} {q : Place} {n k : ℕ} (u : Use) → UseRoom fr u t → Points fr R W F m xs q n k
      → GoesFor fr R entered u true (4 + n) F (do position ← m; load position) (xs ⧺ assigning fr.first (target fr.first u t) (read q) none) top
  unfolding run_then items perform evaluate
  goes-read {entered = entered} u room p = record {
    goes = λ x y σ κ f g n le k.
        rw kernel-append (p.goes y _ _ _ _ n λ o F' τ ν _ aims _ m.
        rw (see-place fr aims m, run_then) (by-outcome o
        (λ i e. rw (e, run_then, related-load i (aims-inside fr aims i e) m) (lands u entered room _ x f g (aims-release fr aims (related-ran _ (omega arith) m)) k))
        (λ _ e. rw (e, run_then) (alike-stop _ (omega arith) m))));
  }

  pub goes-minus : {entered : Bool} {m : Computation ℤ} {xs : Items} {h : Atom} (u : Use) → UseRoom fr u t → Goes fr R 0 F m xs h
      → GoesFor fr R entered u true 5 F (do v ← m; settle (minus_word v)) (xs ⧺ assigning fr.first (target fr.first u t) (minus (atom fr.first t h)) none) top
  unfolding run_then items perform evaluate
  goes-minus {entered = entered} u room p = record {
    goes = λ x y σ κ f g n le k.
        rw kernel-append (p.goes y y _ _ _ _ n (omega arith) λ v F' τ ν holds m.
        rw (see fr at holds m, run_then) (by-outcome (minus_word v)
        (λ v e. rw (e, run_then) (lands u entered room v x f g (release fr holds (related-ran _ (omega arith) m)) k))
        (λ _ e. rw (e, run_then) (alike-stop _ (omega arith) m))));
  }

  pub goes-not : {entered : Bool} {m : Computation ℤ} {xs : Items} {h : Atom} (u : Use) → UseRoom fr u t → Goes fr R 0 F m xs h
      → GoesFor fr R entered u true 6 F (do v ← m; ret (logical_not v)) (xs ⧺ assigning fr.first (target fr.first u t) (binary Equal (atom fr.first t h) (constant (pos 0))) none) top
  unfolding run_then items perform evaluate
  goes-not {entered = entered} u room p = record {
    goes = λ x y σ κ f g n le k.
        rw kernel-append (p.goes y y _ _ _ _ n (omega arith) λ v F' τ ν holds m.
        rw (see fr at holds m, run_then, zero-equal v, run_then) (lands u entered room _ x f g (release fr holds (related-ran _ (omega arith) m)) k));
  }

  -- A waiting value is copied where it is a variable that can be written meanwhile.
  hold-word : (b : Bool) {i : ℕ} {v : ℤ} {F' : Stack ℤ} {τ : State} → t + taken (pick b top (word i)) ≤ fr.temporaries → Holds fr F (word i) v F' τ
      → (x y : ℕ) (ν : State) (r : Result C) (g : Signal → State → Result D) → Related fr F' y τ ν → x + 4 * (taken (pick b top (word i)) - 0) ≤ y
      → ((F'' : Stack ℤ) (ν' : State) → Holds fr F (pick b top (word i)) v F'' τ → Related fr F'' x τ ν' → Alike setting.measure R r (g next ν'))
      → Alike setting.measure R r (kernel fr (move_code fr.first t (word i) (pick b top (word i))) next ν g)
  unfolding run_then items perform evaluate
  hold-word true {i = i} room (holds-word b e) x y ν r g m le k = rw (related-load i b.inside m, e) (k _ _ holds-top (related-push _ at (omega arith) (related-ran _ (omega arith) m)))
  hold-word false room holds x y ν r g m le k = k _ _ holds (related-less (omega arith) m)

  pub hold : (h : Atom) (W : ℕ → Bool) {v : ℤ} {F' : Stack ℤ} {τ : State} → t + taken (held h W) ≤ fr.temporaries → Holds fr F h v F' τ
      → (x y : ℕ) (ν : State) (r : Result C) (g : Signal → State → Result D) → Related fr F' y τ ν → x + hold_rows h W ≤ y
      → ((F'' : Stack ℤ) (ν' : State) → Holds fr F (held h W) v F'' τ → Related fr F'' x τ ν' → Alike setting.measure R r (g next ν'))
      → Alike setting.measure R r (kernel fr (hold_code fr.first t h W) next ν g)
  unfolding run_then items
  hold (number u) W room holds-number x y ν r g m le k = k _ _ holds-number (related-less (omega arith) m)
  hold (word i) W room holds x y ν r g m le k = hold-word (W i) room holds x y ν r g m le k
  hold top W room holds-top x y ν r g m le k = k _ _ holds-top (related-less (omega arith) m)

  pub goes-binary : {entered : Bool} {a b : Computation ℤ} {xs ys : Items} {ha hb : Atom} {W : ℕ → Bool} (u : Use) (operator : Operator) → UseRoom fr u t → t + taken (held hb W) ≤ fr.temporaries → Goes fr R 0 F b ys hb
      → ((F' : Stack ℤ) → depth F' ≡ t + taken (held hb W) → GoesWithin fr R W F' a xs ha)
      → GoesFor fr R entered u true (6 + hold_rows hb W) F (do right ← b; left ← a; settle (apply operator left right))
      (ys ⧺ hold_code fr.first t hb W ⧺ xs ⧺ assigning fr.first (target fr.first u t) (binary operator (atom fr.first (t + taken (held hb W)) ha) (atom fr.first t (held hb W))) none) top
  unfolding run_then items perform evaluate
  goes-binary {entered = entered} {hb = hb} {W = W} u operator room above p q = record {
    goes = λ x y σ κ f g n le k.
        rw kernel-append (p.goes y y _ _ _ _ n (omega arith) λ right F' τ ν holds m.
        rw kernel-append (hold hb W above holds (x + 6) y ν _ _ m (omega arith) λ F' ν holds-right m.
        rw kernel-append ((q F' (holds-depth fr at holds-right)).goes (x + 6) _ _ _ _ m λ left F'' τ ν kept holds-left m.
        rw (see fr at (holds_later fr hb W kept holds-right) (release fr holds-left m), see fr (holds-depth fr at holds-right) holds-left m, run_then) (by-outcome (apply operator left right)
        (λ v e. rw (e, run_then) (lands u entered room v x f g (release fr holds-right (release fr holds-left (related-ran _ (omega arith) m))) k))
        (λ _ e. rw (e, run_then) (alike-stop _ (omega arith) m))))));
  }

  pub goes-and : {a b : Computation ℤ} {xs ys : Items} {ha hb : Atom} → t < fr.temporaries → Goes fr R 0 F a xs ha → Goes fr R 0 F b ys hb
      → Goes fr R 14 F (do left ← a; if_true left (do right ← b; ret (truth right)) (ret (pos 0)))
      (xs ⧺ choosing fr.first (atom fr.first t ha) (ys ⧺ assigning fr.first (temporary fr.first t) (binary NotEqual (atom fr.first t hb) (constant (pos 0))) none)
      (assigning fr.first (temporary fr.first t) (constant (pos 0)) none) none) top
  unfolding run_then items perform evaluate
  goes-and room p q = record {
    goes = λ x y σ κ f g n le k.
        rw kernel-append (p.goes y y _ _ _ _ n (omega arith) λ left F' τ ν holds m.
        rw (see fr at holds m, run_then) (by_cases (is_true left)
        (λ e. rw (e, run_then, kernel-append) (q.goes (x + 6) (x + 6) _ _ _ _ (release fr holds (related-ran _ (omega arith) m)) (omega arith) λ right F' τ ν holds m.
        rw (see fr at holds m, run_then, zero-differs right, run_then) (k _ _ _ _ holds-top (related-push _ at room (release fr holds (related-ran _ (omega arith) m))))))
        (λ e. rw (e, run_then) (k _ _ _ _ holds-top (related-push _ at room (release fr holds (related-ran _ (omega arith) m)))))));
  }

  pub goes-or : {a b : Computation ℤ} {xs ys : Items} {ha hb : Atom} → t < fr.temporaries → Goes fr R 0 F a xs ha → Goes fr R 0 F b ys hb
      → Goes fr R 14 F (do left ← a; if_true left (ret (pos 1)) (do right ← b; ret (truth right)))
      (xs ⧺ choosing fr.first (atom fr.first t ha) (assigning fr.first (temporary fr.first t) (constant (pos 1)) none)
      (ys ⧺ assigning fr.first (temporary fr.first t) (binary NotEqual (atom fr.first t hb) (constant (pos 0))) none) none) top
  unfolding run_then items perform evaluate
  goes-or room p q = record {
    goes = λ x y σ κ f g n le k.
        rw kernel-append (p.goes y y _ _ _ _ n (omega arith) λ left F' τ ν holds m.
        rw (see fr at holds m, run_then) (by_cases (is_true left)
        (λ e. rw (e, run_then) (k _ _ _ _ holds-top (related-push _ at room (release fr holds (related-ran _ (omega arith) m)))))
        (λ e. rw (e, run_then, kernel-append) (q.goes (x + 6) (x + 6) _ _ _ _ (release fr holds (related-ran _ (omega arith) m)) (omega arith) λ right F' τ ν holds m.
        rw (see fr at holds m, run_then, zero-differs right, run_then) (k _ _ _ _ holds-top (related-push _ at room (release fr holds (related-ran _ (omega arith) m))))))));
  }

  pub goes-comma : {entered : Bool} {a b : Computation ℤ} {xs ys : Items} {ha hb : Atom} {left right : Bool} (u : Use) → GoesFor fr R true dropped left 0 F a xs ha → GoesFor fr R true (passed_on u) right 0 F b ys hb → GoesFor fr R entered u false 0 F (do a; b) (xs ⧺ ys) hb
  unfolding run_then items
  goes-comma dropped p q = record { goes = λ x y σ κ f g n le k. rw kernel-append (p.goes y y _ _ _ _ n (omega arith) λ _ τ ν m. q.goes x y _ _ _ _ m le k) }
  goes-comma wanted p q = record { goes = λ x y σ κ f g n le k. rw kernel-append (p.goes y y _ _ _ _ n (omega arith) λ _ τ ν m. q.goes x y _ _ _ _ m le k) }
  goes-comma (stored i) p q = record { goes = λ x y σ κ f g n le k. rw kernel-append (p.goes y y _ _ _ _ n (omega arith) λ _ τ ν m. q.goes x y _ _ _ _ m le k) }

  -- The value of a branch, in the temporary of its level.
  pub goes-copy : {m : Computation ℤ} {xs : Items} {h : Atom} → t < fr.temporaries → Goes fr R 0 F m xs h → Goes fr R (copy_rows h) F m (xs ⧺ copy_code fr.first t h) top
  unfolding run_then items perform evaluate
  goes-copy {h = h} room p = record { goes = λ x y σ κ f g n le k. rw kernel-append (p.goes y y _ _ _ _ n (omega arith) λ v F' τ ν holds m. copied h holds x y ν f g m le k) }
    where
      copied : (h : Atom) {v : ℤ} {F' : Stack ℤ} {τ : State} → Holds fr F h v F' τ → (x y : ℕ) (ν : State) (f : ℤ → State → Result C) (g : Signal → State → Result D) → Related fr F' y τ ν → x + copy_rows h ≤ y → ValueFollows fr R F top x f g → Alike setting.measure R (f v τ) (kernel fr (copy_code fr.first t h) next ν g)
      copied (number v) holds-number x y ν f g m le k = k _ _ _ _ holds-top (related-push _ at room (related-ran _ (omega arith) m))
      copied (word i) (holds-word b e) x y ν f g m le k = rw (related-load i b.inside m, e) (k _ _ _ _ holds-top (related-push _ at room (related-ran _ (omega arith) m)))
      copied top holds-top x y ν f g m le k = k _ _ _ _ holds-top (related-less (omega arith) m)

  pub goes-conditional : {a b c : Computation ℤ} {xs ys zs : Items} {hc : Atom} {na nb : ℕ} → Goes fr R 0 F c zs hc → Goes fr R na F a xs top → Goes fr R nb F b ys top
      → Goes fr R (4 + na + nb) F (do test ← c; if_true test a b) (zs ⧺ choosing fr.first (atom fr.first t hc) xs ys none) top
  unfolding run_then items perform evaluate
  goes-conditional {na = na} {nb = nb} p q s = record {
    goes = λ x y σ κ f g n le k.
        rw kernel-append (p.goes y y _ _ _ _ n (omega arith) λ v F' τ ν holds m.
        rw (see fr at holds m, run_then) (by_cases (is_true v)
        (λ e. rw (e, run_then) (q.goes x (x + na) _ _ _ _ (release fr holds (related-ran _ (omega arith) m)) (omega arith) k))
        (λ e. rw (e, run_then) (s.goes x (x + nb) _ _ _ _ (release fr holds (related-ran _ (omega arith) m)) (omega arith) k))));
  }

  pub goes-assign : {a : Computation ℕ} {b : Computation ℤ} {xs ys : Items} {h : Atom} {W : ℕ → Bool} {q : Place} {n k : ℕ} → t + taken (held h W) ≤ fr.temporaries → Goes fr R 0 F b ys h
      → ((F' : Stack ℤ) → depth F' ≡ t + taken (held h W) → Points fr R W F' a xs q n k)
      → Goes fr R (4 + n + hold_rows h W) F (do v ← b; position ← enter a; save position v; ret v) (ys ⧺ hold_code fr.first t h W ⧺ xs ⧺ assigning fr.first q (atom fr.first t (held h W)) none) (held h W)
  unfolding run_then items perform evaluate
  goes-assign {h = h} {W = W} {n = rows} above p q = record {
    goes = λ x y σ κ f g n le k.
        rw kernel-append (p.goes y y _ _ _ _ n (omega arith) λ v F' τ ν holds m.
        rw kernel-append (hold h W above holds (x + (4 + rows)) y ν _ _ m (omega arith) λ F' ν holds m.
        rw kernel-append ((q F' (holds-depth fr at holds)).goes (x + (4 + rows)) _ _ _ _ (related-step (omega arith) m) λ o F'' τ ν kept aims _ m.
        let later = holds_later fr h W (after-step fr kept) holds in
        rw (see fr at later (aims-release fr aims m), see-place fr aims m, run_then) (by-outcome o
        (λ i e. rw (e, run_then) (k _ _ _ _ (holds-stored fr i later) (related-save i v (aims-inside fr aims i e) (aims-release fr aims (related-ran _ (omega arith) m)))))
        (λ _ e. rw (e, run_then) (alike-stop _ (omega arith) m))))));
  }

  -- A value that went straight into its variable is stored.
  pub goes-straight : {b : Computation ℤ} {ys : Items} {h : Atom} (i : ℕ) → GoesFor fr R true (stored i) true 0 F b ys h → Goes fr R 0 F (do v ← b; position ← enter (ret i); save position v; ret v) ys (word i)
  unfolding run_then
  goes-straight i p = record { goes = λ x y σ κ f g n le k. p.goes x y σ κ f g n le k }

  -- A variable's new value goes straight there.
  pub goes-replace : {b : Computation ℤ} {ys : Items} {h : Atom} (W : ℕ → Bool) (operator : Operator) (i : ℕ) → SourceName setting.layout setting.measure.words i → t + taken (held h W) ≤ fr.temporaries → Goes fr R 0 F b ys h
      → Goes fr R (6 + hold_rows h W) F (do right ← b; position ← enter (ret i); update operator position right new_value)
      (ys ⧺ hold_code fr.first t h W ⧺ assigning fr.first (variable i) (binary operator (read (variable i)) (atom fr.first t (held h W))) none) (word i)
  unfolding run_then items perform evaluate
  goes-replace {h = h} W operator i named above p = record {
    goes = λ x y σ κ f g n le k.
        rw kernel-append (p.goes y y _ _ _ _ n (omega arith) λ right F' τ ν holds m.
        rw kernel-append (hold h W above holds (x + 6) y ν _ _ m (omega arith) λ F' ν holds m.
        let entered = related-step {y = x + 6} (omega arith) m in
        rw (see fr at holds m, related-load i named.inside m, run_then) (by-outcome (apply operator (get_or τ.store i (pos 0)) right)
        (λ v e. rw (e, run_then) (k _ _ _ _ (holds-saved fr named entered) (related-save i v named.inside (release fr holds (related-ran _ (omega arith) entered)))))
        (λ _ e. rw (e, run_then) (alike-stop _ (omega arith) entered)))));
  }

  -- Where nobody uses the old value, e++ is ++e.
  pub goes_step : {entered : Bool} (operator : Operator) (i : ℕ) → SourceName setting.layout setting.measure.words i → t ≤ fr.temporaries
      → GoesFor fr R entered dropped false 6 F (do position ← enter (ret i); update operator position (pos 1) old_value) (step_code fr.first operator i dropped t) top
  unfolding run_then ◌⧺◌
  goes_step operator i named room = record {
    goes = λ x y σ κ f g n le k.
        (goes-replace {h = number (pos 1)} (λ _. false) operator i named (omega arith) (goes-constant fr (pos 1))).goes x y σ κ (λ _ τ. f (get_or σ.store i (pos 0)) τ) g n (omega arith) (λ v F' τ ν holds m. k _ τ ν (release fr holds m));
  }

  -- An element: t is kept for the result, so the index stands above it, and above that the old value.
  pub goes-compound : {a : Computation ℕ} {b : Computation ℤ} {xs ys : Items} {h : Atom} {W : ℕ → Bool} {q : Place} {n k : ℕ} (operator : Operator) → t + 1 + k < fr.temporaries → t + taken (held h W) ≤ fr.temporaries → Goes fr R 0 F b ys h
      → ((w : ℤ) → Points fr R W (F ▹ w) a xs q n k)
      → Goes fr R (14 + 2 * n + hold_rows h W) F (do right ← b; position ← enter a; update operator position right new_value)
      (ys ⧺ hold_code fr.first t h W ⧺ xs ⧺ assigning fr.first (temporary fr.first (t + 1 + k)) (read q)
      (assigning fr.first (temporary fr.first t) (binary operator (read (temporary fr.first (t + 1 + k))) (atom fr.first t (held h W))) (assigning fr.first q (read (temporary fr.first t)) none))) top
  unfolding run_then items perform evaluate
  goes-compound {h = h} {W = W} {n = rows} operator room above p q = record {
    goes = λ x y σ κ f g n le k.
        rw kernel-append (p.goes y y _ _ _ _ n (omega arith) λ right F' τ ν holds m.
        rw kernel-append (hold h W above holds (x + (14 + 2 * rows)) y ν _ _ m (omega arith) λ F' ν holds m.
        let s = keep fr (omega arith) holds m in
        rw kernel-append ((q s.0).goes (x + (14 + 2 * rows)) _ _ _ _ (related-step (omega arith) s.2) λ o G τ ν kept aims level m.
        through (kept-later fr h W (after-step fr kept) s.1) aims (omega arith) room x (x + (14 + 2 * rows)) ν f g m (omega arith) k)));
  }
    where
      through : {q : Place} {n u : ℕ} {w right : ℤ} {o : Outcome ℕ FaultSort} {G : Stack ℤ} {τ : State} → Kept fr F (held h W) right w τ → Aims fr (F ▹ w) q o G n τ → depth G ≡ u → u < fr.temporaries
          → (x y : ℕ) (ν : State) (f : ℤ → State → Result C) (g : Signal → State → Result D) → Related fr G y τ ν → x + (14 + 2 * n) ≤ y → ValueFollows fr R F top x f g
          → Alike setting.measure R (source fr (do position ← settle o; update operator position right new_value) τ f)
          (kernel fr (assigning fr.first (temporary fr.first u) (read q) (assigning fr.first (temporary fr.first t) (binary operator (read (temporary fr.first u)) (atom fr.first t (held h W))) (assigning fr.first q (read (temporary fr.first t)) none))) next ν g)
      through {u = u} {right = right} {o = o} {τ = τ} kept aims above room x y ν f g m le k =
          rw (see-place fr aims m, run_then) (by-outcome o
          (λ i e. let old = get_or τ.store i (pos 0) in
          let m2 = related-push old above room m in
          rw (e, run_then, related-load i (aims-inside fr aims i e) m, see fr at kept.holds (kept.pops (aims-release fr aims (related-pop m2))), related-top above m2, run_then) (by-outcome (apply operator old right)
          (λ v d. let under = aims-under fr v at aims (related-pop m2) in
          rw (d, run_then, related-top at (aims-release fr under.2 under.3), see-place fr under.2 under.3, e, run_then)
          (k _ _ _ _ holds-top (related-save i v (aims-inside fr aims i e) (aims-release fr under.2 (related-logged _ _ (omega arith) (logs-temporary fr t (logs-temporary fr u m.logs)) under.3)))))
          (λ _ d. rw (d, run_then) (alike-logged _ _ (omega arith) (logs-temporary fr u m.logs) m2))))
          (λ _ e. rw (e, run_then) (alike-stop _ (omega arith) m)))

  -- A variable's old value goes into the temporary.
  pub goes-old : (operator : Operator) (i : ℕ) → i < setting.measure.words → t < fr.temporaries
      → Goes fr R 10 F (do position ← enter (ret i); update operator position (pos 1) old_value)
      (assigning fr.first (temporary fr.first t) (read (variable i)) (assigning fr.first (variable i) (binary operator (read (temporary fr.first t)) (constant (pos 1))) none)) top
  unfolding run_then items perform evaluate
  goes-old operator i inside room = record { goes = λ x y σ κ f g n le k. after x y f g (related-step {y = y} (omega arith) n) le k }
    where
      after : (x y : ℕ) {τ ν : State} (f : ℤ → State → Result C) (g : Signal → State → Result D) → Related fr F y τ ν → x + 10 ≤ y → ValueFollows fr R F top x f g
          → Alike setting.measure R (source fr (update operator i (pos 1) old_value) τ f)
          (kernel fr (assigning fr.first (temporary fr.first t) (read (variable i)) (assigning fr.first (variable i) (binary operator (read (temporary fr.first t)) (constant (pos 1))) none)) next ν g)
      after x y {τ = τ} f g m le k =
          let old = get_or τ.store i (pos 0) in
          rw (related-load i inside m, related-top at (related-push old at room m), run_then) (by-outcome (apply operator old (pos 1))
          (λ v e. rw (e, run_then) (k _ _ _ _ holds-top (related-save i v inside (related-logged _ _ (omega arith) (logs-temporary fr t m.logs) (related-push old at room m)))))
          (λ _ e. rw (e, run_then) (alike-logged _ _ (omega arith) (logs-temporary fr t m.logs) (related-push old at room m))))

  pub goes-postfix : {W : ℕ → Bool} {a : Computation ℕ} {xs : Items} {q : Place} {n k : ℕ} (operator : Operator) → t + 1 + k < fr.temporaries → ((w : ℤ) → Points fr R W (F ▹ w) a xs q n k)
      → Goes fr R (14 + 2 * n) F (do position ← enter a; update operator position (pos 1) old_value)
      (xs ⧺ assigning fr.first (temporary fr.first t) (read q) (assigning fr.first (temporary fr.first (t + 1 + k)) (binary operator (read (temporary fr.first t)) (constant (pos 1)))
      (assigning fr.first q (read (temporary fr.first (t + 1 + k))) none))) top
  unfolding run_then items perform evaluate
  goes-postfix operator room q = record {
    goes = λ x y σ κ f g n le k.
        let s = related-skip (omega arith) n in
        rw kernel-append ((q s.0).goes y _ _ _ _ (related-step (omega arith) s.1) λ o G τ ν _ aims level m.
        through aims (omega arith) room x y ν f g m le k);
  }
    where
      through : {q : Place} {n u : ℕ} {w : ℤ} {o : Outcome ℕ FaultSort} {G : Stack ℤ} {τ : State} → Aims fr (F ▹ w) q o G n τ → depth G ≡ u → u < fr.temporaries
          → (x y : ℕ) (ν : State) (f : ℤ → State → Result C) (g : Signal → State → Result D) → Related fr G y τ ν → x + (14 + 2 * n) ≤ y → ValueFollows fr R F top x f g
          → Alike setting.measure R (source fr (do position ← settle o; update operator position (pos 1) old_value) τ f)
          (kernel fr (assigning fr.first (temporary fr.first t) (read q) (assigning fr.first (temporary fr.first u) (binary operator (read (temporary fr.first t)) (constant (pos 1))) (assigning fr.first q (read (temporary fr.first u)) none))) next ν g)
      through {u = u} {o = o} {τ = τ} aims above room x y ν f g m le k =
          rw (see-place fr aims m, run_then) (by-outcome o
          (λ i e. let old = get_or τ.store i (pos 0) in
          let under = aims-under fr old at aims m in
          rw (e, run_then, related-load i (aims-inside fr aims i e) m, related-top at (aims-release fr under.2 under.3), run_then) (by-outcome (apply operator old (pos 1))
          (λ v d. let m3 = related-push v (under.1 ∙ above) room under.3 in
          rw (d, run_then, related-top (under.1 ∙ above) m3, see-place fr under.2 (related-pop m3), e, run_then)
          (k _ _ _ _ holds-top (related-save i v (aims-inside fr aims i e) (aims-release fr under.2 (related-pop (related-logged _ _ (omega arith) (logs-temporary fr u (logs-temporary fr t m.logs)) m3))))))
          (λ _ d. rw (d, run_then) (alike-logged _ _ (omega arith) (logs-temporary fr t m.logs) under.3))))
          (λ _ e. rw (e, run_then) (alike-stop _ (omega arith) m)))
