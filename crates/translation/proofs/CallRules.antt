-- A call and its code go alike: what the caller holds is left alone by what it calls, and is there again afterwards; arguments are worked out from the
-- last on, each held while those before it are.
use Rattle.std.specs.Prelude.{◌≡◌, refl, Bool, true, false, ℤ, pos, length, take, drop}
use Rattle.std.proofs.Common.{sym, ◌∙◌, length-append, length-drop, take-append-drop, length-take-le}
use Rattle.std.proofs.Math.Path.{ap}
use mathlib.Core.List.{List, [], ◌∷◌, ◌++◌, append_assoc}
use Prim.Native.Nat.{ℕ, suc, ◌+◌, ◌*◌, ◌-◌, ◌≤◌, ◌<◌}
use native.Mathlib.Omega.{arith}
use Rattle.std.proofs.Math.Nat.{add-zero}
use Rattle.words.specs.Laws.{neither}
use Rattle.computation.specs.Computation.{Computation, ret, ◌>>=◌, ◌>>◌}
use Rattle.computation.specs.Run.{Write, State, Result}
use Rattle.language.specs.Trees.{Expression, call, Arguments, no_more, ◌also◌, Items, none, ◌⧺◌}
use Rattle.language.specs.Meaning.{Signal, next, enter, evaluate, given, perform, items}
use Rattle.language.specs.Calls.{argument_count}
use Rattle.language.specs.Writes.{writes}
use Rattle.translation.specs.declared.Use.{Use}
use Rattle.translation.specs.Translate.{Atom, top, held, together, taken, atom_of, arguments_taken, atom, assigning, target, argument_atoms}
use Rattle.translation.specs.Holding.{hold_code}
use Rattle.translation.specs.TranslateSize.{hold_rows}
use Rattle.translation.specs.Stack.{Stack, bottom, ◌▹◌, depth, laid}
use Rattle.translation.specs.RunThen.{run_then}
use Rattle.translation.specs.Related.{Setting, kernel_in, Frame, Related, Alike, related-ran, related-step}
use Rattle.translation.proofs.Held.{Holds, holds-depth, Keeps, after-step, holds_later, source, kernel, kernel-append, see, release}
use Rattle.translation.proofs.ExpressionRules.{UseRoom, GoesFor, GoesWithin, lands, hold}

-- ---- what is left alone

-- The words of a stack, and then r.
abbrev listed : Stack ℤ → List ℤ → List ℤ
listed bottom r = r
listed (F ▹ v) r = listed F (v ∷ r)

laid-listed : (l : List ℤ) (F : Stack ℤ) (r : List ℤ) → laid l F r ≡ l ++ listed F r
laid-listed l bottom r = refl
laid-listed l (F ▹ v) r = laid-listed l F (v ∷ r)

listed-append : (F : Stack ℤ) (r s : List ℤ) → listed F (r ++ s) ≡ listed F r ++ s
listed-append bottom r s = refl
listed-append (F ▹ v) r s = listed-append F (v ∷ r) s

length-listed : (F : Stack ℤ) (r : List ℤ) → length (listed F r) ≡ depth F + length r
length-listed bottom r = omega arith
length-listed (F ▹ v) r = omega (arith, length-listed F (v ∷ r))

-- The frame of a function with so many temporaries from store word `begin` on, called from this one.
abbrev pub raised : {setting : Setting} (fr : Frame setting) (more : List ℤ) (begin own room : ℕ) → fr.first + length more ≡ begin → length more + room ≡ fr.room → own ≤ room → Frame setting
raised fr more begin own room at e fits = record {
  under = fr.under ++ more;
  first = begin;
  first_is = simp length-append (omega (arith, fr.first_is));
  temporaries = own;
  room = room;
  fits = fits;
  all_words = simp length-append (omega (arith, fr.all_words));
}

module _ {setting : Setting} {fr : Frame setting} {F : Stack ℤ} (pad : List ℤ) (begin own room : ℕ) (at : fr.first + length (listed F pad) ≡ begin) (e : length (listed F pad) + room ≡ fr.room) (fits : own ≤ room) where
  related-in : {x : ℕ} {σ κ : State} (n : Related fr F x σ κ) (rest : List ℤ) → n.spare ≡ pad ++ rest → Related (raised fr (listed F pad) begin own room at e fits) bottom x σ κ
  related-in {σ = σ} n rest s = record {
    spare = rest;
    stores = n.stores ∙ rw s (laid-listed (σ.store ++ fr.under) F (pad ++ rest) ∙ ap (λ l. (σ.store ++ fr.under) ++ l) (listed-append F pad rest) ∙ sym (append_assoc (σ.store ++ fr.under) (listed F pad) rest)
        ∙ ap (λ l. l ++ rest) (append_assoc σ.store fr.under (listed F pad)));
    source_words = n.source_words;
    kernel_words = omega (arith, n.kernel_words, length-listed F pad, ap length s, length-append pad rest);
    cost = n.cost;
    logs = n.logs;
  }

  related-out : {x : ℕ} {σ κ : State} → Related (raised fr (listed F pad) begin own room at e fits) bottom x σ κ → Related fr F x σ κ
  related-out {σ = σ} n = record {
    spare = pad ++ n.spare;
    stores = n.stores ∙ ap (λ l. l ++ n.spare) (sym (append_assoc σ.store fr.under (listed F pad))) ∙ append_assoc (σ.store ++ fr.under) (listed F pad) n.spare
        ∙ ap (λ l. (σ.store ++ fr.under) ++ l) (sym (listed-append F pad n.spare)) ∙ sym (laid-listed (σ.store ++ fr.under) F (pad ++ n.spare));
    source_words = n.source_words;
    kernel_words = omega (arith, n.kernel_words, length-listed F pad, length-append pad n.spare);
    cost = n.cost;
    logs = n.logs;
  }

-- ---- calls

-- Two calls go alike behind any words, up to store word `begin`, that they leave alone; they have `own` temporaries.
pub record CallsAlike {setting : Setting} (fr : Frame setting) {C D : Type 0} (R : C → D → State → State → Type 0) (begin own : ℕ) (m n : Computation ℤ) : Type 0 where
  pub calls : (more : List ℤ) (room : ℕ) (at : fr.first + length more ≡ begin) (e : length more + room ≡ fr.room) (fits : own ≤ room) (x : ℕ) (σ κ : State) (f : ℤ → State → Result C) (g : ℤ → State → Result D)
      → Related (raised fr more begin own room at e fits) bottom x σ κ → ((v : ℤ) (τ ν : State) → Related (raised fr more begin own room at e fits) bottom x τ ν → Alike setting.measure R (f v τ) (g v ν))
      → Alike setting.measure R (source fr m σ f) (source fr n κ g)

-- What is known of the functions that may be called, which are those below `limit`: where their temporaries begin, above this frame's, and how many they have.
pub record CallsGo {setting : Setting} (fr : Frame setting) (limit : ℕ) : Type 1 where
  pub begin : ℕ → ℕ
  pub own : ℕ → ℕ
  pub above : (f : ℕ) → f < limit → fr.first + fr.temporaries ≤ begin f
  pub inside : (f : ℕ) → f < limit → begin f + own f ≤ fr.first + fr.room
  pub alike : {C D : Type 0} {R : C → D → State → State → Type 0} (f : ℕ) → f < limit → (values : List ℤ) → CallsAlike fr R (begin f) (own f) (setting.source_calls f values) (setting.kernel_calls f values)

module _ {setting : Setting} (fr : Frame setting) {C D : Type 0} {R : C → D → State → State → Type 0} where
  -- So they do from a state in which the caller holds temporaries below `begin`.
  call-alike : {begin own : ℕ} {m n : Computation ℤ} → CallsAlike fr R begin own m n → {F : Stack ℤ} → fr.first + depth F ≤ begin → begin + own ≤ fr.first + fr.room → (x : ℕ) (σ κ : State) (f : ℤ → State → Result C) (g : ℤ → State → Result D)
      → Related fr F x σ κ → ((v : ℤ) (τ ν : State) → Related fr F x τ ν → Alike setting.measure R (f v τ) (g v ν)) → Alike setting.measure R (source fr m σ f) (source fr n κ g)
  call-alike {begin} {own} p {F} least most x σ κ f g n k =
      let here = begin - (fr.first + depth F) in
      let pad = take here n.spare in
      let rest = drop here n.spare in
      let fits : here ≤ length n.spare = omega (arith, n.kernel_words) in
      let a : length pad ≡ here = length-take-le here n.spare fits in
      let b : length rest ≡ length n.spare - here = length-drop here n.spare in
      let at : fr.first + length (listed F pad) ≡ begin = omega (arith, length-listed F pad, a) in
      let e : length (listed F pad) + length rest ≡ fr.room = omega (arith, length-listed F pad, n.kernel_words, a, b, fits) in
      let room : own ≤ length rest = omega (arith, length-listed F pad, n.kernel_words, a, b, fits) in
      p.calls (listed F pad) (length rest) at e room x σ κ f g (related-in pad begin own (length rest) at e room n rest (sym (take-append-drop here n.spare))) (λ v τ ν m. k v τ ν (related-out pad begin own (length rest) at e room m))

-- ---- arguments

module _ {setting : Setting} (fr : Frame setting) where
  -- The atoms of the arguments from one on hold their values, above the stack F.
  pub data Passed (F : Stack ℤ) : Arguments → (ℕ → Bool) → List ℤ → Stack ℤ → State → Type 0 where
    passed_none : {W : ℕ → Bool} {σ : State} → Passed F no_more W [] F σ
    passed-also : {e : Expression} {arguments : Arguments} {W : ℕ → Bool} {values : List ℤ} {v : ℤ} {F' F'' : Stack ℤ} {σ : State}
        → Passed F arguments (together (writes setting.called e) W) values F' σ → Holds fr F' (held (atom_of setting.called e) W) v F'' σ → Passed F (e also arguments) W (v ∷ values) F'' σ

  passed-depth : {F F' : Stack ℤ} {arguments : Arguments} {W : ℕ → Bool} {values : List ℤ} {t : ℕ} {σ : State} → depth F ≡ t → Passed F arguments W values F' σ → depth F' ≡ t + arguments_taken setting.called arguments W
  unfolding arguments_taken
  passed-depth at passed_none = omega arith
  passed-depth at (passed-also p h) = holds-depth fr (passed-depth at p) h ∙ omega arith

  -- What is held stays so while the source writes no variable but those that the atoms can stand.
  passed_later : {F F' : Stack ℤ} {arguments : Arguments} {W : ℕ → Bool} {values : List ℤ} {σ τ : State} (B : ℕ → Bool) → ((i : ℕ) → W i ≡ false → B i ≡ false) → Keeps fr B σ τ → Passed F arguments W values F' σ → Passed F arguments W values F' τ
  passed_later B within k passed_none = passed_none
  passed_later {W = W} B within k (passed-also {e = e} p h) =
      passed-also (passed_later B (λ i o. within i (neither (writes setting.called e i) (W i) o).1) k p) (holds_later fr (atom_of setting.called e) W (record { keeps = λ i b o. k.keeps i b (within i o) }) h)

  release-all : {F F' : Stack ℤ} {arguments : Arguments} {W : ℕ → Bool} {values : List ℤ} {x : ℕ} {ρ σ κ : State} → Passed F arguments W values F' ρ → Related fr F' x σ κ → Related fr F x σ κ
  release-all passed_none m = m
  release-all (passed-also p h) m = release-all p (release fr h m)

  -- The kernel reads the values of all arguments, two steps each.
  see-all : {D : Type 0} {F F' : Stack ℤ} {arguments : Arguments} {W : ℕ → Bool} {values : List ℤ} {x t : ℕ} {σ κ : State} → depth F ≡ t → Passed F arguments W values F' σ → Related fr F' x σ κ
      → (u : ℕ) (ws : List Write) (k : List ℤ → State → Result D)
      → source fr (given (kernel_in setting) (argument_atoms setting.called fr.first arguments W t)) (record { store = κ.store; count = u; writes = ws }) k
      ≡ k values (record { store = κ.store; count = u + 2 * argument_count arguments; writes = ws })
  unfolding run_then evaluate argument_atoms argument_count
  see-all at passed_none m u ws k = rw add-zero
  see-all {κ = κ} at (passed-also {arguments = arguments} {values = values} {v = v} p h) m u ws k =
      let count : suc (suc (u + 2 * argument_count arguments)) ≡ u + 2 * suc (argument_count arguments) = omega arith in
      see-all at p (release fr h m) u ws _ ∙ see fr (passed-depth at p) h m _ ws _ ∙ ap (λ (c : ℕ). k (v ∷ values) (record { store = κ.store; count = c; writes = ws })) count

module _ {setting : Setting} (fr : Frame setting) {C D : Type 0} (R : C → D → State → State → Type 0) where
  -- The arguments from one on and kernel items go alike; after them the atoms of all hold their values, above the stack F.
  pub record Gives (F : Stack ℤ) (arguments : Arguments) (W : ℕ → Bool) (m : Computation (List ℤ)) (xs : Items) : Type 0 where
    pub goes : (x : ℕ) (σ κ : State) (f : List ℤ → State → Result C) (g : Signal → State → Result D) → Related fr F x σ κ
        → ((values : List ℤ) (F' : Stack ℤ) (τ ν : State) → Passed fr F arguments W values F' τ → Related fr F' x τ ν → Alike setting.measure R (f values τ) (g next ν))
        → Alike setting.measure R (source fr m σ f) (kernel fr xs next κ g)

module _ {setting : Setting} (fr : Frame setting) {C D : Type 0} {R : C → D → State → State → Type 0} {F : Stack ℤ} {t : ℕ} (at : depth F ≡ t) where
  pub gives_none : {W : ℕ → Bool} → Gives fr R F no_more W (ret []) none
  unfolding run_then items
  gives_none = record { goes = λ x σ κ f g n k. k [] F σ κ passed_none n }

  -- An argument's own row pays for its copy.
  pub gives-also : {e : Expression} {arguments : Arguments} {W : ℕ → Bool} {m : Computation ℤ} {ms : Computation (List ℤ)} {xs ys : Items}
      → t + (arguments_taken setting.called arguments (together (writes setting.called e) W) + taken (held (atom_of setting.called e) W)) ≤ fr.temporaries → hold_rows (atom_of setting.called e) W ≤ setting.measure.rate
      → Gives fr R F arguments (together (writes setting.called e) W) ms ys
      → ((F' : Stack ℤ) → depth F' ≡ t + arguments_taken setting.called arguments (together (writes setting.called e) W) → GoesWithin fr R (writes setting.called e) F' m xs (atom_of setting.called e))
      → Gives fr R F (e also arguments) W (do values ← ms; v ← enter m; ret (v ∷ values))
      (ys ⧺ xs ⧺ hold_code fr.first (t + arguments_taken setting.called arguments (together (writes setting.called e) W)) (atom_of setting.called e) W)
  unfolding run_then
  gives-also {e = e} {W = W} {xs = xs} {ys = ys} room paid p q = record {
    goes = λ x σ κ f g n k.
        rw (kernel-append fr ys) (p.goes x _ _ _ _ n λ values F' τ ν passed m.
        rw (kernel-append fr xs) ((q F' (passed-depth fr at passed)).goes (x + hold_rows (atom_of setting.called e) W) _ _ _ _ (related-step (omega arith) m) λ v F'' τ ν kept holds m.
        hold fr (passed-depth fr at passed) (atom_of setting.called e) W (omega arith) holds x _ ν _ _ m (omega arith) λ F'' ν holds m.
        k (v ∷ values) F'' τ ν (passed-also (passed_later fr (writes setting.called e) (λ i o. (neither (writes setting.called e i) (W i) o).0) (after-step fr kept) passed) holds) m));
  }

  pub goes-call : {entered : Bool} {arguments : Arguments} {W : ℕ → Bool} {ms : Computation (List ℤ)} {xs : Items} (u : Use) → UseRoom fr u t → (f begin own : ℕ)
      → t + arguments_taken setting.called arguments W ≤ fr.temporaries → fr.first + fr.temporaries ≤ begin → begin + own ≤ fr.first + fr.room
      → ((values : List ℤ) → CallsAlike fr R begin own (setting.source_calls f values) (setting.kernel_calls f values)) → Gives fr R F arguments W ms xs
      → GoesFor fr R entered u true (4 + 2 * argument_count arguments) F (do values ← ms; setting.source_calls f values)
      (xs ⧺ assigning fr.first (target fr.first u t) (call f (argument_atoms setting.called fr.first arguments W t)) none) top
  unfolding run_then items perform evaluate
  goes-call {entered = entered} {arguments = arguments} {xs = xs} u room f begin own fit above inside alike p = record {
    goes = λ x y σ κ k g n le follows.
        rw (kernel-append fr xs) (p.goes y _ _ _ _ n λ values F' τ ν passed m.
        rw (see-all fr at passed m, run_then) (call-alike fr (alike values) (omega (arith, passed-depth fr at passed)) inside (x + 1) τ _ _ _ (related-ran _ (omega arith) m) λ v τ ν m.
        lands fr at u entered room v x k g (release-all fr passed (related-ran _ (omega arith) m)) follows));
  }
