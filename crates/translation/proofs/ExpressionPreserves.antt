-- Every expression and its code go alike: the rules of ExpressionRules, put together by induction on the expression.
use Rattle.std.specs.Prelude.{◌≡◌, Bool, ℕ, ◌+◌, ◌≤◌, ℤ, pos, length}
use Rattle.std.proofs.Math.Bool.{true, false}
use native.Mathlib.Omega.{arith}
use Rattle.words.specs.Word.{pick}
use Rattle.words.specs.Layout.{Layout}
use Rattle.words.specs.declared.Operator.{Operator}
use Rattle.computation.specs.Computation.{Computation, ret, save, ◌>>=◌, ◌>>◌}
use Rattle.computation.specs.Run.{State}
use Rattle.language.specs.Trees.{Expression, constant, read, minus, not, binary, and, or, comma, conditional, assign, compound, prefix, postfix, call, Place, variable, element, Arguments, no_more, ◌also◌, Items, none, ◌⧺◌}
use Rattle.language.specs.Meaning.{enter, evaluate, locate, given, value, items}
use Rattle.language.specs.WellFormed.{NamedExpression, NamedPlace, NamedArguments, SourceName}
use Rattle.language.specs.Calls.{CallsBelow, PlaceCallsBelow, ArgumentsCallBelow}
use Rattle.language.specs.Writes.{writes, index_writes}
use Rattle.language.proofs.UntouchedLaws.{leaves-enter, name-apart, expression-leaves}
use Rattle.translation.specs.Uses.{use_for, passed_on, direct}
use Rattle.translation.specs.declared.Use.{Use}
use Rattle.translation.specs.declared.Use.TheVariants.{Dropped as dropped, Wanted as wanted, Stored as stored}
use Rattle.translation.specs.Translate.{Atom, word, held, together, nothing, landed, taken, place_taken, arguments_taken, atom_of, atom, store_code, kernel_place, expression_code, index_code, arguments_code, result_levels, expression_levels, index_levels, update_levels, postfix_levels, arguments_levels}
use Rattle.translation.specs.Holding.{hold_code}
use Rattle.translation.proofs.HeldCode.{held-variable}
use Rattle.translation.proofs.TranslateBounds.{taken_most, taken-level, arguments-level}
use Rattle.translation.specs.TranslateSize.{own_rows, index_rows, hold_rows, expression_size, index_size, arguments_size}
use Rattle.translation.specs.Stack.{Stack, ◌▹◌, depth}
use Rattle.translation.specs.RunThen.{run_then}
use Rattle.translation.specs.Related.{Setting, source_in, Frame}
use Rattle.translation.proofs.Held.{kernel-append}
use Rattle.translation.proofs.CallRules.{CallsGo, Gives, gives_none, gives-also, goes-call}
use Rattle.translation.proofs.ExpressionRules.{Goes, GoesFor, GoesWithin, HeldAtEnd, within, Points, UseRoom, goes-for, goes-wanted, goes-within, pay, goes-constant, goes-variable, points-variable, points-element, goes-read, goes-minus, goes-not, goes-binary, goes-and, goes-or, goes-comma, goes-copy, goes-conditional, goes-assign, goes-straight, goes-replace, goes_step, goes-compound, goes-old, goes-postfix}

module _ (called : ℕ → ℕ → Bool) where
  pub own-size : (e : Expression) (u : Use) → own_rows called e u ≤ expression_size called e u
  unfolding expression_size
  own-size (constant v) u = omega arith
  own-size (read p) u = omega arith
  own-size (minus e) u = omega arith
  own-size (not e) u = omega arith
  own-size (binary operator a b) u = omega arith
  own-size (and a b) u = omega arith
  own-size (or a b) u = omega arith
  own-size (comma a b) u = omega arith
  own-size (conditional c a b) u = omega arith
  own-size (assign p e) u = omega arith
  own-size (compound operator p e) u = omega arith
  own-size (prefix operator p) u = omega arith
  own-size (postfix operator p) u = omega arith
  own-size (call f arguments) u = omega arith

-- The numbers of a source expression, and of a place, are in range.
abbrev pub InRange : Layout → ℕ → Expression → Type 0
InRange L first e = NamedExpression (SourceName L first) (length L.lengths) e

abbrev pub PlaceInRange : Layout → ℕ → Place → Type 0
PlaceInRange L first p = NamedPlace (SourceName L first) (length L.lengths) p

abbrev pub ArgumentsInRange : Layout → ℕ → Arguments → Type 0
ArgumentsInRange L first arguments = NamedArguments (SourceName L first) (length L.lengths) arguments

-- The variable that a use stores in is one of the source's.
abbrev UseInRange : Layout → ℕ → Use → Type 0
UseInRange L first dropped = Unit {0}
UseInRange L first wanted = Unit {0}
UseInRange L first (stored i) = SourceName L first i

use-in-range : (L : Layout) (first : ℕ) (p : Place) → PlaceInRange L first p → UseInRange L first (use_for p)
unfolding NamedPlace
use-in-range L first (variable i) h = h
use-in-range L first (element array e) h = tt

passed-in-range : (L : Layout) (first : ℕ) (u : Use) → UseInRange L first (passed_on u)
passed-in-range L first dropped = tt
passed-in-range L first wanted = tt
passed-in-range L first (stored i) = tt

-- ---- room for temporaries

use-room : {setting : Setting} (fr : Frame setting) (u : Use) (t : ℕ) → UseInRange setting.layout setting.measure.words u → t + result_levels u ≤ fr.temporaries → UseRoom fr u t
use-room fr dropped t h n = omega arith
use-room fr wanted t h n = omega arith
use-room fr (stored i) t h n = h

module _ (called : ℕ → ℕ → Bool) where
  -- There is room for the index of a place at level t.
  abbrev IndexRoom : Place → ℕ → ℕ → Type 0
  IndexRoom (variable i) t room = Unit {0}
  IndexRoom (element array e) t room = t + expression_levels called e wanted ≤ room

  index-room : (p : Place) (t n room : ℕ) → t + (n + index_levels called p) ≤ room → IndexRoom p (t + n) room
  unfolding expression_levels
  index-room (variable i) t n room h = tt
  index-room (element array e) t n room h = omega arith

  update-room : (p : Place) (t room : ℕ) → t + update_levels called p ≤ room → IndexRoom p (t + 1) room
  unfolding expression_levels
  update-room (variable i) t room h = tt
  update-room (element array e) t room h = omega arith

  postfix-room : (p : Place) (u : Use) (t room : ℕ) → t + postfix_levels called p u ≤ room → IndexRoom p (t + 1) room
  unfolding expression_levels
  postfix-room (variable i) u t room h = tt
  postfix-room (element array e) u t room h = omega arith

-- ---- assignments, compounds, e++

module _ {setting : Setting} (fr : Frame setting) {C D : Type 0} {R : C → D → State → State → Type 0} {F : Stack ℤ} {t : ℕ} (at : depth F ≡ t) where
  -- A variable: the value went straight there, or is assigned from what holds it.
  assign-variable : (i : ℕ) → SourceName setting.layout setting.measure.words i → (straight : Bool) {m : Computation ℤ} {xs : Items} {h : Atom} → t + taken (held (pick straight (word i) h) (index_writes setting.called (variable i))) ≤ fr.temporaries
      → GoesFor fr R true (stored i) straight 0 F m xs h
      → Goes fr R (pick straight 0 4 + hold_rows (pick straight (word i) h) (index_writes setting.called (variable i))) F (do v ← m; position ← enter (ret i); save position v; ret v)
      (xs ⧺ hold_code fr.first t (pick straight (word i) h) (index_writes setting.called (variable i)) ⧺ none ⧺ store_code fr.first (variable i) straight (atom fr.first t (held (pick straight (word i) h) (index_writes setting.called (variable i)))))
      (held (pick straight (word i) h) (index_writes setting.called (variable i)))
  unfolding run_then items writes ◌⧺◌
  assign-variable i b true {xs = xs} room p = record { goes = λ x y σ κ f g n le k. rw kernel-append ((goes-straight fr at i p).goes x y σ κ f _ n (omega arith) k) }
  assign-variable i b false {m = m} {xs = xs} {h = h} room p = goes-within fr _ (omega arith) (goes-assign fr at {a = ret i} {b = m} {xs = none} {ys = xs} {h = h} {W = index_writes setting.called (variable i)} {q = variable i} {n = 0} {k = 0} room (record { goes = λ x y σ κ f g n le k. p.goes x y σ κ f g n le k })
      (λ F' level. points-variable fr i b.inside))

  assign-goes : (p : Place) (e : Expression) → PlaceInRange setting.layout setting.measure.words p → t + taken (held (landed p (direct e) (atom_of setting.called e)) (index_writes setting.called p)) ≤ fr.temporaries
      → GoesFor fr R true (use_for p) (direct e) 0 F (value (source_in setting) e) (expression_code setting.called fr.first e (use_for p) t) (atom_of setting.called e)
      → ((F' : Stack ℤ) → depth F' ≡ t + taken (held (landed p (direct e) (atom_of setting.called e)) (index_writes setting.called p)) → Points fr R (index_writes setting.called p) F' (locate (source_in setting) p) (index_code setting.called fr.first p (t + taken (held (landed p (direct e) (atom_of setting.called e)) (index_writes setting.called p)))) (kernel_place setting.called fr.first p (t + taken (held (landed p (direct e) (atom_of setting.called e)) (index_writes setting.called p)))) (index_rows p) (place_taken setting.called p))
      → Goes fr R (own_rows setting.called (assign p e) wanted) F (evaluate (source_in setting) (assign p e)) (expression_code setting.called fr.first (assign p e) wanted t) (atom_of setting.called (assign p e))
  unfolding ◌⧺◌ evaluate expression_code atom_of kernel_place place_taken NamedPlace
  assign-goes (variable i) e h room p q = assign-variable i h (direct e) room p
  assign-goes (element array d) e h room p q = goes-within fr _ (omega arith) (goes-assign fr at room (goes-wanted fr p) q)

  compound-goes : (operator : Operator) (p : Place) (e : Expression) → PlaceInRange setting.layout setting.measure.words p → t + expression_levels setting.called (compound operator p e) wanted ≤ fr.temporaries
      → Goes fr R 0 F (value (source_in setting) e) (expression_code setting.called fr.first e wanted t) (atom_of setting.called e)
      → ((w : ℤ) → Points fr R (index_writes setting.called p) (F ▹ w) (locate (source_in setting) p) (index_code setting.called fr.first p (t + 1)) (kernel_place setting.called fr.first p (t + 1)) (index_rows p) (place_taken setting.called p))
      → Goes fr R (own_rows setting.called (compound operator p e) wanted) F (evaluate (source_in setting) (compound operator p e)) (expression_code setting.called fr.first (compound operator p e) wanted t) (atom_of setting.called (compound operator p e))
  unfolding ◌⧺◌ evaluate expression_code atom_of kernel_place place_taken expression_levels NamedPlace
  compound-goes operator (variable i) e h n p q =
      let room : t + taken (held (atom_of setting.called e) (index_writes setting.called (variable i))) ≤ fr.temporaries = rw (held-variable setting.called (atom_of setting.called e) i) (omega (arith, taken-level setting.called e)) in
      goes-replace fr at (index_writes setting.called (variable i)) operator i h room p
  compound-goes operator (element array d) e h n p q = goes-within fr _ (omega arith) (goes-compound fr at operator (omega arith) (omega (arith, taken_most (held (atom_of setting.called e) (index_writes setting.called (element array d))))) p q)

  prefix-goes : (operator : Operator) (p : Place) → PlaceInRange setting.layout setting.measure.words p → t + update_levels setting.called p ≤ fr.temporaries
      → ((w : ℤ) → Points fr R (index_writes setting.called p) (F ▹ w) (locate (source_in setting) p) (index_code setting.called fr.first p (t + 1)) (kernel_place setting.called fr.first p (t + 1)) (index_rows p) (place_taken setting.called p))
      → Goes fr R (own_rows setting.called (prefix operator p) wanted) F (evaluate (source_in setting) (prefix operator p)) (expression_code setting.called fr.first (prefix operator p) wanted t) (atom_of setting.called (prefix operator p))
  unfolding ◌⧺◌ run_then evaluate expression_code atom_of kernel_place place_taken expression_levels NamedPlace
  prefix-goes operator (variable i) h n q = record {
    goes = λ x y σ κ f g m le k. (goes-replace fr at (λ _. false) operator i h (omega arith) (goes-constant fr (pos 1))).goes x y σ κ f g m (omega arith) k;
  }
  prefix-goes operator (element array d) h n q = record {
    goes = λ x y σ κ f g m le k. (goes-compound fr at operator (omega arith) (omega arith) (goes-constant fr (pos 1)) q).goes x y σ κ f g m (omega arith) k;
  }

  postfix-goes : {entered : Bool} (operator : Operator) (p : Place) (u : Use) → PlaceInRange setting.layout setting.measure.words p → t + postfix_levels setting.called p u ≤ fr.temporaries
      → ((w : ℤ) → Points fr R (index_writes setting.called p) (F ▹ w) (locate (source_in setting) p) (index_code setting.called fr.first p (t + 1)) (kernel_place setting.called fr.first p (t + 1)) (index_rows p) (place_taken setting.called p))
      → GoesFor fr R entered u false (own_rows setting.called (postfix operator p) u) F (evaluate (source_in setting) (postfix operator p)) (expression_code setting.called fr.first (postfix operator p) u t) (atom_of setting.called (postfix operator p))
  unfolding ◌⧺◌ evaluate expression_code atom_of kernel_place place_taken expression_levels NamedPlace
  postfix-goes operator (variable i) dropped h n q = goes_step fr at operator i h (omega arith)
  postfix-goes operator (variable i) wanted h n q = goes-for fr wanted (goes-old fr at operator i h.inside (omega arith))
  postfix-goes operator (variable i) (stored j) h n q = goes-for fr (stored j) (goes-old fr at operator i h.inside (omega arith))
  postfix-goes operator (element array d) u h n q = goes-for fr u (goes-within fr _ (omega arith) (goes-postfix fr at operator (omega arith) q))

module _ {setting : Setting} (fr : Frame setting) (arity : ℕ → ℕ) (limit : ℕ) (go : CallsGo fr limit) where
  -- The step of entering the row pays.
  paid_for : {C D : Type 0} {R : C → D → State → State → Type 0} {entered : Bool} (e : Expression) (u : Use) {F : Stack ℤ} {xs : Items} {h : Atom} → expression_size setting.called e u ≤ setting.measure.rate → GoesFor fr R entered u (direct e) (own_rows setting.called e u) F (evaluate (source_in setting) e) xs h → GoesFor fr R entered u (direct e) 0 F (value (source_in setting) e) xs h
  paid_for e u r p = pay fr (omega (arith, own-size setting.called e u)) p

  paid : {C D : Type 0} {R : C → D → State → State → Type 0} (e : Expression) {F : Stack ℤ} {xs : Items} {h : Atom} → expression_size setting.called e wanted ≤ setting.measure.rate → GoesFor fr R true wanted (direct e) (own_rows setting.called e wanted) F (evaluate (source_in setting) e) xs h → Goes fr R 0 F (value (source_in setting) e) xs h
  paid e r p = goes-wanted fr (paid_for e wanted r p)

  -- The same, and the expression leaves alone what is not in its write set.
  paid-within : {C D : Type 0} {R : C → D → State → State → Type 0} (e : Expression) {F : Stack ℤ} {xs : Items} {h : Atom} → expression_size setting.called e wanted ≤ setting.measure.rate → ((x : ℕ) → GoesFor fr (HeldAtEnd fr F h x) true wanted (direct e) (own_rows setting.called e wanted) F (evaluate (source_in setting) e) xs h)
      → GoesWithin fr R (writes setting.called e) F (value (source_in setting) e) xs h
  paid-within e r p = within fr (writes setting.called e) (λ x. paid e r (p x)) (λ i b o. leaves-enter (expression-leaves (source_in setting) setting.called i (name-apart setting.layout setting.measure.words i b) (setting.leaves i (name-apart setting.layout setting.measure.words i b)) e o))

  mutual
    unfolding ◌⧺◌ writes evaluate expression_code direct atom_of kernel_place place_taken arguments_taken expression_levels expression_size NamedExpression CallsBelow

    expression-goes : {C D : Type 0} {R : C → D → State → State → Type 0} {entered : Bool} (e : Expression) (u : Use) {F : Stack ℤ} {t : ℕ} → depth F ≡ t → InRange setting.layout setting.measure.words e → CallsBelow arity limit e → UseInRange setting.layout setting.measure.words u
        → t + expression_levels setting.called e u ≤ fr.temporaries → expression_size setting.called e u ≤ setting.measure.rate
        → GoesFor fr R entered u (direct e) (own_rows setting.called e u) F (evaluate (source_in setting) e) (expression_code setting.called fr.first e u t) (atom_of setting.called e)
    expression-goes (constant v) u at h q i n r = goes-for fr u (goes-constant fr v)
    expression-goes (read p) u at h q i n r = read_goes p u at h q i n r
    expression-goes (minus e) u {t = t} at h q i n r = goes-minus fr at u (use-room fr u t i (omega arith)) (paid e (omega arith) (expression-goes e wanted at h q tt (omega arith) (omega arith)))
    expression-goes (not e) u {t = t} at h q i n r = goes-not fr at u (use-room fr u t i (omega arith)) (paid e (omega arith) (expression-goes e wanted at h q tt (omega arith) (omega arith)))
    expression-goes (binary operator a b) u {t = t} at h q i n r = goes-binary fr at u operator (use-room fr u t i (omega arith)) (omega arith) (paid b (omega arith) (expression-goes b wanted at h.1 q.1 tt (omega arith) (omega arith)))
        (λ F' level. paid-within a (omega arith) (λ x. expression-goes a wanted level h.0 q.0 tt (omega arith) (omega arith)))
    expression-goes (and a b) u at h q i n r =
        goes-for fr u (goes-and fr at (omega arith) (paid a (omega arith) (expression-goes a wanted at h.0 q.0 tt (omega arith) (omega arith))) (paid b (omega arith) (expression-goes b wanted at h.1 q.1 tt (omega arith) (omega arith))))
    expression-goes (or a b) u at h q i n r =
        goes-for fr u (goes-or fr at (omega arith) (paid a (omega arith) (expression-goes a wanted at h.0 q.0 tt (omega arith) (omega arith))) (paid b (omega arith) (expression-goes b wanted at h.1 q.1 tt (omega arith) (omega arith))))
    expression-goes (comma a b) u at h q i n r = goes-comma fr at u (paid_for a dropped (omega arith) (expression-goes a dropped at h.0 q.0 tt (omega arith) (omega arith)))
        (paid_for b (passed_on u) (omega arith) (expression-goes b (passed_on u) at h.1 q.1 (passed-in-range setting.layout setting.measure.words u) (omega arith) (omega arith)))
    expression-goes (conditional c a b) u at h q i n r = goes-for fr u (goes-conditional fr at (paid c (omega arith) (expression-goes c wanted at h.0 q.0 tt (omega arith) (omega arith)))
        (goes-copy fr at (omega arith) (paid a (omega arith) (expression-goes a wanted at h.1 q.1 tt (omega arith) (omega arith))))
        (goes-copy fr at (omega arith) (paid b (omega arith) (expression-goes b wanted at h.2 q.2 tt (omega arith) (omega arith)))))
    expression-goes (assign p e) u {t = t} at h q i n r = goes-for fr u (assign-goes fr at p e h.0 (omega arith)
        (paid_for e (use_for p) (omega arith) (expression-goes e (use_for p) at h.1 q.1 (use-in-range setting.layout setting.measure.words p h.0) (omega arith) (omega arith)))
        (λ F' level. place-points p level h.0 q.0 (index-room setting.called p t _ _ (omega arith)) (omega arith)))
    expression-goes (compound operator p e) u {t = t} at h q i n r = goes-for fr u (compound-goes fr at operator p e h.0 n (paid e (omega arith) (expression-goes e wanted at h.1 q.1 tt (omega arith) (omega arith)))
        (λ w. place-points p (omega arith) h.0 q.0 (update-room setting.called p t _ (omega arith)) (omega arith)))
    expression-goes (prefix operator p) u {t = t} at h q i n r = goes-for fr u (prefix-goes fr at operator p h n (λ w. place-points p (omega arith) h q (update-room setting.called p t _ n) (omega arith)))
    expression-goes (postfix operator p) u {t = t} at h q i n r = postfix-goes fr at operator p u h n (λ w. place-points p (omega arith) h q (postfix-room setting.called p u t _ n) (omega arith))
    expression-goes (call f arguments) u {t = t} at h q i n r = goes-call fr at u (use-room fr u t i (omega arith)) f (go.begin f) (go.own f) (omega (arith, arguments-level setting.called arguments nothing)) (go.above f q.0) (go.inside f q.0)
        (λ values. go.alike f q.0 values) (arguments-give arguments nothing at h q.2 (omega arith) (omega arith))

    read_goes : {C D : Type 0} {R : C → D → State → State → Type 0} {entered : Bool} (p : Place) (u : Use) {F : Stack ℤ} {t : ℕ} → depth F ≡ t → PlaceInRange setting.layout setting.measure.words p → PlaceCallsBelow arity limit p → UseInRange setting.layout setting.measure.words u
        → t + expression_levels setting.called (read p) u ≤ fr.temporaries → expression_size setting.called (read p) u ≤ setting.measure.rate
        → GoesFor fr R entered u (direct (read p)) (own_rows setting.called (read p) u) F (evaluate (source_in setting) (read p)) (expression_code setting.called fr.first (read p) u t) (atom_of setting.called (read p))
    read_goes (variable j) u at h q i n r = goes-for fr u (goes-variable fr j h)
    read_goes (element array e) u {t = t} at h q i n r = goes-read fr at u (use-room fr u t i (omega arith))
        (points-element fr at array (setting.arrays_inside array h.0) (paid-within e (omega arith) (λ x. expression-goes e wanted at h.1 q tt (omega arith) (omega arith))))

    place-points : {C D : Type 0} {R : C → D → State → State → Type 0} (p : Place) {F : Stack ℤ} {t : ℕ} → depth F ≡ t → PlaceInRange setting.layout setting.measure.words p → PlaceCallsBelow arity limit p → IndexRoom setting.called p t fr.temporaries → index_size setting.called p ≤ setting.measure.rate
        → Points fr R (index_writes setting.called p) F (locate (source_in setting) p) (index_code setting.called fr.first p t) (kernel_place setting.called fr.first p t) (index_rows p) (place_taken setting.called p)
    place-points (variable i) at h q n r = points-variable fr i h.inside
    place-points (element array e) at h q n r = points-element fr at array (setting.arrays_inside array h.0) (paid-within e (omega arith) (λ x. expression-goes e wanted at h.1 q tt n r))

    arguments-give : {C D : Type 0} {R : C → D → State → State → Type 0} (arguments : Arguments) (W : ℕ → Bool) {F : Stack ℤ} {t : ℕ} → depth F ≡ t → ArgumentsInRange setting.layout setting.measure.words arguments → ArgumentsCallBelow arity limit arguments
        → t + arguments_levels setting.called arguments W ≤ fr.temporaries → arguments_size setting.called arguments W ≤ setting.measure.rate
        → Gives fr R F arguments W (given (source_in setting) arguments) (arguments_code setting.called fr.first arguments W t)
    arguments-give no_more W at h q n r = gives_none fr at
    arguments-give (e also arguments) W at h q n r = gives-also fr at (omega arith) (omega arith) (arguments-give arguments (together (writes setting.called e) W) at h.1 q.1 (omega arith) (omega arith))
        (λ F' level. paid-within e (omega arith) (λ x. expression-goes e wanted level h.0 q.0 tt (omega arith) (omega arith)))

  -- An expression whose value is wanted, after the entry of its row.
  pub wanted-goes : {C D : Type 0} {R : C → D → State → State → Type 0} (e : Expression) {F : Stack ℤ} {t : ℕ} → depth F ≡ t → InRange setting.layout setting.measure.words e → CallsBelow arity limit e → t + expression_levels setting.called e wanted ≤ fr.temporaries → expression_size setting.called e wanted ≤ setting.measure.rate
      → Goes fr R (own_rows setting.called e wanted) F (evaluate (source_in setting) e) (expression_code setting.called fr.first e wanted t) (atom_of setting.called e)
  wanted-goes e at h q n r = goes-wanted fr (expression-goes e wanted at h q tt n r)

  -- With the step of entering it.
  pub value-goes : {C D : Type 0} {R : C → D → State → State → Type 0} (e : Expression) {F : Stack ℤ} {t : ℕ} → depth F ≡ t → InRange setting.layout setting.measure.words e → CallsBelow arity limit e → t + expression_levels setting.called e wanted ≤ fr.temporaries → expression_size setting.called e wanted ≤ setting.measure.rate
      → Goes fr R 0 F (value (source_in setting) e) (expression_code setting.called fr.first e wanted t) (atom_of setting.called e)
  value-goes e at h q n r = paid e r (expression-goes e wanted at h q tt n r)

  -- One whose value is dropped.
  pub dropped-goes : {C D : Type 0} {R : C → D → State → State → Type 0} (e : Expression) {F : Stack ℤ} {t : ℕ} → depth F ≡ t → InRange setting.layout setting.measure.words e → CallsBelow arity limit e → t + expression_levels setting.called e dropped ≤ fr.temporaries → expression_size setting.called e dropped ≤ setting.measure.rate
      → GoesFor fr R true dropped (direct e) 0 F (value (source_in setting) e) (expression_code setting.called fr.first e dropped t) (atom_of setting.called e)
  dropped-goes e at h q n r = paid_for e dropped r (expression-goes e dropped at h q tt n r)

  -- One whose value a declaration stores.
  pub declared-goes : {C D : Type 0} {R : C → D → State → State → Type 0} (i : ℕ) (e : Expression) {F : Stack ℤ} {t : ℕ} → depth F ≡ t → SourceName setting.layout setting.measure.words i → InRange setting.layout setting.measure.words e → CallsBelow arity limit e → t + expression_levels setting.called e (stored i) ≤ fr.temporaries → expression_size setting.called e (stored i) ≤ setting.measure.rate
      → GoesFor fr R false (stored i) (direct e) 0 F (value (source_in setting) e) (expression_code setting.called fr.first e (stored i) t) (atom_of setting.called e)
  declared-goes i e at b h q n r = paid_for e (stored i) r (expression-goes e (stored i) at h q b n r)
