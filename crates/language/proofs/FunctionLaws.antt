-- Laws of functions: contexts that agree on lower calls give the same meaning to trees whose calls go lower; so a call is the run of its function
-- in the context of the whole program, and the depth of calls within calls shows nowhere. By induction on the tree, then on the calls.
use Rattle.std.specs.Prelude.{◌≡◌, refl, List, ◌∷◌, ℤ, pos}
use Rattle.std.proofs.Common.{sym, ◌∙◌, ap₂, arith}
use Rattle.std.proofs.Math.Path.{ap, fun_ext}
use Prim.Native.Nat.{ℕ, zero, suc, ◌<◌}
use Rattle.words.specs.Word.{pick}
use Rattle.words.specs.Layout.{Layout, array_base, array_length}
use Rattle.arithmetic.specs.Arithmetic.{element as element_word}
use Rattle.computation.specs.Computation.{again, Computation, ret, ◌>>=◌, ◌>>◌, load, loop, settle}
use Rattle.language.specs.Trees.{Expression, constant, read, minus, not, binary, and, or, comma, conditional, assign, compound, prefix, postfix, call, Place, variable, element, Arguments, no_more, ◌also◌, Part, absent, present, Statement, empty, express, block, if_then, if_else, while, do_while, for, switch, break, continue, goto, guarded_if, guarded_do, abort, declare, give_back, Arms, no_arm, arm, Items, none, ◌then◌, ◌here◌, define}
use Rattle.language.specs.Meaning.{enter, Context, evaluate, locate, given, value, value_of, Signal, next, enters_statement, enters_mark, target, after_switch, after_body, after_test, after_arms, try_arm, rounds, perform, choose, choice_rounds, items}
use Rattle.language.specs.Functions.{function_of, function_count, storing, returned, invoke, context_by, call_by, context_of, plain}
use Rattle.language.specs.Calls.{CallsBelow, PlaceCallsBelow, ArgumentsCallBelow, PartCallsBelow, StatementCallsBelow, ArmsCallBelow, ItemsCallBelow, arity_in, CallsInOrder}

module _ (L : Layout) (arity : ℕ → ℕ) (limit : ℕ) (c d : ℕ → List ℤ → Computation ℤ) (same : (f : ℕ) → f < limit → (values : List ℤ) → c f values ≡ d f values) where
  abbrev C : Context
  C = context_by L c

  abbrev D : Context
  D = context_by L d

  mutual
    unfolding evaluate CallsBelow

    pub evaluate-same : (e : Expression) → CallsBelow arity limit e → evaluate C e ≡ evaluate D e
    evaluate-same (constant v) h = refl
    evaluate-same (read p) h = ap (λ x. x >>= load) (locate-same p h)
    evaluate-same (minus e) h = rw (evaluate-same e h)
    evaluate-same (not e) h = rw (evaluate-same e h)
    evaluate-same (binary o a b) h = rw (evaluate-same a h.0, evaluate-same b h.1)
    evaluate-same (and a b) h = rw (evaluate-same a h.0, evaluate-same b h.1)
    evaluate-same (or a b) h = rw (evaluate-same a h.0, evaluate-same b h.1)
    evaluate-same (comma a b) h = rw (evaluate-same a h.0, evaluate-same b h.1)
    evaluate-same (conditional e a b) h = rw (evaluate-same e h.0, evaluate-same a h.1, evaluate-same b h.2)
    evaluate-same (assign p e) h = rw (locate-same p h.0, evaluate-same e h.1)
    evaluate-same (compound o p e) h = rw (locate-same p h.0, evaluate-same e h.1)
    evaluate-same (prefix o p) h = rw (locate-same p h)
    evaluate-same (postfix o p) h = rw (locate-same p h)
    evaluate-same (call f arguments) h = ap₂ (λ x y. x >>= y) (given-same arguments h.2) (fun_ext λ values. same f h.0 values)

    pub locate-same : (p : Place) → PlaceCallsBelow arity limit p → locate C p ≡ locate D p
    locate-same (variable i) h = refl
    locate-same (element array e) h = rw (evaluate-same e h)

    pub given-same : (arguments : Arguments) → ArgumentsCallBelow arity limit arguments → given C arguments ≡ given D arguments
    given-same no_more h = refl
    given-same (e also arguments) h = rw (given-same arguments h.1, evaluate-same e h.0)

  part_same : (p : Part) → PartCallsBelow arity limit p → value_of C p ≡ value_of D p
  part_same absent h = refl
  part_same (present e) h = rw (evaluate-same e h)

  rounds-same : (test action : Part) {m n : Computation Signal} → PartCallsBelow arity limit test → PartCallsBelow arity limit action → m ≡ n → rounds C test action m ≡ rounds D test action n
  rounds-same absent action t a e = rw (part_same action a, e)
  rounds-same (present test) action t a e = rw (part_same action a, evaluate-same test t, e)

  mutual
    unfolding perform choose choice_rounds items StatementCallsBelow

    pub perform-same : (s : Statement) → StatementCallsBelow arity limit s → perform C s ≡ perform D s
    perform-same empty h = refl
    perform-same (express e) h = rw (evaluate-same e h)
    perform-same (block is) h = items-same is next h
    perform-same (if_then e on_true) h = rw (evaluate-same e h.0, perform-same on_true h.1)
    perform-same (if_else e on_true on_false) h = rw (evaluate-same e h.0, perform-same on_true h.1, perform-same on_false h.2)
    perform-same (while e body) h = rounds-same (present e) absent h.0 tt (perform-same body h.1)
    perform-same (do_while body e) h = rw (perform-same body h.0, evaluate-same e h.1)
    perform-same (for first test action body) h = ap₂ (λ x y. x >> y) (part_same first h.0) (rounds-same test action h.1 h.2 (perform-same body h.3))
    perform-same (switch e is) h = ap₂ (λ x y. x >>= λ v. y (target v is) >>= λ signal. ret (after_switch signal)) (ap enter (evaluate-same e h.0)) (fun_ext λ signal. items-same is signal h.1)
    perform-same break h = refl
    perform-same continue h = refl
    perform-same (goto l) h = refl
    perform-same (guarded_if arms) h = rw (choose-same arms h)
    perform-same (guarded_do arms) h = choice_rounds-same arms h
    perform-same abort h = refl
    perform-same (declare word e) h = rw (evaluate-same e h)
    perform-same (give_back part) h = rw (part_same part h)

    choose-same : (arms : Arms) → ArmsCallBelow arity limit arms → choose C arms ≡ choose D arms
    choose-same no_arm h = refl
    choose-same (arm guard body arms) h = rw (evaluate-same guard h.0, perform-same body h.1, choose-same arms h.2)

    choice_rounds-same : (arms : Arms) → ArmsCallBelow arity limit arms → choice_rounds C arms ≡ choice_rounds D arms
    choice_rounds-same no_arm h = refl
    choice_rounds-same (arm guard body arms) h = rw (evaluate-same guard h.0, perform-same body h.1, choose-same arms h.2)

    pub items-same : (is : Items) (signal : Signal) → ItemsCallBelow arity limit is → items C is signal ≡ items D is signal
    items-same none signal h = refl
    items-same (s then is) signal h =
        ap₂ (λ x y. pick (enters_statement signal) (enter x) (ret signal) >>= y) (perform-same s h.0) (fun_ext λ after. items-same is after h.1)
    items-same (m here is) signal h = ap (λ y. pick (enters_mark signal m) (enter (ret next)) (ret signal) >>= y) (fun_ext λ after. items-same is after h)
    items-same (define f words body is) signal h = items-same is signal h

-- ---- a call is the run of its function

module _ (L : Layout) (program : Items) (order : CallsInOrder program) where
  call_same : (n m f : ℕ) → f < function_count program → f < n → f < m → (values : List ℤ) → call_by n L program f values ≡ call_by m L program f values
  unfolding call_by invoke perform
  call_same zero m f inside p q values = absurd (omega arith)
  call_same (suc n) zero f inside p q values = absurd (omega arith)
  call_same (suc n) (suc m) f inside p q values =
      ap (λ x. storing (function_of f program).parameters values >> (enter x >>= λ signal. ret (returned signal)))
      (items-same L (arity_in program) f (call_by n L program) (call_by m L program) (λ g h values. call_same n m g (omega arith) (omega arith) (omega arith) values) (function_of f program).body next (order.lower f inside))

  pub call-is : (f : ℕ) → f < function_count program → (values : List ℤ) → (context_of L program).calling f values ≡ invoke (context_of L program) (function_of f program) values
  unfolding call_by context_of
  call-is f inside values = call_same (function_count program) (suc (function_count program)) f inside inside (omega arith) values

-- ---- programs without functions

pub context-plain : (L : Layout) (program : Items) → function_count program ≡ 0 → context_of L program ≡ plain L
unfolding context_of call_by
context-plain L program e = rw e
