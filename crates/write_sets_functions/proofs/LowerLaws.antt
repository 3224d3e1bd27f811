-- What a function can write comes from what lower ones can: a tree whose calls go lower writes the same, whatever the functions above write. By
-- induction on the tree, then on the calls.
use mathlib.Core.Path.{◌≡◌, refl, sym, ap, ap₂, ◌∙◌}
use mathlib.Core.Bool.{Bool, ◌&&◌, ◌||◌}
use Prim.Native.Nat.{ℕ, zero, suc, ◌<◌}
use native.Mathlib.Omega.{arith}
use lib.Dec.{eqb, ltb}
use borrow.Author.Tests.{lt-ltb}
use Rattle.language.specs.Trees.{Expression, constant, read, minus, not, binary, and, or, comma, conditional, assign, compound, prefix, postfix, call, Place, variable, element, Arguments, no_more, ◌also◌, Part, absent, present, Statement, empty, express, block, if_then, if_else, while, do_while, for, switch, break, continue, goto, guarded_if, guarded_do, abort, declare, give_back, Arms, no_arm, arm, Items, none, ◌then◌, ◌here◌, define}
use Rattle.language.specs.Functions.{function_of, function_count}
use Rattle.language.specs.Calls.{CallsBelow, PlaceCallsBelow, ArgumentsCallBelow, PartCallsBelow, StatementCallsBelow, ArmsCallBelow, ItemsCallBelow, arity_in, CallsInOrder}
use Rattle.language.specs.Writes.{is_variable, writes, index_writes, arguments_write}
use Rattle.language.specs.FunctionWrites.{is_among, part_writes, statement_writes, arms_write, items_write, function_writes, written_by, functions_write}

module _ (arity : ℕ → ℕ) (limit : ℕ) (c d : ℕ → ℕ → Bool) (i : ℕ) (same : (f : ℕ) → f < limit → c f i ≡ d f i) where
  mutual
    unfolding writes CallsBelow

    writes-same : (e : Expression) → CallsBelow arity limit e → writes c e i ≡ writes d e i
    writes-same (constant v) h = refl
    writes-same (read p) h = index_same p h
    writes-same (minus e) h = writes-same e h
    writes-same (not e) h = writes-same e h
    writes-same (binary o a b) h = ap₂ ◌||◌ (writes-same a h.0) (writes-same b h.1)
    writes-same (and a b) h = ap₂ ◌||◌ (writes-same a h.0) (writes-same b h.1)
    writes-same (or a b) h = ap₂ ◌||◌ (writes-same a h.0) (writes-same b h.1)
    writes-same (comma a b) h = ap₂ ◌||◌ (writes-same a h.0) (writes-same b h.1)
    writes-same (conditional e a b) h = ap₂ ◌||◌ (writes-same e h.0) (ap₂ ◌||◌ (writes-same a h.1) (writes-same b h.2))
    writes-same (assign p e) h = ap (λ (x : Bool). is_variable p i || x) (ap₂ ◌||◌ (index_same p h.0) (writes-same e h.1))
    writes-same (compound o p e) h = ap (λ (x : Bool). is_variable p i || x) (ap₂ ◌||◌ (index_same p h.0) (writes-same e h.1))
    writes-same (prefix o p) h = ap (λ (x : Bool). is_variable p i || x) (index_same p h)
    writes-same (postfix o p) h = ap (λ (x : Bool). is_variable p i || x) (index_same p h)
    writes-same (call f arguments) h = ap₂ ◌||◌ (same f h.0) (arguments-same arguments h.2)

    index_same : (p : Place) → PlaceCallsBelow arity limit p → index_writes c p i ≡ index_writes d p i
    index_same (variable j) h = refl
    index_same (element array e) h = writes-same e h

    arguments-same : (arguments : Arguments) → ArgumentsCallBelow arity limit arguments → arguments_write c arguments i ≡ arguments_write d arguments i
    arguments-same no_more h = refl
    arguments-same (e also arguments) h = ap₂ ◌||◌ (writes-same e h.0) (arguments-same arguments h.1)

  part_same : (p : Part) → PartCallsBelow arity limit p → part_writes c p i ≡ part_writes d p i
  part_same absent h = refl
  part_same (present e) h = writes-same e h

  mutual
    unfolding statement_writes StatementCallsBelow

    statement-same : (s : Statement) → StatementCallsBelow arity limit s → statement_writes c s i ≡ statement_writes d s i
    statement-same empty h = refl
    statement-same (express e) h = writes-same e h
    statement-same (block is) h = items-same is h
    statement-same (if_then e on_true) h = ap₂ ◌||◌ (writes-same e h.0) (statement-same on_true h.1)
    statement-same (if_else e on_true on_false) h = ap₂ ◌||◌ (writes-same e h.0) (ap₂ ◌||◌ (statement-same on_true h.1) (statement-same on_false h.2))
    statement-same (while e body) h = ap₂ ◌||◌ (writes-same e h.0) (statement-same body h.1)
    statement-same (do_while body e) h = ap₂ ◌||◌ (statement-same body h.0) (writes-same e h.1)
    statement-same (for first test action body) h = ap₂ ◌||◌ (part_same first h.0) (ap₂ ◌||◌ (part_same test h.1) (ap₂ ◌||◌ (part_same action h.2) (statement-same body h.3)))
    statement-same (switch e is) h = ap₂ ◌||◌ (writes-same e h.0) (items-same is h.1)
    statement-same break h = refl
    statement-same continue h = refl
    statement-same (goto l) h = refl
    statement-same (guarded_if arms) h = arms_same arms h
    statement-same (guarded_do arms) h = arms_same arms h
    statement-same abort h = refl
    statement-same (declare word e) h = ap (λ (x : Bool). eqb word i || x) (writes-same e h)
    statement-same (give_back part) h = part_same part h

    arms_same : (arms : Arms) → ArmsCallBelow arity limit arms → arms_write c arms i ≡ arms_write d arms i
    arms_same no_arm h = refl
    arms_same (arm guard body arms) h = ap₂ ◌||◌ (writes-same guard h.0) (ap₂ ◌||◌ (statement-same body h.1) (arms_same arms h.2))

    pub items-same : (is : Items) → ItemsCallBelow arity limit is → items_write c is i ≡ items_write d is i
    items-same none h = refl
    items-same (s then is) h = ap₂ ◌||◌ (statement-same s h.0) (items-same is h.1)
    items-same (m here is) h = items-same is h
    items-same (define f words body is) h = items-same is h

-- ---- functions

module _ (program : Items) (order : CallsInOrder program) (i : ℕ) where
  written_same : (n m f : ℕ) → f < function_count program → f < n → f < m → written_by n program f i ≡ written_by m program f i
  unfolding written_by function_writes
  written_same zero m f inside p q = absurd (omega arith)
  written_same (suc n) zero f inside p q = absurd (omega arith)
  written_same (suc n) (suc m) f inside p q =
      ap (λ (x : Bool). is_among i (function_of f program).parameters || x)
      (items-same (arity_in program) f (written_by n program) (written_by m program) i (λ g h. written_same n m g (omega arith) (omega arith) (omega arith)) (function_of f program).body (order.lower f inside))

  -- A function can write its parameters, and what its block can by the functions below it.
  pub function-lower : (f : ℕ) → f < function_count program
      → functions_write program f i ≡ (is_among i (function_of f program).parameters || items_write (λ g j. ltb g f && functions_write program g j) (function_of f program).body i)
  unfolding functions_write written_by function_writes
  function-lower f inside =
      written_same (function_count program) (suc (function_count program)) f inside inside (omega arith)
      ∙ ap (λ (x : Bool). is_among i (function_of f program).parameters || x)
      (items-same (arity_in program) f (written_by (function_count program) program) (λ g j. ltb g f && written_by (function_count program) program g j) i (λ g h. sym (ap (λ (b : Bool). b && written_by (function_count program) program g i) (lt-ltb g f h))) (function_of f program).body (order.lower f inside))
