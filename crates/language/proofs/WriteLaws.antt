-- The test and the relation of Writes say the same: an expression can write a variable exactly where it has it as the place of a kind
-- 21 to 30. By induction on the expression, and on where the place stands.
use Rattle.std.specs.Prelude.{◌≡◌, refl, Bool, true, ◌↔◌, ℕ}
use Rattle.std.proofs.Common.{subst, ⊎_elim, eqb-true, eq-eqb}
use Rattle.std.proofs.lemmas.Bool.{false≢true}
use Rattle.std.proofs.Math.Bool.{or-true}
use Rattle.words.specs.Laws.{either}
use Rattle.language.specs.Trees.{Expression, constant, read, minus, not, binary, and, or, comma, conditional, assign, compound, prefix, postfix, call, Place, variable, element, Arguments, no_more, ◌also◌}
use Rattle.language.specs.Writes.{Stores, by_assign, by_compound, by_prefix, by_postfix, Index, of_element, Argument, first_argument, later_argument, Operand, of_read, of_minus, of_not, left_of_binary, right_of_binary, left_of_and, right_of_and, left_of_or, right_of_or, left_of_comma, right_of_comma, test_of_conditional, yes_of_conditional, no_of_conditional, index_of_assign, value_of_assign, index_of_compound, value_of_compound, index_of_prefix, index_of_postfix, argument_of_call, HasAsPlace, at_row, below, by_call, is_variable, writes, index_writes, arguments_write}

module _ (called : ℕ → ℕ → Bool) (i : ℕ) where
  -- function f can write the variable
  abbrev Called : ℕ → Type 0
  Called f = called f i ≡ true

  -- ---- where the place stands, the test holds

  own-writes : {e : Expression} → Stores (variable i) e → writes called e i ≡ true
  unfolding writes
  own-writes by_assign = rw (eq-eqb i i refl)
  own-writes by_compound = rw (eq-eqb i i refl)
  own-writes by_prefix = rw (eq-eqb i i refl)
  own-writes by_postfix = rw (eq-eqb i i refl)

  index-writes : {d : Expression} {p : Place} → Index d p → writes called d i ≡ true → index_writes called p i ≡ true
  unfolding index_writes
  index-writes of_element h = h

  argument-writes : {d : Expression} {arguments : Arguments} → Argument d arguments → writes called d i ≡ true → arguments_write called arguments i ≡ true
  unfolding arguments_write
  argument-writes first_argument h = rw h
  argument-writes (later_argument x) h = simp (argument-writes x h, or-true)

  operand-writes : {d e : Expression} → Operand d e → writes called d i ≡ true → writes called e i ≡ true
  unfolding writes
  operand-writes (of_read x) h = index-writes x h
  operand-writes of_minus h = h
  operand-writes of_not h = h
  operand-writes left_of_binary h = rw h
  operand-writes right_of_binary h = simp (h, or-true)
  operand-writes left_of_and h = rw h
  operand-writes right_of_and h = simp (h, or-true)
  operand-writes left_of_or h = rw h
  operand-writes right_of_or h = simp (h, or-true)
  operand-writes left_of_comma h = rw h
  operand-writes right_of_comma h = simp (h, or-true)
  operand-writes test_of_conditional h = rw h
  operand-writes yes_of_conditional h = simp (h, or-true)
  operand-writes no_of_conditional h = simp (h, or-true)
  operand-writes (index_of_assign x) h = simp (index-writes x h, or-true)
  operand-writes value_of_assign h = simp (h, or-true)
  operand-writes (index_of_compound x) h = simp (index-writes x h, or-true)
  operand-writes value_of_compound h = simp (h, or-true)
  operand-writes (index_of_prefix x) h = simp (index-writes x h, or-true)
  operand-writes (index_of_postfix x) h = simp (index-writes x h, or-true)
  operand-writes (argument_of_call x) h = simp (argument-writes x h, or-true)

  call-writes : (f : ℕ) (arguments : Arguments) → called f i ≡ true → writes called (call f arguments) i ≡ true
  unfolding writes
  call-writes f arguments h = rw h

  place-writes : {e : Expression} → HasAsPlace Called i e → writes called e i ≡ true
  place-writes (at_row s) = own-writes s
  place-writes (below o h) = operand-writes o (place-writes h)
  place-writes (by_call {f} {arguments} c) = call-writes f arguments c

  -- ---- where the test holds, the place stands

  -- an expression that stores to p, which is the variable i
  at_own : {e : Expression} (p : Place) → Stores p e → is_variable p i ≡ true → HasAsPlace Called i e
  at_own {e} (variable j) s h = at_row (subst (λ (k : ℕ). Stores (variable k) e) (eqb-true j i h) s)
  at_own (element array d) s h = absurd (false≢true h)

  -- the index of a place that has it
  record IndexHas (p : Place) : Type 0 where
    index : Expression
    is-index : Index index p
    has : HasAsPlace Called i index

  -- an argument that has it
  record ArgumentHas (arguments : Arguments) : Type 0 where
    argument : Expression
    is-argument : Argument argument arguments
    has : HasAsPlace Called i argument

  mutual
    unfolding writes

    writes-place : (e : Expression) → writes called e i ≡ true → HasAsPlace Called i e
    writes-place (constant v) h = absurd (false≢true h)
    writes-place (read p) h = let x = index-place p h in below (of_read x.is-index) x.has
    writes-place (minus e) h = below of_minus (writes-place e h)
    writes-place (not e) h = below of_not (writes-place e h)
    writes-place (binary operator a b) h = ⊎_elim (λ l. below left_of_binary (writes-place a l)) (λ r. below right_of_binary (writes-place b r)) (either _ _ h)
    writes-place (and a b) h = ⊎_elim (λ l. below left_of_and (writes-place a l)) (λ r. below right_of_and (writes-place b r)) (either _ _ h)
    writes-place (or a b) h = ⊎_elim (λ l. below left_of_or (writes-place a l)) (λ r. below right_of_or (writes-place b r)) (either _ _ h)
    writes-place (comma a b) h = ⊎_elim (λ l. below left_of_comma (writes-place a l)) (λ r. below right_of_comma (writes-place b r)) (either _ _ h)
    writes-place (conditional c a b) h =
        ⊎_elim (λ t. below test_of_conditional (writes-place c t))
        (λ r. ⊎_elim (λ y. below yes_of_conditional (writes-place a y)) (λ n. below no_of_conditional (writes-place b n)) (either _ _ r)) (either _ _ h)
    writes-place (assign p e) h =
        ⊎_elim (λ o. at_own p by_assign o)
        (λ r. ⊎_elim (λ n. let x = index-place p n in below (index_of_assign x.is-index) x.has) (λ v. below value_of_assign (writes-place e v)) (either _ _ r)) (either _ _ h)
    writes-place (compound operator p e) h =
        ⊎_elim (λ o. at_own p by_compound o)
        (λ r. ⊎_elim (λ n. let x = index-place p n in below (index_of_compound x.is-index) x.has) (λ v. below value_of_compound (writes-place e v)) (either _ _ r)) (either _ _ h)
    writes-place (prefix operator p) h = ⊎_elim (λ o. at_own p by_prefix o) (λ n. let x = index-place p n in below (index_of_prefix x.is-index) x.has) (either _ _ h)
    writes-place (postfix operator p) h = ⊎_elim (λ o. at_own p by_postfix o) (λ n. let x = index-place p n in below (index_of_postfix x.is-index) x.has) (either _ _ h)
    writes-place (call f arguments) h =
        ⊎_elim (λ c. by_call c) (λ r. let x = argument-place arguments r in below (argument_of_call x.is-argument) x.has) (either _ _ h)

    index-place : (p : Place) → index_writes called p i ≡ true → IndexHas p
    index-place (variable j) h = absurd (false≢true h)
    index-place (element array e) h = record { index = e; is-index = of_element; has = writes-place e h }

    argument-place : (arguments : Arguments) → arguments_write called arguments i ≡ true → ArgumentHas arguments
    argument-place no_more h = absurd (false≢true h)
    argument-place (e also arguments) h =
        ⊎_elim (λ o. record { argument = e; is-argument = first_argument; has = writes-place e o })
        (λ r. let x = argument-place arguments r in record { argument = x.argument; is-argument = later_argument x.is-argument; has = x.has }) (either _ _ h)

  -- "can write that variable (has it as the place of a kind 21 to 30)"
  pub writes-exactly : (e : Expression) → (writes called e i ≡ true) ↔ HasAsPlace Called i e
  writes-exactly e = (writes-place e, place-writes)
