-- The variables and arrays that a translation names: the source's, and temporaries. By induction on the tree, for any property of
-- names that the source's variables and the temporaries have.
use Rattle.std.specs.Prelude.{◌≡◌, refl, Bool, ℕ, ◌+◌, ◌≤◌, ◌<◌, pos}
use Rattle.std.proofs.Math.Path.{subst}
use Rattle.std.proofs.Math.Bool.{true, false}
use native.Mathlib.Omega.{arith}
use Rattle.words.specs.Word.{pick}
use Rattle.words.specs.declared.Operator.{Operator}
use Rattle.words.specs.declared.Operator.TheVariants.{Add}
use Rattle.language.specs.Trees.{Expression, constant, read, minus, not, binary, and, or, comma, conditional, assign, compound, prefix, postfix, call, Place, variable, element, Arguments, no_more, ◌also◌, Part, absent, present, case, default, label, Statement, empty, express, block, if_then, if_else, while, do_while, for, switch, break, continue, goto, guarded_if, guarded_do, abort, declare, give_back, Arms, no_arm, arm, Items, none, ◌then◌, ◌here◌, define, ◌⧺◌}
use Rattle.language.specs.WellFormed.{NamedExpression, NamedPlace, NamedArguments, NamedPart, NamedStatement, NamedArms, NamedItems}
use Rattle.language.specs.Writes.{writes, index_writes}
use Rattle.translation.specs.Holding.{hold_code}
use Rattle.translation.proofs.HeldCode.{held-either, held-variable, store-either}
use Rattle.translation.proofs.TranslateBounds.{taken_most, taken-level, arguments-level, stored-level}
use Rattle.translation.specs.Uses.{use_for, passed_on, direct}
use Rattle.translation.specs.declared.Use.{Use}
use Rattle.translation.specs.declared.Use.TheVariants.{Dropped as dropped, Wanted as wanted, Stored as stored}
use Rattle.translation.specs.Translate.{Atom, number, word, top, held, together, nothing, landed, updated, taken, place_taken, arguments_taken, atom_of, atom, target, copy_code, move_code, read_code, store_code, kernel_place, update_code, step_code, postfix_code, argument_atoms, expression_code, index_code, arguments_code, part_code, or_empty, test_code, loop_code, case_tests, labels, items_labels, Exits, exits, rounds_code, statement_code, arms_code, items_code, result_levels, old_levels, expression_levels, index_levels, update_levels, postfix_levels, arguments_levels, part_levels, test_levels, statement_levels, arms_levels, items_levels, program_levels, program_code}

-- The level of the value of a compound: its own, or one that the result needs too.
compound-level : (called : ℕ → ℕ → Bool) (p : Place) (e : Expression) → taken (held (atom_of called e) (index_writes called p)) ≤ expression_levels called (compound Add p e) wanted
unfolding expression_levels
compound-level called (variable i) e = rw (held-variable called (atom_of called e) i) (omega (arith, taken-level called e))
compound-level called (element array d) e = omega (arith, taken_most (held (atom_of called e) (index_writes called (element array d))))

module _ (Names : ℕ → Type 0) (arrays : ℕ) where
  named-append : (xs ys : Items) → NamedItems Names arrays xs → NamedItems Names arrays ys → NamedItems Names arrays (xs ⧺ ys)
  unfolding NamedItems ◌⧺◌
  named-append none ys h k = k
  named-append (s then xs) ys h k = (h.0, named-append xs ys h.1 k)
  named-append (m here xs) ys h k = named-append xs ys h k
  named-append (define f words body xs) ys h k = (h.0, h.1, named-append xs ys h.2 k)

  module _ (called : ℕ → ℕ → Bool) (S T : ℕ) (temporary-named : (t : ℕ) → t < T → Names (S + t)) where
    -- the variable that an atom names
    abbrev NamedAtom : Atom → Type 0
    NamedAtom (number v) = Unit {0}
    NamedAtom (word i) = Names i
    NamedAtom top = Unit {0}

    -- and the one that a use stores in
    abbrev NamedUse : Use → Type 0
    NamedUse dropped = Unit {0}
    NamedUse wanted = Unit {0}
    NamedUse (stored i) = Names i

    use-named : (p : Place) → NamedPlace Names arrays p → NamedUse (use_for p)
    unfolding NamedExpression
    use-named (variable i) h = h
    use-named (element array e) h = tt

    passed-named : (u : Use) → NamedUse (passed_on u)
    passed-named dropped = tt
    passed-named wanted = tt
    passed-named (stored i) = tt

    landed-named : (p : Place) (straight : Bool) (h : Atom) → NamedPlace Names arrays p → NamedAtom h → NamedAtom (landed p straight h)
    unfolding NamedExpression
    landed-named (variable i) true h k l = k
    landed-named (variable i) false h k l = l
    landed-named (element array e) straight h k l = l

    updated-named : (p : Place) → NamedPlace Names arrays p → NamedAtom (updated p)
    unfolding NamedExpression
    updated-named (variable i) h = h
    updated-named (element array e) h = tt

    mutual
      unfolding NamedExpression atom_of

      atom-named : (e : Expression) → NamedExpression Names arrays e → NamedAtom (atom_of called e)
      atom-named (constant v) h = tt
      atom-named (read p) h = read_named p h
      atom-named (minus e) h = tt
      atom-named (not e) h = tt
      atom-named (binary operator a b) h = tt
      atom-named (and a b) h = tt
      atom-named (or a b) h = tt
      atom-named (comma a b) h = atom-named b h.1
      atom-named (conditional c a b) h = tt
      atom-named (assign p e) h = held-either NamedAtom (landed p (direct e) (atom_of called e)) (index_writes called p) (landed-named p (direct e) (atom_of called e) h.0 (atom-named e h.1)) tt
      atom-named (compound operator p e) h = updated-named p h.0
      atom-named (prefix operator p) h = updated-named p h
      atom-named (postfix operator p) h = tt
      atom-named (call f arguments) h = tt

      read_named : (p : Place) → NamedPlace Names arrays p → NamedAtom (atom_of called (read p))
      read_named (variable i) h = h
      read_named (element array e) h = tt

    held-named : (e : Expression) (W : ℕ → Bool) → NamedExpression Names arrays e → NamedAtom (held (atom_of called e) W)
    held-named e W h = held-either NamedAtom (atom_of called e) W (atom-named e h) tt

    -- an atom at level t, where its temporary is one of T
    named-atom : (t : ℕ) (h : Atom) → NamedAtom h → t + taken h ≤ T → NamedExpression Names arrays (atom S t h)
    unfolding NamedExpression
    named-atom t (number v) k h = tt
    named-atom t (word i) k h = k
    named-atom t top k h = temporary-named t (omega arith)

    named-copy : (t : ℕ) (h : Atom) → NamedAtom h → t < T → NamedItems Names arrays (copy_code S t h)
    unfolding NamedExpression NamedItems
    named-copy t (number v) k h = ((temporary-named t h, tt), tt)
    named-copy t (word i) k h = ((temporary-named t h, k), tt)
    named-copy t top k h = tt

    -- a copy is made only into a temporary that is taken
    named-hold : (t : ℕ) (h : Atom) (W : ℕ → Bool) → NamedAtom h → t + taken (held h W) ≤ T → NamedItems Names arrays (hold_code S t h W)
    unfolding NamedExpression NamedItems
    named-hold t (number v) W k h = tt
    named-hold t (word i) W k h = by (W i) h
      where
        by : (b : Bool) → t + taken (pick b top (word i)) ≤ T → NamedItems Names arrays (move_code S t (word i) (pick b top (word i)))
        by true n = ((temporary-named t (omega arith), k), tt)
        by false n = tt
    named-hold t top W k h = tt

    -- the variable or temporary that an element's value or an operation's result goes into
    named-target : (u : Use) (t : ℕ) → NamedUse u → t + result_levels u ≤ T → NamedPlace Names arrays (target S u t)
    unfolding NamedExpression
    named-target dropped t k h = temporary-named t (omega arith)
    named-target wanted t k h = temporary-named t (omega arith)
    named-target (stored i) t k h = k

    named-read : (p : Place) (u : Use) (t : ℕ) → NamedPlace Names arrays p → NamedUse u → t + expression_levels called (read p) u ≤ T → NamedItems Names arrays (read_code called S p u t)
    unfolding NamedExpression NamedItems expression_levels atom_of
    named-read (variable i) u t h k n = tt
    named-read (element array e) u t h k n = ((named-target u t k (omega arith), (h.0, named-atom t (atom_of called e) (atom-named e h.1) (omega (arith, taken-level called e)))), tt)

    named-place : (p : Place) (t : ℕ) → NamedPlace Names arrays p → t + index_levels called p ≤ T → NamedPlace Names arrays (kernel_place called S p t)
    unfolding NamedExpression kernel_place expression_levels
    named-place (variable i) t h n = h
    named-place (element array e) t h n = (h.0, named-atom t (atom_of called e) (atom-named e h.1) (omega (arith, taken-level called e)))

    named-store : (p : Place) (i : ℕ) (straight : Bool) (x : Expression) → NamedPlace Names arrays (kernel_place called S p i) → NamedExpression Names arrays x → NamedItems Names arrays (store_code S (kernel_place called S p i) straight x)
    unfolding NamedExpression NamedItems
    named-store p i straight x h k = store-either S (λ (xs : Items). NamedItems Names arrays xs) (kernel_place called S p i) straight x ((h, k), tt) tt

    named-update : (operator : Operator) (p : Place) (x : Expression) (t : ℕ) → NamedPlace Names arrays p → NamedExpression Names arrays x → t + update_levels called p ≤ T
        → NamedItems Names arrays (update_code S operator (kernel_place called S p (t + 1)) x t (t + 1 + place_taken called p))
    unfolding NamedExpression NamedItems kernel_place place_taken expression_levels
    named-update operator (variable i) x t h k n = ((h, (h, k)), tt)
    named-update operator (element array e) x t h k n =
        let index : NamedPlace Names arrays (element array (atom S (t + 1) (atom_of called e))) = (h.0, named-atom (t + 1) (atom_of called e) (atom-named e h.1) (omega arith)) in
        let above : Names (S + (t + 1 + taken (atom_of called e))) = temporary-named (t + 1 + taken (atom_of called e)) (omega arith) in
        ((above, index), ((temporary-named t (omega arith), (above, k)), ((index, temporary-named t (omega arith)), tt)))

    named_step : (operator : Operator) (i : ℕ) (u : Use) (t : ℕ) → Names i → t + old_levels u ≤ T → NamedItems Names arrays (step_code S operator i u t)
    unfolding NamedExpression NamedItems
    named_step operator i dropped t h n = ((h, (h, tt)), tt)
    named_step operator i wanted t h n = ((temporary-named t (omega arith), h), ((h, (temporary-named t (omega arith), tt)), tt))
    named_step operator i (stored j) t h n = ((temporary-named t (omega arith), h), ((h, (temporary-named t (omega arith), tt)), tt))

    named-postfix : (operator : Operator) (p : Place) (u : Use) (t : ℕ) → NamedPlace Names arrays p → t + postfix_levels called p u ≤ T
        → NamedItems Names arrays (postfix_code S operator (kernel_place called S p (t + 1)) u t (t + 1 + place_taken called p))
    unfolding NamedExpression NamedItems kernel_place place_taken expression_levels
    named-postfix operator (variable i) u t h n = named_step operator i u t h n
    named-postfix operator (element array e) u t h n =
        let index : NamedPlace Names arrays (element array (atom S (t + 1) (atom_of called e))) = (h.0, named-atom (t + 1) (atom_of called e) (atom-named e h.1) (omega arith)) in
        let above : Names (S + (t + 1 + taken (atom_of called e))) = temporary-named (t + 1 + taken (atom_of called e)) (omega arith) in
        ((temporary-named t (omega arith), index), ((above, (temporary-named t (omega arith), tt)), ((index, above), tt)))

    -- what holds arguments at level t, where the temporaries that they take are among T
    named-atoms : (arguments : Arguments) (W : ℕ → Bool) (t : ℕ) → NamedArguments Names arrays arguments → t + arguments_taken called arguments W ≤ T → NamedArguments Names arrays (argument_atoms called S arguments W t)
    unfolding NamedExpression argument_atoms arguments_taken
    named-atoms no_more W t h n = tt
    named-atoms (e also arguments) W t h n =
        let after = together (writes called e) W in
        (named-atom (t + arguments_taken called arguments after) (held (atom_of called e) W) (held-named e W h.0) (omega arith), named-atoms arguments after t h.1 (omega arith))

    mutual
      unfolding NamedExpression NamedItems expression_levels expression_code

      named-expression : (e : Expression) (u : Use) (t : ℕ) → NamedExpression Names arrays e → NamedUse u → t + expression_levels called e u ≤ T → NamedItems Names arrays (expression_code called S e u t)
      named-expression (constant v) u t h k n = tt
      named-expression (read p) u t h k n = named-append (index_code called S p t) _ (named-index p t h (omega arith)) (named-read p u t h k n)
      named-expression (minus e) u t h k n =
          named-append (expression_code called S e wanted t) _ (named-expression e wanted t h tt (omega arith)) ((named-target u t k (omega arith), named-atom t (atom_of called e) (atom-named e h) (omega (arith, taken-level called e))), tt)
      named-expression (not e) u t h k n =
          named-append (expression_code called S e wanted t) _ (named-expression e wanted t h tt (omega arith)) ((named-target u t k (omega arith), (named-atom t (atom_of called e) (atom-named e h) (omega (arith, taken-level called e)), tt)), tt)
      named-expression (binary operator a b) u t h k n =
          let right = held (atom_of called b) (writes called a) in
          named-append (expression_code called S b wanted t) _ (named-expression b wanted t h.1 tt (omega arith)) (named-append (hold_code S t (atom_of called b) (writes called a)) _ (named-hold t (atom_of called b) (writes called a) (atom-named b h.1) (omega arith))
          (named-append (expression_code called S a wanted (t + taken right)) _ (named-expression a wanted (t + taken right) h.0 tt (omega arith))
          ((named-target u t k (omega arith), (named-atom (t + taken right) (atom_of called a) (atom-named a h.0) (omega (arith, taken-level called a)), named-atom t right (held-named b (writes called a) h.1) (omega arith))), tt)))
      named-expression (and a b) u t h k n = named-append (expression_code called S a wanted t) _ (named-expression a wanted t h.0 tt (omega arith)) (
        (
          named-atom t (atom_of called a) (atom-named a h.0) (omega (arith, taken-level called a)),
          named-append (expression_code called S b wanted t) _ (named-expression b wanted t h.1 tt (omega arith)) ((temporary-named t (omega arith), (named-atom t (atom_of called b) (atom-named b h.1) (omega (arith, taken-level called b)), tt)), tt),
          ((temporary-named t (omega arith), tt), tt),
        ),
        tt,
      )
      named-expression (or a b) u t h k n = named-append (expression_code called S a wanted t) _ (named-expression a wanted t h.0 tt (omega arith)) (
        (
          named-atom t (atom_of called a) (atom-named a h.0) (omega (arith, taken-level called a)),
          ((temporary-named t (omega arith), tt), tt),
          named-append (expression_code called S b wanted t) _ (named-expression b wanted t h.1 tt (omega arith)) ((temporary-named t (omega arith), (named-atom t (atom_of called b) (atom-named b h.1) (omega (arith, taken-level called b)), tt)), tt),
        ),
        tt,
      )
      named-expression (comma a b) u t h k n = named-append (expression_code called S a dropped t) _ (named-expression a dropped t h.0 tt (omega arith)) (named-expression b (passed_on u) t h.1 (passed-named u) (omega arith))
      named-expression (conditional c a b) u t h k n = named-append (expression_code called S c wanted t) _ (named-expression c wanted t h.0 tt (omega arith)) (
        (
          named-atom t (atom_of called c) (atom-named c h.0) (omega (arith, taken-level called c)),
          named-append (expression_code called S a wanted t) _ (named-expression a wanted t h.1 tt (omega arith)) (named-copy t (atom_of called a) (atom-named a h.1) (omega arith)),
          named-append (expression_code called S b wanted t) _ (named-expression b wanted t h.2 tt (omega arith)) (named-copy t (atom_of called b) (atom-named b h.2) (omega arith)),
        ),
        tt,
      )
      named-expression (assign p e) u t h k n =
          let own = landed p (direct e) (atom_of called e) in
          let value = held own (index_writes called p) in
          let own-named = landed-named p (direct e) (atom_of called e) h.0 (atom-named e h.1) in
          named-append (expression_code called S e (use_for p) t) _ (named-expression e (use_for p) t h.1 (use-named p h.0) (omega arith)) (named-append (hold_code S t own (index_writes called p)) _ (named-hold t own (index_writes called p) own-named (omega arith))
          (named-append (index_code called S p (t + taken value)) _ (named-index p (t + taken value) h.0 (omega arith))
          (named-store p (t + taken value) (direct e) (atom S t value) (named-place p (t + taken value) h.0 (omega arith)) (named-atom t value (held-either NamedAtom own (index_writes called p) own-named tt) (omega arith)))))
      named-expression (compound operator p e) u t h k n =
          let value = held (atom_of called e) (index_writes called p) in
          named-append (expression_code called S e wanted t) _ (named-expression e wanted t h.1 tt (omega arith)) (named-append (hold_code S t (atom_of called e) (index_writes called p)) _ (named-hold t (atom_of called e) (index_writes called p) (atom-named e h.1) (omega (arith, compound-level called p e)))
          (named-append (index_code called S p (t + 1)) _ (named-above p t h.0 (omega arith))
          (named-update operator p (atom S t value) t h.0 (named-atom t value (held-named e (index_writes called p) h.1) (omega (arith, compound-level called p e))) (omega arith))))
      named-expression (prefix operator p) u t h k n = named-append (index_code called S p (t + 1)) _ (named-above p t h n) (named-update operator p _ t h tt n)
      named-expression (postfix operator p) u t h k n = named-append (index_code called S p (t + 1)) _ (named-stepped p u t h n) (named-postfix operator p u t h n)
      named-expression (call f arguments) u t h k n =
          named-append (arguments_code called S arguments nothing t) _ (named-arguments arguments nothing t h (omega arith)) ((named-target u t k (omega arith), named-atoms arguments nothing t h (omega (arith, arguments-level called arguments nothing))), tt)

      named-index : (p : Place) (t : ℕ) → NamedPlace Names arrays p → t + index_levels called p ≤ T → NamedItems Names arrays (index_code called S p t)
      named-index (variable i) t h n = tt
      named-index (element array e) t h n = named-expression e wanted t h.1 tt n

      named-arguments : (arguments : Arguments) (W : ℕ → Bool) (t : ℕ) → NamedArguments Names arrays arguments → t + arguments_levels called arguments W ≤ T → NamedItems Names arrays (arguments_code called S arguments W t)
      named-arguments no_more W t h n = tt
      named-arguments (e also arguments) W t h n =
          let after = together (writes called e) W in
          let level = t + arguments_taken called arguments after in
          named-append (arguments_code called S arguments after t) _ (named-arguments arguments after t h.1 (omega arith))
          (named-append (expression_code called S e wanted level) _ (named-expression e wanted level h.0 tt (omega arith)) (named-hold level (atom_of called e) W (atom-named e h.0) (omega arith)))

      -- the index of an updated place
      named-above : (p : Place) (t : ℕ) → NamedPlace Names arrays p → t + update_levels called p ≤ T → NamedItems Names arrays (index_code called S p (t + 1))
      named-above (variable i) t h n = tt
      named-above (element array e) t h n = named-expression e wanted (t + 1) h.1 tt (omega arith)

      named-stepped : (p : Place) (u : Use) (t : ℕ) → NamedPlace Names arrays p → t + postfix_levels called p u ≤ T → NamedItems Names arrays (index_code called S p (t + 1))
      named-stepped (variable i) u t h n = tt
      named-stepped (element array e) u t h n = named-expression e wanted (t + 1) h.1 tt (omega arith)

    named-part : (p : Part) → NamedPart Names arrays p → part_levels called p ≤ T → NamedItems Names arrays (part_code called S p)
    unfolding NamedItems
    named-part absent h n = tt
    named-part (present e) h n = named-expression e dropped 0 h tt (omega arith)

    named-empty : (xs : Items) → NamedItems Names arrays xs → NamedItems Names arrays (or_empty S xs)
    unfolding NamedItems
    named-empty none h = (tt, tt)
    named-empty (s then xs) h = h
    named-empty (m here xs) h = h
    named-empty (define f words body xs) h = h

    named-test : (p : Part) (l : ℕ) (xs : Items) → NamedPart Names arrays p → test_levels called p ≤ T → NamedItems Names arrays xs → NamedItems Names arrays (test_code called S p l xs)
    unfolding NamedItems
    named-test absent l xs h n k = k
    named-test (present e) l xs h n k = named-append (expression_code called S e wanted 0) _ (named-expression e wanted 0 h tt (omega arith)) ((named-atom 0 (atom_of called e) (atom-named e h) (omega (arith, taken-level called e)), tt, (tt, tt)), k)

    named-cases : (h : Atom) (is : Items) (l : ℕ) → NamedAtom h → taken h < T → NamedItems Names arrays (case_tests S (atom S 0 h) (taken h) is l)
    unfolding NamedExpression NamedItems case_tests
    named-cases h none l k n = tt
    named-cases h (s then is) l k n = named-cases h is (l + labels s) k n
    named-cases h (case v here is) l k n = ((temporary-named (taken h) n, (named-atom 0 h k (omega arith), tt)), ((temporary-named (taken h) n, (tt, tt), tt), named-cases h is (l + 1) k n))
    named-cases h (default here is) l k n = named-cases h is (l + 1) k n
    named-cases h (label j here is) l k n = named-cases h is (l + 1) k n
    named-cases h (define f words body is) l k n = named-cases h is l k n

    -- the rounds of while and for, and those of do, around the code of the body
    named-rounds : (test action : Part) (l : ℕ) (body : Items) → NamedPart Names arrays test → test_levels called test ≤ T → NamedPart Names arrays action → part_levels called action ≤ T → NamedItems Names arrays body
        → NamedItems Names arrays (loop_code S (test_code called S test l (body ⧺ label (l + 1) here part_code called S action)) l)
    unfolding NamedExpression NamedItems
    named-rounds test action l body h n k m b = ((tt, named-test test l (body ⧺ label (l + 1) here part_code called S action) h n (named-append body (label (l + 1) here part_code called S action) b (named-part action k m))), tt)

    named-do : (e : Expression) (l : ℕ) (body : Items) → NamedExpression Names arrays e → expression_levels called e wanted ≤ T → NamedItems Names arrays body
        → NamedItems Names arrays (loop_code S (body ⧺ label (l + 1) here test_code called S (present e) l none) l)
    unfolding NamedExpression NamedItems
    named-do e l body h n b = ((tt, named-append body (label (l + 1) here test_code called S (present e) l none) b (named-test (present e) l none h n tt)), tt)

    named-guarded : (arms : Arms) (l : ℕ) (xs : Items) → NamedItems Names arrays xs → NamedItems Names arrays (rounds_code S arms xs l)
    unfolding NamedExpression NamedItems
    named-guarded no_arm l xs h = (tt, tt)
    named-guarded (arm e s arms) l xs h = ((tt, named-append xs _ h (tt, tt)), tt)

    -- a declaration's word, assigned from what holds its value
    named-declared : (i : ℕ) (e : Expression) (straight : Bool) → direct e ≡ straight → Names i → NamedExpression Names arrays e → expression_levels called e (stored i) ≤ T
        → NamedItems Names arrays (store_code S (variable i) straight (atom S 0 (atom_of called e)))
    unfolding NamedExpression NamedItems
    named-declared i e true q h k n = tt
    named-declared i e false q h k n = ((h, named-atom 0 (atom_of called e) (atom-named e k) (omega (arith, stored-level called e i q))), tt)

    mutual
      unfolding NamedStatement statement_levels statement_code

      named-statement : (s : Statement) (x : Exits) (l : ℕ) → NamedStatement Names arrays s → statement_levels called s ≤ T → NamedItems Names arrays (statement_code called S s x l)
      named-statement empty x l h n = (tt, tt)
      named-statement (express e) x l h n = named-empty (expression_code called S e dropped 0) (named-expression e dropped 0 h tt (omega arith))
      named-statement (block is) x l h n = (named-items is x l h n, tt)
      named-statement (if_then e on_true) x l h n = named-append (expression_code called S e wanted 0) _ (named-expression e wanted 0 h.0 tt (omega arith)) ((named-atom 0 (atom_of called e) (atom-named e h.0) (omega (arith, taken-level called e)), named-statement on_true x l h.1 (omega arith), tt), tt)
      named-statement (if_else e on_true on_false) x l h n = named-append (expression_code called S e wanted 0) _ (named-expression e wanted 0 h.0 tt (omega arith))
          ((named-atom 0 (atom_of called e) (atom-named e h.0) (omega (arith, taken-level called e)), named-statement on_true x l h.1 (omega arith), named-statement on_false x (l + labels on_true) h.2 (omega arith)), tt)
      named-statement (while e body) x l h n = named-rounds (present e) absent l (statement_code called S body (exits l (l + 1)) (l + 2)) h.0 (omega arith) tt (omega arith) (named-statement body _ _ h.1 (omega arith))
      named-statement (do_while body e) x l h n = named-do e l (statement_code called S body (exits l (l + 1)) (l + 2)) h.1 (omega arith) (named-statement body _ _ h.0 (omega arith))
      named-statement (for first test action body) x l h n = named-append (part_code called S first) _ (named-part first h.0 (omega arith))
          (named-rounds test action l (statement_code called S body (exits l (l + 1)) (l + 2)) h.1 (omega arith) h.2 (omega arith) (named-statement body _ _ h.3 (omega arith)))
      named-statement (switch e is) x l h n = named-append (expression_code called S e wanted 0) _ (named-expression e wanted 0 h.0 tt (omega arith))
          (named-append (case_tests S (atom S 0 (atom_of called e)) (taken (atom_of called e)) is (l + 1)) _ (named-cases (atom_of called e) is (l + 1) (atom-named e h.0) (omega arith))
          (tt, named-append (items_code called S is (exits l x.on_continue) (l + 1)) _ (named-items is _ _ h.1 (omega arith)) tt))
      named-statement break x l h n = (tt, tt)
      named-statement continue x l h n = (tt, tt)
      named-statement (goto k) x l h n = (tt, tt)
      named-statement (guarded_if arms) x l h n = named-append (arms_code called S arms x l (l + 1)) _ (named-arms arms x l (l + 1) h n) (tt, tt)
      named-statement (guarded_do arms) x l h n = named-guarded arms l (arms_code called S arms x (l + 1) (l + 2)) (named-arms arms x (l + 1) (l + 2) h n)
      named-statement abort x l h n = (tt, tt)
      named-statement (declare i e) x l h n =
          named-append (expression_code called S e (stored i) 0) _ (named-expression e (stored i) 0 h.1 h.0 (omega arith)) (named-declared i e (direct e) refl h.0 h.1 n)
      named-statement (give_back absent) x l h n = (named-atom 0 (number (pos 0)) tt (omega arith), tt)
      named-statement (give_back (present e)) x l h n =
          named-append (expression_code called S e wanted 0) _ (named-expression e wanted 0 h tt (omega arith)) (named-atom 0 (atom_of called e) (atom-named e h) (omega (arith, taken-level called e)), tt)

      named-arms : (arms : Arms) (x : Exits) (out l : ℕ) → NamedArms Names arrays arms → arms_levels called arms ≤ T → NamedItems Names arrays (arms_code called S arms x out l)
      named-arms no_arm x out l h n = tt
      named-arms (arm e s arms) x out l h n = named-append (expression_code called S e wanted 0) _ (named-expression e wanted 0 h.0 tt (omega arith))
          ((named-atom 0 (atom_of called e) (atom-named e h.0) (omega (arith, taken-level called e)), named-append (statement_code called S s x l) _ (named-statement s x l h.1 (omega arith)) (tt, tt), tt), named-arms arms x out (l + labels s) h.2 (omega arith))

      pub named-items : (is : Items) (x : Exits) (l : ℕ) → NamedItems Names arrays is → items_levels called is ≤ T → NamedItems Names arrays (items_code called S is x l)
      named-items none x l h n = tt
      named-items (s then is) x l h n = named-append (statement_code called S s x l) _ (named-statement s x l h.0 (omega arith)) (named-items is x (l + labels s) h.1 (omega arith))
      named-items (m here is) x l h n = named-items is x (l + 1) h n
      named-items (define f words body is) x l h n = named-items is x l h.2 n

  -- The code of a program: the temporaries of each function lie above those of the functions behind it and of the main part.
  pub named-program : (called : ℕ → ℕ → Bool) (first T : ℕ) → ((t : ℕ) → t < T → Names (first + t)) → (program : Items) (l : ℕ) → NamedItems Names arrays program → program_levels called program ≤ T → NamedItems Names arrays (program_code called first program l)
  unfolding NamedItems program_levels program_code
  named-program called first T temporary-named none l h n = tt
  named-program called first T temporary-named (s then is) l h n = named-items called first T temporary-named (s then is) (exits 0 0) l h n
  named-program called first T temporary-named (m here is) l h n = named-items called first T temporary-named (m here is) (exits 0 0) l h n
  named-program called first T temporary-named (define f words body is) l h n =
      let base = program_levels called is in
      let above : (t : ℕ) → t < items_levels called body → Names (first + base + t) = λ t p. let same : first + (base + t) ≡ first + base + t = omega arith in subst Names same (temporary-named (base + t) (omega arith)) in
      (h.0, named-items called (first + base) (items_levels called body) above body (exits 0 0) l h.1 (omega arith), named-program called first T temporary-named is (l + items_labels body) h.2 (omega arith))
