-- Every translation has kernel form. By induction on the source tree; for a goto, the labels that stand ahead of the code are carried
-- along.
use Rattle.std.specs.Prelude.{◌≡◌, refl, Bool, true, false, ℕ, ◌+◌, ◌≤◌}
use Rattle.std.proofs.lemmas.Bool.{false≢true}
use Rattle.std.proofs.Common.{◌∙◌, ap, arith}
use borrow.Author.Tests.{eq-eqb}
use Rattle.words.specs.Laws.{by_cases}
use Rattle.words.specs.declared.Operator.{Operator}
use Rattle.language.specs.Trees.{Expression, constant, read, minus, not, binary, and, or, comma, conditional, assign, compound, prefix, postfix, call, Place, variable, element, Arguments, no_more, ◌also◌, Part, absent, present, Mark, case, default, label, same_mark, has, Statement, empty, express, block, if_then, if_else, while, do_while, for, switch, break, continue, goto, guarded_if, guarded_do, abort, declare, give_back, Arms, no_arm, arm, Items, none, ◌then◌, ◌here◌, define, ◌⧺◌}
use Rattle.language.specs.WellFormed.{Placed, PlacedArms, PlacedItems, PlacedProgram}
use Rattle.language.specs.TreeLaws.{append-append, has-next, has_left, has_right}
use Rattle.language.specs.Writes.{writes, index_writes}
use Rattle.translation.specs.Holding.{hold_code}
use Rattle.translation.proofs.HeldCode.{hold-either, store-either}
use Rattle.translation.specs.Uses.{use_for, passed_on, direct}
use Rattle.translation.specs.declared.Use.{Use}
use Rattle.translation.specs.declared.Use.TheVariants.{Dropped as dropped, Wanted as wanted, Stored as stored}
use Rattle.translation.specs.Translate.{Atom, number, word, top, held, together, nothing, landed, taken, place_taken, arguments_taken, atom_of, atom, copy_code, read_code, store_code, kernel_place, update_code, step_code, postfix_code, argument_atoms, expression_code, index_code, arguments_code, part_code, or_empty, test_code, loop_code, case_tests, labels, items_labels, label_of, Exits, exits, arm_code, rounds_labels, arms_labels, rounds_code, statement_code, arms_code, items_code, program_levels, program_labels, program_code}
use Rattle.translation.specs.KernelForm.{IsAtom, constant-atom, variable_atom, AreAtoms, no_more_atoms, more_atoms, Assigns, assigns_atom, assigns_minus, assigns_operation, assigns_element, assigns_call, assigns_to_element, is_label_number, KernelStatement, kernel-empty, kernel-assign, kernel-block, kernel-if, kernel-while, kernel-goto, kernel-abort, kernel-return, KernelItems, kernel-none, kernel-then, kernel-label, KernelProgram, kernel_main, kernel_define}
use Rattle.translation.proofs.PassedCode.{label-absent}
use Rattle.translation.proofs.StatementRules.{Below}

-- ---- lists

has_here : (l : ℕ) (xs : Items) → has (label l) (label l here xs) ≡ true
unfolding has same_mark
has_here l xs = rw (eq-eqb l l refl)

append : {mayReturn : Bool} (r xs ys : Items) → KernelItems mayReturn (ys ⧺ r) xs → KernelItems mayReturn r ys → KernelItems mayReturn r (xs ⧺ ys)
unfolding ◌⧺◌
append r none ys h k = k
append {mayReturn} r (s then xs) ys (kernel-then h hs) k = let moved : KernelStatement mayReturn ((xs ⧺ ys) ⧺ r) s = rw (append-append xs ys r) h in kernel-then moved (append r xs ys hs k)
append r (m here xs) ys (kernel-label b hs) k = kernel-label b (append r xs ys hs k)
append r (define _ _ _ _) ys none_such k = elim none_such [ ]

assignment : {mayReturn : Bool} {r : Items} {e : Expression} → Assigns e → KernelItems mayReturn r (express e then none)
assignment h = kernel-then (kernel-assign h) kernel-none

-- ---- expressions

-- `mayReturn`: the code stands inside a function.
module _ (mayReturn : Bool) (called : ℕ → ℕ → Bool) (S : ℕ) where
  form-atom : (t : ℕ) (h : Atom) → IsAtom (atom S t h)
  form-atom t (number v) = constant-atom
  form-atom t (word i) = variable_atom
  form-atom t top = variable_atom

  form-read : (p : Place) (u : Use) (t : ℕ) (r : Items) → KernelItems mayReturn r (read_code called S p u t)
  form-read (variable j) u t r = kernel-none
  form-read (element array e) u t r = assignment (assigns_element (form-atom t (atom_of called e)))

  form-write : (p : Place) (t : ℕ) {e : Expression} → IsAtom e → Assigns (assign (kernel_place called S p t) e)
  unfolding kernel_place
  form-write (variable j) t h = assigns_atom h
  form-write (element array e) t h = assigns_to_element (form-atom t (atom_of called e)) h

  form-store : (p : Place) (i : ℕ) (straight : Bool) (r : Items) {x : Expression} → IsAtom x → KernelItems mayReturn r (store_code S (kernel_place called S p i) straight x)
  form-store p i straight r {x} h = store-either S (λ (xs : Items). KernelItems mayReturn r xs) (kernel_place called S p i) straight x (assignment (form-write p i h)) kernel-none

  form-copy : (t : ℕ) (h : Atom) (r : Items) → KernelItems mayReturn r (copy_code S t h)
  form-copy t (number v) r = assignment (assigns_atom constant-atom)
  form-copy t (word i) r = assignment (assigns_atom variable_atom)
  form-copy t top r = kernel-none

  form-hold : (t : ℕ) (h : Atom) (W : ℕ → Bool) (r : Items) → KernelItems mayReturn r (hold_code S t h W)
  form-hold t h W r = hold-either S (λ (xs : Items). KernelItems mayReturn r xs) t h W (form-copy t h r) kernel-none

  form-update : (operator : Operator) (p : Place) (i t u : ℕ) (r : Items) {x : Expression} → IsAtom x → KernelItems mayReturn r (update_code S operator (kernel_place called S p i) x t u)
  unfolding kernel_place
  form-update operator (variable j) i t u r h = assignment (assigns_operation variable_atom h)
  form-update operator (element array e) i t u r h = kernel-then (kernel-assign (assigns_element (form-atom i (atom_of called e)))) (kernel-then (kernel-assign (assigns_operation variable_atom h)) (assignment (assigns_to_element (form-atom i (atom_of called e)) variable_atom)))

  form-step : (operator : Operator) (i : ℕ) (u : Use) (t : ℕ) (r : Items) → KernelItems mayReturn r (step_code S operator i u t)
  form-step operator i dropped t r = assignment (assigns_operation variable_atom constant-atom)
  form-step operator i wanted t r = kernel-then (kernel-assign (assigns_atom variable_atom)) (assignment (assigns_operation variable_atom constant-atom))
  form-step operator i (stored j) t r = kernel-then (kernel-assign (assigns_atom variable_atom)) (assignment (assigns_operation variable_atom constant-atom))

  form-postfix : (operator : Operator) (p : Place) (u : Use) (i t n : ℕ) (r : Items) → KernelItems mayReturn r (postfix_code S operator (kernel_place called S p i) u t n)
  unfolding kernel_place
  form-postfix operator (variable j) u i t n r = form-step operator j u t r
  form-postfix operator (element array e) u i t n r = kernel-then (kernel-assign (assigns_element (form-atom i (atom_of called e)))) (kernel-then (kernel-assign (assigns_operation variable_atom constant-atom)) (assignment (assigns_to_element (form-atom i (atom_of called e)) variable_atom)))

  form-atoms : (arguments : Arguments) (W : ℕ → Bool) (t : ℕ) → AreAtoms (argument_atoms called S arguments W t)
  unfolding argument_atoms
  form-atoms no_more W t = no_more_atoms
  form-atoms (e also arguments) W t = more_atoms (form-atom _ (held (atom_of called e) W)) (form-atoms arguments (together (writes called e) W) t)

  mutual
    unfolding expression_code

    form-expression : (e : Expression) (u : Use) (t : ℕ) (r : Items) → KernelItems mayReturn r (expression_code called S e u t)
    form-expression (constant v) u t r = kernel-none
    form-expression (read p) u t r = append r (index_code called S p t) _ (form-index p t _) (form-read p u t r)
    form-expression (minus e) u t r = append r (expression_code called S e wanted t) _ (form-expression e wanted t _) (assignment (assigns_minus (form-atom t (atom_of called e))))
    form-expression (not e) u t r = append r (expression_code called S e wanted t) _ (form-expression e wanted t _) (assignment (assigns_operation (form-atom t (atom_of called e)) constant-atom))
    form-expression (binary operator a b) u t r = let right = held (atom_of called b) (writes called a) in
        append r (expression_code called S b wanted t) _ (form-expression b wanted t _) (append r (hold_code S t (atom_of called b) (writes called a)) _ (form-hold t (atom_of called b) (writes called a) _)
        (append r (expression_code called S a wanted (t + taken right)) _ (form-expression a wanted (t + taken right) _) (assignment (assigns_operation (form-atom (t + taken right) (atom_of called a)) (form-atom t right)))))
    form-expression (and a b) u t r = append r (expression_code called S a wanted t) _ (form-expression a wanted t _) (kernel-then (kernel-if (form-atom t (atom_of called a))
        (append _ (expression_code called S b wanted t) _ (form-expression b wanted t _) (assignment (assigns_operation (form-atom t (atom_of called b)) constant-atom))) (assignment (assigns_atom constant-atom))) kernel-none)
    form-expression (or a b) u t r = append r (expression_code called S a wanted t) _ (form-expression a wanted t _) (kernel-then (kernel-if (form-atom t (atom_of called a)) (assignment (assigns_atom constant-atom))
        (append _ (expression_code called S b wanted t) _ (form-expression b wanted t _) (assignment (assigns_operation (form-atom t (atom_of called b)) constant-atom)))) kernel-none)
    form-expression (comma a b) u t r = append r (expression_code called S a dropped t) _ (form-expression a dropped t _) (form-expression b (passed_on u) t r)
    form-expression (conditional c a b) u t r = append r (expression_code called S c wanted t) _ (form-expression c wanted t _) (kernel-then (kernel-if (form-atom t (atom_of called c))
        (append _ (expression_code called S a wanted t) _ (form-expression a wanted t _) (form-copy t (atom_of called a) _)) (append _ (expression_code called S b wanted t) _ (form-expression b wanted t _) (form-copy t (atom_of called b) _))) kernel-none)
    form-expression (assign p e) u t r =
        let own = landed p (direct e) (atom_of called e) in
        let value = held own (index_writes called p) in
        append r (expression_code called S e (use_for p) t) _ (form-expression e (use_for p) t _) (append r (hold_code S t own (index_writes called p)) _ (form-hold t own (index_writes called p) _)
        (append r (index_code called S p (t + taken value)) _ (form-index p (t + taken value) _) (form-store p (t + taken value) (direct e) r (form-atom t value))))
    form-expression (compound operator p e) u t r = append r (expression_code called S e wanted t) _ (form-expression e wanted t _) (append r (hold_code S t (atom_of called e) (index_writes called p)) _ (form-hold t (atom_of called e) (index_writes called p) _)
        (append r (index_code called S p (t + 1)) _ (form-index p (t + 1) _) (form-update operator p (t + 1) t (t + 1 + place_taken called p) r (form-atom t (held (atom_of called e) (index_writes called p))))))
    form-expression (prefix operator p) u t r = append r (index_code called S p (t + 1)) _ (form-index p (t + 1) _) (form-update operator p (t + 1) t (t + 1 + place_taken called p) r constant-atom)
    form-expression (postfix operator p) u t r = append r (index_code called S p (t + 1)) _ (form-index p (t + 1) _) (form-postfix operator p u (t + 1) t (t + 1 + place_taken called p) r)
    form-expression (call f arguments) u t r = append r (arguments_code called S arguments nothing t) _ (form-arguments arguments nothing t _) (assignment (assigns_call (form-atoms arguments nothing t)))

    form-index : (p : Place) (t : ℕ) (r : Items) → KernelItems mayReturn r (index_code called S p t)
    form-index (variable i) t r = kernel-none
    form-index (element array e) t r = form-expression e wanted t r

    form-arguments : (arguments : Arguments) (W : ℕ → Bool) (t : ℕ) (r : Items) → KernelItems mayReturn r (arguments_code called S arguments W t)
    form-arguments no_more W t r = kernel-none
    form-arguments (e also arguments) W t r =
        let after = together (writes called e) W in
        let level = t + arguments_taken called arguments after in
        append r (arguments_code called S arguments after t) _ (form-arguments arguments after t _)
        (append r (expression_code called S e wanted level) _ (form-expression e wanted level _) (form-hold level (atom_of called e) W r))

  form-part : (p : Part) (r : Items) → KernelItems mayReturn r (part_code called S p)
  form-part absent r = kernel-none
  form-part (present e) r = form-expression e dropped 0 r

  form-empty : (xs r : Items) → KernelItems mayReturn r xs → KernelItems mayReturn r (or_empty S xs)
  form-empty none r h = kernel-then kernel-empty kernel-none
  form-empty (s then xs) r h = h
  form-empty (m here xs) r h = h
  form-empty (define f words body xs) r h = h

  -- ---- loops and switches

  -- A loop around items that may jump to the label behind it.
  form-loop : (xs : Items) (l : ℕ) (r : Items) → is_label_number l → KernelItems mayReturn (label l here r) xs → KernelItems mayReturn r (loop_code S xs l)
  unfolding ◌⧺◌
  form-loop xs l r b h = kernel-then (kernel-while constant-atom h) (kernel-label b kernel-none)

  form-test : (p : Part) (l : ℕ) (xs r : Items) → is_label_number l → has (label l) (xs ⧺ r) ≡ true → KernelItems mayReturn r xs → KernelItems mayReturn r (test_code called S p l xs)
  unfolding ◌⧺◌
  form-test absent l xs r b h k = k
  form-test (present e) l xs r b h k = append r (expression_code called S e wanted 0) _ (form-expression e wanted 0 _) (kernel-then (kernel-if (form-atom 0 (atom_of called e)) kernel-none (kernel-then (kernel-goto b h) kernel-none)) k)

  -- The label behind a loop stands ahead of its body.
  has-behind : (action : Part) (l : ℕ) (r : Items) → has (label l) (label (l + 1) here part_code called S action ⧺ label l here r) ≡ true
  has-behind action l r = has-next (label l) (label (l + 1)) _ (has_right (label l) (part_code called S action) _ (has_here l r))

  form-rounds : (test action : Part) (bs : Items) (l : ℕ) (r : Items) → l + 2 ≤ 40980 → KernelItems mayReturn (label (l + 1) here part_code called S action ⧺ label l here r) bs
      → KernelItems mayReturn r (loop_code S (test_code called S test l (bs ⧺ label (l + 1) here part_code called S action)) l)
  unfolding ◌⧺◌
  form-rounds test action bs l r b h = form-loop (test_code called S test l (bs ⧺ label (l + 1) here part_code called S action)) l r (omega arith) (form-test test l (bs ⧺ label (l + 1) here part_code called S action) (label l here r) (omega arith)
      (rw (append-append bs (label (l + 1) here part_code called S action) (label l here r)) (has_right (label l) bs _ (has-behind action l r)))
      (append (label l here r) bs (label (l + 1) here part_code called S action) h (kernel-label {l = l + 1} (omega arith) (form-part action (label l here r)))))

  form-do : (e : Expression) (bs : Items) (l : ℕ) (r : Items) → l + 2 ≤ 40980 → KernelItems mayReturn (label (l + 1) here test_code called S (present e) l none ⧺ label l here r) bs
      → KernelItems mayReturn r (loop_code S (bs ⧺ label (l + 1) here test_code called S (present e) l none) l)
  unfolding ◌⧺◌
  form-do e bs l r b h = form-loop (bs ⧺ label (l + 1) here test_code called S (present e) l none) l r (omega arith)
      (append (label l here r) bs (label (l + 1) here test_code called S (present e) l none) h (kernel-label {l = l + 1} (omega arith) (form-test (present e) l none (label l here r) (omega arith) (has_here l r) kernel-none)))

  -- The tests of a switch jump to labels of its items' code.
  form-tests : (h : Atom) (u : ℕ) (x : Exits) (is : Items) (l : ℕ) (r : Items) → l + items_labels is ≤ 40980 → ((m : Mark) → has m (items_code called S is x l) ≡ true → has m r ≡ true) → KernelItems mayReturn r (case_tests S (atom S 0 h) u is l)
  unfolding case_tests items_code items_labels ◌⧺◌
  form-tests h u x none l r b k = kernel-none
  form-tests h u x (s then is) l r b k = form-tests h u x is (l + labels s) r (omega arith) (λ m e. k m (has_right m (statement_code called S s x l) _ e))
  form-tests h u x (case v here is) l r b k = kernel-then (kernel-assign (assigns_operation (form-atom 0 h) constant-atom)) (kernel-then (kernel-if variable_atom
      (kernel-then (kernel-goto {l = l} (omega arith) (has_right (label l) (case_tests S (atom S 0 h) u is (l + 1)) r (k (label l) (has_here l _)))) kernel-none) kernel-none)
      (form-tests h u x is (l + 1) r (omega arith) (λ m e. k m (has-next m (label l) _ e))))
  form-tests h u x (default here is) l r b k = form-tests h u x is (l + 1) r (omega arith) (λ m e. k m (has-next m (label l) _ e))
  form-tests h u x (label j here is) l r b k = form-tests h u x is (l + 1) r (omega arith) (λ m e. k m (has-next m (label l) _ e))
  form-tests h u x (define f words body is) l r b k = form-tests h u x is l r b k

  -- The label of a mark stands in the code of its list.
  has-label_of : (m : Mark) (is : Items) (x : Exits) (l other : ℕ) → has m is ≡ true → has (label (label_of m is l other)) (items_code called S is x l) ≡ true
  unfolding has label_of items_code same_mark
  has-label_of m none x l other e = e
  has-label_of m (s then is) x l other e = has_right (label (label_of m is (l + labels s) other)) (statement_code called S s x l) _ (has-label_of m is x (l + labels s) other e)
  has-label_of m (n here is) x l other e = by_cases (same_mark m n) (λ q. rw (q, eq-eqb l l refl)) (λ q. let moved : label_of m (n here is) l other ≡ label_of m is (l + 1) other = rw q refl in ap (λ t. has (label t) (items_code called S (n here is) x l)) moved ∙ has-next (label (label_of m is (l + 1) other)) (label l) (items_code called S is x (l + 1)) (has-label_of m is x (l + 1) other (rw q at e)))
  has-label_of m (define f words body is) x l other e = has-label_of m is x l other e

  label-most : (m : Mark) (is : Items) (l other : ℕ) → l + items_labels is ≤ 40980 → is_label_number other → is_label_number (label_of m is l other)
  unfolding label_of items_labels
  label-most m none l other b c = c
  label-most m (s then is) l other b c = label-most m is (l + labels s) other (omega arith) c
  label-most m (n here is) l other b c = by_cases (same_mark m n) (λ q. rw q (omega arith)) (λ q. rw q (label-most m is (l + 1) other (omega arith) c))
  label-most m (define f words body is) l other b c = label-most m is l other b c

  has-default : (is : Items) (x : Exits) (l : ℕ) (r : Items) → has (label (label_of default is (l + 1) l)) ((items_code called S is x (l + 1) ⧺ label l here none) ⧺ r) ≡ true
  unfolding ◌⧺◌
  has-default is x l r = by_cases (has default is)
      (λ q. has_left (label (label_of default is (l + 1) l)) (items_code called S is x (l + 1) ⧺ label l here none) r
      (has_left (label (label_of default is (l + 1) l)) (items_code called S is x (l + 1)) _ (has-label_of default is x (l + 1) l q)))
      (λ q. rw (label-absent default is (l + 1) l q)
      (has_left (label l) (items_code called S is x (l + 1) ⧺ label l here none) r (has_right (label l) (items_code called S is x (l + 1)) _ (has_here l none))))

  form-switch : (e : Expression) (is : Items) (x : Exits) (l : ℕ) (r : Items) → l + 1 + items_labels is ≤ 40980 → KernelItems mayReturn (label l here r) (items_code called S is (exits l x.on_continue) (l + 1)) → KernelItems mayReturn r (statement_code called S (switch e is) x l)
  unfolding ◌⧺◌ statement_code has
  form-switch e is x l r b h =
      let y = exits l x.on_continue in
      append r (expression_code called S e wanted 0) _ (form-expression e wanted 0 _)
      (append r (case_tests S (atom S 0 (atom_of called e)) (taken (atom_of called e)) is (l + 1)) (goto (label_of default is (l + 1) l) then items_code called S is y (l + 1) ⧺ label l here none)
      (form-tests (atom_of called e) (taken (atom_of called e)) y is (l + 1) (goto (label_of default is (l + 1) l) then (items_code called S is y (l + 1) ⧺ label l here none) ⧺ r) b
      (λ m q. has_left m (items_code called S is y (l + 1) ⧺ label l here none) r (has_left m (items_code called S is y (l + 1)) _ q)))
      (kernel-then (kernel-goto (label-most default is (l + 1) l b (omega arith)) (has-default is y l r)) (append r (items_code called S is y (l + 1)) (label l here none) h (kernel-label {l = l} (omega arith) kernel-none))))

  -- ---- guarded statements

  has-after : (m : Mark) (s : Statement) (xs : Items) → has m xs ≡ true → has m (s then xs) ≡ true
  unfolding has
  has-after m s xs e = e

  form-arm : (e : Expression) (body rest : Items) (out : ℕ) (r : Items) → is_label_number out → has (label out) (rest ⧺ r) ≡ true → KernelItems mayReturn (goto out then rest ⧺ r) body → KernelItems mayReturn r rest → KernelItems mayReturn r (arm_code called S e body out rest)
  unfolding ◌⧺◌
  form-arm e body rest out r q t h k = append r (expression_code called S e wanted 0) _ (form-expression e wanted 0 _) (kernel-then (kernel-if (form-atom 0 (atom_of called e))
      (append (rest ⧺ r) body (goto out then none) h (kernel-then (kernel-goto q t) kernel-none)) kernel-none) k)

  -- What stands ahead of the arms of a guarded do.
  abbrev ahead_of_arms : ℕ → Items → Items
  ahead_of_arms l r = goto l then label (l + 1) here label l here r

  -- A label behind the guarded do stands ahead of its arms.
  has-ahead : (j l : ℕ) (r : Items) → has (label j) r ≡ true → has (label j) (ahead_of_arms l r) ≡ true
  has-ahead j l r h = has-after (label j) (goto l) (label (l + 1) here label l here r) (has-next (label j) (label (l + 1)) (label l here r) (has-next (label j) (label l) r h))

  form-guarded : (arms : Arms) (xs : Items) (l : ℕ) (r : Items) → l + (rounds_labels arms + arms_labels arms) ≤ 40980 → (l + 2 + arms_labels arms ≤ 40980 → KernelItems mayReturn (ahead_of_arms l r) xs) → KernelItems mayReturn r (rounds_code S arms xs l)
  unfolding ◌⧺◌
  form-guarded no_arm xs l r b h = kernel-then kernel-empty kernel-none
  form-guarded (arm e s arms) xs l r b h = form-loop (xs ⧺ goto l then label (l + 1) here none) l r (omega arith) (append (label l here r) xs (goto l then label (l + 1) here none) (h (omega arith))
      (kernel-then (kernel-goto {l = l} (omega arith) (has-next (label l) (label (l + 1)) (label l here r) (has_here l r))) (kernel-label {l = l + 1} (omega arith) kernel-none)))

  -- ---- statements

  mutual
    unfolding statement_code kernel_place labels Placed ◌⧺◌

    form-statement : (s : Statement) (x : Exits) (l : ℕ) (r : Items) (b c : Bool) → Placed mayReturn b c s → Below x l → l + labels s ≤ 40980
        → (b ≡ true → has (label x.on_break) r ≡ true) → (c ≡ true → has (label x.on_continue) r ≡ true) → KernelItems mayReturn r (statement_code called S s x l)
    form-statement empty x l r b c h u n o k = kernel-then kernel-empty kernel-none
    form-statement (express e) x l r b c h u n o k = form-empty (expression_code called S e dropped 0) r (form-expression e dropped 0 r)
    form-statement (block is) x l r b c h u n o k = kernel-then (kernel-block (form-items is x l r false b c h u n o k)) kernel-none
    form-statement (if_then e on_true) x l r b c h u n o k = append r (expression_code called S e wanted 0) _ (form-expression e wanted 0 _) (kernel-then (kernel-if (form-atom 0 (atom_of called e)) (form-statement on_true x l r b c h u n o k) kernel-none) kernel-none)
    form-statement (if_else e on_true on_false) x l r b c h u n o k = append r (expression_code called S e wanted 0) _ (form-expression e wanted 0 _) (kernel-then (kernel-if (form-atom 0 (atom_of called e))
        (form-statement on_true x l r b c h.0 u (omega arith) o k) (form-statement on_false x (l + labels on_true) r b c h.1 (omega arith) (omega arith) o k)) kernel-none)
    form-statement (while e body) x l r b c h u n o k = form-rounds (present e) absent (statement_code called S body (exits l (l + 1)) (l + 2)) l r (omega arith)
        (form-statement body (exits l (l + 1)) (l + 2) _ true true h (omega arith) (omega arith) (λ _. has-behind absent l r) (λ _. has_here (l + 1) _))
    form-statement (do_while body e) x l r b c h u n o k = form-do e (statement_code called S body (exits l (l + 1)) (l + 2)) l r (omega arith)
        (form-statement body (exits l (l + 1)) (l + 2) _ true true h (omega arith) (omega arith) (λ _. has-next (label l) (label (l + 1)) _ (has_right (label l) (test_code called S (present e) l none) _ (has_here l r))) (λ _. has_here (l + 1) _))
    form-statement (for first test action body) x l r b c h u n o k = append r (part_code called S first) _ (form-part first _) (form-rounds test action (statement_code called S body (exits l (l + 1)) (l + 2)) l r (omega arith)
        (form-statement body (exits l (l + 1)) (l + 2) _ true true h (omega arith) (omega arith) (λ _. has-behind action l r) (λ _. has_here (l + 1) _)))
    form-statement (switch e is) x l r b c h u n o k = form-switch e is x l r (omega arith)
        (form-items is (exits l x.on_continue) (l + 1) _ true true c h (omega arith) (omega arith) (λ _. has_here l r) (λ q. has-next (label x.on_continue) (label l) r (k q)))
    form-statement break x l r b c h u n o k = kernel-then (kernel-goto {l = x.on_break} (omega arith) (o h)) kernel-none
    form-statement continue x l r b c h u n o k = kernel-then (kernel-goto {l = x.on_continue} (omega arith) (k h)) kernel-none
    form-statement (goto j) x l r b c h u n o k = absurd h
    form-statement (guarded_if arms) x l r b c h u n o k =
        let behind : Items = label l here r in
        append r (arms_code called S arms x l (l + 1)) _ (form-arms arms x l (l + 1) _ b c h (omega arith) (omega arith) (omega arith) (has-after (label l) abort behind (has_here l r))
        (λ q. has-after (label x.on_break) abort behind (has-next (label x.on_break) (label l) r (o q))) (λ q. has-after (label x.on_continue) abort behind (has-next (label x.on_continue) (label l) r (k q))))
        (kernel-then kernel-abort (kernel-label {l = l} (omega arith) kernel-none))
    form-statement (guarded_do arms) x l r b c h u n o k = form-guarded arms (arms_code called S arms x (l + 1) (l + 2)) l r n
        (λ m. form-arms arms x (l + 1) (l + 2) (ahead_of_arms l r) b c h (omega arith) m (omega arith) (has-after (label (l + 1)) (goto l) (label (l + 1) here label l here r) (has_here (l + 1) (label l here r)))
        (λ q. has-ahead x.on_break l r (o q)) (λ q. has-ahead x.on_continue l r (k q)))
    form-statement abort x l r b c h u n o k = absurd h
    form-statement (declare i e) x l r b c h u n o k = append r (expression_code called S e (stored i) 0) _ (form-expression e (stored i) 0 _) (form-store (variable i) 0 (direct e) r (form-atom 0 (atom_of called e)))
    form-statement (give_back absent) x l r b c h u n o k = rw h (kernel-then (kernel-return constant-atom) kernel-none)
    form-statement (give_back (present e)) x l r b c h u n o k = append r (expression_code called S e wanted 0) _ (form-expression e wanted 0 _) (rw h (kernel-then (kernel-return (form-atom 0 (atom_of called e))) kernel-none))

    -- The label `out` stands ahead of the arms.
    form-arms : (arms : Arms) (x : Exits) (out l : ℕ) (r : Items) (b c : Bool) → PlacedArms mayReturn b c arms → Below x l → l + arms_labels arms ≤ 40980 → is_label_number out → has (label out) r ≡ true
        → (b ≡ true → has (label x.on_break) r ≡ true) → (c ≡ true → has (label x.on_continue) r ≡ true) → KernelItems mayReturn r (arms_code called S arms x out l)
    form-arms no_arm x out l r b c h u n q t o k = kernel-none
    form-arms (arm e s arms) x out l r b c h u n q t o k =
        let rest = arms_code called S arms x out (l + labels s) in
        let through : ((m : Mark) → has m r ≡ true → has m (goto out then rest ⧺ r) ≡ true) = λ m z. has-after m (goto out) (rest ⧺ r) (has_right m rest r z) in
        form-arm e (statement_code called S s x l) rest out r q (has_right (label out) rest r t)
        (form-statement s x l _ b c h.0 u (omega arith) (λ z. through (label x.on_break) (o z)) (λ z. through (label x.on_continue) (k z)))
        (form-arms arms x out (l + labels s) r b c h.1 (omega arith) (omega arith) q t o k)

    pub form-items : (is : Items) (x : Exits) (l : ℕ) (r : Items) (s b c : Bool) → PlacedItems mayReturn s b c is → Below x l → l + items_labels is ≤ 40980
        → (b ≡ true → has (label x.on_break) r ≡ true) → (c ≡ true → has (label x.on_continue) r ≡ true) → KernelItems mayReturn r (items_code called S is x l)
    form-items none x l r s b c h u n o k = kernel-none
    form-items (d then is) x l r s b c h u n o k = append r (statement_code called S d x l) _
        (form-statement d x l _ b c h.0 u (omega arith) (λ q. has_right (label x.on_break) (items_code called S is x (l + labels d)) r (o q)) (λ q. has_right (label x.on_continue) (items_code called S is x (l + labels d)) r (k q)))
        (form-items is x (l + labels d) r s b c h.1 (omega arith) (omega arith) o k)
    form-items (m here is) x l r s b c h u n o k = kernel-label {l = l} (omega arith) (form-items is x (l + 1) r s b c h.1 (omega arith) (omega arith) o k)
    form-items (define f words body is) x l r s b c h u n o k = absurd h

-- No jump leaves a function or the main part.
outside : {A : Type 0} → false ≡ true → A
outside e = absurd (false≢true e)

-- The code of a program: its functions' blocks apart, its main part behind them.
pub form-program : (called : ℕ → ℕ → Bool) (first : ℕ) (program : Items) (l : ℕ) → PlacedProgram program → Below (exits 0 0) l → l + program_labels program ≤ 40980 → KernelProgram (program_code called first program l)
unfolding PlacedProgram program_labels program_code
form-program called first none l h u n = kernel_main kernel-none
form-program called first (s then is) l h u n = kernel_main (form-items false called first (s then is) (exits 0 0) l none false false false h u n outside outside)
form-program called first (m here is) l h u n = kernel_main (form-items false called first (m here is) (exits 0 0) l none false false false h u n outside outside)
form-program called first (define f words body is) l h u n =
    kernel_define (form-items true called (first + program_levels called is) body (exits 0 0) l none false false false h.0 u (omega arith) outside outside) (form-program called first is (l + items_labels body) h.1 (omega arith) (omega arith))
