-- How deep a translation is: at most twice the source's depth plus 1. By induction on the tree: a block in an if or a while lies two
-- rows deeper, and an assignment takes four.
use Rattle.std.specs.Prelude.{Bool, ℕ, ◌+◌, ◌*◌, ◌≤◌, max, pos}
use native.Mathlib.Omega.{arith}
use Rattle.words.specs.declared.Operator.{Operator}
use Rattle.language.specs.Trees.{Expression, constant, read, minus, not, binary, and, or, comma, conditional, assign, compound, prefix, postfix, call, Place, variable, element, Arguments, no_more, ◌also◌, Part, absent, present, Mark, case, default, label, Statement, empty, express, block, if_then, if_else, while, do_while, for, switch, break, continue, goto, guarded_if, guarded_do, abort, declare, give_back, Arms, no_arm, arm, Items, none, ◌then◌, ◌here◌, define, ◌⧺◌}
use Rattle.language.specs.Writes.{writes, index_writes}
use Rattle.language.specs.FunctionWrites.{functions_write}
use Rattle.language.specs.Sizes.{expression_depth, place_depth, arguments_depth, part_depth, statement_depth, arms_depth, items_depth}
use Rattle.translation.specs.Holding.{hold_code}
use Rattle.translation.proofs.HeldCode.{hold-either, store-either}
use Rattle.translation.specs.Uses.{use_for, passed_on, direct}
use Rattle.translation.specs.declared.Use.{Use}
use Rattle.translation.specs.declared.Use.TheVariants.{Dropped as dropped, Wanted as wanted, Stored as stored}
use Rattle.translation.specs.Translate.{Atom, number, word, top, held, together, nothing, landed, taken, place_taken, arguments_taken, atom_of, atom, copy_code, read_code, store_code, kernel_place, update_code, step_code, postfix_code, argument_atoms, expression_code, index_code, arguments_code, part_code, or_empty, test_code, loop_code, case_tests, labels, items_labels, Exits, exits, rounds_code, statement_code, arms_code, items_code, program_levels, program_code, translate}

-- A bound on the depth of a list. (A record, so that the list is determined.)
record Deep (d : ℕ) (xs : Items) : Type 0 where
  most : items_depth xs ≤ d

deep_none : {d : ℕ} → Deep d none
unfolding items_depth
deep_none = record { most = omega arith }

deep-append : {d : ℕ} {xs ys : Items} → Deep d xs → Deep d ys → Deep d (xs ⧺ ys)
unfolding items_depth ◌⧺◌
deep-append {d} {xs} {ys} h k = record { most = joined xs h.most }
  where
    joined : (xs : Items) → items_depth xs ≤ d → items_depth (xs ⧺ ys) ≤ d
    joined none h = k.most
    joined (s then xs) h = let q = joined xs (omega arith) in omega arith
    joined (m here xs) h = let q = joined xs (omega arith) in omega arith
    joined (define f words body xs) h = let q = joined xs (omega arith) in omega arith

deep-label : {d : ℕ} {m : Mark} {is : Items} → 1 ≤ d → Deep d is → Deep d (m here is)
unfolding items_depth
deep-label h k = record { most = omega (arith, k.most) }

deep-abort : {d : ℕ} {is : Items} → 1 ≤ d → Deep d is → Deep d (abort then is)
unfolding items_depth
deep-abort h k = record { most = omega (arith, k.most) }

deep-goto : {d l : ℕ} {is : Items} → 1 ≤ d → Deep d is → Deep d (goto l then is)
unfolding items_depth
deep-goto h k = record { most = omega (arith, k.most) }

deep-assign : {d : ℕ} {p : Place} {e : Expression} {is : Items} → 4 ≤ d → place_depth p ≤ 2 → expression_depth e ≤ 2 → Deep d is → Deep d (express (assign p e) then is)
unfolding items_depth expression_depth
deep-assign h p e k = record { most = omega (arith, k.most) }

-- A call whose arguments have depth a.
deep-call : {d i f : ℕ} {arguments : Arguments} {is : Items} (a : ℕ) → arguments_depth arguments ≤ a → 4 + a ≤ d → Deep d is → Deep d (express (assign (variable i) (call f arguments)) then is)
unfolding items_depth expression_depth
deep-call a p h k = record { most = omega (arith, k.most) }

deep-return : {d : ℕ} {e : Expression} {is : Items} → expression_depth e ≤ 1 → 2 ≤ d → Deep d is → Deep d (give_back (present e) then is)
unfolding items_depth
deep-return e h k = record { most = omega (arith, k.most) }

deep-if : {d : ℕ} {e : Expression} {on_true on_false is : Items} (b : ℕ) → expression_depth e ≤ 1 → b + 2 ≤ d → Deep b on_true → Deep b on_false → Deep d is → Deep d (if_else e (block on_true) (block on_false) then is)
unfolding items_depth
deep-if b e h k l m = record { most = omega (arith, k.most, l.most, m.most) }

deep-block : {d : ℕ} {xs : Items} (b : ℕ) → b + 1 ≤ d → Deep b xs → Deep d (block xs then none)
unfolding items_depth
deep-block b h k = record { most = omega (arith, k.most) }

mutual
  unfolding expression_depth

  depth-some : (e : Expression) → 1 ≤ expression_depth e
  depth-some (constant v) = omega arith
  depth-some (read p) = place-depth-some p
  depth-some (minus e) = omega arith
  depth-some (not e) = omega arith
  depth-some (binary operator a b) = omega arith
  depth-some (and a b) = omega arith
  depth-some (or a b) = omega arith
  depth-some (comma a b) = omega arith
  depth-some (conditional c a b) = omega arith
  depth-some (assign p e) = omega arith
  depth-some (compound operator p e) = omega arith
  depth-some (prefix operator p) = omega arith
  depth-some (postfix operator p) = omega arith
  depth-some (call f arguments) = omega arith

  place-depth-some : (p : Place) → 1 ≤ place_depth p
  place-depth-some (variable i) = omega arith
  place-depth-some (element array e) = omega arith

module _ (called : ℕ → ℕ → Bool) (S : ℕ) where
  depth-atom : (t : ℕ) (h : Atom) → expression_depth (atom S t h) ≤ 1
  unfolding expression_depth
  depth-atom t (number v) = omega arith
  depth-atom t (word i) = omega arith
  depth-atom t top = omega arith

  depth-place : (p : Place) (t : ℕ) → place_depth (kernel_place called S p t) ≤ 2
  unfolding expression_depth kernel_place
  depth-place (variable i) t = omega arith
  depth-place (element array e) t = omega (arith, depth-atom t (atom_of called e))

  deep-copy : {d : ℕ} (t : ℕ) (h : Atom) → 4 ≤ d → Deep d (copy_code S t h)
  unfolding expression_depth
  deep-copy t (number v) h = deep-assign h (omega arith) (omega arith) deep_none
  deep-copy t (word i) h = deep-assign h (omega arith) (omega arith) deep_none
  deep-copy t top h = deep_none

  deep-hold : {d : ℕ} (t : ℕ) (h : Atom) (W : ℕ → Bool) → 4 ≤ d → Deep d (hold_code S t h W)
  deep-hold {d} t h W le = hold-either S (λ (xs : Items). Deep d xs) t h W (deep-copy t h le) deep_none

  deep-store : {d : ℕ} (p : Place) (i : ℕ) (straight : Bool) (h : Atom) (t : ℕ) → 4 ≤ d → Deep d (store_code S (kernel_place called S p i) straight (atom S t h))
  deep-store {d} p i straight h t le = store-either S (λ (xs : Items). Deep d xs) (kernel_place called S p i) straight (atom S t h) (deep-assign le (depth-place p i) (omega (arith, depth-atom t h)) deep_none) deep_none

  deep-read : {d : ℕ} (p : Place) (u : Use) (t : ℕ) → 4 ≤ d → Deep d (read_code called S p u t)
  unfolding expression_depth
  deep-read (variable i) u t le = deep_none
  deep-read (element array e) u t le = deep-assign le (omega arith) (omega (arith, depth-atom t (atom_of called e))) deep_none

  deep-update : {d : ℕ} (operator : Operator) (p : Place) (h : Atom) (i t u : ℕ) → 4 ≤ d → Deep d (update_code S operator (kernel_place called S p i) (atom S t h) t u)
  unfolding expression_depth kernel_place
  deep-update operator (variable j) h i t u le = deep-assign le (omega arith) (omega (arith, depth-atom t h)) deep_none
  deep-update operator (element array e) h i t u le = deep-assign le (omega arith) (omega (arith, depth-atom i (atom_of called e)))
      (deep-assign le (omega arith) (omega (arith, depth-atom t h)) (deep-assign le (omega (arith, depth-atom i (atom_of called e))) (omega arith) deep_none))

  deep_step : {d : ℕ} (operator : Operator) (i : ℕ) (u : Use) (t : ℕ) → 4 ≤ d → Deep d (step_code S operator i u t)
  unfolding expression_depth
  deep_step operator i dropped t le = deep-assign le (omega arith) (omega arith) deep_none
  deep_step operator i wanted t le = deep-assign le (omega arith) (omega arith) (deep-assign le (omega arith) (omega arith) deep_none)
  deep_step operator i (stored j) t le = deep-assign le (omega arith) (omega arith) (deep-assign le (omega arith) (omega arith) deep_none)

  deep-postfix : {d : ℕ} (operator : Operator) (p : Place) (u : Use) (i t n : ℕ) → 4 ≤ d → Deep d (postfix_code S operator (kernel_place called S p i) u t n)
  unfolding expression_depth kernel_place
  deep-postfix operator (variable j) u i t n le = deep_step operator j u t le
  deep-postfix operator (element array e) u i t n le = deep-assign le (omega arith) (omega (arith, depth-atom i (atom_of called e)))
      (deep-assign le (omega arith) (omega arith) (deep-assign le (omega (arith, depth-atom i (atom_of called e))) (omega arith) deep_none))

  -- What holds arguments is no deeper than they are.
  depth-atoms : (arguments : Arguments) (W : ℕ → Bool) (t : ℕ) → arguments_depth (argument_atoms called S arguments W t) ≤ arguments_depth arguments
  unfolding argument_atoms expression_depth
  depth-atoms no_more W t = omega arith
  depth-atoms (e also arguments) W t =
      let after = together (writes called e) W in
      omega (arith, depth-some e, depth-atom (t + arguments_taken called arguments after) (held (atom_of called e) W), depth-atoms arguments after t)

  mutual
    unfolding expression_depth expression_code

    deep-expression : (e : Expression) (u : Use) (t d : ℕ) → expression_depth e * 2 + 2 ≤ d → Deep d (expression_code called S e u t)
    deep-expression (constant v) u t d h = deep_none
    deep-expression (read p) u t d h = deep-append (deep-index p t d (omega arith)) (deep-read p u t (omega (arith, place-depth-some p)))
    deep-expression (minus e) u t d h = deep-append (deep-expression e wanted t d (omega arith)) (deep-assign (omega arith) (omega arith) (omega (arith, depth-atom t (atom_of called e))) deep_none)
    deep-expression (not e) u t d h = deep-append (deep-expression e wanted t d (omega arith)) (deep-assign (omega arith) (omega arith) (omega (arith, depth-atom t (atom_of called e))) deep_none)
    deep-expression (binary operator a b) u t d h = let right = held (atom_of called b) (writes called a) in
        deep-append (deep-expression b wanted t d (omega arith)) (deep-append (deep-hold t (atom_of called b) (writes called a) (omega arith)) (deep-append (deep-expression a wanted (t + taken right) d (omega arith))
        (deep-assign (omega arith) (omega arith) (omega (arith, depth-atom (t + taken right) (atom_of called a), depth-atom t right)) deep_none)))
    deep-expression (and a b) u t d h = deep-append (deep-expression a wanted t d (omega arith)) (deep-if (expression_depth b * 2 + 2) (depth-atom t (atom_of called a)) (omega arith)
        (deep-append (deep-expression b wanted t _ (omega arith)) (deep-assign (omega (arith, depth-some b)) (omega arith) (omega (arith, depth-atom t (atom_of called b))) deep_none)) (deep-assign (omega (arith, depth-some b)) (omega arith) (omega arith) deep_none) deep_none)
    deep-expression (or a b) u t d h = deep-append (deep-expression a wanted t d (omega arith)) (deep-if (expression_depth b * 2 + 2) (depth-atom t (atom_of called a)) (omega arith) (deep-assign (omega (arith, depth-some b)) (omega arith) (omega arith) deep_none)
        (deep-append (deep-expression b wanted t _ (omega arith)) (deep-assign (omega (arith, depth-some b)) (omega arith) (omega (arith, depth-atom t (atom_of called b))) deep_none)) deep_none)
    deep-expression (comma a b) u t d h = deep-append (deep-expression a dropped t d (omega arith)) (deep-expression b (passed_on u) t d (omega arith))
    deep-expression (conditional c a b) u t d h = deep-append (deep-expression c wanted t d (omega arith)) (deep-if (max (expression_depth a) (expression_depth b) * 2 + 2) (depth-atom t (atom_of called c)) (omega arith)
        (deep-append (deep-expression a wanted t _ (omega arith)) (deep-copy t (atom_of called a) (omega (arith, depth-some a))))
        (deep-append (deep-expression b wanted t _ (omega arith)) (deep-copy t (atom_of called b) (omega (arith, depth-some a)))) deep_none)
    deep-expression (assign p e) u t d h =
        let own = landed p (direct e) (atom_of called e) in
        let value = held own (index_writes called p) in
        deep-append (deep-expression e (use_for p) t d (omega arith)) (deep-append (deep-hold t own (index_writes called p) (omega arith)) (deep-append (deep-index p (t + taken value) d (omega arith))
        (deep-store p (t + taken value) (direct e) value t (omega arith))))
    deep-expression (compound operator p e) u t d h = deep-append (deep-expression e wanted t d (omega arith)) (deep-append (deep-hold t (atom_of called e) (index_writes called p) (omega arith))
        (deep-append (deep-index p (t + 1) d (omega arith)) (deep-update operator p (held (atom_of called e) (index_writes called p)) (t + 1) t (t + 1 + place_taken called p) (omega arith))))
    deep-expression (prefix operator p) u t d h = deep-append (deep-index p (t + 1) d (omega arith)) (deep-update operator p (number (pos 1)) (t + 1) t (t + 1 + place_taken called p) (omega arith))
    deep-expression (postfix operator p) u t d h = deep-append (deep-index p (t + 1) d (omega arith)) (deep-postfix operator p u (t + 1) t (t + 1 + place_taken called p) (omega arith))
    deep-expression (call f arguments) u t d h =
        deep-append (deep-arguments arguments nothing t d (omega arith)) (deep-call (arguments_depth arguments) (depth-atoms arguments nothing t) (omega arith) deep_none)

    -- the index of an element lies deeper
    deep-index : (p : Place) (t d : ℕ) → place_depth p * 2 ≤ d → Deep d (index_code called S p t)
    deep-index (variable i) t d h = deep_none
    deep-index (element array e) t d h = deep-expression e wanted t d (omega arith)

    deep-arguments : (arguments : Arguments) (W : ℕ → Bool) (t d : ℕ) → arguments_depth arguments * 2 + 2 ≤ d → Deep d (arguments_code called S arguments W t)
    deep-arguments no_more W t d h = deep_none
    deep-arguments (e also arguments) W t d h =
        let after = together (writes called e) W in
        let level = t + arguments_taken called arguments after in
        deep-append (deep-arguments arguments after t d (omega arith)) (deep-append (deep-expression e wanted level d (omega arith)) (deep-hold level (atom_of called e) W (omega arith)))

  deep-part : (p : Part) (d : ℕ) → part_depth p * 2 + 2 ≤ d → Deep d (part_code called S p)
  deep-part absent d h = deep_none
  deep-part (present e) d h = deep-expression e dropped 0 d h

  deep-empty : {d : ℕ} (xs : Items) → 1 ≤ d → Deep d xs → Deep d (or_empty S xs)
  unfolding items_depth
  deep-empty none h k = record { most = omega arith }
  deep-empty (s then xs) h k = k
  deep-empty (m here xs) h k = k
  deep-empty (define f words body xs) h k = k

  deep-test : (p : Part) (l : ℕ) {xs : Items} {d : ℕ} → part_depth p * 2 + 2 ≤ d → Deep d xs → Deep d (test_code called S p l xs)
  deep-test absent l h k = k
  deep-test (present e) l h k = deep-append (deep-expression e wanted 0 _ h) (deep-if 1 (depth-atom 0 (atom_of called e)) (omega (arith, depth-some e)) deep_none (deep-goto (omega arith) deep_none) k)

  deep_cases : {d : ℕ} (h : Atom) (u : ℕ) (is : Items) (l : ℕ) → 4 ≤ d → Deep d (case_tests S (atom S 0 h) u is l)
  unfolding expression_depth case_tests
  deep_cases h u none l le = deep_none
  deep_cases h u (s then is) l le = deep_cases h u is (l + labels s) le
  deep_cases h u (case v here is) l le = deep-assign le (omega arith) (omega (arith, depth-atom 0 h)) (deep-if 1 (omega arith) (omega arith) (deep-goto (omega arith) deep_none) deep_none (deep_cases h u is (l + 1) le))
  deep_cases h u (default here is) l le = deep_cases h u is (l + 1) le
  deep_cases h u (label k here is) l le = deep_cases h u is (l + 1) le
  deep_cases h u (define f words body is) l le = deep_cases h u is l le

  deep-loop : {d : ℕ} {xs : Items} (b l : ℕ) → b + 2 ≤ d → Deep b xs → Deep d (loop_code S xs l)
  unfolding items_depth expression_depth
  deep-loop b l h k = record { most = omega (arith, k.most) }

  deep-rounds : {xs : Items} (arms : Arms) (l b d : ℕ) → 1 ≤ b → b + 2 ≤ d → Deep b xs → Deep d (rounds_code S arms xs l)
  unfolding items_depth
  deep-rounds no_arm l b d h le k = record { most = omega arith }
  deep-rounds (arm e s arms) l b d h le k = deep-loop b l le (deep-append k (deep-goto h (deep-label h deep_none)))

  mutual
    unfolding items_depth statement_code kernel_place

    deep-statement : (s : Statement) (x : Exits) (l d : ℕ) → statement_depth s * 2 + 2 ≤ d → Deep d (statement_code called S s x l)
    deep-statement empty x l d h = record { most = omega arith }
    deep-statement (express e) x l d h = deep-empty (expression_code called S e dropped 0) (omega arith) (deep-expression e dropped 0 d (omega arith))
    deep-statement (block is) x l d h = deep-block (items_depth is * 2 + 2) (omega arith) (deep-items is x l _ (omega arith))
    deep-statement (if_then e on_true) x l d h = deep-append (deep-expression e wanted 0 d (omega arith)) (deep-if (statement_depth on_true * 2 + 2) (depth-atom 0 (atom_of called e)) (omega arith) (deep-statement on_true x l _ (omega arith)) deep_none deep_none)
    deep-statement (if_else e on_true on_false) x l d h = deep-append (deep-expression e wanted 0 d (omega arith)) (deep-if (max (statement_depth on_true) (statement_depth on_false) * 2 + 2) (depth-atom 0 (atom_of called e)) (omega arith)
        (deep-statement on_true x l _ (omega arith)) (deep-statement on_false x (l + labels on_true) _ (omega arith)) deep_none)
    deep-statement (while e body) x l d h = deep-loop (max (expression_depth e) (statement_depth body) * 2 + 2) l (omega arith) (deep-test (present e) l (omega arith)
        (deep-append (deep-statement body (exits l (l + 1)) (l + 2) _ (omega arith)) (deep-label (omega arith) deep_none)))
    deep-statement (do_while body e) x l d h = deep-loop (max (expression_depth e) (statement_depth body) * 2 + 2) l (omega arith)
        (deep-append (deep-statement body (exits l (l + 1)) (l + 2) _ (omega arith)) (deep-label (omega arith) (deep-test (present e) l (omega arith) deep_none)))
    deep-statement (for first test action body) x l d h = deep-append (deep-part first d (omega arith)) (deep-loop (max (part_depth test) (max (part_depth action) (statement_depth body)) * 2 + 2) l (omega arith) (deep-test test l (omega arith)
        (deep-append (deep-statement body (exits l (l + 1)) (l + 2) _ (omega arith)) (deep-label (omega arith) (deep-part action _ (omega arith))))))
    deep-statement (switch e is) x l d h = deep-append (deep-expression e wanted 0 d (omega arith)) (deep-append (deep_cases (atom_of called e) (taken (atom_of called e)) is (l + 1) (omega arith))
        (deep-goto (omega arith) (deep-append (deep-items is (exits l x.on_continue) (l + 1) d (omega arith)) (deep-label (omega arith) deep_none))))
    deep-statement break x l d h = deep-goto (omega arith) deep_none
    deep-statement continue x l d h = deep-goto (omega arith) deep_none
    deep-statement (goto k) x l d h = record { most = omega arith }
    deep-statement (guarded_if arms) x l d h = deep-append (deep-arms arms x l (l + 1) d (omega arith)) (deep-abort (omega arith) (deep-label (omega arith) deep_none))
    deep-statement (guarded_do arms) x l d h = deep-rounds arms l (arms_depth arms * 2 + 2) d (omega arith) (omega arith) (deep-arms arms x (l + 1) (l + 2) _ (omega arith))
    deep-statement abort x l d h = record { most = omega arith }
    deep-statement (declare i e) x l d h = deep-append (deep-expression e (stored i) 0 d (omega arith)) (deep-store (variable i) 0 (direct e) (atom_of called e) 0 (omega arith))
    deep-statement (give_back absent) x l d h = deep-return (depth-atom 0 (number (pos 0))) (omega arith) deep_none
    deep-statement (give_back (present e)) x l d h = deep-append (deep-expression e wanted 0 d (omega arith)) (deep-return (depth-atom 0 (atom_of called e)) (omega arith) deep_none)

    deep-arms : (arms : Arms) (x : Exits) (out l d : ℕ) → arms_depth arms * 2 + 2 ≤ d → Deep d (arms_code called S arms x out l)
    deep-arms no_arm x out l d h = deep_none
    deep-arms (arm e s arms) x out l d h = deep-append (deep-expression e wanted 0 d (omega arith)) (deep-if (statement_depth s * 2 + 2) (depth-atom 0 (atom_of called e)) (omega arith)
        (deep-append (deep-statement s x l _ (omega arith)) (deep-goto (omega arith) deep_none)) deep_none (deep-arms arms x out (l + labels s) d (omega arith)))

    deep-items : (is : Items) (x : Exits) (l d : ℕ) → items_depth is * 2 + 2 ≤ d → Deep d (items_code called S is x l)
    deep-items none x l d h = deep_none
    deep-items (s then is) x l d h = deep-append (deep-statement s x l d (omega arith)) (deep-items is x (l + labels s) d (omega arith))
    deep-items (m here is) x l d h = deep-label (omega arith) (deep-items is x (l + 1) d (omega arith))
    deep-items (define f words body is) x l d h = deep-items is x l d (omega arith)

deep-program : (called : ℕ → ℕ → Bool) (first : ℕ) (program : Items) (l d : ℕ) → items_depth program * 2 + 2 ≤ d → items_depth (program_code called first program l) ≤ d
unfolding items_depth program_code
deep-program called first none l d h = omega arith
deep-program called first (s then is) l d h = (deep-items called first (s then is) (exits 0 0) l d h).most
deep-program called first (m here is) l d h = (deep-items called first (m here is) (exits 0 0) l d h).most
deep-program called first (define f words body is) l d h =
    let inner = (deep-items called (first + program_levels called is) body (exits 0 0) l (items_depth body * 2 + 2) (omega arith)).most in
    let behind = deep-program called first is (l + items_labels body) d (omega arith) in
    omega arith

-- So a source of depth 64 has a kernel of depth 129 at most.
pub depth-bound : (first : ℕ) (program : Items) → statement_depth (block (translate first program)) ≤ 2 * statement_depth (block program) + 1
unfolding items_depth translate
depth-bound first program = omega (arith, deep-program (functions_write program) first program 1 (items_depth program * 2 + 2) (omega arith))
