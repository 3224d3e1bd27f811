-- The calls of a translation are in order: each goes where the source's goes, with as many arguments, and definitions keep their numbers. By
-- induction on the tree.
use Rattle.std.specs.Prelude.{◌≡◌, Bool, true, ℕ, suc, ◌+◌, eqb, pos, length}
use Rattle.std.proofs.Math.Path.{refl, sym, ap, fun_ext}
use Rattle.std.proofs.Common.{◌∙◌, arith}
use Rattle.std.proofs.Math.Bool.{false}
use Rattle.words.specs.Word.{pick}
use Rattle.words.specs.Layout.{Layout}
use Rattle.words.specs.declared.Operator.{Operator}
use Rattle.language.specs.Trees.{Expression, constant, read, minus, not, binary, and, or, comma, conditional, assign, compound, prefix, postfix, call, Place, variable, element, Arguments, no_more, ◌also◌, Part, absent, present, case, default, label, Statement, empty, express, block, if_then, if_else, while, do_while, for, switch, break, continue, goto, guarded_if, guarded_do, abort, declare, give_back, Arms, no_arm, arm, Items, none, ◌then◌, ◌here◌, define, ◌⧺◌}
use Rattle.language.specs.Writes.{writes, index_writes}
use Rattle.language.specs.FunctionWrites.{functions_write}
use Rattle.language.specs.Functions.{Function, function_of, function_count}
use Rattle.language.specs.Calls.{argument_count, CallsBelow, PlaceCallsBelow, ArgumentsCallBelow, PartCallsBelow, StatementCallsBelow, ArmsCallBelow, ItemsCallBelow, arity_in, Numbered, CallsInOrder}
use Rattle.language.specs.WellFormed.{PlacedItems, PlacedProgram, SourceTree}
use Rattle.translation.specs.Holding.{hold_code}
use Rattle.translation.proofs.HeldCode.{hold-either, store-either}
use Rattle.translation.specs.Uses.{use_for, passed_on, direct}
use Rattle.translation.specs.declared.Use.{Use}
use Rattle.translation.specs.declared.Use.TheVariants.{Dropped as dropped, Wanted as wanted, Stored as stored}
use Rattle.translation.specs.Translate.{Atom, number, word, top, held, together, nothing, landed, taken, place_taken, arguments_taken, atom_of, atom, copy_code, read_code, store_code, kernel_place, update_code, step_code, postfix_code, argument_atoms, expression_code, index_code, arguments_code, part_code, or_empty, test_code, loop_code, case_tests, labels, items_labels, Exits, exits, rounds_code, statement_code, arms_code, items_code, program_levels, program_code, translate}
use Rattle.translation.proofs.PassedCode.{labelled-items, labelled-count}
use Rattle.translation.proofs.FunctionCode.{function-at, place_of, code-count}
use Rattle.translation_form.proofs.TemporariesHidden.{no-function}

-- As many atoms as arguments.
atoms-count : (called : ℕ → ℕ → Bool) (S : ℕ) (arguments : Arguments) (W : ℕ → Bool) (t : ℕ) → argument_count (argument_atoms called S arguments W t) ≡ argument_count arguments
unfolding argument_count argument_atoms
atoms-count called S no_more W t = refl
atoms-count called S (e also arguments) W t = ap suc (atoms-count called S arguments (together (writes called e) W) t)

module _ (arity : ℕ → ℕ) (limit : ℕ) where
  abbrev Below : Items → Type 0
  Below is = ItemsCallBelow arity limit is

  calls-append : (xs ys : Items) → Below xs → Below ys → Below (xs ⧺ ys)
  unfolding ItemsCallBelow ◌⧺◌
  calls-append none ys h k = k
  calls-append (s then xs) ys h k = (h.0, calls-append xs ys h.1 k)
  calls-append (m here xs) ys h k = calls-append xs ys h k
  calls-append (define f words body xs) ys h k = calls-append xs ys h k

  module _ (called : ℕ → ℕ → Bool) (S : ℕ) where
    calls-atom : (t : ℕ) (h : Atom) → CallsBelow arity limit (atom S t h)
    unfolding CallsBelow
    calls-atom t (number v) = tt
    calls-atom t (word i) = tt
    calls-atom t top = tt

    calls-copy : (t : ℕ) (h : Atom) → Below (copy_code S t h)
    unfolding CallsBelow ItemsCallBelow
    calls-copy t (number v) = ((tt, tt), tt)
    calls-copy t (word i) = ((tt, tt), tt)
    calls-copy t top = tt

    calls-hold : (t : ℕ) (h : Atom) (W : ℕ → Bool) → Below (hold_code S t h W)
    unfolding ItemsCallBelow
    calls-hold t h W = hold-either S Below t h W (calls-copy t h) tt

    calls-place : (p : Place) (t : ℕ) → PlaceCallsBelow arity limit (kernel_place called S p t)
    unfolding CallsBelow kernel_place
    calls-place (variable i) t = tt
    calls-place (element array e) t = calls-atom t (atom_of called e)

    calls-read : (p : Place) (u : Use) (t : ℕ) → Below (read_code called S p u t)
    unfolding CallsBelow ItemsCallBelow
    calls-read (variable i) u t = tt
    calls-read (element array e) u t = ((tt, calls-atom t (atom_of called e)), tt)

    calls-store : (p : Place) (i : ℕ) (straight : Bool) (h : Atom) (t : ℕ) → Below (store_code S (kernel_place called S p i) straight (atom S t h))
    unfolding CallsBelow ItemsCallBelow
    calls-store p i straight h t = store-either S Below (kernel_place called S p i) straight (atom S t h) ((calls-place p i, calls-atom t h), tt) tt

    calls-update : (operator : Operator) (p : Place) (h : Atom) (i t u : ℕ) → Below (update_code S operator (kernel_place called S p i) (atom S t h) t u)
    unfolding CallsBelow ItemsCallBelow kernel_place
    calls-update operator (variable j) h i t u = ((tt, (tt, calls-atom t h)), tt)
    calls-update operator (element array e) h i t u = let index = calls-atom i (atom_of called e) in ((tt, index), ((tt, (tt, calls-atom t h)), ((index, tt), tt)))

    calls-step : (operator : Operator) (i : ℕ) (u : Use) (t : ℕ) → Below (step_code S operator i u t)
    unfolding CallsBelow ItemsCallBelow
    calls-step operator i dropped t = ((tt, (tt, tt)), tt)
    calls-step operator i wanted t = ((tt, tt), ((tt, (tt, tt)), tt))
    calls-step operator i (stored j) t = ((tt, tt), ((tt, (tt, tt)), tt))

    calls-postfix : (operator : Operator) (p : Place) (u : Use) (i t n : ℕ) → Below (postfix_code S operator (kernel_place called S p i) u t n)
    unfolding CallsBelow ItemsCallBelow kernel_place
    calls-postfix operator (variable j) u i t n = calls-step operator j u t
    calls-postfix operator (element array e) u i t n = let index = calls-atom i (atom_of called e) in ((tt, index), ((tt, (tt, tt)), ((index, tt), tt)))

    calls-atoms : (arguments : Arguments) (W : ℕ → Bool) (t : ℕ) → ArgumentsCallBelow arity limit (argument_atoms called S arguments W t)
    unfolding CallsBelow argument_atoms
    calls-atoms no_more W t = tt
    calls-atoms (e also arguments) W t = (calls-atom _ (held (atom_of called e) W), calls-atoms arguments (together (writes called e) W) t)

    mutual
      unfolding CallsBelow ItemsCallBelow expression_code

      calls-expression : (e : Expression) (u : Use) (t : ℕ) → CallsBelow arity limit e → Below (expression_code called S e u t)
      calls-expression (constant v) u t h = tt
      calls-expression (read p) u t h = calls-append (index_code called S p t) _ (calls-index p t h) (calls-read p u t)
      calls-expression (minus e) u t h = calls-append (expression_code called S e wanted t) _ (calls-expression e wanted t h) ((tt, calls-atom t (atom_of called e)), tt)
      calls-expression (not e) u t h = calls-append (expression_code called S e wanted t) _ (calls-expression e wanted t h) ((tt, (calls-atom t (atom_of called e), tt)), tt)
      calls-expression (binary operator a b) u t h =
          let right = held (atom_of called b) (writes called a) in
          calls-append (expression_code called S b wanted t) _ (calls-expression b wanted t h.1) (calls-append (hold_code S t (atom_of called b) (writes called a)) _ (calls-hold t (atom_of called b) (writes called a))
          (calls-append (expression_code called S a wanted (t + taken right)) _ (calls-expression a wanted (t + taken right) h.0) ((tt, (calls-atom (t + taken right) (atom_of called a), calls-atom t right)), tt)))
      calls-expression (and a b) u t h =
          calls-append (expression_code called S a wanted t) _ (calls-expression a wanted t h.0)
          ((calls-atom t (atom_of called a), calls-append (expression_code called S b wanted t) _ (calls-expression b wanted t h.1) ((tt, (calls-atom t (atom_of called b), tt)), tt), ((tt, tt), tt)), tt)
      calls-expression (or a b) u t h =
          calls-append (expression_code called S a wanted t) _ (calls-expression a wanted t h.0)
          ((calls-atom t (atom_of called a), ((tt, tt), tt), calls-append (expression_code called S b wanted t) _ (calls-expression b wanted t h.1) ((tt, (calls-atom t (atom_of called b), tt)), tt)), tt)
      calls-expression (comma a b) u t h = calls-append (expression_code called S a dropped t) _ (calls-expression a dropped t h.0) (calls-expression b (passed_on u) t h.1)
      calls-expression (conditional c a b) u t h =
          calls-append (expression_code called S c wanted t) _ (calls-expression c wanted t h.0)
          ((calls-atom t (atom_of called c), calls-append (expression_code called S a wanted t) _ (calls-expression a wanted t h.1) (calls-copy t (atom_of called a)), calls-append (expression_code called S b wanted t) _ (calls-expression b wanted t h.2) (calls-copy t (atom_of called b))), tt)
      calls-expression (assign p e) u t h =
          let own = landed p (direct e) (atom_of called e) in
          let value = held own (index_writes called p) in
          calls-append (expression_code called S e (use_for p) t) _ (calls-expression e (use_for p) t h.1) (calls-append (hold_code S t own (index_writes called p)) _ (calls-hold t own (index_writes called p))
          (calls-append (index_code called S p (t + taken value)) _ (calls-index p (t + taken value) h.0) (calls-store p (t + taken value) (direct e) value t)))
      calls-expression (compound operator p e) u t h =
          calls-append (expression_code called S e wanted t) _ (calls-expression e wanted t h.1) (calls-append (hold_code S t (atom_of called e) (index_writes called p)) _ (calls-hold t (atom_of called e) (index_writes called p))
          (calls-append (index_code called S p (t + 1)) _ (calls-index p (t + 1) h.0) (calls-update operator p (held (atom_of called e) (index_writes called p)) (t + 1) t (t + 1 + place_taken called p))))
      calls-expression (prefix operator p) u t h = calls-append (index_code called S p (t + 1)) _ (calls-index p (t + 1) h) (calls-update operator p (number (pos 1)) (t + 1) t (t + 1 + place_taken called p))
      calls-expression (postfix operator p) u t h = calls-append (index_code called S p (t + 1)) _ (calls-index p (t + 1) h) (calls-postfix operator p u (t + 1) t (t + 1 + place_taken called p))
      calls-expression (call f arguments) u t h =
          calls-append (arguments_code called S arguments nothing t) _ (calls-arguments arguments nothing t h.2)
          ((tt, (h.0, atoms-count called S arguments nothing t ∙ h.1, calls-atoms arguments nothing t)), tt)

      calls-index : (p : Place) (t : ℕ) → PlaceCallsBelow arity limit p → Below (index_code called S p t)
      calls-index (variable i) t h = tt
      calls-index (element array e) t h = calls-expression e wanted t h

      calls-arguments : (arguments : Arguments) (W : ℕ → Bool) (t : ℕ) → ArgumentsCallBelow arity limit arguments → Below (arguments_code called S arguments W t)
      calls-arguments no_more W t h = tt
      calls-arguments (e also arguments) W t h =
          let after = together (writes called e) W in
          let level = t + arguments_taken called arguments after in
          calls-append (arguments_code called S arguments after t) _ (calls-arguments arguments after t h.1)
          (calls-append (expression_code called S e wanted level) _ (calls-expression e wanted level h.0) (calls-hold level (atom_of called e) W))

    calls-part : (p : Part) → PartCallsBelow arity limit p → Below (part_code called S p)
    unfolding ItemsCallBelow
    calls-part absent h = tt
    calls-part (present e) h = calls-expression e dropped 0 h

    calls-empty : (xs : Items) → Below xs → Below (or_empty S xs)
    unfolding ItemsCallBelow
    calls-empty none h = (tt, tt)
    calls-empty (s then xs) h = h
    calls-empty (m here xs) h = h
    calls-empty (define f words body xs) h = h

    calls-test : (p : Part) (l : ℕ) (xs : Items) → PartCallsBelow arity limit p → Below xs → Below (test_code called S p l xs)
    unfolding ItemsCallBelow
    calls-test absent l xs h k = k
    calls-test (present e) l xs h k = calls-append (expression_code called S e wanted 0) _ (calls-expression e wanted 0 h) ((calls-atom 0 (atom_of called e), tt, (tt, tt)), k)

    calls-cases : (h : Atom) (u : ℕ) (is : Items) (l : ℕ) → Below (case_tests S (atom S 0 h) u is l)
    unfolding CallsBelow ItemsCallBelow case_tests
    calls-cases h u none l = tt
    calls-cases h u (s then is) l = calls-cases h u is (l + labels s)
    calls-cases h u (case v here is) l = ((tt, (calls-atom 0 h, tt)), ((tt, (tt, tt), tt), calls-cases h u is (l + 1)))
    calls-cases h u (default here is) l = calls-cases h u is (l + 1)
    calls-cases h u (label j here is) l = calls-cases h u is (l + 1)
    calls-cases h u (define f words body is) l = calls-cases h u is l

    calls-loop : (xs : Items) (l : ℕ) → Below xs → Below (loop_code S xs l)
    unfolding CallsBelow ItemsCallBelow
    calls-loop xs l h = ((tt, h), tt)

    calls-rounds : (arms : Arms) (l : ℕ) (xs : Items) → Below xs → Below (rounds_code S arms xs l)
    unfolding ItemsCallBelow
    calls-rounds no_arm l xs h = (tt, tt)
    calls-rounds (arm e s arms) l xs h = calls-loop (xs ⧺ goto l then label (l + 1) here none) l (calls-append xs (goto l then label (l + 1) here none) h (tt, tt))

    mutual
      unfolding StatementCallsBelow statement_code kernel_place

      calls-statement : (s : Statement) (x : Exits) (l : ℕ) → StatementCallsBelow arity limit s → Below (statement_code called S s x l)
      calls-statement empty x l h = (tt, tt)
      calls-statement (express e) x l h = calls-empty (expression_code called S e dropped 0) (calls-expression e dropped 0 h)
      calls-statement (block is) x l h = (calls-items is x l h, tt)
      calls-statement (if_then e on_true) x l h = calls-append (expression_code called S e wanted 0) _ (calls-expression e wanted 0 h.0) ((calls-atom 0 (atom_of called e), calls-statement on_true x l h.1, tt), tt)
      calls-statement (if_else e on_true on_false) x l h =
          calls-append (expression_code called S e wanted 0) _ (calls-expression e wanted 0 h.0) ((calls-atom 0 (atom_of called e), calls-statement on_true x l h.1, calls-statement on_false x (l + labels on_true) h.2), tt)
      calls-statement (while e body) x l h =
          let inner = statement_code called S body (exits l (l + 1)) (l + 2) in
          let round = inner ⧺ label (l + 1) here none in
          calls-loop (test_code called S (present e) l round) l (calls-test (present e) l round h.0 (calls-append inner (label (l + 1) here none) (calls-statement body (exits l (l + 1)) (l + 2) h.1) tt))
      calls-statement (do_while body e) x l h =
          let inner = statement_code called S body (exits l (l + 1)) (l + 2) in
          let rest = label (l + 1) here test_code called S (present e) l none in
          calls-loop (inner ⧺ rest) l (calls-append inner rest (calls-statement body (exits l (l + 1)) (l + 2) h.0) (calls-test (present e) l none h.1 tt))
      calls-statement (for first test action body) x l h =
          let inner = statement_code called S body (exits l (l + 1)) (l + 2) in
          let rest = label (l + 1) here part_code called S action in
          calls-append (part_code called S first) _ (calls-part first h.0)
          (calls-loop (test_code called S test l (inner ⧺ rest)) l (calls-test test l (inner ⧺ rest) h.1 (calls-append inner rest (calls-statement body (exits l (l + 1)) (l + 2) h.3) (calls-part action h.2))))
      calls-statement (switch e is) x l h =
          calls-append (expression_code called S e wanted 0) _ (calls-expression e wanted 0 h.0) (calls-append (case_tests S (atom S 0 (atom_of called e)) (taken (atom_of called e)) is (l + 1)) _ (calls-cases (atom_of called e) (taken (atom_of called e)) is (l + 1))
          (tt, calls-append (items_code called S is (exits l x.on_continue) (l + 1)) _ (calls-items is (exits l x.on_continue) (l + 1) h.1) tt))
      calls-statement break x l h = (tt, tt)
      calls-statement continue x l h = (tt, tt)
      calls-statement (goto k) x l h = (tt, tt)
      calls-statement (guarded_if arms) x l h = calls-append (arms_code called S arms x l (l + 1)) _ (calls-arms arms x l (l + 1) h) (tt, tt)
      calls-statement (guarded_do arms) x l h = calls-rounds arms l (arms_code called S arms x (l + 1) (l + 2)) (calls-arms arms x (l + 1) (l + 2) h)
      calls-statement abort x l h = (tt, tt)
      calls-statement (declare i e) x l h = calls-append (expression_code called S e (stored i) 0) _ (calls-expression e (stored i) 0 h) (calls-store (variable i) 0 (direct e) (atom_of called e) 0)
      calls-statement (give_back absent) x l h = (calls-atom 0 (number (pos 0)), tt)
      calls-statement (give_back (present e)) x l h = calls-append (expression_code called S e wanted 0) _ (calls-expression e wanted 0 h) (calls-atom 0 (atom_of called e), tt)

      calls-arms : (arms : Arms) (x : Exits) (out l : ℕ) → ArmsCallBelow arity limit arms → Below (arms_code called S arms x out l)
      calls-arms no_arm x out l h = tt
      calls-arms (arm e s arms) x out l h =
          calls-append (expression_code called S e wanted 0) _ (calls-expression e wanted 0 h.0)
          ((calls-atom 0 (atom_of called e), calls-append (statement_code called S s x l) _ (calls-statement s x l h.1) (tt, tt), tt), calls-arms arms x out (l + labels s) h.2)

      calls-items : (is : Items) (x : Exits) (l : ℕ) → ItemsCallBelow arity limit is → Below (items_code called S is x l)
      calls-items none x l h = tt
      calls-items (s then is) x l h = calls-append (statement_code called S s x l) _ (calls-statement s x l h.0) (calls-items is x (l + labels s) h.1)
      calls-items (m here is) x l h = calls-items is x (l + 1) h
      calls-items (define f words body is) x l h = calls-items is x l h

    -- of the main part; a definition calls nothing where it stands
    calls-main : (program : Items) (l : ℕ) → ItemsCallBelow arity limit program → Below (program_code called S program l)
    unfolding ItemsCallBelow program_code
    calls-main none l h = tt
    calls-main (s then is) l h = calls-items (s then is) (exits 0 0) l h
    calls-main (m here is) l h = calls-items (m here is) (exits 0 0) l h
    calls-main (define f words body is) l h = calls-main is (l + items_labels body) h

-- ---- the functions

module _ (called : ℕ → ℕ → Bool) (first : ℕ) where
  no-definitions : (mayReturn inSwitch mayBreak mayContinue : Bool) (is : Items) → PlacedItems mayReturn inSwitch mayBreak mayContinue is → function_count is ≡ 0
  unfolding function_count PlacedItems
  no-definitions r s b c none p = refl
  no-definitions r s b c (d then is) p = no-definitions r s b c is p.1
  no-definitions r s b c (m here is) p = no-definitions r s b c is p.1
  no-definitions r s b c (define f words body is) p = absurd p

  none-numbered : (n : ℕ) (is : Items) → function_count is ≡ 0 → Numbered n is
  unfolding function_count Numbered
  none-numbered n none e = tt
  none-numbered n (s then is) e = tt
  none-numbered n (m here is) e = tt
  none-numbered n (define f words body is) e = absurd (omega arith)

  -- definitions keep their numbers
  code-numbered : (program : Items) (n l : ℕ) → Numbered n program → Numbered n (program_code called first program l)
  unfolding Numbered program_code
  code-numbered none n l h = tt
  code-numbered (s then is) n l h = none-numbered n (items_code called first (s then is) (exits 0 0) l) (labelled-count (labelled-items called first (s then is) (exits 0 0) l))
  code-numbered (m here is) n l h = none-numbered n (items_code called first (m here is) (exits 0 0) l) (labelled-count (labelled-items called first (m here is) (exits 0 0) l))
  code-numbered (define f words body is) n l h = (h.0, code-numbered is (suc n) (l + items_labels body) h.1)

  -- and their parameters
  code-parameters : (program : Items) (l f : ℕ) → PlacedProgram program → (function_of f (program_code called first program l)).parameters ≡ (function_of f program).parameters
  unfolding PlacedProgram function_of program_code
  code-parameters none l f p = refl
  code-parameters (s then is) l f p =
      ap (λ (g : Function). g.parameters) (no-function f (items_code called first (s then is) (exits 0 0) l) (labelled-count (labelled-items called first (s then is) (exits 0 0) l)) ∙ sym (no-function f (s then is) (no-definitions false false false false (s then is) p)))
  code-parameters (m here is) l f p =
      ap (λ (g : Function). g.parameters) (no-function f (items_code called first (m here is) (exits 0 0) l) (labelled-count (labelled-items called first (m here is) (exits 0 0) l)) ∙ sym (no-function f (m here is) (no-definitions false false false false (m here is) p)))
  code-parameters (define g words body is) l f p = by (eqb f g) (code-parameters is (l + items_labels body) f p.1)
    where
      code : Function
      code = record { parameters = words; body = items_code called (first + program_levels called is) body (exits 0 0) l }

      own : Function
      own = record { parameters = words; body = body }

      by : (same : Bool) → (function_of f (program_code called first is (l + items_labels body))).parameters ≡ (function_of f is).parameters
          → (pick same code (function_of f (program_code called first is (l + items_labels body)))).parameters ≡ (pick same own (function_of f is)).parameters
      by true e = refl
      by false e = e

-- "A call to no function, to its own or a higher one, or with the wrong number of arguments": a translation has none.
pub calls-in-order : (L : Layout) (first : ℕ) (program : Items) → SourceTree L first program → CallsInOrder (translate first program)
unfolding translate
calls-in-order L first program tree =
    let called = functions_write program in
    let order = tree.calls in
    let code = program_code called first program 1 in
    let same : arity_in code ≡ arity_in program = fun_ext λ f. ap length (code-parameters called first program 1 f tree.placed) in
    let count = code-count called first program 1 tree.placed in
    record {
      numbered = code-numbered called first program 0 1 order.numbered;
      lower = λ f inside.
          let at = function-at called first L program 1 0 f order.numbered tree.named tree.placed (omega arith) (omega arith) in
          rw (same, at.code_is) (calls-items (arity_in program) f called (place_of called first program f) (function_of f program).body (exits 0 0) at.label (order.lower f (omega arith)));
      main = rw (same, count) (calls-main (arity_in program) (function_count program) called first program 1 order.main);
    }
