-- No label stands twice in a translation. By induction on the tree: how often label j stands in the code of labels l to e, added to
-- [j < l], is [j < e]; so the counts of parts add up.
use Rattle.std.specs.Prelude.{◌≡◌, Bool, ℕ, ◌+◌, ◌≤◌, ◌<◌, ltb, eqb, pos}
use Rattle.std.proofs.Math.Path.{refl}
use native.Mathlib.Omega.{arith}
use Rattle.std.proofs.Common.{ltb-true, ltb-false, lt-ltb, le-ltb, eqb-true, ne_eqb}
use Rattle.std.proofs.lemmas.Bool.{eqb-false}
use Rattle.words.specs.Word.{pick}
use Rattle.words.specs.Laws.{by_cases}
use Rattle.words.specs.declared.Operator.{Operator}
use Rattle.language.specs.Trees.{Expression, constant, read, minus, not, binary, and, or, comma, conditional, assign, compound, prefix, postfix, call, Place, variable, element, Arguments, no_more, ◌also◌, Part, absent, present, case, default, label, Statement, empty, express, block, if_then, if_else, while, do_while, for, switch, break, continue, goto, guarded_if, guarded_do, abort, declare, give_back, Arms, no_arm, arm, Items, none, ◌then◌, ◌here◌, define, ◌⧺◌}
use Rattle.language.specs.Writes.{writes, index_writes}
use Rattle.language.specs.FunctionWrites.{functions_write}
use Rattle.translation.specs.Uses.{use_for, passed_on, direct}
use Rattle.translation.specs.declared.Use.{Use}
use Rattle.translation.specs.declared.Use.TheVariants.{Dropped as dropped, Wanted as wanted, Stored as stored}
use Rattle.translation.specs.Translate.{Atom, number, word, top, held, together, nothing, landed, taken, place_taken, arguments_taken, atom_of, atom, copy_code, read_code, store_code, kernel_place, update_code, step_code, postfix_code, expression_code, index_code, arguments_code, part_code, or_empty, test_code, case_tests, labels, items_labels, Exits, exits, rounds_labels, arms_labels, rounds_code, statement_code, arms_code, items_code, program_levels, program_labels, program_code, translate}
use Rattle.translation.specs.Holding.{hold_code}
use Rattle.translation.proofs.HeldCode.{hold-either, store-either}
use Rattle.translation.specs.KernelForm.{mark_times, items_times}

-- 1 where j is below c.
abbrev under : ℕ → ℕ → ℕ
under j c = pick (ltb j c) 1 0

under-most : (j c : ℕ) → under j c ≤ 1
under-most j c = by_cases (ltb j c) (λ e. rw e (omega arith)) (λ e. rw e (omega arith))

under_next : (j l : ℕ) → mark_times j (label l) + under j l ≡ under j (l + 1)
under_next j l = by_cases (ltb j l)
    (λ e. let h : j < l = ltb-true j l e in rw (e, ne_eqb j l (omega arith), lt-ltb j (l + 1) (omega arith)))
    (λ e. let h : l ≤ j = ltb-false j l e in by_cases (eqb j l)
    (λ q. let p : j ≡ l = eqb-true j l q in rw (e, q, lt-ltb j (l + 1) (omega arith)))
    (λ q. rw (e, q, le-ltb j (l + 1) (later j l h (eqb-false j l q)))))
  where
    later : (j l : ℕ) → l ≤ j → (j ≡ l → ⊥) → l + 1 ≤ j
    later j l h p = by_cases (ltb l j) (λ e. omega (arith, ltb-true l j e)) (λ e. absurd (p (omega (arith, ltb-false l j e))))

under-two : (j l : ℕ) → mark_times j (label l) + mark_times j (label (l + 1)) + under j l ≡ under j (l + 2)
under-two j l = let z : l + 2 ≡ l + 1 + 1 = omega arith in rw z (omega (arith, under_next j l, under_next j (l + 1)))

times-append : (j : ℕ) (xs ys : Items) → items_times j (xs ⧺ ys) ≡ items_times j xs + items_times j ys
unfolding items_times ◌⧺◌
times-append j none ys = omega arith
times-append j (s then xs) ys = omega (arith, times-append j xs ys)
times-append j (m here xs) ys = omega (arith, times-append j xs ys)
times-append j (define f words body xs) ys = omega (arith, times-append j xs ys)

module _ (called : ℕ → ℕ → Bool) (S j : ℕ) where
  times-copy : (t : ℕ) (h : Atom) → items_times j (copy_code S t h) ≡ 0
  unfolding items_times
  times-copy t (number v) = refl
  times-copy t (word i) = refl
  times-copy t top = refl

  times-hold : (t : ℕ) (h : Atom) (W : ℕ → Bool) → items_times j (hold_code S t h W) ≡ 0
  unfolding items_times
  times-hold t h W = hold-either S (λ (xs : Items). items_times j xs ≡ 0) t h W (times-copy t h) refl

  times-read : (p : Place) (u : Use) (t : ℕ) → items_times j (read_code called S p u t) ≡ 0
  unfolding items_times
  times-read (variable i) u t = refl
  times-read (element array e) u t = refl

  times-store : (q : Place) (straight : Bool) (x : Expression) → items_times j (store_code S q straight x) ≡ 0
  unfolding items_times
  times-store q straight x = store-either S (λ (xs : Items). items_times j xs ≡ 0) q straight x refl refl

  times-update : (operator : Operator) (p : Place) (x : Expression) (i t u : ℕ) → items_times j (update_code S operator (kernel_place called S p i) x t u) ≡ 0
  unfolding items_times kernel_place
  times-update operator (variable k) x i t u = refl
  times-update operator (element array e) x i t u = refl

  times-step : (operator : Operator) (i : ℕ) (u : Use) (t : ℕ) → items_times j (step_code S operator i u t) ≡ 0
  unfolding items_times
  times-step operator i dropped t = refl
  times-step operator i wanted t = refl
  times-step operator i (stored k) t = refl

  times-postfix : (operator : Operator) (p : Place) (u : Use) (i t n : ℕ) → items_times j (postfix_code S operator (kernel_place called S p i) u t n) ≡ 0
  unfolding items_times kernel_place
  times-postfix operator (variable k) u i t n = times-step operator k u t
  times-postfix operator (element array e) u i t n = refl

  times-empty : (xs : Items) → items_times j (or_empty S xs) ≡ items_times j xs
  unfolding items_times
  times-empty none = refl
  times-empty (s then xs) = refl
  times-empty (m here xs) = refl
  times-empty (define f words body xs) = refl

  mutual
    unfolding items_times expression_code

    times-expression : (e : Expression) (u : Use) (t : ℕ) → items_times j (expression_code called S e u t) ≡ 0
    times-expression (constant v) u t = refl
    times-expression (read p) u t = simp (times-append, times-read) (omega (arith, times-index p t))
    times-expression (minus e) u t = simp times-append (omega (arith, times-expression e wanted t))
    times-expression (not e) u t = simp times-append (omega (arith, times-expression e wanted t))
    times-expression (binary operator a b) u t = simp (times-append, times-hold) (omega (arith, times-expression b wanted t, times-expression a wanted (t + taken (held (atom_of called b) (writes called a)))))
    times-expression (and a b) u t = simp times-append (omega (arith, times-expression a wanted t, times-expression b wanted t))
    times-expression (or a b) u t = simp times-append (omega (arith, times-expression a wanted t, times-expression b wanted t))
    times-expression (comma a b) u t = simp times-append (omega (arith, times-expression a dropped t, times-expression b (passed_on u) t))
    times-expression (conditional c a b) u t = simp (times-append, times-copy) (omega (arith, times-expression c wanted t, times-expression a wanted t, times-expression b wanted t))
    times-expression (assign p e) u t = simp (times-append, times-hold, times-store) (omega (arith, times-expression e (use_for p) t, times-index p (t + taken (held (landed p (direct e) (atom_of called e)) (index_writes called p)))))
    times-expression (compound operator p e) u t = simp (times-append, times-hold) (omega (arith, times-expression e wanted t, times-index p (t + 1), times-update operator p (atom S t (held (atom_of called e) (index_writes called p))) (t + 1) t (t + 1 + place_taken called p)))
    times-expression (prefix operator p) u t = simp times-append (omega (arith, times-index p (t + 1), times-update operator p (constant (pos 1)) (t + 1) t (t + 1 + place_taken called p)))
    times-expression (postfix operator p) u t = simp times-append (omega (arith, times-index p (t + 1), times-postfix operator p u (t + 1) t (t + 1 + place_taken called p)))
    times-expression (call f arguments) u t = simp times-append (omega (arith, times-arguments arguments nothing t))

    times-index : (p : Place) (t : ℕ) → items_times j (index_code called S p t) ≡ 0
    times-index (variable i) t = refl
    times-index (element array e) t = times-expression e wanted t

    times-arguments : (arguments : Arguments) (W : ℕ → Bool) (t : ℕ) → items_times j (arguments_code called S arguments W t) ≡ 0
    times-arguments no_more W t = refl
    times-arguments (e also arguments) W t =
        let after = together (writes called e) W in
        let level = t + arguments_taken called arguments after in
        simp (times-append, times-hold) (omega (arith, times-arguments arguments after t, times-expression e wanted level))

  times-part : (p : Part) → items_times j (part_code called S p) ≡ 0
  unfolding items_times
  times-part absent = refl
  times-part (present e) = times-expression e dropped 0

  times-test : (p : Part) (l : ℕ) (xs : Items) → items_times j (test_code called S p l xs) ≡ items_times j xs
  unfolding items_times
  times-test absent l xs = refl
  times-test (present e) l xs = simp times-append (omega (arith, times-expression e wanted 0))

  times-cases : (x : Expression) (u : ℕ) (is : Items) (l : ℕ) → items_times j (case_tests S x u is l) ≡ 0
  unfolding items_times case_tests
  times-cases x u none l = refl
  times-cases x u (s then is) l = times-cases x u is (l + labels s)
  times-cases x u (case v here is) l = omega (arith, times-cases x u is (l + 1))
  times-cases x u (default here is) l = times-cases x u is (l + 1)
  times-cases x u (label k here is) l = times-cases x u is (l + 1)
  times-cases x u (define f words body is) l = times-cases x u is l

  once-rounds : (arms : Arms) (xs : Items) (l e : ℕ) → l + (rounds_labels arms + arms_labels arms) ≡ e → (l + 2 + arms_labels arms ≡ e → items_times j xs + under j (l + 2) ≡ under j e)
      → items_times j (rounds_code S arms xs l) + under j l ≡ under j e
  unfolding items_times labels
  once-rounds no_arm xs l e q h = let z : l ≡ e = omega arith in rw z (omega arith)
  once-rounds (arm d s arms) xs l e q h = simp times-append (omega (arith, under-two j l, h (omega arith)))

  mutual
    unfolding items_times statement_code labels

    -- The labels of a statement's code are those from l to e, each once.
    once : (s : Statement) (x : Exits) (l e : ℕ) → l + labels s ≡ e → items_times j (statement_code called S s x l) + under j l ≡ under j e
    once empty x l e q = let z : l ≡ e = omega arith in rw z (omega arith)
    once (express d) x l e q = let z : l ≡ e = omega arith in rw z (simp times-empty (omega (arith, times-expression d dropped 0)))
    once (block is) x l e q = omega (arith, once-items is x l e q)
    once (if_then d on_true) x l e q = simp times-append (omega (arith, times-expression d wanted 0, once on_true x l e q))
    once (if_else d on_true on_false) x l e q = simp times-append (omega (arith, times-expression d wanted 0, once on_true x l (l + labels on_true) refl, once on_false x (l + labels on_true) e (omega arith)))
    once (while d body) x l e q = simp times-append (omega (arith, times-expression d wanted 0, under-two j l, once body (exits l (l + 1)) (l + 2) e (omega arith)))
    once (do_while body d) x l e q = simp times-append (omega (arith, times-expression d wanted 0, under-two j l, once body (exits l (l + 1)) (l + 2) e (omega arith)))
    once (for first test action body) x l e q = simp (times-append, times-test, times-part) (omega (arith, under-two j l, once body (exits l (l + 1)) (l + 2) e (omega arith)))
    once (switch d is) x l e q = simp (times-append, times-cases) (omega (arith, times-expression d wanted 0, under_next j l, once-items is (exits l x.on_continue) (l + 1) e (omega arith)))
    once break x l e q = let z : l ≡ e = omega arith in rw z (omega arith)
    once continue x l e q = let z : l ≡ e = omega arith in rw z (omega arith)
    once (goto k) x l e q = let z : l ≡ e = omega arith in rw z (omega arith)
    once (guarded_if arms) x l e q = simp times-append (omega (arith, under_next j l, once-arms arms x l (l + 1) e (omega arith)))
    once (guarded_do arms) x l e q = once-rounds arms (arms_code called S arms x (l + 1) (l + 2)) l e q (λ m. once-arms arms x (l + 1) (l + 2) e m)
    once abort x l e q = let z : l ≡ e = omega arith in rw z (omega arith)
    once (declare i d) x l e q = let z : l ≡ e = omega arith in rw z (simp (times-append, times-store) (omega (arith, times-expression d (stored i) 0)))
    once (give_back absent) x l e q = let z : l ≡ e = omega arith in rw z (omega arith)
    once (give_back (present d)) x l e q = let z : l ≡ e = omega arith in rw z (simp times-append (omega (arith, times-expression d wanted 0)))

    once-arms : (arms : Arms) (x : Exits) (out l e : ℕ) → l + arms_labels arms ≡ e → items_times j (arms_code called S arms x out l) + under j l ≡ under j e
    once-arms no_arm x out l e q = let z : l ≡ e = omega arith in rw z (omega arith)
    once-arms (arm d s arms) x out l e q = simp times-append (omega (arith, times-expression d wanted 0, once s x l (l + labels s) refl, once-arms arms x out (l + labels s) e (omega arith)))

    once-items : (is : Items) (x : Exits) (l e : ℕ) → l + items_labels is ≡ e → items_times j (items_code called S is x l) + under j l ≡ under j e
    once-items none x l e q = let z : l ≡ e = omega arith in rw z (omega arith)
    once-items (s then is) x l e q = simp times-append (omega (arith, once s x l (l + labels s) refl, once-items is x (l + labels s) e (omega arith)))
    once-items (m here is) x l e q = omega (arith, under_next j l, once-items is x (l + 1) e (omega arith))
    once-items (define f words body is) x l e q = once-items is x l e q

-- The labels of a program's code are those from l to e, each once.
once-program : (called : ℕ → ℕ → Bool) (first j : ℕ) (program : Items) (l e : ℕ) → l + program_labels program ≡ e → items_times j (program_code called first program l) + under j l ≡ under j e
unfolding items_times program_code program_labels labels
once-program called first j none l e q = let z : l ≡ e = omega arith in rw z (omega arith)
once-program called first j (s then is) l e q = once-items called first j (s then is) (exits 0 0) l e q
once-program called first j (m here is) l e q = once-items called first j (m here is) (exits 0 0) l e q
once-program called first j (define f words body is) l e q =
    omega (arith, once-items called (first + program_levels called is) j body (exits 0 0) l (l + items_labels body) refl, once-program called first j is (l + items_labels body) e (omega arith))

pub labels-distinct : (first j : ℕ) (program : Items) → items_times j (translate first program) ≤ 1
unfolding translate
labels-distinct first j program = omega (arith, once-program (functions_write program) first j program 1 (1 + program_labels program) refl, under-most j (1 + program_labels program))
