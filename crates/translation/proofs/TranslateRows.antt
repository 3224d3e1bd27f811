-- The rows of a translation's code are those that TranslateSize counts. By induction on the tree: `simp` takes the code apart, `omega`
-- adds up.
use Rattle.std.specs.Prelude.{◌≡◌, Bool, ℕ, ◌+◌, ◌*◌, ◌-◌, max, pos}
use Rattle.std.proofs.Math.Path.{refl}
use Rattle.std.proofs.Common.{ap}
use Rattle.std.proofs.Math.Bool.{true, false}
use native.Mathlib.Omega.{arith}
use Rattle.words.specs.Word.{pick}
use Rattle.words.specs.declared.Operator.{Operator}
use Rattle.language.specs.Trees.{Expression, constant, read, minus, not, binary, and, or, comma, conditional, assign, compound, prefix, postfix, call, Place, variable, element, Arguments, no_more, ◌also◌, Part, absent, present, case, default, label, Statement, empty, express, block, if_then, if_else, while, do_while, for, switch, break, continue, goto, guarded_if, guarded_do, abort, declare, give_back, Arms, no_arm, arm, Items, none, ◌then◌, ◌here◌, define, ◌⧺◌}
use Rattle.language.specs.Sizes.{expression_rows, arguments_rows, statement_rows, items_rows}
use Rattle.language.specs.TreeLaws.{statement-some}
use Rattle.language.specs.Writes.{writes, index_writes}
use Rattle.language.specs.FunctionWrites.{functions_write}
use Rattle.language.specs.Calls.{argument_count}
use Rattle.translation.specs.Uses.{use_for, passed_on, direct}
use Rattle.translation.specs.declared.Use.{Use}
use Rattle.translation.specs.declared.Use.TheVariants.{Dropped as dropped, Wanted as wanted, Stored as stored}
use Rattle.translation.specs.Translate.{Atom, number, word, top, held, together, nothing, landed, atom_of, taken, place_taken, arguments_taken, atom, copy_code, move_code, read_code, store_code, kernel_place, update_code, step_code, postfix_code, argument_atoms, expression_code, index_code, arguments_code, part_code, or_empty, test_code, case_tests, labels, Exits, exits, rounds_code, statement_code, arms_code, items_code, items_labels, program_levels, program_code, translate}
use Rattle.translation.specs.Holding.{hold_code}
use Rattle.translation.specs.TranslateSize.{index_rows, copy_rows, hold_rows, store_rows, update_rows, step_rows, postfix_rows, expression_size, index_size, arguments_size, part_size, test_size, cases, rounds_rows, statement_size, arms_size, items_size, program_size}

pub rows_append : (xs ys : Items) → items_rows (xs ⧺ ys) ≡ items_rows xs + items_rows ys
unfolding items_rows ◌⧺◌
rows_append none ys = omega arith
rows_append (s then xs) ys = omega (arith, rows_append xs ys)
rows_append (m here xs) ys = omega (arith, rows_append xs ys)
rows_append (define f words body xs) ys = omega (arith, rows_append xs ys)

module _ (called : ℕ → ℕ → Bool) (S : ℕ) where
  pub rows-atom : (t : ℕ) (h : Atom) → expression_rows (atom S t h) ≡ 1
  unfolding expression_rows
  rows-atom t (number v) = refl
  rows-atom t (word i) = refl
  rows-atom t top = refl

  rows-copy : (t : ℕ) (h : Atom) → items_rows (copy_code S t h) ≡ copy_rows h
  unfolding expression_rows items_rows
  rows-copy t (number v) = refl
  rows-copy t (word i) = refl
  rows-copy t top = refl

  rows_read : (p : Place) (u : Use) (t : ℕ) → items_rows (read_code called S p u t) ≡ 5 * index_rows p
  unfolding expression_rows items_rows
  rows_read (variable i) u t = refl
  rows_read (element array e) u t = simp rows-atom

  rows-hold : (t : ℕ) (h : Atom) (W : ℕ → Bool) → items_rows (hold_code S t h W) ≡ hold_rows h W
  unfolding expression_rows items_rows
  rows-hold t (number v) W = refl
  rows-hold t (word i) W = by (W i)
    where
      by : (b : Bool) → items_rows (move_code S t (word i) (pick b top (word i))) ≡ 4 * (taken (pick b top (word i)) - 0)
      by true = refl
      by false = refl
  rows-hold t top W = refl

  rows-store : (p : Place) (straight : Bool) (h : Atom) (t i : ℕ) → items_rows (store_code S (kernel_place called S p i) straight (atom S t h)) ≡ store_rows p straight
  unfolding expression_rows items_rows kernel_place
  rows-store (variable j) true h t i = refl
  rows-store (variable j) false h t i = simp rows-atom
  rows-store (element array e) straight h t i = simp rows-atom

  rows-update : (operator : Operator) (p : Place) (h : Atom) (t i u : ℕ) → items_rows (update_code S operator (kernel_place called S p i) (atom S t h) t u) ≡ update_rows p
  unfolding expression_rows items_rows kernel_place
  rows-update operator (variable j) h t i u = simp rows-atom
  rows-update operator (element array e) h t i u = simp rows-atom

  rows_step : (operator : Operator) (i : ℕ) (u : Use) (t : ℕ) → items_rows (step_code S operator i u t) ≡ step_rows u
  unfolding expression_rows items_rows
  rows_step operator i dropped t = refl
  rows_step operator i wanted t = refl
  rows_step operator i (stored j) t = refl

  rows-postfix : (operator : Operator) (p : Place) (u : Use) (t i n : ℕ) → items_rows (postfix_code S operator (kernel_place called S p i) u t n) ≡ postfix_rows p u
  unfolding expression_rows items_rows kernel_place
  rows-postfix operator (variable j) u t i n = rows_step operator j u t
  rows-postfix operator (element array e) u t i n = simp rows-atom

  rows_empty : (xs : Items) → items_rows (or_empty S xs) ≡ max 1 (items_rows xs)
  unfolding items_rows
  rows_empty none = refl
  rows_empty (s then xs) = omega (arith, statement-some s)
  rows_empty (m here xs) = omega arith
  rows_empty (define f words body xs) = omega arith

  rows-atoms : (arguments : Arguments) (W : ℕ → Bool) (t : ℕ) → arguments_rows (argument_atoms called S arguments W t) ≡ 2 * argument_count arguments
  unfolding argument_atoms expression_rows argument_count
  rows-atoms no_more W t = refl
  rows-atoms (e also arguments) W t = simp rows-atom (omega (arith, rows-atoms arguments (together (writes called e) W) t))

  mutual
    unfolding expression_size expression_code expression_rows items_rows kernel_place

    pub rows-expression : (e : Expression) (u : Use) (t : ℕ) → items_rows (expression_code called S e u t) ≡ expression_size called e u
    rows-expression (constant v) u t = refl
    rows-expression (read p) u t = simp (rows_append, rows_read) (omega (arith, rows-index p t))
    rows-expression (minus e) u t = simp (rows_append, rows-atom) (omega (arith, rows-expression e wanted t))
    rows-expression (not e) u t = simp (rows_append, rows-atom) (omega (arith, rows-expression e wanted t))
    rows-expression (binary operator a b) u t = simp (rows_append, rows-atom, rows-hold) (omega (arith, rows-expression b wanted t, rows-expression a wanted (t + taken (held (atom_of called b) (writes called a)))))
    rows-expression (and a b) u t = simp (rows_append, rows-atom) (omega (arith, rows-expression a wanted t, rows-expression b wanted t))
    rows-expression (or a b) u t = simp (rows_append, rows-atom) (omega (arith, rows-expression a wanted t, rows-expression b wanted t))
    rows-expression (comma a b) u t = simp rows_append (omega (arith, rows-expression a dropped t, rows-expression b (passed_on u) t))
    rows-expression (conditional c a b) u t = simp (rows_append, rows-atom, rows-copy) (omega (arith, rows-expression c wanted t, rows-expression a wanted t, rows-expression b wanted t))
    rows-expression (assign p e) u t = simp (rows_append, rows-hold, rows-store) (omega (arith, rows-expression e (use_for p) t, rows-index p (t + taken (held (landed p (direct e) (atom_of called e)) (index_writes called p)))))
    rows-expression (compound operator p e) u t = simp (rows_append, rows-hold) (omega (arith, rows-expression e wanted t, rows-index p (t + 1), rows-update operator p (held (atom_of called e) (index_writes called p)) t (t + 1) (t + 1 + place_taken called p)))
    rows-expression (prefix operator p) u t = simp rows_append (omega (arith, rows-index p (t + 1), rows-update operator p (number (pos 1)) t (t + 1) (t + 1 + place_taken called p)))
    rows-expression (postfix operator p) u t = simp rows_append (omega (arith, rows-index p (t + 1), rows-postfix operator p u t (t + 1) (t + 1 + place_taken called p)))
    rows-expression (call f arguments) u t = simp (rows_append, rows-atoms) (omega (arith, rows-arguments arguments nothing t))

    rows-index : (p : Place) (t : ℕ) → items_rows (index_code called S p t) ≡ index_size called p
    rows-index (variable i) t = refl
    rows-index (element array e) t = rows-expression e wanted t

    rows-arguments : (arguments : Arguments) (W : ℕ → Bool) (t : ℕ) → items_rows (arguments_code called S arguments W t) ≡ arguments_size called arguments W
    rows-arguments no_more W t = refl
    rows-arguments (e also arguments) W t =
        let after = together (writes called e) W in
        let level = t + arguments_taken called arguments after in
        simp (rows_append, rows-hold) (omega (arith, rows-arguments arguments after t, rows-expression e wanted level))

  pub rows-part : (p : Part) → items_rows (part_code called S p) ≡ part_size called p
  unfolding items_rows
  rows-part absent = refl
  rows-part (present e) = rows-expression e dropped 0

  pub rows-test : (p : Part) (l : ℕ) (xs : Items) → items_rows (test_code called S p l xs) ≡ test_size called p + items_rows xs
  unfolding expression_rows items_rows
  rows-test absent l xs = omega arith
  rows-test (present e) l xs = simp (rows_append, rows-atom) (omega (arith, rows-expression e wanted 0))

  pub rows-cases : (t u : ℕ) (h : Atom) (is : Items) (l : ℕ) → items_rows (case_tests S (atom S t h) u is l) ≡ 11 * cases is
  unfolding expression_rows items_rows case_tests
  rows-cases t u h none l = refl
  rows-cases t u h (s then is) l = rows-cases t u h is (l + labels s)
  rows-cases t u h (case v here is) l = simp rows-atom (omega (arith, rows-cases t u h is (l + 1)))
  rows-cases t u h (default here is) l = rows-cases t u h is (l + 1)
  rows-cases t u h (label k here is) l = rows-cases t u h is (l + 1)
  rows-cases t u h (define f words body is) l = rows-cases t u h is l

  pub rows-rounds : (arms : Arms) (xs : Items) (l : ℕ) → items_rows xs ≡ arms_size called arms → items_rows (rounds_code S arms xs l) ≡ rounds_rows arms + arms_size called arms
  unfolding statement_size items_rows expression_rows
  rows-rounds no_arm xs l e = refl
  rows-rounds (arm d s arms) xs l e = simp rows_append (omega arith)

  mutual
    unfolding statement_size statement_code items_rows expression_rows kernel_place

    pub rows-statement : (s : Statement) (x : Exits) (l : ℕ) → items_rows (statement_code called S s x l) ≡ statement_size called s
    rows-statement empty x l = refl
    rows-statement (express e) x l = simp rows_empty (omega (arith, rows-expression e dropped 0))
    rows-statement (block is) x l = omega (arith, rows-items is x l)
    rows-statement (if_then e on_true) x l = simp (rows_append, rows-atom) (omega (arith, rows-expression e wanted 0, rows-statement on_true x l))
    rows-statement (if_else e on_true on_false) x l = simp (rows_append, rows-atom) (omega (arith, rows-expression e wanted 0, rows-statement on_true x l, rows-statement on_false x (l + labels on_true)))
    rows-statement (while e body) x l = simp (rows_append, rows-atom) (omega (arith, rows-expression e wanted 0, rows-statement body (exits l (l + 1)) (l + 2)))
    rows-statement (do_while body e) x l = simp (rows_append, rows-atom) (omega (arith, rows-expression e wanted 0, rows-statement body (exits l (l + 1)) (l + 2)))
    rows-statement (for first test action body) x l = simp (rows_append, rows-test, rows-part) (omega (arith, rows-statement body (exits l (l + 1)) (l + 2)))
    rows-statement (switch e is) x l = simp (rows_append, rows-cases) (omega (arith, rows-expression e wanted 0, rows-items is (exits l x.on_continue) (l + 1)))
    rows-statement break x l = refl
    rows-statement continue x l = refl
    rows-statement (goto k) x l = refl
    rows-statement (guarded_if arms) x l = simp rows_append (omega (arith, rows-arms arms x l (l + 1)))
    rows-statement (guarded_do arms) x l = rows-rounds arms (arms_code called S arms x (l + 1) (l + 2)) l (rows-arms arms x (l + 1) (l + 2))
    rows-statement abort x l = refl
    rows-statement (declare i e) x l = simp rows_append (omega (arith, rows-expression e (stored i) 0, rows-store (variable i) (direct e) (atom_of called e) 0 0))
    rows-statement (give_back absent) x l = refl
    rows-statement (give_back (present e)) x l = simp (rows_append, rows-atom) (omega (arith, rows-expression e wanted 0))

    pub rows-arms : (arms : Arms) (x : Exits) (out l : ℕ) → items_rows (arms_code called S arms x out l) ≡ arms_size called arms
    rows-arms no_arm x out l = refl
    rows-arms (arm e s arms) x out l = simp (rows_append, rows-atom) (omega (arith, rows-expression e wanted 0, rows-statement s x l, rows-arms arms x out (l + labels s)))

    pub rows-items : (is : Items) (x : Exits) (l : ℕ) → items_rows (items_code called S is x l) ≡ items_size called is
    rows-items none x l = refl
    rows-items (s then is) x l = simp rows_append (omega (arith, rows-statement s x l, rows-items is x (l + labels s)))
    rows-items (m here is) x l = omega (arith, rows-items is x (l + 1))
    rows-items (define f words body is) x l = rows-items is x l

pub rows-program : (called : ℕ → ℕ → Bool) (first : ℕ) (program : Items) (l : ℕ) → items_rows (program_code called first program l) ≡ program_size called program
unfolding items_rows program_code program_size statement_size
rows-program called first none l = refl
rows-program called first (s then is) l = rows-items called first (s then is) (exits 0 0) l
rows-program called first (m here is) l = rows-items called first (m here is) (exits 0 0) l
rows-program called first (define f words body is) l =
    omega (arith, rows-items called (first + program_levels called is) body (exits 0 0) l, rows-program called first is (l + items_labels body))

-- The rows of a translation.
pub translation-rows : (first : ℕ) (program : Items) → statement_rows (block (translate first program)) ≡ 1 + program_size (functions_write program) program
unfolding items_rows translate
translation-rows first program = omega (arith, rows-program (functions_write program) first program 1)
