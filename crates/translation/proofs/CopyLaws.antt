-- The translation makes the copies that Change 1 allows, and no others. By induction on the tree: `simp` takes the code apart, `omega`
-- adds up.
use Rattle.std.specs.Prelude.{◌≡◌, Bool, ◌&&◌, ℕ, ◌+◌, ◌*◌, ◌-◌, ◌≤◌, leb, pos}
use Rattle.std.proofs.Math.Path.{refl}
use Rattle.std.proofs.Common.{◌∙◌, le-leb}
use Rattle.std.proofs.Math.Bool.{true, false, not, and-true, and-false}
use native.Mathlib.Omega.{arith}
use Rattle.std.proofs.lemmas.Bool.{lt-leb}
use Rattle.words.specs.Word.{pick}
use Rattle.words.specs.Layout.{Layout}
use Rattle.words.specs.Laws.{by_cases}
use Rattle.words.specs.declared.Operator.{Operator}
use Rattle.language.specs.Trees.{Expression, constant, read, minus, not as not_true, binary, and, or, comma, conditional, assign, compound, prefix, postfix, call, Place, variable, element, Arguments, no_more, ◌also◌, Part, absent, present, case, default, label, Statement, empty, express, block, if_then, if_else, while, do_while, for, switch, break, continue, goto, guarded_if, guarded_do, abort, declare, give_back, Arms, no_arm, arm, Items, none, ◌then◌, ◌here◌, define, ◌⧺◌}
use Rattle.language.specs.WellFormed.{NamedExpression, NamedPlace, NamedStatement, SourceTree}
use Rattle.language.specs.Writes.{writes, index_writes}
use Rattle.language.specs.FunctionWrites.{functions_write}
use Rattle.translation.specs.Uses.{use_for, passed_on, direct}
use Rattle.translation.specs.declared.Use.{Use}
use Rattle.translation.specs.declared.Use.TheVariants.{Dropped as dropped, Wanted as wanted, Stored as stored}
use Rattle.translation.specs.Translate.{Atom, number, word, top, held, together, nothing, landed, updated, atom_of, taken, place_taken, arguments_taken, atom, temporary, copy_code, move_code, read_code, store_code, kernel_place, update_code, step_code, postfix_code, expression_code, index_code, arguments_code, part_code, or_empty, test_code, case_tests, labels, Exits, exits, rounds_code, statement_code, arms_code, items_code, items_labels, program_levels, program_code, translate}
use Rattle.translation.specs.Holding.{hold_code}
use Rattle.translation.proofs.HeldCode.{held-variable}
use Rattle.translation.specs.TranslateSize.{copied}
use Rattle.translation.proofs.ExpressionPreserves.{InRange, PlaceInRange, ArgumentsInRange}
use Rattle.translation.proofs.StatementPreserves.{PartInRange, StatementInRange, ArmsInRange, ItemsInRange}
use Rattle.translation.specs.Copies.{is_variable, is_temporary, copies, rewritten, waiting, arguments_waiting, old_used, own_copies, own_results, expression_total, index_total, arguments_total, part_total, test_total, statement_total, arms_total, total, program_total}

-- ---- which values wait

-- A variable that was copied for the index waits no longer.
copied-held : (h : Atom) (index W : ℕ → Bool) → copied (held h index) W ≡ copied h (λ i. W i && not (index i))
copied-held (number v) index W = refl
copied-held (word i) index W = by (index i)
  where
    by : (b : Bool) → copied (pick b top (word i)) W ≡ copied (word i) (λ j. W j && not b)
    by true = rw and-false
    by false = rw and-true
copied-held top index W = refl

updated-copied : (p : Place) (W : ℕ → Bool) → copied (updated p) W ≡ rewritten p W
updated-copied (variable i) W = by_cases (W i) (λ e. rw e) (λ e. rw e)
updated-copied (element array e) W = refl

landed-copied : (i : ℕ) (straight : Bool) (h : Atom) (W : ℕ → Bool) → copied (pick straight (word i) h) W ≡ pick straight (pick (W i) 1 0) (copied h W)
landed-copied i true h W = by_cases (W i) (λ e. rw e) (λ e. rw e)
landed-copied i false h W = refl

module _ (called : ℕ → ℕ → Bool) where
  waiting-copied : (e : Expression) (W : ℕ → Bool) → copied (atom_of called e) W ≡ waiting called e W
  unfolding atom_of waiting writes
  waiting-copied (constant v) W = refl
  waiting-copied (read (variable i)) W = by_cases (W i) (λ e. rw e) (λ e. rw e)
  waiting-copied (read (element array e)) W = refl
  waiting-copied (minus e) W = refl
  waiting-copied (not_true e) W = refl
  waiting-copied (binary operator a b) W = refl
  waiting-copied (and a b) W = refl
  waiting-copied (or a b) W = refl
  waiting-copied (comma a b) W = waiting-copied b W
  waiting-copied (conditional c a b) W = refl
  waiting-copied (assign (variable i) e) W =
      rw (held-variable called (pick (direct e) (word i) (atom_of called e)) i, landed-copied i (direct e) (atom_of called e) W, waiting-copied e W)
  waiting-copied (assign (element array d) e) W = copied-held (atom_of called e) (writes called d) W ∙ waiting-copied e (λ i. W i && not (writes called d i))
  waiting-copied (compound operator p e) W = updated-copied p W
  waiting-copied (prefix operator p) W = updated-copied p W
  waiting-copied (postfix operator p) W = refl
  waiting-copied (call f arguments) W = refl

  -- What the value of an assignment waits for: into a variable, nothing.
  landed-waiting : (p : Place) (e : Expression) → copied (landed p (direct e) (atom_of called e)) (index_writes called p) ≡ waiting called e (index_writes called p)
  unfolding writes
  landed-waiting (variable i) e = rw (held-variable called (pick (direct e) (word i) (atom_of called e)) i, ← (waiting-copied e (index_writes called (variable i))), held-variable called (atom_of called e) i) (omega arith)
  landed-waiting (element array d) e = waiting-copied e (writes called d)

-- ---- the code's copies

-- The temporaries of the code begin at store word `first`, the program's at S.
module _ (called : ℕ → ℕ → Bool) (L : Layout) (S first : ℕ) (above : S ≤ first) where
  copies-append : (xs ys : Items) → copies S (xs ⧺ ys) ≡ copies S xs + copies S ys
  unfolding copies ◌⧺◌
  copies-append none ys = omega arith
  copies-append (s then xs) ys = omega (arith, copies-append xs ys)
  copies-append (m here xs) ys = omega (arith, copies-append xs ys)
  copies-append (define f words body xs) ys = omega (arith, copies-append xs ys)

  a-temporary : (t : ℕ) → leb S (first + t) ≡ true
  a-temporary t = le-leb S (first + t) (omega arith)

  -- A place of the source is no temporary.
  no-temporary : (p : Place) (t : ℕ) → PlaceInRange L S p → is_temporary S (kernel_place called first p t) ≡ 0
  unfolding kernel_place NamedPlace
  no-temporary (variable i) t n = rw (lt-leb S i n.inside)
  no-temporary (element array e) t n = refl

  copies-copy : (t : ℕ) (h : Atom) → copies S (copy_code first t h) ≡ copied h (λ i. true)
  unfolding copies
  copies-copy t (number v) = omega arith
  copies-copy t (word i) = rw (a-temporary t)
  copies-copy t top = refl

  copies-hold : (t : ℕ) (h : Atom) (W : ℕ → Bool) → copies S (hold_code first t h W) ≡ copied h W
  unfolding copies
  copies-hold t (number v) W = refl
  copies-hold t (word i) W = by (W i)
    where
      by : (b : Bool) → copies S (move_code first t (word i) (pick b top (word i))) ≡ taken (pick b top (word i)) - 0
      by true = rw (a-temporary t)
      by false = refl
  copies-hold t top W = refl

  copies-read : (p : Place) (u : Use) (t : ℕ) → copies S (read_code called first p u t) ≡ 0
  unfolding copies
  copies-read (variable i) u t = refl
  copies-read (element array e) u t = omega arith

  copies-store : (p : Place) (i : ℕ) (straight : Bool) (x : Expression) → PlaceInRange L S p → copies S (store_code first (kernel_place called first p i) straight x) ≡ 0
  unfolding copies kernel_place NamedPlace
  copies-store (variable j) i true x n = refl
  copies-store (variable j) i false x n = rw (lt-leb S j n.inside) (omega arith)
  copies-store (element array e) i straight x n = omega arith

  copies-update : (operator : Operator) (p : Place) (x : Expression) (t i u : ℕ) → PlaceInRange L S p → copies S (update_code first operator (kernel_place called first p i) x t u) ≡ 0
  unfolding copies kernel_place NamedPlace
  copies-update operator (variable j) x t i u n = omega arith
  copies-update operator (element array e) x t i u n = omega arith

  copies-step : (operator : Operator) (i : ℕ) (u : Use) (t : ℕ) → copies S (step_code first operator i u t) ≡ old_used u
  unfolding copies
  copies-step operator i dropped t = omega arith
  copies-step operator i wanted t = rw (a-temporary t) (omega arith)
  copies-step operator i (stored j) t = rw (a-temporary t) (omega arith)

  copies-postfix : (operator : Operator) (p : Place) (u : Use) (t i n : ℕ) → copies S (postfix_code first operator (kernel_place called first p i) u t n) ≡ is_variable p * old_used u
  unfolding copies kernel_place
  copies-postfix operator (variable j) u t i n = omega (arith, copies-step operator j u t)
  copies-postfix operator (element array e) u t i n = omega arith

  copies-empty : (xs : Items) → copies S (or_empty first xs) ≡ copies S xs
  unfolding copies
  copies-empty none = refl
  copies-empty (s then xs) = refl
  copies-empty (m here xs) = refl
  copies-empty (define f words body xs) = refl

  mutual
    unfolding expression_code copies kernel_place arguments_waiting expression_total NamedExpression

    -- Every expression's code makes the copies that the sentence allows, and moves the results.
    pub copies-expression : (e : Expression) (u : Use) (t : ℕ) → InRange L S e → copies S (expression_code called first e u t) ≡ expression_total (own_copies called) e u + expression_total (own_results called) e u
    copies-expression (constant v) u t n = refl
    copies-expression (read p) u t n = simp (copies-append, copies-read) (omega (arith, copies-index p t n))
    copies-expression (minus e) u t n = simp copies-append (omega (arith, copies-expression e wanted t n))
    copies-expression (not_true e) u t n = simp copies-append (omega (arith, copies-expression e wanted t n))
    copies-expression (binary operator a b) u t n =
        simp (copies-append, copies-hold, waiting-copied called) (omega (arith, copies-expression b wanted t n.1, copies-expression a wanted (t + taken (held (atom_of called b) (writes called a))) n.0))
    copies-expression (and a b) u t n = simp copies-append (omega (arith, copies-expression a wanted t n.0, copies-expression b wanted t n.1))
    copies-expression (or a b) u t n = simp copies-append (omega (arith, copies-expression a wanted t n.0, copies-expression b wanted t n.1))
    copies-expression (comma a b) u t n = simp copies-append (omega (arith, copies-expression a dropped t n.0, copies-expression b (passed_on u) t n.1))
    copies-expression (conditional c a b) u t n =
        simp (copies-append, copies-copy, waiting-copied called) (omega (arith, copies-expression c wanted t n.0, copies-expression a wanted t n.1, copies-expression b wanted t n.2))
    copies-expression (assign p e) u t n =
        let above = t + taken (held (landed p (direct e) (atom_of called e)) (index_writes called p)) in
        simp (copies-append, copies-hold, landed-waiting called p e, copies-store p above (direct e) (atom first t (held (landed p (direct e) (atom_of called e)) (index_writes called p))) n.0) (omega (arith, copies-expression e (use_for p) t n.1, copies-index p above n.0))
    copies-expression (compound operator p e) u t n =
        simp (copies-append, copies-hold, waiting-copied, copies-update operator p (atom first t (held (atom_of called e) (index_writes called p))) t (t + 1) (t + 1 + place_taken called p) n.0) (omega (arith, copies-expression e wanted t n.1, copies-index p (t + 1) n.0))
    copies-expression (prefix operator p) u t n = simp (copies-append, copies-update operator p (constant (pos 1)) t (t + 1) (t + 1 + place_taken called p) n) (omega (arith, copies-index p (t + 1) n))
    copies-expression (postfix operator p) u t n = simp (copies-append, copies-postfix operator p u t (t + 1) (t + 1 + place_taken called p)) (omega (arith, copies-index p (t + 1) n))
    copies-expression (call f arguments) u t n = simp copies-append (omega (arith, copies-arguments arguments nothing t n))

    copies-index : (p : Place) (t : ℕ) → PlaceInRange L S p → copies S (index_code called first p t) ≡ index_total (own_copies called) p + index_total (own_results called) p
    copies-index (variable i) t n = refl
    copies-index (element array e) t n = copies-expression e wanted t n.1

    copies-arguments : (arguments : Arguments) (W : ℕ → Bool) (t : ℕ) → ArgumentsInRange L S arguments
        → copies S (arguments_code called first arguments W t) ≡ arguments_waiting called arguments W + arguments_total (own_copies called) arguments + arguments_total (own_results called) arguments
    copies-arguments no_more W t n = refl
    copies-arguments (e also arguments) W t n =
        let after = together (writes called e) W in
        let level = t + arguments_taken called arguments after in
        simp (copies-append, copies-hold, waiting-copied called) (omega (arith, copies-arguments arguments after t n.1, copies-expression e wanted level n.0))

  copies-part : (p : Part) → PartInRange L S p → copies S (part_code called first p) ≡ part_total (own_copies called) p + part_total (own_results called) p
  unfolding copies
  copies-part absent n = refl
  copies-part (present e) n = copies-expression e dropped 0 n

  copies-test : (p : Part) (l : ℕ) (xs : Items) → PartInRange L S p → copies S (test_code called first p l xs) ≡ test_total (own_copies called) p + test_total (own_results called) p + copies S xs
  unfolding copies
  copies-test absent l xs n = omega arith
  copies-test (present e) l xs n = simp copies-append (omega (arith, copies-expression e wanted 0 n))

  copies-cases : (x : Expression) (u : ℕ) (is : Items) (l : ℕ) → copies S (case_tests first x u is l) ≡ 0
  unfolding copies case_tests
  copies-cases x u none l = refl
  copies-cases x u (s then is) l = copies-cases x u is (l + labels s)
  copies-cases x u (case v here is) l = omega (arith, copies-cases x u is (l + 1))
  copies-cases x u (default here is) l = copies-cases x u is (l + 1)
  copies-cases x u (label k here is) l = copies-cases x u is (l + 1)
  copies-cases x u (define f words body is) l = copies-cases x u is l

  copies-rounds : (arms : Arms) (xs : Items) (l : ℕ) → copies S xs ≡ arms_total (own_copies called) arms + arms_total (own_results called) arms → copies S (rounds_code first arms xs l) ≡ arms_total (own_copies called) arms + arms_total (own_results called) arms
  unfolding copies statement_total
  copies-rounds no_arm xs l h = refl
  copies-rounds (arm e s arms) xs l h = simp copies-append (omega arith)

  mutual
    unfolding statement_code copies kernel_place statement_total NamedStatement NamedPlace

    copies-statement : (s : Statement) (x : Exits) (l : ℕ) → StatementInRange L S s → copies S (statement_code called first s x l) ≡ statement_total (own_copies called) s + statement_total (own_results called) s
    copies-statement empty x l n = refl
    copies-statement (express e) x l n = simp copies-empty (omega (arith, copies-expression e dropped 0 n))
    copies-statement (block is) x l n = omega (arith, copies-items is x l n)
    copies-statement (if_then e on_true) x l n = simp copies-append (omega (arith, copies-expression e wanted 0 n.0, copies-statement on_true x l n.1))
    copies-statement (if_else e on_true on_false) x l n =
        simp copies-append (omega (arith, copies-expression e wanted 0 n.0, copies-statement on_true x l n.1, copies-statement on_false x (l + labels on_true) n.2))
    copies-statement (while e body) x l n = simp copies-append (omega (arith, copies-expression e wanted 0 n.0, copies-statement body (exits l (l + 1)) (l + 2) n.1))
    copies-statement (do_while body e) x l n = simp copies-append (omega (arith, copies-expression e wanted 0 n.1, copies-statement body (exits l (l + 1)) (l + 2) n.0))
    copies-statement (for start test action body) x l n =
        let round = statement_code called first body (exits l (l + 1)) (l + 2) ⧺ label (l + 1) here part_code called first action in
        let behind = copies-append (statement_code called first body (exits l (l + 1)) (l + 2)) (label (l + 1) here part_code called first action) in
        simp copies-append (omega (arith, copies-part start n.0, copies-test test l round n.1, behind, copies-part action n.2, copies-statement body (exits l (l + 1)) (l + 2) n.3))
    copies-statement (switch e is) x l n = simp (copies-append, copies-cases) (omega (arith, copies-expression e wanted 0 n.0, copies-items is (exits l x.on_continue) (l + 1) n.1))
    copies-statement break x l n = refl
    copies-statement continue x l n = refl
    copies-statement (goto k) x l n = refl
    copies-statement (guarded_if arms) x l n = simp copies-append (omega (arith, copies-arms arms x l (l + 1) n))
    copies-statement (guarded_do arms) x l n = copies-rounds arms (arms_code called first arms x (l + 1) (l + 2)) l (copies-arms arms x (l + 1) (l + 2) n)
    copies-statement abort x l n = refl
    copies-statement (declare i e) x l n = simp (copies-append, copies-store (variable i) 0 (direct e) (atom first 0 (atom_of called e)) n.0) (omega (arith, copies-expression e (stored i) 0 n.1))
    copies-statement (give_back absent) x l n = refl
    copies-statement (give_back (present e)) x l n = simp copies-append (omega (arith, copies-expression e wanted 0 n))

    copies-arms : (arms : Arms) (x : Exits) (out l : ℕ) → ArmsInRange L S arms → copies S (arms_code called first arms x out l) ≡ arms_total (own_copies called) arms + arms_total (own_results called) arms
    copies-arms no_arm x out l n = refl
    copies-arms (arm e s arms) x out l n = simp copies-append (omega (arith, copies-expression e wanted 0 n.0, copies-statement s x l n.1, copies-arms arms x out (l + labels s) n.2))

    pub copies-items : (is : Items) (x : Exits) (l : ℕ) → ItemsInRange L S is → copies S (items_code called first is x l) ≡ total (own_copies called) is + total (own_results called) is
    copies-items none x l n = refl
    copies-items (s then is) x l n = simp copies-append (omega (arith, copies-statement s x l n.0, copies-items is x (l + labels s) n.1))
    copies-items (m here is) x l n = omega (arith, copies-items is x (l + 1) n)
    copies-items (define f words body is) x l n = copies-items is x l n.2

copies-program : (called : ℕ → ℕ → Bool) (L : Layout) (first : ℕ) (program : Items) (l : ℕ) → ItemsInRange L first program
    → copies first (program_code called first program l) ≡ program_total (own_copies called) program + program_total (own_results called) program
unfolding copies program_code program_total statement_total NamedStatement
copies-program called L first none l n = refl
copies-program called L first (s then is) l n = copies-items called L first first (omega arith) (s then is) (exits 0 0) l n
copies-program called L first (m here is) l n = copies-items called L first first (omega arith) (m here is) (exits 0 0) l n
copies-program called L first (define f words body is) l n =
    omega (arith, copies-items called L first (first + program_levels called is) (omega arith) body (exits 0 0) l n.1, copies-program called L first is (l + items_labels body) n.2)

-- "Copied only if": of the statements that copy a variable into a temporary, as many as the sentence allows; the others move a result.
pub copies-exactly : (L : Layout) (first : ℕ) (program : Items) → SourceTree L first program
    → copies first (translate first program) ≡ program_total (own_copies (functions_write program)) program + program_total (own_results (functions_write program)) program
unfolding translate
copies-exactly L first program tree = copies-program (functions_write program) L first program 1 tree.named
