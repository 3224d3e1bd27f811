-- Which labels stand among the own items of a tree's code: none for an expression, the statement's own for a statement. So a jump to
-- another label passes the code. By induction on the tree.
use Rattle.std.specs.Prelude.{◌≡◌, refl, Bool, true, false, ◌||◌, ℕ, ◌+◌, ◌≤◌, ◌<◌, ℤ, pos}
use Rattle.std.proofs.Common.{arith}
use borrow.Author.Tests.{ne_eqb}
use Rattle.words.specs.Laws.{by_cases, neither}
use Rattle.words.specs.declared.Operator.{Operator}
use Rattle.computation.specs.Run.{State, Result}
use Rattle.language.specs.Trees.{Expression, constant, read, minus, not, binary, and, or, comma, conditional, assign, compound, prefix, postfix, call, Place, variable, element, Arguments, no_more, ◌also◌, Part, absent, present, Mark, case, default, label, same_mark, has, Statement, empty, express, block, if_then, if_else, while, do_while, for, switch, break, continue, goto, guarded_if, guarded_do, abort, declare, give_back, Arms, no_arm, arm, Items, none, ◌then◌, ◌here◌, define, ◌⧺◌}
use Rattle.language.specs.Meaning.{Signal, seeking, returning, items}
use Rattle.language.specs.Functions.{function_count}
use Rattle.language.specs.Writes.{writes, index_writes}
use Rattle.translation.specs.Uses.{use_for, passed_on, direct}
use Rattle.translation.specs.declared.Use.{Use}
use Rattle.translation.specs.declared.Use.TheVariants.{Dropped as dropped, Wanted as wanted, Stored as stored}
use Rattle.translation.specs.Translate.{Atom, number, word, top, held, together, nothing, landed, taken, place_taken, arguments_taken, atom, copy_code, read_code, store_code, atom_of, kernel_place, update_code, step_code, postfix_code, expression_code, index_code, arguments_code, part_code, or_empty, case_tests, labels, items_labels, label_of, Exits, exits, rounds_labels, arms_labels, rounds_code, statement_code, arms_code, items_code}
use Rattle.translation.specs.Holding.{hold_code}
use Rattle.translation.proofs.HeldCode.{hold-either, store-either}
use Rattle.translation.specs.RunThen.{run_then}
use Rattle.translation.specs.Related.{Setting, Frame}
use Rattle.translation.proofs.Held.{kernel}

-- ---- lists

or-false : (a b : Bool) → a ≡ false → b ≡ false → (a || b) ≡ false
or-false a b e f = rw (e, f)

pub has-append : (m : Mark) (xs ys : Items) → has m (xs ⧺ ys) ≡ (has m xs || has m ys)
unfolding has ◌⧺◌
has-append m none ys = refl
has-append m (s then xs) ys = has-append m xs ys
has-append m (define f words body xs) ys = has-append m xs ys
has-append m (n here xs) ys = by_cases (same_mark m n) (λ e. rw e) (λ e. rw e (has-append m xs ys))

pub has-neither : (m : Mark) (xs ys : Items) → has m xs ≡ false → has m ys ≡ false → has m (xs ⧺ ys) ≡ false
has-neither m xs ys e f = rw (has-append, e) f

-- A jump passes a list that does not have its mark.
pub passes : {setting : Setting} (fr : Frame setting) {D : Type 0} (m : Mark) (xs : Items) (κ : State) (g : Signal → State → Result D) → has m xs ≡ false → kernel fr xs (seeking m) κ g ≡ g (seeking m) κ
unfolding run_then items has
passes fr m none κ g e = refl
passes fr m (s then xs) κ g e = passes fr m xs κ g e
passes fr m (define f words body xs) κ g e = passes fr m xs κ g e
passes fr m (n here xs) κ g e = let apart = neither (same_mark m n) (has m xs) e in rw (apart.0, run_then) (passes fr m xs κ g apart.1)

-- A return passes every list.
pub passes-return : {setting : Setting} (fr : Frame setting) {D : Type 0} (v : ℤ) (xs : Items) (κ : State) (g : Signal → State → Result D) → kernel fr xs (returning v) κ g ≡ g (returning v) κ
unfolding run_then items
passes-return fr v none κ g = refl
passes-return fr v (s then xs) κ g = passes-return fr v xs κ g
passes-return fr v (n here xs) κ g = passes-return fr v xs κ g
passes-return fr v (define f words body xs) κ g = passes-return fr v xs κ g

-- ---- the labels of a list

-- A list of statements and labels, each of its own labels among those of Q; it has no other mark and no definition.
pub data Labelled (Q : ℕ → Type 0) : Items → Type 0 where
  labelled_none : Labelled Q none
  labelled_then : {s : Statement} {xs : Items} → Labelled Q xs → Labelled Q (s then xs)
  labelled_here : {l : ℕ} {xs : Items} → Q l → Labelled Q xs → Labelled Q (label l here xs)

labelled-has : {Q : ℕ → Type 0} {xs : Items} (m : Mark) → ((l : ℕ) → Q l → same_mark m (label l) ≡ false) → Labelled Q xs → has m xs ≡ false
unfolding has
labelled-has m h labelled_none = refl
labelled-has m h (labelled_then p) = labelled-has m h p
labelled-has m h (labelled_here {l = l} q p) = or-false _ _ (h l q) (labelled-has m h p)

pub labelled-count : {Q : ℕ → Type 0} {xs : Items} → Labelled Q xs → function_count xs ≡ 0
unfolding function_count
labelled-count labelled_none = refl
labelled-count (labelled_then p) = labelled-count p
labelled-count (labelled_here q p) = labelled-count p

module _ {Q : ℕ → Type 0} where
  labelled-one : {s : Statement} → Labelled Q (s then none)
  labelled-one = labelled_then labelled_none

  labelled-append : (xs ys : Items) → Labelled Q xs → Labelled Q ys → Labelled Q (xs ⧺ ys)
  unfolding ◌⧺◌
  labelled-append none ys labelled_none q = q
  labelled-append (s then xs) ys (labelled_then p) q = labelled_then (labelled-append xs ys p q)
  labelled-append (label l here xs) ys (labelled_here r p) q = labelled_here r (labelled-append xs ys p q)
  labelled-append (case _ here xs) ys none_such q = elim none_such [ ]
  labelled-append (default here xs) ys none_such q = elim none_such [ ]
  labelled-append (define _ _ _ _) ys none_such q = elim none_such [ ]

labelled-more : {P Q : ℕ → Type 0} {xs : Items} → ((l : ℕ) → P l → Q l) → Labelled P xs → Labelled Q xs
labelled-more h labelled_none = labelled_none
labelled-more h (labelled_then p) = labelled_then (labelled-more h p)
labelled-more h (labelled_here {l = l} q p) = labelled_here (h l q) (labelled-more h p)

-- ---- expressions

module _ (Q : ℕ → Type 0) (called : ℕ → ℕ → Bool) (S : ℕ) where
  labelled-read : (p : Place) (u : Use) (t : ℕ) → Labelled Q (read_code called S p u t)
  labelled-read (variable i) u t = labelled_none
  labelled-read (element array e) u t = labelled-one

  labelled-store : (q : Place) (straight : Bool) (x : Expression) → Labelled Q (store_code S q straight x)
  labelled-store q straight x = store-either S (Labelled Q) q straight x labelled-one labelled_none

  labelled-copy : (t : ℕ) (h : Atom) → Labelled Q (copy_code S t h)
  labelled-copy t (number v) = labelled-one
  labelled-copy t (word i) = labelled-one
  labelled-copy t top = labelled_none

  labelled-hold : (t : ℕ) (h : Atom) (W : ℕ → Bool) → Labelled Q (hold_code S t h W)
  labelled-hold t h W = hold-either S (Labelled Q) t h W (labelled-copy t h) labelled_none

  labelled-update : (operator : Operator) (q : Place) (x : Expression) (t u : ℕ) → Labelled Q (update_code S operator q x t u)
  labelled-update operator (variable j) x t u = labelled-one
  labelled-update operator (element array e) x t u = labelled_then (labelled_then labelled-one)

  labelled_step : (operator : Operator) (i : ℕ) (u : Use) (t : ℕ) → Labelled Q (step_code S operator i u t)
  labelled_step operator i dropped t = labelled-one
  labelled_step operator i wanted t = labelled_then labelled-one
  labelled_step operator i (stored j) t = labelled_then labelled-one

  labelled-postfix : (operator : Operator) (q : Place) (u : Use) (t n : ℕ) → Labelled Q (postfix_code S operator q u t n)
  labelled-postfix operator (variable j) u t n = labelled_step operator j u t
  labelled-postfix operator (element array e) u t n = labelled_then (labelled_then labelled-one)

  mutual
    unfolding expression_code

    -- The code of an expression has no label.
    labelled-expression : (e : Expression) (u : Use) (t : ℕ) → Labelled Q (expression_code called S e u t)
    labelled-expression (constant v) u t = labelled_none
    labelled-expression (read p) u t = labelled-append _ _ (labelled-index p t) (labelled-read p u t)
    labelled-expression (minus e) u t = labelled-append _ _ (labelled-expression e wanted t) labelled-one
    labelled-expression (not e) u t = labelled-append _ _ (labelled-expression e wanted t) labelled-one
    labelled-expression (binary operator a b) u t =
        labelled-append _ _ (labelled-expression b wanted t) (labelled-append _ _ (labelled-hold t (atom_of called b) (writes called a)) (labelled-append _ _ (labelled-expression a wanted _) labelled-one))
    labelled-expression (and a b) u t = labelled-append _ _ (labelled-expression a wanted t) labelled-one
    labelled-expression (or a b) u t = labelled-append _ _ (labelled-expression a wanted t) labelled-one
    labelled-expression (comma a b) u t = labelled-append _ _ (labelled-expression a dropped t) (labelled-expression b (passed_on u) t)
    labelled-expression (conditional c a b) u t = labelled-append _ _ (labelled-expression c wanted t) labelled-one
    labelled-expression (assign p e) u t =
        let value = held (landed p (direct e) (atom_of called e)) (index_writes called p) in
        labelled-append _ _ (labelled-expression e (use_for p) t) (labelled-append _ _ (labelled-hold t (landed p (direct e) (atom_of called e)) (index_writes called p)) (labelled-append _ _ (labelled-index p _) (labelled-store (kernel_place called S p (t + taken value)) (direct e) (atom S t value))))
    labelled-expression (compound operator p e) u t =
        labelled-append _ _ (labelled-expression e wanted t) (labelled-append _ _ (labelled-hold t (atom_of called e) (index_writes called p)) (labelled-append _ _ (labelled-index p (t + 1)) (labelled-update operator (kernel_place called S p (t + 1)) (atom S t (held (atom_of called e) (index_writes called p))) t (t + 1 + place_taken called p))))
    labelled-expression (prefix operator p) u t = labelled-append _ _ (labelled-index p (t + 1)) (labelled-update operator (kernel_place called S p (t + 1)) (constant (pos 1)) t (t + 1 + place_taken called p))
    labelled-expression (postfix operator p) u t = labelled-append _ _ (labelled-index p (t + 1)) (labelled-postfix operator (kernel_place called S p (t + 1)) u t (t + 1 + place_taken called p))
    labelled-expression (call f arguments) u t = labelled-append _ _ (labelled-arguments arguments nothing t) labelled-one

    labelled-index : (p : Place) (t : ℕ) → Labelled Q (index_code called S p t)
    labelled-index (variable i) t = labelled_none
    labelled-index (element array e) t = labelled-expression e wanted t

    labelled-arguments : (arguments : Arguments) (W : ℕ → Bool) (t : ℕ) → Labelled Q (arguments_code called S arguments W t)
    labelled-arguments no_more W t = labelled_none
    labelled-arguments (e also arguments) W t =
        labelled-append _ _ (labelled-arguments arguments (together (writes called e) W) t) (labelled-append _ _ (labelled-expression e wanted _) (labelled-hold _ (atom_of called e) W))

  labelled-part : (p : Part) → Labelled Q (part_code called S p)
  labelled-part absent = labelled_none
  labelled-part (present e) = labelled-expression e dropped 0

  labelled-empty : (xs : Items) → Labelled Q xs → Labelled Q (or_empty S xs)
  labelled-empty none labelled_none = labelled-one
  labelled-empty (s then xs) (labelled_then p) = labelled_then p
  labelled-empty (label l here xs) (labelled_here q p) = labelled_here q p
  labelled-empty (case _ here xs) none_such = elim none_such [ ]
  labelled-empty (default here xs) none_such = elim none_such [ ]
  labelled-empty (define _ _ _ _) none_such = elim none_such [ ]

  labelled-tests : (x : Expression) (u : ℕ) (is : Items) (l : ℕ) → Labelled Q (case_tests S x u is l)
  unfolding case_tests
  labelled-tests x u none l = labelled_none
  labelled-tests x u (s then is) l = labelled-tests x u is (l + labels s)
  labelled-tests x u (case v here is) l = labelled_then (labelled_then (labelled-tests x u is (l + 1)))
  labelled-tests x u (default here is) l = labelled-tests x u is (l + 1)
  labelled-tests x u (label k here is) l = labelled-tests x u is (l + 1)
  labelled-tests x u (define f words body is) l = labelled-tests x u is l

-- No label at all.
abbrev NoLabel : ℕ → Type 0
NoLabel l = ⊥

no-mark : (m : Mark) (l : ℕ) → NoLabel l → same_mark m (label l) ≡ false
no-mark m l q = absurd q

module _ (called : ℕ → ℕ → Bool) (S : ℕ) where
  -- The code of an expression has no mark.
  pub plain-expression : (e : Expression) (u : Use) (t : ℕ) (m : Mark) → has m (expression_code called S e u t) ≡ false
  plain-expression e u t m = labelled-has m (no-mark m) (labelled-expression NoLabel called S e u t)

  pub plain-part : (p : Part) (m : Mark) → has m (part_code called S p) ≡ false
  plain-part p m = labelled-has m (no-mark m) (labelled-part NoLabel called S p)

  pub plain-tests : (x : Expression) (u : ℕ) (is : Items) (l : ℕ) (m : Mark) → has m (case_tests S x u is l) ≡ false
  plain-tests x u is l m = labelled-has m (no-mark m) (labelled-tests NoLabel called S x u is l)

-- ---- statements

-- The n labels from l on.
abbrev Among : ℕ → ℕ → ℕ → Type 0
Among l n i = (l ≤ i) × (i < l + n)

-- j is none of the n labels from l on.
abbrev pub Apart : ℕ → ℕ → ℕ → Type 0
Apart l n j = (i : ℕ) → l ≤ i → i < l + n → j ≡ i → ⊥

pub apart_below : (l n j : ℕ) → j < l → Apart l n j
apart_below l n j h i a b e = omega arith

pub apart_above : (l n j : ℕ) → l + n ≤ j → Apart l n j
apart_above l n j h i a b e = omega arith

module _ (called : ℕ → ℕ → Bool) (S : ℕ) where
  labelled-rounds : (arms : Arms) (xs : Items) (l n : ℕ) → Labelled (Among l (rounds_labels arms + n)) (rounds_code S arms xs l)
  labelled-rounds no_arm xs l n = labelled-one
  labelled-rounds (arm e s arms) xs l n = labelled_then (labelled_here {l = l} (omega arith, omega arith) labelled_none)

  -- The code of arms has no label.
  labelled-arms : (Q : ℕ → Type 0) (arms : Arms) (x : Exits) (out l : ℕ) → Labelled Q (arms_code called S arms x out l)
  unfolding statement_code
  labelled-arms Q no_arm x out l = labelled_none
  labelled-arms Q (arm e s arms) x out l = labelled-append _ _ (labelled-expression Q called S e wanted 0) (labelled_then (labelled-arms Q arms x out (l + labels s)))

  mutual
    unfolding statement_code labels

    labelled-statement : (s : Statement) (x : Exits) (l : ℕ) → Labelled (Among l (labels s)) (statement_code called S s x l)
    labelled-statement empty x l = labelled-one
    labelled-statement (express e) x l = labelled-empty _ called S _ (labelled-expression _ called S e dropped 0)
    labelled-statement (block is) x l = labelled-one
    labelled-statement (if_then e on_true) x l = labelled-append _ _ (labelled-expression _ called S e wanted 0) labelled-one
    labelled-statement (if_else e on_true on_false) x l = labelled-append _ _ (labelled-expression _ called S e wanted 0) labelled-one
    labelled-statement (while e body) x l = labelled_then (labelled_here {l = l} (omega arith, omega arith) labelled_none)
    labelled-statement (do_while body e) x l = labelled_then (labelled_here {l = l} (omega arith, omega arith) labelled_none)
    labelled-statement (for first test action body) x l = labelled-append _ _ (labelled-part _ called S first) (labelled_then (labelled_here {l = l} (omega arith, omega arith) labelled_none))
    labelled-statement (switch e is) x l =
        labelled-append _ _ (labelled-expression _ called S e wanted 0) (labelled-append _ _ (labelled-tests _ called S (atom S 0 (atom_of called e)) (taken (atom_of called e)) is (l + 1))
        (labelled_then (labelled-append _ _ (labelled-more (λ i h. (omega (arith, h.0), omega (arith, h.1))) (labelled-items is (exits l x.on_continue) (l + 1))) (labelled_here {l = l} (omega arith, omega arith) labelled_none))))
    labelled-statement break x l = labelled-one
    labelled-statement continue x l = labelled-one
    labelled-statement (goto k) x l = labelled-one
    labelled-statement (guarded_if arms) x l = labelled-append _ _ (labelled-arms _ arms x l (l + 1)) (labelled_then (labelled_here {l = l} (omega arith, omega arith) labelled_none))
    labelled-statement (guarded_do arms) x l = labelled-rounds arms (arms_code called S arms x (l + 1) (l + 2)) l (arms_labels arms)
    labelled-statement abort x l = labelled-one
    labelled-statement (declare i e) x l = labelled-append _ _ (labelled-expression _ called S e (stored i) 0) (labelled-store _ called S (variable i) (direct e) (atom S 0 (atom_of called e)))
    labelled-statement (give_back absent) x l = labelled-one
    labelled-statement (give_back (present e)) x l = labelled-append _ _ (labelled-expression _ called S e wanted 0) labelled-one

    pub labelled-items : (is : Items) (x : Exits) (l : ℕ) → Labelled (Among l (items_labels is)) (items_code called S is x l)
    labelled-items none x l = labelled_none
    labelled-items (s then is) x l =
        labelled-append _ _ (labelled-more (λ i h. (h.0, omega (arith, h.1))) (labelled-statement s x l)) (labelled-more (λ i h. (omega (arith, h.0), omega (arith, h.1))) (labelled-items is x (l + labels s)))
    labelled-items (m here is) x l = labelled_here {l = l} (omega arith, omega arith) (labelled-more (λ i h. (omega (arith, h.0), omega (arith, h.1))) (labelled-items is x (l + 1)))
    labelled-items (define f words body is) x l = labelled-items is x l

  -- The code of a statement has no label but its own.
  pub own-labels : (s : Statement) (x : Exits) (l j : ℕ) → Apart l (labels s) j → has (label j) (statement_code called S s x l) ≡ false
  unfolding same_mark
  own-labels s x l j h = labelled-has (label j) (λ i q. ne_eqb j i (h i q.0 q.1)) (labelled-statement s x l)

  -- The code of arms has no mark.
  pub plain-arms : (arms : Arms) (x : Exits) (out l : ℕ) (m : Mark) → has m (arms_code called S arms x out l) ≡ false
  plain-arms arms x out l m = labelled-has m (no-mark m) (labelled-arms NoLabel arms x out l)

-- ---- the label of a mark

pub label-least : (m : Mark) (is : Items) (l other : ℕ) → has m is ≡ true → l ≤ label_of m is l other
unfolding has label_of
label-least m none l other e = absurd (let z : ◌≡◌ {A = ℕ} 0 1 = cc in omega arith)
label-least m (s then is) l other e = omega (arith, label-least m is (l + labels s) other e)
label-least m (define f words body is) l other e = label-least m is l other e
label-least m (n here is) l other e = by_cases (same_mark m n) (λ q. rw q (omega arith)) (λ q. let r = label-least m is (l + 1) other (rw q at e) in rw q (omega arith))

pub label-absent : (m : Mark) (is : Items) (l other : ℕ) → has m is ≡ false → label_of m is l other ≡ other
unfolding has label_of
label-absent m none l other e = refl
label-absent m (s then is) l other e = label-absent m is (l + labels s) other e
label-absent m (define f words body is) l other e = label-absent m is l other e
label-absent m (n here is) l other e = let apart = neither (same_mark m n) (has m is) e in rw apart.0 (label-absent m is (l + 1) other apart.1)
