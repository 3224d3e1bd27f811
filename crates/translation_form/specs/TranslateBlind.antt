-- The code of every source tree is blind: by induction on the tree, with the rules of BlindCode. Between statements only what is known all along is
-- known.
use Rattle.std.specs.Prelude.{refl, Bool, ℕ, ◌+◌, ◌<◌, pos, length}
use Rattle.std.proofs.Common.{sym, subst}
use Rattle.std.proofs.Math.Bool.{true, false}
use Rattle.words.specs.Word.{pick}
use Rattle.words.specs.Layout.{Layout}
use Rattle.words.specs.declared.Operator.{Operator}
use Rattle.words.specs.declared.Operator.TheVariants.{NotEqual}
use Rattle.computation.specs.Agreement.{Words, ◌within◌}
use Rattle.language.specs.Trees.{Expression, constant, read, minus, not, binary, and, or, comma, conditional, assign, compound, prefix, postfix, call, Place, variable, element, Arguments, no_more, ◌also◌, Part, absent, present, case, default, label, Statement, empty, express, block, if_then, if_else, while, do_while, for, switch, break, continue, goto, guarded_if, guarded_do, abort, declare, give_back, Arms, no_arm, arm, Items, none, ◌then◌, ◌here◌, define, ◌⧺◌}
use Rattle.language.specs.Writes.{writes, index_writes}
use Rattle.language.specs.WellFormed.{NamedExpression, NamedPlace, NamedArguments, NamedPart, NamedStatement, NamedArms, NamedItems, SourceName}
use Rattle.translation.specs.Uses.{use_for, passed_on, direct}
use Rattle.translation.specs.declared.Use.{Use}
use Rattle.translation.specs.declared.Use.TheVariants.{Dropped as dropped, Wanted as wanted, Stored as stored}
use Rattle.translation.specs.Translate.{Atom, number, word, top, held, together, nothing, landed, updated, taken, arguments_taken, atom_of, atom, copy_code, move_code, store_code, target, kernel_place, assigning, choosing, temporary, update_code, step_code, postfix_code, argument_atoms, expression_code, index_code, arguments_code, part_code, or_empty, test_code, loop_code, case_tests, rounds_code, labels, Exits, exits, statement_code, arms_code, items_code}
use Rattle.translation.specs.Holding.{hold_code}
use Rattle.translation_form.specs.BlindCode.{And, old, new, and-more, Ground, Seen, ArrayKnown, Reads, ReadsAll, reads_none, reads-also, reads-call, reads-constant, reads_word, reads-element, reads-minus, reads-binary, reads_more, BlindItems, items-less, items-none, items-here, items-empty, items-assign, items-element, items-block, items-if, items-goto, items-abort, items-return, items-while, items-append}

-- Source trees name words below `first`, which are known all along; the temporaries of their code begin at S, wherever that is.
module _ (G : Ground) (L : Layout) (first : ℕ) (seen : (i : ℕ) → i < first → G.known i) (arrays-known : (array : ℕ) → array < length L.lengths → ArrayKnown G array) (called : ℕ → ℕ → Bool) (S : ℕ) where
  abbrev InRange : Expression → Type 0
  InRange e = NamedExpression (SourceName L first) (length L.lengths) e

  abbrev PlaceInRange : Place → Type 0
  PlaceInRange p = NamedPlace (SourceName L first) (length L.lengths) p

  -- ---- what is known after code

  -- An atom at level t, and P.
  abbrev holding : Words → ℕ → Atom → Words
  holding P t (number v) = P
  holding P t (word i) = And P i
  holding P t top = And P (S + t)

  holding-old : (P : Words) (t : ℕ) (h : Atom) → P within holding P t h
  holding-old P t (number v) i p = p
  holding-old P t (word j) i p = old p
  holding-old P t top i p = old p

  atom-reads : (P : Words) {Q : Words} (t : ℕ) (h : Atom) → holding P t h within Q → Reads G Q (atom S t h)
  atom-reads P t (number v) k = reads-constant
  atom-reads P t (word i) k = reads_word (k i (new refl))
  atom-reads P t top k = reads_word (k (S + t) (new refl))

  -- After the code of an expression for a use of its value: nothing new where the value is dropped, else what holds it. `straight`: the value
  -- goes straight into the variable that stores it.
  abbrev known : Words → ℕ → Use → Atom → Bool → Words
  known P t dropped h straight = P
  known P t wanted h straight = holding P t h
  known P t (stored i) h straight = holding P t (landed (variable i) straight h)

  -- Code whose value is in its own atom, whatever its use.
  for-use : {P : Words} (Q : Words) (t : ℕ) (u : Use) (h : Atom) {is : Items} → BlindItems G P (holding Q t h) is → BlindItems G P (known Q t u h false) is
  for-use Q t dropped h b = items-less G (λ i k. k) (holding-old Q t h) b
  for-use Q t wanted h b = b
  for-use Q t (stored i) h b = b

  -- What a comma's right side leaves is what the comma leaves.
  for-comma : {P : Words} (Q : Words) (t : ℕ) (u : Use) (h : Atom) (straight : Bool) {is : Items} → BlindItems G P (known Q t (passed_on u) h straight) is → BlindItems G P (known Q t u h false) is
  for-comma Q t dropped h straight b = b
  for-comma Q t wanted h straight b = b
  for-comma Q t (stored i) h straight b = b

  -- What the right side of an assignment leaves.
  for-place : {P : Words} (Q : Words) (t : ℕ) (p : Place) (h : Atom) (straight : Bool) {is : Items} → BlindItems G P (known Q t (use_for p) h straight) is → BlindItems G P (holding Q t (landed p straight h)) is
  for-place Q t (variable i) h straight b = b
  for-place Q t (element array e) h straight b = b

  -- After the code of a place's index at level t.
  unfoldable holding_place : Words → ℕ → Place → Words
  holding_place P t (variable i) = P
  holding_place P t (element array e) = holding P t (atom_of called e)

  place-old : (P : Words) (t : ℕ) (p : Place) → P within holding_place P t p
  unfolding holding_place
  place-old P t (variable i) j k = k
  place-old P t (element array e) j k = holding-old P t (atom_of called e) j k

  -- ---- assignments

  -- An element's value or an operation's result into its target; then that is known.
  to-target : {P : Words} (u : Use) (t : ℕ) {x : Expression} (Q : Words) → Q within P → Seen G within P → Reads G P x → BlindItems G P (known Q t u top true) (assigning S (target S u t) x none)
  to-target dropped t Q h sees r = items-assign G (S + t) sees r (items-less G (λ i k. old k) h (items-none G))
  to-target wanted t Q h sees r = items-assign G (S + t) sees r (items-less G (λ i k. k) (and-more (S + t) h) (items-none G))
  to-target (stored j) t Q h sees r = items-assign G j sees r (items-less G (λ i k. k) (and-more j h) (items-none G))

  to-temporary : {P : Words} (t : ℕ) {x : Expression} (Q : Words) → Q within P → Seen G within P → Reads G P x → BlindItems G P (And Q (S + t)) (assigning S (temporary S t) x none)
  to-temporary t Q h sees r = to-target wanted t Q h sees r

  -- A branch's value into its temporary.
  copy-blind : (P : Words) (t : ℕ) (h : Atom) → Seen G within P → BlindItems G (holding P t h) (And P (S + t)) (copy_code S t h)
  copy-blind P t (number v) sees = to-temporary t P (λ i k. k) sees reads-constant
  copy-blind P t (word i) sees = to-temporary t P (λ j p. old p) (λ j q. old (sees j q)) (reads_word (new refl))
  copy-blind P t top sees = items-none G

  -- A value that is held: copied, or not.
  hold-blind : (P : Words) (t : ℕ) (h : Atom) (W : ℕ → Bool) → Seen G within P → BlindItems G (holding P t h) (holding P t (held h W)) (hold_code S t h W)
  hold-blind P t (number v) W sees = items-none G
  hold-blind P t (word i) W sees = by (W i)
    where
      by : (b : Bool) → BlindItems G (And P i) (holding P t (pick b top (word i))) (move_code S t (word i) (pick b top (word i)))
      by true = copy-blind P t (word i) sees
      by false = items-none G
  hold-blind P t top W sees = items-none G

  -- The truth of a value into its temporary.
  truth-blind : (b : Expression) (t : ℕ) (P Q : Words) → Seen G within P → P within Q → BlindItems G Q (holding Q t (atom_of called b)) (expression_code called S b wanted t)
      → BlindItems G Q (And P (S + t)) (expression_code called S b wanted t ⧺ assigning S (temporary S t) (binary NotEqual (atom S t (atom_of called b)) (constant (pos 0))) none)
  truth-blind b t P Q sees more k =
      let above : Q within holding Q t (atom_of called b) = holding-old Q t (atom_of called b) in
      items-append G (expression_code called S b wanted t) _ k (to-temporary t P (λ i p. above i (more i p)) (λ i s. above i (more i (sees i s))) (reads-binary (atom-reads Q t (atom_of called b) (λ i p. p)) reads-constant))

  -- A value into a place, its index held; what was known stays known.
  store-blind : (Q : Words) (t : ℕ) (p : Place) (straight : Bool) {x : Expression} → PlaceInRange p → Seen G within Q → Reads G (holding_place Q t p) x → BlindItems G (holding_place Q t p) Q (store_code S (kernel_place called S p t) straight x)
  unfolding kernel_place holding_place NamedExpression
  store-blind Q t (variable i) true h sees r = items-none G
  store-blind Q t (variable i) false h sees r = items-assign G i sees r (items-less G (λ j q. old q) (λ j q. q) (items-none G))
  store-blind Q t (element array e) straight h sees r =
      let more : Q within holding Q t (atom_of called e) = holding-old Q t (atom_of called e) in
      items-element G array (λ j s. more j (sees j s)) (atom-reads Q t (atom_of called e) (λ j q. q)) r (items-less G (λ j q. q) more (items-none G))

  -- The code behind the index of an updated place, which is held at level n: what was known stays known, and the result is.
  update-blind : (operator : Operator) (P : Words) {Q : Words} (p : Place) {x : Expression} (t n v : ℕ) → PlaceInRange p → Seen G within Q → holding_place P n p within Q → Reads G Q x
      → BlindItems G Q (holding Q t (updated p)) (update_code S operator (kernel_place called S p n) x t v)
  unfolding kernel_place holding_place NamedExpression
  update-blind operator P (variable i) t n v h sees k r = items-assign G i sees (reads-binary (reads_word (sees i (seen i h.inside))) r) (items-none G)
  update-blind operator P (element array e) t n v h sees k r =
      items-assign G (S + v) sees (reads-element (arrays-known array h.0) (atom-reads P n (atom_of called e) k))
      (items-assign G (S + t) (λ j s. old (sees j s)) (reads-binary (reads_word (new refl)) (reads_more G (λ j q. old q) r))
      (items-element G array (λ j s. old (old (sees j s))) (atom-reads P n (atom_of called e) (λ j q. old (old (k j q)))) (reads_word (new refl))
      (items-less G (λ j q. q) (and-more (S + t) (λ j q. old q)) (items-none G))))

  -- A variable's old value, where it is used, and its new one.
  step-blind : (operator : Operator) {Q : Words} (i : ℕ) (u : Use) (t : ℕ) → Seen G within Q → Q i → BlindItems G Q (known Q t u top false) (step_code S operator i u t)
  step-blind operator i dropped t sees k = items-assign G i sees (reads-binary (reads_word k) reads-constant) (items-less G (λ j q. old q) (λ j q. q) (items-none G))
  step-blind operator i wanted t sees k =
      items-assign G (S + t) sees (reads_word k)
      (items-assign G i (λ j s. old (sees j s)) (reads-binary (reads_word (new refl)) reads-constant) (items-less G (λ j q. old q) (λ j q. q) (items-none G)))
  step-blind operator i (stored m) t sees k =
      items-assign G (S + t) sees (reads_word k)
      (items-assign G i (λ j s. old (sees j s)) (reads-binary (reads_word (new refl)) reads-constant) (items-less G (λ j q. old q) (λ j q. q) (items-none G)))

  postfix-blind : (operator : Operator) (P : Words) {Q : Words} (p : Place) (u : Use) (t n v : ℕ) → PlaceInRange p → Seen G within Q → holding_place P n p within Q
      → BlindItems G Q (known Q t u top false) (postfix_code S operator (kernel_place called S p n) u t v)
  unfolding kernel_place holding_place NamedExpression
  postfix-blind operator P (variable i) u t n v h sees k = step-blind operator i u t sees (sees i (seen i h.inside))
  postfix-blind operator P {Q} (element array e) u t n v h sees k = for-use Q t u top (
      items-assign G (S + t) sees (reads-element (arrays-known array h.0) (atom-reads P n (atom_of called e) k))
      (items-assign G (S + v) (λ j s. old (sees j s)) (reads-binary (reads_word (new refl)) reads-constant)
      (items-element G array (λ j s. old (old (sees j s))) (atom-reads P n (atom_of called e) (λ j q. old (old (k j q)))) (reads_word (new refl))
      (items-less G (λ j q. old q) (λ j q. q) (items-none G)))))

  -- ---- expressions

  seen-known : {P : Words} (i : ℕ) → P i → And P i within P
  seen-known i p j (old q) = q
  seen-known {P} i p j (new e) = subst P (sym e) p

  holding-less : {P Q : Words} (t : ℕ) (h : Atom) → P within Q → holding P t h within holding Q t h
  holding-less t (number v) k = k
  holding-less t (word i) k = and-more i k
  holding-less t top k = and-more (S + t) k

  known-less : {P Q : Words} (t : ℕ) (u : Use) (h : Atom) (straight : Bool) → P within Q → known P t u h straight within known Q t u h straight
  known-less t dropped h straight k = k
  known-less t wanted h straight k = holding-less t h k
  known-less t (stored i) h straight k = holding-less t (landed (variable i) straight h) k

  -- After the code of arguments at level t.
  unfoldable holding_all : Words → Arguments → (ℕ → Bool) → ℕ → Words
  holding_all P no_more W t = P
  holding_all P (e also arguments) W t =
      holding (holding_all P arguments (together (writes called e) W) t) (t + arguments_taken called arguments (together (writes called e) W)) (held (atom_of called e) W)

  all_old : (P : Words) (arguments : Arguments) (W : ℕ → Bool) (t : ℕ) → P within holding_all P arguments W t
  unfolding holding_all
  all_old P no_more W t i p = p
  all_old P (e also arguments) W t i p = let after = together (writes called e) W in holding-old (holding_all P arguments after t) (t + arguments_taken called arguments after) (held (atom_of called e) W) i (all_old P arguments after t i p)

  atoms-read : (P : Words) {Q : Words} (arguments : Arguments) (W : ℕ → Bool) (t : ℕ) → holding_all P arguments W t within Q → ReadsAll G Q (argument_atoms called S arguments W t)
  unfolding holding_all argument_atoms
  atoms-read P no_more W t k = reads_none
  atoms-read P (e also arguments) W t k =
      let after = together (writes called e) W in
      let level = t + arguments_taken called arguments after in
      reads-also (atom-reads (holding_all P arguments after t) level (held (atom_of called e) W) k) (atoms-read P arguments after t (λ i p. k i (holding-old (holding_all P arguments after t) level (held (atom_of called e) W) i p)))

  mutual
    unfolding expression_code atom_of direct NamedExpression holding_place holding_all

    expression-blind : (e : Expression) (u : Use) (t : ℕ) (P : Words) → InRange e → Seen G within P → BlindItems G P (known P t u (atom_of called e) (direct e)) (expression_code called S e u t)
    expression-blind (constant v) u t P h sees = for-use P t u (number v) (items-none G)
    expression-blind (read p) u t P h sees = read-blind p u t P h sees
    expression-blind (minus e) u t P h sees =
        let more : P within holding P t (atom_of called e) = holding-old P t (atom_of called e) in
        items-append G (expression_code called S e wanted t) _ (expression-blind e wanted t P h sees) (to-target u t P more (λ i s. more i (sees i s)) (reads-minus (atom-reads P t (atom_of called e) (λ i k. k))))
    expression-blind (not e) u t P h sees =
        let more : P within holding P t (atom_of called e) = holding-old P t (atom_of called e) in
        items-append G (expression_code called S e wanted t) _ (expression-blind e wanted t P h sees) (to-target u t P more (λ i s. more i (sees i s)) (reads-binary (atom-reads P t (atom_of called e) (λ i k. k)) reads-constant))
    expression-blind (binary operator a b) u t P h sees =
        let right = held (atom_of called b) (writes called a) in
        let Q = holding P t right in
        let v = t + taken right in
        let more : P within Q = holding-old P t right in
        let above : Q within holding Q v (atom_of called a) = holding-old Q v (atom_of called a) in
        items-append G (expression_code called S b wanted t) _ (expression-blind b wanted t P h.1 sees) (items-append G (hold_code S t (atom_of called b) (writes called a)) _ (hold-blind P t (atom_of called b) (writes called a) sees)
        (items-append G (expression_code called S a wanted v) _ (expression-blind a wanted v Q h.0 (λ i s. more i (sees i s)))
        (to-target u t P (λ i k. above i (more i k)) (λ i s. above i (more i (sees i s))) (reads-binary (atom-reads Q v (atom_of called a) (λ i k. k)) (atom-reads P t right above)))))
    expression-blind (and a b) u t P h sees =
        let Q = holding P t (atom_of called a) in
        let more : P within Q = holding-old P t (atom_of called a) in
        let truth : BlindItems G Q (And P (S + t)) (expression_code called S b wanted t ⧺ assigning S (temporary S t) (binary NotEqual (atom S t (atom_of called b)) (constant (pos 0))) none) = truth-blind b t P Q sees more (expression-blind b wanted t Q h.1 (λ i s. more i (sees i s))) in
        for-use P t u top (items-append G (expression_code called S a wanted t) _ (expression-blind a wanted t P h.0 sees)
        (items-if G (λ i s. more i (sees i s)) (atom-reads P t (atom_of called a) (λ i k. k)) truth (to-temporary t P more (λ i s. more i (sees i s)) reads-constant) (items-none G)))
    expression-blind (or a b) u t P h sees =
        let Q = holding P t (atom_of called a) in
        let more : P within Q = holding-old P t (atom_of called a) in
        let truth : BlindItems G Q (And P (S + t)) (expression_code called S b wanted t ⧺ assigning S (temporary S t) (binary NotEqual (atom S t (atom_of called b)) (constant (pos 0))) none) = truth-blind b t P Q sees more (expression-blind b wanted t Q h.1 (λ i s. more i (sees i s))) in
        for-use P t u top (items-append G (expression_code called S a wanted t) _ (expression-blind a wanted t P h.0 sees)
        (items-if G (λ i s. more i (sees i s)) (atom-reads P t (atom_of called a) (λ i k. k)) (to-temporary t P more (λ i s. more i (sees i s)) reads-constant) truth (items-none G)))
    expression-blind (comma a b) u t P h sees = for-comma P t u (atom_of called b) (direct b) (items-append G (expression_code called S a dropped t) _ (expression-blind a dropped t P h.0 sees) (expression-blind b (passed_on u) t P h.1 sees))
    expression-blind (conditional c a b) u t P h sees =
        let more : P within holding P t (atom_of called c) = holding-old P t (atom_of called c) in
        for-use P t u top (items-append G (expression_code called S c wanted t) _ (expression-blind c wanted t P h.0 sees)
        (items-if G (λ i s. more i (sees i s)) (atom-reads P t (atom_of called c) (λ i k. k))
        (items-less G more (λ i k. k) (items-append G (expression_code called S a wanted t) _ (expression-blind a wanted t P h.1 sees) (copy-blind P t (atom_of called a) sees)))
        (items-less G more (λ i k. k) (items-append G (expression_code called S b wanted t) _ (expression-blind b wanted t P h.2 sees) (copy-blind P t (atom_of called b) sees))) (items-none G)))
    expression-blind (assign p e) u t P h sees =
        let stays = landed p (direct e) (atom_of called e) in
        let value = held stays (index_writes called p) in
        let Q = holding P t value in
        let v = t + taken value in
        let more : P within Q = holding-old P t value in
        for-use P t u value (items-append G (expression_code called S e (use_for p) t) _ (for-place P t p (atom_of called e) (direct e) (expression-blind e (use_for p) t P h.1 sees)) (items-append G (hold_code S t stays (index_writes called p)) _ (hold-blind P t stays (index_writes called p) sees)
        (items-append G (index_code called S p v) _ (index-blind p v Q h.0 (λ i s. more i (sees i s)))
        (store-blind Q v p (direct e) h.0 (λ i s. more i (sees i s)) (atom-reads P t value (place-old Q v p))))))
    expression-blind (compound operator p e) u t P h sees =
        let value = held (atom_of called e) (index_writes called p) in
        let Q = holding P t value in
        let more : P within Q = holding-old P t value in
        let above : Q within holding_place Q (t + 1) p = place-old Q (t + 1) p in
        for-use P t u (updated p) (items-append G (expression_code called S e wanted t) _ (expression-blind e wanted t P h.1 sees) (items-append G (hold_code S t (atom_of called e) (index_writes called p)) _ (hold-blind P t (atom_of called e) (index_writes called p) sees)
        (items-append G (index_code called S p (t + 1)) _ (index-blind p (t + 1) Q h.0 (λ i s. more i (sees i s)))
        (items-less G (λ i k. k) (holding-less t (updated p) (λ i k. above i (more i k))) (update-blind operator Q p t (t + 1) _ h.0 (λ i s. above i (more i (sees i s))) (λ i k. k) (atom-reads P t value above))))))
    expression-blind (prefix operator p) u t P h sees =
        let above : P within holding_place P (t + 1) p = place-old P (t + 1) p in
        for-use P t u (updated p) (items-append G (index_code called S p (t + 1)) _ (index-blind p (t + 1) P h sees)
        (items-less G (λ i k. k) (holding-less t (updated p) above) (update-blind operator P p t (t + 1) _ h (λ i s. above i (sees i s)) (λ i k. k) reads-constant)))
    expression-blind (postfix operator p) u t P h sees =
        let above : P within holding_place P (t + 1) p = place-old P (t + 1) p in
        items-append G (index_code called S p (t + 1)) _ (index-blind p (t + 1) P h sees)
        (items-less G (λ i k. k) (known-less t u top false above) (postfix-blind operator P p u t (t + 1) _ h (λ i s. above i (sees i s)) (λ i k. k)))
    expression-blind (call f arguments) u t P h sees =
        let more : P within holding_all P arguments nothing t = all_old P arguments nothing t in
        items-append G (arguments_code called S arguments nothing t) _ (arguments-blind arguments nothing t P h sees) (to-target u t P more (λ i s. more i (sees i s)) (reads-call (atoms-read P arguments nothing t (λ i k. k))))

    read-blind : (p : Place) (u : Use) (t : ℕ) (P : Words) → PlaceInRange p → Seen G within P → BlindItems G P (known P t u (atom_of called (read p)) (direct (read p))) (expression_code called S (read p) u t)
    read-blind (variable i) u t P h sees = items-append G none none (items-none G) (for-use P t u (word i) (items-less G (λ j q. q) (seen-known i (sees i (seen i h.inside))) (items-none G)))
    read-blind (element array e) u t P h sees =
        let more : P within holding P t (atom_of called e) = holding-old P t (atom_of called e) in
        items-append G (expression_code called S e wanted t) _ (expression-blind e wanted t P h.1 sees)
        (to-target u t P more (λ i s. more i (sees i s)) (reads-element (arrays-known array h.0) (atom-reads P t (atom_of called e) (λ i k. k))))

    index-blind : (p : Place) (t : ℕ) (P : Words) → PlaceInRange p → Seen G within P → BlindItems G P (holding_place P t p) (index_code called S p t)
    index-blind (variable i) t P h sees = items-none G
    index-blind (element array e) t P h sees = expression-blind e wanted t P h.1 sees

    arguments-blind : (arguments : Arguments) (W : ℕ → Bool) (t : ℕ) (P : Words) → NamedArguments (SourceName L first) (length L.lengths) arguments → Seen G within P
        → BlindItems G P (holding_all P arguments W t) (arguments_code called S arguments W t)
    arguments-blind no_more W t P h sees = items-none G
    arguments-blind (e also arguments) W t P h sees =
        let after = together (writes called e) W in
        let level = t + arguments_taken called arguments after in
        let Q = holding_all P arguments after t in
        let more : P within Q = all_old P arguments after t in
        items-append G (arguments_code called S arguments after t) _ (arguments-blind arguments after t P h.1 sees)
        (items-append G (expression_code called S e wanted level) _ (expression-blind e wanted level Q h.0 (λ i s. more i (sees i s))) (hold-blind Q level (atom_of called e) W (λ i s. more i (sees i s))))

  -- ---- statements: before and after each, the seen words are known

  abbrev same : Seen G within Seen G
  same i s = s

  abbrev PartInRange : Part → Type 0
  PartInRange p = NamedPart (SourceName L first) (length L.lengths) p

  -- The code of a statement, or of a part of one.
  abbrev Passes : Items → Type 0
  Passes is = BlindItems G (Seen G) (Seen G) is

  part-blind : (p : Part) → PartInRange p → Passes (part_code called S p)
  part-blind absent h = items-none G
  part-blind (present e) h = expression-blind e dropped 0 (Seen G) h same

  or-empty : (xs : Items) → Passes xs → Passes (or_empty S xs)
  or-empty none b = items-empty G same b
  or-empty (s then xs) b = b
  or-empty (m here xs) b = b
  or-empty (define f words body xs) b = b

  label-blind : (l : ℕ) {rest : Items} → Passes rest → Passes (label l here rest)
  label-blind l b = items-here G same b

  jump-blind : (l : ℕ) {rest : Items} → Passes rest → Passes (goto l then rest)
  jump-blind l b = items-goto G (Seen G) same b

  -- A choice by an expression's value.
  choice-blind : (e : Expression) {on_true on_false rest : Items} → InRange e → Passes on_true → Passes on_false → Passes rest → Passes (expression_code called S e wanted 0 ⧺ choosing S (atom S 0 (atom_of called e)) on_true on_false rest)
  choice-blind e h a b c =
      let more : Seen G within holding (Seen G) 0 (atom_of called e) = holding-old (Seen G) 0 (atom_of called e) in
      items-append G (expression_code called S e wanted 0) _ (expression-blind e wanted 0 (Seen G) h same)
      (items-if G more (atom-reads (Seen G) 0 (atom_of called e) (λ i k. k)) (items-less G more same a) (items-less G more same b) c)

  test-blind : (p : Part) (l : ℕ) {rest : Items} → PartInRange p → Passes rest → Passes (test_code called S p l rest)
  test-blind absent l h b = b
  test-blind (present e) l h b = choice-blind e h (items-none G) (jump-blind l (items-none G)) b

  loop-blind : {body : Items} (l : ℕ) → Passes body → Passes (loop_code S body l)
  loop-blind l b = items-while G same reads-constant b (label-blind l (items-none G))

  -- The tests of a switch, where the selector's value is among the words Q.
  cases-blind : (Q : Words) {x : Expression} (u : ℕ) (is : Items) (l : ℕ) → Seen G within Q → Reads G Q x → BlindItems G Q Q (case_tests S x u is l)
  unfolding case_tests
  cases-blind Q u none l sees r = items-none G
  cases-blind Q u (s then is) l sees r = cases-blind Q u is (l + labels s) sees r
  cases-blind Q u (case v here is) l sees r =
      items-assign G (S + u) sees (reads-binary r reads-constant)
      (items-if G (λ i s. old (sees i s)) (reads_word (new refl)) (items-goto G (And Q (S + u)) (λ i s. old (sees i s)) (items-none G)) (items-none G)
      (items-less G (λ i q. old q) (λ i q. q) (cases-blind Q u is (l + 1) sees r)))
  cases-blind Q u (default here is) l sees r = cases-blind Q u is (l + 1) sees r
  cases-blind Q u (label k here is) l sees r = cases-blind Q u is (l + 1) sees r
  cases-blind Q u (define f words body is) l sees r = cases-blind Q u is l sees r

  rounds-blind : (arms : Arms) (l : ℕ) (xs : Items) → Passes xs → Passes (rounds_code S arms xs l)
  rounds-blind no_arm l xs b = items-empty G same (items-none G)
  rounds-blind (arm e s arms) l xs b = loop-blind l (items-append G xs _ b (jump-blind l (label-blind (l + 1) (items-none G))))

  -- A declaration's word, assigned from what holds its value, or there already.
  declared-blind : (i : ℕ) (straight : Bool) (h : Atom) → BlindItems G (holding (Seen G) 0 (landed (variable i) straight h)) (Seen G) (store_code S (variable i) straight (atom S 0 h))
  declared-blind i true h = items-less G (λ j k. k) (λ j k. old k) (items-none G)
  declared-blind i false h =
      let more : Seen G within holding (Seen G) 0 h = holding-old (Seen G) 0 h in
      items-assign G i more (atom-reads (Seen G) 0 h (λ j k. k)) (items-less G (λ j k. k) (λ j k. old (more j k)) (items-none G))

  mutual
    unfolding statement_code NamedStatement

    statement-blind : (s : Statement) (x : Exits) (l : ℕ) → NamedStatement (SourceName L first) (length L.lengths) s → Passes (statement_code called S s x l)
    statement-blind empty x l h = items-empty G same (items-none G)
    statement-blind (express e) x l h = or-empty (expression_code called S e dropped 0) (expression-blind e dropped 0 (Seen G) h same)
    statement-blind (block is) x l h = items-block G same (items-blind is x l h) (items-none G)
    statement-blind (if_then e on_true) x l h = choice-blind e h.0 (statement-blind on_true x l h.1) (items-none G) (items-none G)
    statement-blind (if_else e on_true on_false) x l h = choice-blind e h.0 (statement-blind on_true x l h.1) (statement-blind on_false x (l + labels on_true) h.2) (items-none G)
    statement-blind (while e body) x l h = loop-blind l (test-blind (present e) l h.0 (items-append G (statement_code called S body (exits l (l + 1)) (l + 2)) _ (statement-blind body (exits l (l + 1)) (l + 2) h.1) (label-blind (l + 1) (items-none G))))
    statement-blind (do_while body e) x l h = loop-blind l (items-append G (statement_code called S body (exits l (l + 1)) (l + 2)) _ (statement-blind body (exits l (l + 1)) (l + 2) h.0) (label-blind (l + 1) (test-blind (present e) l h.1 (items-none G))))
    statement-blind (for first test action body) x l h = items-append G (part_code called S first) _ (part-blind first h.0)
        (loop-blind l (test-blind test l h.1 (items-append G (statement_code called S body (exits l (l + 1)) (l + 2)) _ (statement-blind body (exits l (l + 1)) (l + 2) h.3) (label-blind (l + 1) (part-blind action h.2)))))
    statement-blind (switch e is) x l h =
        let Q = holding (Seen G) 0 (atom_of called e) in
        let more : Seen G within Q = holding-old (Seen G) 0 (atom_of called e) in
        items-append G (expression_code called S e wanted 0) _ (expression-blind e wanted 0 (Seen G) h.0 same)
        (items-append G (case_tests S (atom S 0 (atom_of called e)) (taken (atom_of called e)) is (l + 1)) _ (cases-blind Q (taken (atom_of called e)) is (l + 1) more (atom-reads (Seen G) 0 (atom_of called e) (λ i k. k)))
        (items-goto G (Seen G) more (items-append G (items_code called S is (exits l x.on_continue) (l + 1)) _ (items-blind is (exits l x.on_continue) (l + 1) h.1) (label-blind l (items-none G)))))
    statement-blind break x l h = jump-blind x.on_break (items-none G)
    statement-blind continue x l h = jump-blind x.on_continue (items-none G)
    statement-blind (goto k) x l h = items-empty G same (items-none G)
    statement-blind (guarded_if arms) x l h = items-append G (arms_code called S arms x l (l + 1)) _ (arms-blind arms x l (l + 1) h) (items-abort G (Seen G) same (label-blind l (items-none G)))
    statement-blind (guarded_do arms) x l h = rounds-blind arms l (arms_code called S arms x (l + 1) (l + 2)) (arms-blind arms x (l + 1) (l + 2) h)
    statement-blind abort x l h = items-empty G same (items-none G)
    statement-blind (declare i e) x l h = items-append G (expression_code called S e (stored i) 0) _ (expression-blind e (stored i) 0 (Seen G) h.1 same) (declared-blind i (direct e) (atom_of called e))
    statement-blind (give_back absent) x l h = items-return G (Seen G) same reads-constant (items-none G)
    statement-blind (give_back (present e)) x l h =
        let more : Seen G within holding (Seen G) 0 (atom_of called e) = holding-old (Seen G) 0 (atom_of called e) in
        items-append G (expression_code called S e wanted 0) _ (expression-blind e wanted 0 (Seen G) h same) (items-return G (Seen G) more (atom-reads (Seen G) 0 (atom_of called e) (λ i k. k)) (items-none G))

    arms-blind : (arms : Arms) (x : Exits) (out l : ℕ) → NamedArms (SourceName L first) (length L.lengths) arms → Passes (arms_code called S arms x out l)
    arms-blind no_arm x out l h = items-none G
    arms-blind (arm e s arms) x out l h =
        choice-blind e h.0 (items-append G (statement_code called S s x l) _ (statement-blind s x l h.1) (jump-blind out (items-none G))) (items-none G) (arms-blind arms x out (l + labels s) h.2)

    pub items-blind : (is : Items) (x : Exits) (l : ℕ) → NamedItems (SourceName L first) (length L.lengths) is → Passes (items_code called S is x l)
    items-blind none x l h = items-none G
    items-blind (s then is) x l h = items-append G (statement_code called S s x l) _ (statement-blind s x l h.0) (items-blind is x (l + labels s) h.1)
    items-blind (m here is) x l h = label-blind l (items-blind is x (l + 1) h)
    items-blind (define f words body is) x l h = items-blind is x l h.2
