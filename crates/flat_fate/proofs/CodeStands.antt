-- The code of a kernel tree stands in a list that has it, if each label's address is the line it stands before. By induction on the
-- kernel form.
use Rattle.std.specs.Prelude.{◌≡◌, refl, Bool, true, false, List, [], ◌∷◌, ◌++◌, ℕ, zero, suc, ◌+◌, length}
use Rattle.std.proofs.Common.{sym, subst, arith, add-zero, length-append}
use Rattle.std.proofs.lemmas.Bool.{false≢true}
use Rattle.words.specs.Layout.{Layout}
use Rattle.language.specs.Trees.{Expression, label, case, default, Statement, empty, express, block, if_then, if_else, while, do_while, for, switch, break, continue, goto, guarded_if, guarded_do, abort, declare, Items, none, ◌then◌, ◌here◌, give_back, define}
use Rattle.language.specs.Calls.{CallsBelow, StatementCallsBelow, ItemsCallBelow}
use Rattle.translation.specs.KernelForm.{IsAtom, constant-atom, variable_atom, Assigns, assigns_atom, assigns_minus, assigns_operation, assigns_element, assigns_call, assigns_to_element, KernelStatement, kernel-empty, kernel-assign, kernel-block, kernel-if, kernel-while, kernel-goto, kernel-abort, kernel-return, KernelItems, kernel-none, kernel-then, kernel-label}
use Rattle.flat.specs.Lines.{Operand, FlatLine, jump, jump_zero}
use Rattle.flat_fate.specs.Stands.{Means, means_number, means_word, Acts, acts_copy, acts_minus, acts_operate, acts_fetch, acts_put, At, Stands, stands-empty, stands-assign, stands-block, stands-neither, stands-yes, stands-no, stands-both, stands-while, stands-endless, stands-goto, stands-abort, StandsItems, stands-none, stands-then, stands-label}
use Rattle.flat_fate.specs.Code.{operand_of, operation_of, always, if_lines, while_lines, statement_lines, items_lines, if_code, while_code, statement_code, items_code}
use Rattle.flat_fate.specs.Branches.{body_at, first_at, second_at}

means-atom : {e : Expression} → IsAtom e → Means e (operand_of e)
means-atom constant-atom = means_number
means-atom variable_atom = means_word

-- No call: the flat list refuses functions.
acts-form : (arity : ℕ → ℕ) {e : Expression} → Assigns e → CallsBelow arity 0 e → Acts e (operation_of e)
unfolding CallsBelow
acts-form arity (assigns_atom constant-atom) c = acts_copy means_number
acts-form arity (assigns_atom variable_atom) c = acts_copy means_word
acts-form arity (assigns_minus a) c = acts_minus (means-atom a)
acts-form arity (assigns_operation a b) c = acts_operate (means-atom a) (means-atom b)
acts-form arity (assigns_element a) c = acts_fetch (means-atom a)
acts-form arity (assigns_call a) c = absurd (omega (arith, c.1.0))
acts-form arity (assigns_to_element a b) c = acts_put (means-atom a) (means-atom b)

module _ (L : Layout) (lines : List FlatLine) (address : ℕ → ℕ) where
  -- The list has the code xs from line i on.
  abbrev pub Has : ℕ → List FlatLine → Type 0
  Has i [] = Unit {0}
  Has i (x ∷ xs) = At L lines address i x × Has (i + 1) xs

  has-cast : {i j : ℕ} (xs : List FlatLine) → i ≡ j → Has i xs → Has j xs
  has-cast xs e h = subst (λ k. Has k xs) e h

  has_first : (i : ℕ) (xs ys : List FlatLine) → Has i (xs ++ ys) → Has i xs
  has_first i [] ys h = tt
  has_first i (x ∷ xs) ys h = (h.0, has_first (i + 1) xs ys h.1)

  has-second : (i n : ℕ) (xs ys : List FlatLine) → length xs ≡ n → Has i (xs ++ ys) → Has (i + n) ys
  has-second i n [] ys e h = has-cast ys (let q : i ≡ i + n = omega arith in q) h
  has-second i zero (x ∷ xs) ys e h = absurd (omega arith)
  has-second i (suc n) (x ∷ xs) ys e h = has-cast ys (let q : (i + 1) + n ≡ i + suc n = omega arith in q) (has-second (i + 1) n xs ys (omega arith) h.1)

  -- ---- the size is exact

  if-length : (a : Operand) (p q i : ℕ) (first second : ℕ → List FlatLine) → ((j : ℕ) → length (first j) ≡ p) → ((j : ℕ) → length (second j) ≡ q) → length (if_code a p q i first second) ≡ if_lines p q
  if-length a zero zero i first second f g = refl
  if-length a zero (suc q) i first second f g = omega (arith, g (i + 1))
  if-length a (suc p) zero i first second f g = omega (arith, f (i + 1))
  if-length a (suc p) (suc q) i first second f g = omega (arith, length-append (first (i + 1)) (jump (i + (2 + (suc p + suc q))) ∷ second (i + (2 + suc p))), f (i + 1), g (i + (2 + suc p)))

  while-length : (b : Bool) (a : Operand) (p i : ℕ) (body : ℕ → List FlatLine) → ((j : ℕ) → length (body j) ≡ p) → length (while_code b a p i body) ≡ while_lines b p
  while-length true a p i body f = omega (arith, length-append (body i) (jump i ∷ []), f i)
  while-length false a p i body f = omega (arith, length-append (body (i + 1)) (jump i ∷ []), f (i + 1))

  mutual
    unfolding statement_lines statement_code

    pub statement-length : (s : Statement) (i : ℕ) → length (statement_code address s i) ≡ statement_lines s
    statement-length empty i = refl
    statement-length (express e) i = refl
    statement-length (block is) i = items-length is i
    statement-length (if_then e on_true) i = refl
    statement-length (if_else e on_true on_false) i = if-length (operand_of e) (statement_lines on_true) (statement_lines on_false) i _ _ (λ j. statement-length on_true j) (λ j. statement-length on_false j)
    statement-length (while e body) i = while-length (always (operand_of e)) (operand_of e) (statement_lines body) i _ (λ j. statement-length body j)
    statement-length (do_while body e) i = refl
    statement-length (for first test action body) i = refl
    statement-length (switch e is) i = refl
    statement-length break i = refl
    statement-length continue i = refl
    statement-length (goto l) i = refl
    statement-length (guarded_if arms) i = refl
    statement-length (guarded_do arms) i = refl
    statement-length abort i = refl
    statement-length (declare word e) i = refl
    statement-length (give_back value) i = refl

    pub items-length : (is : Items) (i : ℕ) → length (items_code address is i) ≡ items_lines is
    items-length none i = refl
    items-length (s then is) i = omega (arith, length-append (statement_code address s i) (items_code address is (i + statement_lines s)), statement-length s i, items-length is (i + statement_lines s))
    items-length (m here is) i = items-length is i
    items-length (define f words body is) i = items-length is i

  -- ---- each label's address is the line it stands before

  unfoldable mutual
    pub Addressed : Statement → ℕ → Type 0
    Addressed empty i = Unit {0}
    Addressed (express e) i = Unit {0}
    Addressed (block is) i = AddressedItems is i
    Addressed (if_then e on_true) i = Unit {0}
    Addressed (if_else e on_true on_false) i = Addressed on_true (first_at (statement_lines on_true) (statement_lines on_false) i) × Addressed on_false (second_at (statement_lines on_true) (statement_lines on_false) i)
    Addressed (while e body) i = Addressed body (body_at (always (operand_of e)) i)
    Addressed (do_while body e) i = Unit {0}
    Addressed (for first test action body) i = Unit {0}
    Addressed (switch e is) i = Unit {0}
    Addressed break i = Unit {0}
    Addressed continue i = Unit {0}
    Addressed (goto l) i = Unit {0}
    Addressed (guarded_if arms) i = Unit {0}
    Addressed (guarded_do arms) i = Unit {0}
    Addressed abort i = Unit {0}
    Addressed (declare word e) i = Unit {0}
    Addressed (give_back value) i = Unit {0}

    pub AddressedItems : Items → ℕ → Type 0
    AddressedItems none i = Unit {0}
    AddressedItems (s then is) i = Addressed s i × AddressedItems is (i + statement_lines s)
    AddressedItems (case v here is) i = AddressedItems is i
    AddressedItems (default here is) i = AddressedItems is i
    AddressedItems (label l here is) i = (address l ≡ i) × AddressedItems is i
    AddressedItems (define f words body is) i = AddressedItems is i

  -- Lines told by numbers that are equal.
  items-cast : (i j k l : ℕ) {is : Items} → i ≡ k → j ≡ l → StandsItems L lines address i is j → StandsItems L lines address k is l
  items-cast i j k l {is} p q h = subst (λ i. StandsItems L lines address i is l) p (subst (λ j. StandsItems L lines address i is j) q h)

  end-cast : {i j l : ℕ} {s : Statement} → j ≡ l → Stands L lines address i s j → Stands L lines address i s l
  end-cast {i} {s = s} q h = subst (λ j. Stands L lines address i s j) q h

  at-cast : (i j : ℕ) (x : FlatLine) → i ≡ j → At L lines address i x → At L lines address j x
  at-cast i j x q h = subst (λ i. At L lines address i x) q h

  none-there : (j : ℕ) (xs : List FlatLine) → length xs ≡ 0 → Has j xs
  none-there j [] e = tt
  none-there j (x ∷ xs) e = absurd (omega arith)

  if-stands : {e : Expression} {on_true on_false : Items} (a : Operand) (p q i : ℕ) (first second : ℕ → List FlatLine) → Means e a → ((j : ℕ) → length (first j) ≡ p) → ((j : ℕ) → length (second j) ≡ q)
      → (Has (first_at p q i) (first (first_at p q i)) → StandsItems L lines address (first_at p q i) on_true (first_at p q i + p))
      → (Has (second_at p q i) (second (second_at p q i)) → StandsItems L lines address (second_at p q i) on_false (second_at p q i + q))
      → Has i (if_code a p q i first second) → Stands L lines address i (if_else e (block on_true) (block on_false)) (i + if_lines p q)
  if-stands a zero zero i first second m f g y n h =
      let e : i + 0 ≡ i = omega arith in
      let d : i + 0 + 0 ≡ i = omega arith in
      end-cast (sym e) (stands-neither m (items-cast (i + 0) (i + 0 + 0) i i e d (y (none-there (i + 0) (first (i + 0)) (f (i + 0))))) (items-cast (i + 0) (i + 0 + 0) i i e d (n (none-there (i + 0) (second (i + 0)) (g (i + 0))))))
  if-stands a zero (suc q) i first second m f g y n h =
      let j = i + (1 + suc q) in
      stands-no {j = j} m h.0 (items-cast j (j + 0) j j refl (add-zero j) (y (none-there j (first j) (f j))))
      (items-cast (i + 1) (i + 1 + suc q) (suc i) j (let e : i + 1 ≡ suc i = omega arith in e) (let e : i + 1 + suc q ≡ j = omega arith in e) (n h.1))
  if-stands a (suc p) zero i first second m f g y n h =
      let j = i + (1 + suc p) in
      stands-yes {j = j} m h.0 (items-cast (i + 1) (i + 1 + suc p) (suc i) j (let e : i + 1 ≡ suc i = omega arith in e) (let e : i + 1 + suc p ≡ j = omega arith in e) (y h.1))
      (items-cast j (j + 0) j j refl (add-zero j) (n (none-there j (second j) (g j))))
  if-stands a (suc p) (suc q) i first second m f g y n h =
      let j = i + (2 + (suc p + suc q)) in
      let k = i + 1 + suc p in
      let back : suc k ≡ i + (2 + suc p) = omega arith in
      let skip = has-second (i + 1) (suc p) (first (i + 1)) _ (f (i + 1)) h.1 in
      stands-both {k = k} m (subst (λ t. At L lines address i (jump_zero a t)) (sym back) h.0) (items-cast (i + 1) k (suc i) k (let e : i + 1 ≡ suc i = omega arith in e) refl (y (has_first (i + 1) (first (i + 1)) _ h.1))) skip.0
      (items-cast (i + (2 + suc p)) (i + (2 + suc p) + suc q) (suc k) j (sym back) (let e : i + (2 + suc p) + suc q ≡ j = omega arith in e) (n (has-cast (second (i + (2 + suc p))) (let e : k + 1 ≡ i + (2 + suc p) = omega arith in e) skip.1)))

  while-stands : {e : Expression} {is : Items} (b : Bool) (p i : ℕ) (body : ℕ → List FlatLine) → IsAtom e → always (operand_of e) ≡ b → ((j : ℕ) → length (body j) ≡ p)
      → (Has (body_at b i) (body (body_at b i)) → StandsItems L lines address (body_at b i) is (body_at b i + p)) → Has i (while_code b (operand_of e) p i body) → Stands L lines address i (while e (block is)) (i + while_lines b p)
  while-stands true p i body constant-atom t f k h =
      end-cast (let e : suc (i + p) ≡ i + (p + 1) = omega arith in e) (stands-endless t (k (has_first i (body i) _ h)) (has-second i p (body i) _ (f i) h).0)
  while-stands true p i body variable_atom t f k h = absurd (false≢true t)
  while-stands {e} false p i body a t f k h =
      let end : suc (i + 1 + p) ≡ i + (p + 2) = omega arith in
      let back = has-second (i + 1) p (body (i + 1)) _ (f (i + 1)) h.1 in
      end-cast end (stands-while (means-atom a) (subst (λ j. At L lines address i (jump_zero (operand_of e) j)) (sym end) h.0)
      (items-cast (i + 1) (i + 1 + p) (suc i) (i + 1 + p) (let e : i + 1 ≡ suc i = omega arith in e) refl (k (has_first (i + 1) (body (i + 1)) _ h.1))) back.0)

  module _ (arity : ℕ → ℕ) where
    mutual
      unfolding statement_lines statement_code Addressed StatementCallsBelow

      statement-stands : {mayReturn : Bool} {ahead : Items} {s : Statement} → KernelStatement mayReturn ahead s → mayReturn ≡ false → StatementCallsBelow arity 0 s → (i : ℕ) → Addressed s i → Has i (statement_code address s i) → Stands L lines address i s (i + statement_lines s)
      statement-stands kernel-empty z c i d h = end-cast (sym (add-zero i)) stands-empty
      statement-stands (kernel-assign a) z c i d h = end-cast (let e : suc i ≡ i + 1 = omega arith in e) (stands-assign (acts-form arity a c) h.0)
      statement-stands (kernel-block k) z c i d h = stands-block (items-stands k z c i d h)
      statement-stands (kernel-if {on_true = on_true} {on_false} {e} a y n) z c i d h =
          if-stands (operand_of e) (items_lines on_true) (items_lines on_false) i (λ j. items_code address on_true j) (λ j. items_code address on_false j) (means-atom a) (λ j. items-length on_true j) (λ j. items-length on_false j)
          (λ k. items-stands y z c.1 (first_at (items_lines on_true) (items_lines on_false) i) d.0 k) (λ k. items-stands n z c.2 (second_at (items_lines on_true) (items_lines on_false) i) d.1 k) h
      statement-stands (kernel-while {body = body} {e} a k) z c i d h =
          while-stands (always (operand_of e)) (items_lines body) i (λ j. items_code address body j) a refl (λ j. items-length body j) (λ q. items-stands k z c.1 (body_at (always (operand_of e)) i) d q) h
      statement-stands (kernel-goto b g) z c i d h = end-cast (let e : suc i ≡ i + 1 = omega arith in e) (stands-goto h.0)
      statement-stands (kernel-return a) z c i d h = absurd (false≢true (sym z))
      statement-stands kernel-abort z c i d h = end-cast (let e : suc i ≡ i + 1 = omega arith in e) (stands-abort h.0)

      pub items-stands : {mayReturn : Bool} {ahead is : Items} → KernelItems mayReturn ahead is → mayReturn ≡ false → ItemsCallBelow arity 0 is → (i : ℕ) → AddressedItems is i → Has i (items_code address is i) → StandsItems L lines address i is (i + items_lines is)
      items-stands kernel-none z c i d h = items-cast i i i (i + 0) refl (sym (add-zero i)) stands-none
      items-stands (kernel-then {is = is} {s = s} k ks) z c i d h =
          items-cast i (i + statement_lines s + items_lines is) i (i + (statement_lines s + items_lines is)) refl (let e : (i + statement_lines s) + items_lines is ≡ i + (statement_lines s + items_lines is) = omega arith in e)
          (stands-then (statement-stands k z c.0 i d.0 (has_first i (statement_code address s i) (items_code address is (i + statement_lines s)) h))
          (items-stands ks z c.1 (i + statement_lines s) d.1 (has-second i (statement_lines s) (statement_code address s i) (items_code address is (i + statement_lines s)) (statement-length s i) h)))
      items-stands (kernel-label b ks) z c i d h = stands-label d.0 (items-stands ks z c i d.1 h)
