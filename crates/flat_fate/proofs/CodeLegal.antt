-- The flat list of a kernel tree is legal: its lines name what the tree names, and jump inside the list or just past it. By induction on the
-- kernel form.
use Rattle.std.specs.Prelude.{◌≡◌, refl, Bool, true, false, ◌&&◌, eqb, leb, ℤ}
use Rattle.std.proofs.Common.{sym, ◌∙◌}
use Rattle.std.proofs.Math.Path.{ap, subst}
use mathlib.Core.List.{List, [], ◌∷◌, ◌++◌, append_assoc}
use Prim.Native.Nat.{ℕ, zero, suc, ◌+◌, ◌*◌, ◌/◌, ◌≤◌, ◌<◌}
use native.Mathlib.Omega.{arith}
use Rattle.std.proofs.Math.Dec.{ltb}
use Rattle.std.proofs.Math.ListN.{length, length-append}
use borrow.Author.Tests.{lt-ltb, le-leb}
use Rattle.words.specs.Word.{pick}
use Rattle.words.specs.Kinds.{variable as variable_sort, array as array_sort}
use Rattle.words.specs.Layout.{Layout, layout_of, store_size, header_store, behind_of, header_fits}
use Rattle.words.specs.Laws.{or_right}
use Rattle.words.specs.declared.Form.TheVariants.{Kernel}
use Rattle.check_fields.specs.Fields.{declared_range, bounds_of, bounds_in, number_fits}
use Rattle.check_fields.specs.declared.NumberRange.{NumberRange}
use Rattle.check_fields.specs.declared.Bounds.{Bounds}
use Rattle.language.specs.Trees.{Expression, Statement, Items, ◌then◌, ◌here◌, none}
use Rattle.language.specs.WellFormed.{NamedExpression, NamedStatement, NamedItems}
use Rattle.language.specs.Functions.{function_count}
use Rattle.language.specs.Calls.{arity_in}
use Rattle.translation.specs.PlainKernel.{plain-kernel}
use Rattle.translation.specs.KernelForm.{IsAtom, constant-atom, variable_atom, Assigns, assigns_atom, assigns_minus, assigns_operation, assigns_element, assigns_call, assigns_to_element, KernelStatement, kernel-empty, kernel-assign, kernel-block, kernel-if, kernel-while, kernel-goto, kernel-abort, kernel-return, KernelItems, kernel-none, kernel-then, kernel-label, KernelName, name_variable, name_temporary, KernelTree}
use Rattle.flat.specs.Lines.{Operand, FlatLine, jump}
use Rattle.flat.specs.Words.{line_parts, five_words, line_count}
use Rattle.flat.specs.Legal.{NamesVariable, NamesArray, WithinOperand, WithinOperation, Within, LegalLine, LegalFlat}
use Rattle.flat_fate.specs.Code.{operand_of, operation_of, always, if_lines, while_lines, statement_lines, items_lines, if_code, while_code, statement_code, items_code}
use Rattle.flat_fate.specs.Branches.{first_at, second_at, body_at}
use Rattle.flat_fate.specs.Addresses.{statement_address, items_address, address_in, flat_of}
use Rattle.flat_fate.proofs.AddressLaws.{flat-size}
use Rattle.flat_fate.specs.FlatWords.{words_from}
use Rattle.flat_fate.proofs.FlatWordsLaws.{words-length, five-written}

-- ---- addresses lie in the list

if-first : (p q i : ℕ) → first_at p q i + p ≤ i + if_lines p q
if-first zero zero i = omega arith
if-first zero (suc q) i = omega arith
if-first (suc p) zero i = omega arith
if-first (suc p) (suc q) i = omega arith

if-second : (p q i : ℕ) → second_at p q i + q ≤ i + if_lines p q
if-second zero zero i = omega arith
if-second zero (suc q) i = omega arith
if-second (suc p) zero i = omega arith
if-second (suc p) (suc q) i = omega arith

while-body : (b : Bool) (p i : ℕ) → body_at b i + p ≤ i + while_lines b p
while-body true p i = omega arith
while-body false p i = omega arith

label-most : (b : Bool) (i other most : ℕ) → i ≤ most → other ≤ most → pick b i other ≤ most
label-most true i other most h k = h
label-most false i other most h k = k

module _ (l most : ℕ) where
  mutual
    unfolding statement_address statement_lines

    statement-address : {mayReturn : Bool} {ahead : Items} {s : Statement} → KernelStatement mayReturn ahead s → (i other : ℕ) → i + statement_lines s ≤ most → other ≤ most → statement_address l s i other ≤ most
    statement-address kernel-empty i other h k = k
    statement-address (kernel-assign a) i other h k = k
    statement-address (kernel-block is) i other h k = items-address is i other h k
    statement-address (kernel-if {on_true = on_true} {on_false} a y n) i other h k =
        let p = items_lines on_true in
        let q = items_lines on_false in
        items-address n (second_at p q i) _ (omega (arith, if-second p q i)) (items-address y (first_at p q i) other (omega (arith, if-first p q i)) k)
    statement-address (kernel-while {body = body} {e} a is) i other h k = items-address is (body_at (always (operand_of e)) i) other (omega (arith, while-body (always (operand_of e)) (items_lines body) i)) k
    statement-address (kernel-goto b c) i other h k = k
    statement-address kernel-abort i other h k = k
    statement-address (kernel-return a) i other h k = k

    items-address : {mayReturn : Bool} {ahead is : Items} → KernelItems mayReturn ahead is → (i other : ℕ) → i + items_lines is ≤ most → other ≤ most → items_address l is i other ≤ most
    items-address kernel-none i other h k = k
    items-address (kernel-then {is = is} {s = s} a rest) i other h k = items-address rest (i + statement_lines s) _ (omega arith) (statement-address a i other (omega arith) k)
    items-address (kernel-label {l = m} b rest) i other h k = items-address rest i _ h (label-most (eqb l m) i other most (omega arith) k)

-- ---- lines of which something holds

abbrev pub All : (FlatLine → Type 0) → List FlatLine → Type 0
All P [] = Unit {0}
All P (x ∷ xs) = P x × All P xs

all_append : (P : FlatLine → Type 0) (xs ys : List FlatLine) → All P xs → All P ys → All P (xs ++ ys)
all_append P [] ys a b = b
all_append P (x ∷ xs) ys a b = (a.0, all_append P xs ys a.1 b)

-- ---- lines name what the tree names

module _ (bounds : Bounds) (Names : ℕ → Type 0) (arrays : ℕ) (names : (i : ℕ) → Names i → NamesVariable bounds i) (fits : (i : ℕ) → i < arrays → NamesArray bounds i) where
  operand-within : {e : Expression} → IsAtom e → NamedExpression Names arrays e → WithinOperand bounds (operand_of e)
  unfolding NamedExpression
  operand-within constant-atom n = tt
  operand-within variable_atom n = names _ n

  operation-within : {e : Expression} → Assigns e → NamedExpression Names arrays e → WithinOperation bounds (operation_of e)
  unfolding NamedExpression
  operation-within (assigns_atom constant-atom) n = (names _ n.0, tt)
  operation-within (assigns_atom variable_atom) n = (names _ n.0, names _ n.1)
  operation-within (assigns_minus a) n = (names _ n.0, operand-within a n.1)
  operation-within (assigns_operation a b) n = (names _ n.0, operand-within a n.1.0, operand-within b n.1.1)
  operation-within (assigns_element a) n = (names _ n.0, fits _ n.1.0, operand-within a n.1.1)
  operation-within (assigns_call a) n = (names _ n.0, tt)
  operation-within (assigns_to_element a b) n = (fits _ n.0.0, operand-within a n.0.1, operand-within b n.1)

  module _ (lines : ℕ) where
    abbrev W : FlatLine → Type 0
    W x = Within bounds lines x

    if-within : (a : Operand) (p q i : ℕ) (first second : ℕ → List FlatLine) → WithinOperand bounds a → i + if_lines p q ≤ lines
        → ((j : ℕ) → j + p ≤ lines → All W (first j)) → ((j : ℕ) → j + q ≤ lines → All W (second j)) → All W (if_code a p q i first second)
    if-within a zero zero i first second w h f g = tt
    if-within a zero (suc q) i first second w h f g = ((w, omega arith), g (i + 1) (omega arith))
    if-within a (suc p) zero i first second w h f g = ((w, omega arith), f (i + 1) (omega arith))
    if-within a (suc p) (suc q) i first second w h f g =
        ((w, omega arith), all_append W (first (i + 1)) (jump (i + (2 + (suc p + suc q))) ∷ second (i + (2 + suc p))) (f (i + 1) (omega arith)) (omega arith, g (i + (2 + suc p)) (omega arith)))

    while-within : (b : Bool) (a : Operand) (p i : ℕ) (body : ℕ → List FlatLine) → WithinOperand bounds a → i + while_lines b p ≤ lines → ((j : ℕ) → j + p ≤ lines → All W (body j)) → All W (while_code b a p i body)
    while-within true a p i body w h f = all_append W (body i) (jump i ∷ []) (f i (omega arith)) (omega arith, tt)
    while-within false a p i body w h f = ((w, omega arith), all_append W (body (i + 1)) (jump i ∷ []) (f (i + 1) (omega arith)) (omega arith, tt))

    module _ (address : ℕ → ℕ) (inside : (l : ℕ) → address l ≤ lines) where
      mutual
        unfolding statement_code statement_lines NamedStatement

        statement-within : {mayReturn : Bool} {ahead : Items} {s : Statement} → KernelStatement mayReturn ahead s → NamedStatement Names arrays s → (i : ℕ) → i + statement_lines s ≤ lines → All W (statement_code address s i)
        statement-within kernel-empty n i h = tt
        statement-within (kernel-assign a) n i h = (operation-within a n, tt)
        statement-within (kernel-block k) n i h = items-within k n i h
        statement-within (kernel-if {on_true = on_true} {on_false} {e} a y z) n i h =
            if-within (operand_of e) (items_lines on_true) (items_lines on_false) i _ _ (operand-within a n.0) h (λ j k. items-within y n.1 j k) (λ j k. items-within z n.2 j k)
        statement-within (kernel-while {body = body} {e} a is) n i h =
            while-within (always (operand_of e)) (operand_of e) (items_lines body) i _ (operand-within a n.0) h (λ j k. items-within is n.1 j k)
        statement-within (kernel-goto {l = l} b c) n i h = (inside l, tt)
        statement-within kernel-abort n i h = (tt, tt)
        statement-within (kernel-return a) n i h = tt

        items-within : {mayReturn : Bool} {ahead is : Items} → KernelItems mayReturn ahead is → NamedItems Names arrays is → (i : ℕ) → i + items_lines is ≤ lines → All W (items_code address is i)
        items-within kernel-none n i h = tt
        items-within (kernel-then {is = is} {s = s} k ks) n i h =
            all_append W (statement_code address s i) (items_code address is (i + statement_lines s)) (statement-within k n.0 i (omega arith)) (items-within ks n.1 (i + statement_lines s) (omega arith))
        items-within (kernel-label b ks) n i h = items-within ks n i h

-- ---- words of such lines are legal

module _ (bounds : Bounds) (lines : ℕ) where
  legal-from : (before : List ℤ) (i : ℕ) (xs : List FlatLine) → length before ≡ 5 * i → lines ≡ line_count (before ++ words_from i xs) → All (λ x. Within bounds lines x) xs
      → (k : ℕ) → k < length xs → LegalLine bounds (before ++ words_from i xs) (i + k)
  unfolding words_from
  legal-from before i [] e c a k h = absurd (omega arith)
  legal-from before i (x ∷ xs) e c a zero h =
      let stays : i ≡ i + zero = omega arith in
      subst (λ (n : ℕ). LegalLine bounds (before ++ (five_words (line_parts i x) ++ words_from (suc i) xs)) n) stays
      (record { line = x; written = five-written before (words_from (suc i) xs) i e (line_parts i x); within = subst (λ (n : ℕ). Within bounds n x) c a.0 })
  legal-from before i (x ∷ xs) e c a (suc k) h =
      let five = five_words (line_parts i x) in
      let same = append_assoc before five (words_from (suc i) xs) in
      let longer : length (before ++ five) ≡ 5 * suc i = omega (arith, length-append before five) in
      let there : suc i + k ≡ i + suc k = omega arith in
      subst (λ (n : ℕ). LegalLine bounds (before ++ (five ++ words_from (suc i) xs)) n) there
      (subst (λ l. LegalLine bounds l (suc i + k)) same (legal-from (before ++ five) (suc i) xs longer (c ∙ ap line_count (sym same)) a.1 k (omega arith)))

-- ---- the list of a kernel tree

module _ (L : Layout) (declared : NumberRange) (T : ℕ) where
  name-fits : (i : ℕ) → KernelName L T i → number_fits (bounds_in L declared (store_size L + T)) variable_sort i ≡ true
  unfolding number_fits
  name-fits i (name_variable h) = rw (lt-ltb _ _ h)
  name-fits i (name_temporary {t} h) = or_right (ltb (store_size L + t) L.variables) (leb (store_size L) (store_size L + t) && ltb (store_size L + t) (store_size L + T)) (rw (le-leb (store_size L) (store_size L + t) (omega arith), lt-ltb (store_size L + t) (store_size L + T) (omega arith)))

  array-fits : (i : ℕ) → i < length L.lengths → number_fits (bounds_in L declared (store_size L + T)) array_sort i ≡ true
  unfolding number_fits
  array-fits i h = lt-ltb _ _ h

  pub lines-within : (program : Items) → KernelTree L T program → (form : KernelItems false none program) → All (λ x. Within (bounds_in L declared (store_size L + T)) (items_lines program) x) (flat_of program)
  unfolding flat_of
  lines-within program k form =
      items-within (bounds_in L declared (store_size L + T)) (KernelName L T) (length L.lengths) name-fits array-fits (items_lines program) (address_in program)
      (λ l. items-address l (items_lines program) form 0 0 (omega arith) (omega arith)) form k.named 0 (omega arith)

-- "Every flattened list passes the flat check": of a header within its limits, with a kernel tree of its layout and temporaries.
pub flattened-legal : (header : List ℤ) (program : Items) → header_fits Kernel header ≡ true → KernelTree (layout_of Kernel header) (behind_of Kernel header) program → function_count program ≡ 0 → LegalFlat header (words_from 0 (flat_of program))
unfolding bounds_of header_store
flattened-legal header program e k none-defined =
    let own = plain-kernel none-defined k.form k.calls in
    let L = layout_of Kernel header in
    let size = flat-size L program own.items (arity_in program) own.calls k.labels_once in
    let words = words-length 0 (flat_of program) in
    let count : items_lines program ≡ length (words_from 0 (flat_of program)) / 5 = omega arith in
    record {
      header-fits = e;
      whole = omega arith;
      lines = λ i h. subst (λ (n : ℕ). LegalLine (bounds_in L (declared_range Kernel header) (store_size L + behind_of Kernel header)) (words_from 0 (flat_of program)) n) (let z : 0 + i ≡ i = omega arith in z)
          (legal-from (bounds_in L (declared_range Kernel header) (store_size L + behind_of Kernel header)) (items_lines program) [] 0 (flat_of program) refl count (lines-within L (declared_range Kernel header) (behind_of Kernel header) program k own.items) i (omega arith));
    }
