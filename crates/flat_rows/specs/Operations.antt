-- Operations: the line of an assignment, read from its rows: which kinds stand there, and the five words.
use Rattle.std.specs.Prelude.{◌≡◌, Bool, true, false, ◌&&◌, List, [], ◌∷◌, ℕ, zero, suc, ◌+◌, ◌*◌, ◌^◌, ◌≤◌, ◌<◌, eqb, ℤ}
use Rattle.std.proofs.Math.Path.{refl, ap}
use Rattle.std.proofs.Common.{sym, ◌∙◌}
use Rattle.std.proofs.Math.Bool.{true≢false}
use Rattle.std.proofs.lemmas.Bool.{false≢true}
use Rattle.std.proofs.Math.Logic.{⊎_elim}
use native.Mathlib.Omega.{arith}
use Rattle.std.proofs.Math.Decide.{ℕ_discrete, dec_lt}
use Rattle.std.proofs.Math.IntN.{pos}
use borrow.Author.Tests.{eqb-true, eq-eqb, ne_eqb}
use Rattle.words.specs.Word.{natural, pick}
use Rattle.words.specs.Table.{row_count, word_at, number_at, Whole}
use Rattle.words.specs.Layout.{layout_of, store_size, header_store, behind_of}
use Rattle.words.specs.Kinds.{kinds, kind_in, kind_of, kind_at, expression, place, is_required, sort_in, kind_row, expression_fields, statement_fields, mark_fields, member_fields, is_function_number}
use Rattle.words.specs.Laws.{both, either, natural-pos, header_fits-facts}
use Rattle.words.specs.SearchLaws.{from_on}
use Rattle.words.specs.declared.Form.TheVariants.{Kernel}
use Rattle.words.specs.declared.Kind.{Kind}
use Rattle.words.specs.declared.Kind.TheVariants.{OfExpression}
use Rattle.words.specs.declared.ExpressionKind.TheVariants.{Variable, Element, Binary, Assign}
use Rattle.words.specs.declared.Operator.{Operator}
use Rattle.words.specs.declared.Operator.TheVariants.{Add, Subtract, Multiply, Divide, Remainder, Less, Greater, LessOrEqual, GreaterOrEqual, Equal, NotEqual}
use Rattle.language.specs.Trees.{Expression, read, minus, binary, assign, variable, element}
use Rattle.language.specs.Decode.{place_of, expression_at}
use Rattle.language.specs.DecodeLaws.{at-variable, at-element, at-minus, at-binary, at-assign}
use Rattle.language_emission.specs.Emission.{operator_number}
use Rattle.check_fields.specs.Fields.{bounds_of}
use Rattle.check_fields.specs.declared.Bounds.{Bounds}
use Rattle.check_structure.specs.Structured.{Structured}
use Rattle.check_structure.specs.StructuredLaws.{structured-tree}
use Rattle.check_kernel_statements.specs.Statements.{is_atom, is_atom_minus, is_atom_operation, is_atom_element, is_atom_call, fits_variable, is_assignment}
use Rattle.check_kernel_statements.specs.Laws.{number-beyond}
use Rattle.check_plain.specs.PlainLaws.{plain-number}
use Rattle.accepted.specs.Sorts.{between-true}
use Rattle.accepted.proofs.Fields.{holds, Linked, linked, names-variable, names-array}
use Rattle.accepted.proofs.Expressions.{whole-rows}
use Rattle.flat_kernel_rows.specs.KernelTable.{KernelTable}
use Rattle.translation.specs.KernelForm.{IsAtom, constant-atom, variable_atom}
use Rattle.accepted_kernel.specs.Assignments.{atom-at}
use Rattle.flat.specs.Lines.{Operand, copy, minus as negate, operate, fetch, put}
use Rattle.flat.specs.Words.{Parts, parts, unused, operation_parts, operation_of as operation_number, sort_of, word_of, five_words}
use Rattle.flat_fate.specs.Code.{operand_of, assigned, assigning, operation_of}
use Rattle.flat_rows.specs.Atoms.{constant-operand, variable-operand, other-atom}

record BinaryKind (number : ℕ) : Type 0 where
  operator : Operator
  is : kind_of number ≡ OfExpression (Binary operator)
  numbered : 6 + operator_number operator ≡ number

binary-kind : (number : ℕ) → 6 ≤ number → number ≤ 16 → BinaryKind number
unfolding kind_of kind_in kinds
binary-kind number h k =
    from_on BinaryKind number 6 h (record { operator = Add; is = refl; numbered = refl }) (λ h. from_on BinaryKind number 7 h (record { operator = Subtract; is = refl; numbered = refl })
    (λ h. from_on BinaryKind number 8 h (record { operator = Multiply; is = refl; numbered = refl }) (λ h. from_on BinaryKind number 9 h (record { operator = Divide; is = refl; numbered = refl })
    (λ h. from_on BinaryKind number 10 h (record { operator = Remainder; is = refl; numbered = refl }) (λ h. from_on BinaryKind number 11 h (record { operator = Less; is = refl; numbered = refl })
    (λ h. from_on BinaryKind number 12 h (record { operator = Greater; is = refl; numbered = refl }) (λ h. from_on BinaryKind number 13 h (record { operator = LessOrEqual; is = refl; numbered = refl })
    (λ h. from_on BinaryKind number 14 h (record { operator = GreaterOrEqual; is = refl; numbered = refl }) (λ h. from_on BinaryKind number 15 h (record { operator = Equal; is = refl; numbered = refl })
    (λ h. from_on BinaryKind number 16 h (record { operator = NotEqual; is = refl; numbered = refl }) (λ h. absurd (omega arith))))))))))))

-- An atom is copied.
assigned-atom : (i : ℕ) {e : Expression} → IsAtom e → assigned i e ≡ copy i (operand_of e)
assigned-atom i constant-atom = refl
assigned-atom i variable_atom = refl

five-of : (p : Parts) (o : ℕ) (t l r d : ℤ) → o ≡ operation_number p → t ≡ pos p.target → l ≡ word_of p.left → r ≡ word_of p.right → d ≡ p.distance_is → pos o ∷ t ∷ l ∷ r ∷ d ∷ [] ≡ five_words p
five-of p o t l r d a b c e f = rw (a, b, c, e, f)

-- The words of a test and of a jump.
pub test-five : (kind x : ℕ) (a : Operand) (w d : ℤ) → x ≡ sort_of a → w ≡ word_of a → pos (kind + 64 * x) ∷ pos 0 ∷ w ∷ pos 0 ∷ d ∷ [] ≡ five_words (parts kind 0 a unused d)
unfolding operation_number
test-five kind x a w d e f = five-of (parts kind 0 a unused d) _ (pos 0) w (pos 0) d (omega arith) refl f refl refl

pub plain-five : (kind : ℕ) (d : ℤ) → pos kind ∷ pos 0 ∷ pos 0 ∷ pos 0 ∷ d ∷ [] ≡ five_words (parts kind 0 unused unused d)
unfolding operation_number
plain-five kind d = five-of (parts kind 0 unused unused d) _ (pos 0) (pos 0) (pos 0) d (omega arith) refl refl refl refl

module _ {rows : List ℤ} (table : KernelTable rows) where
  abbrev bounds : Bounds
  bounds = bounds_of Kernel table.header

  s : Structured Kernel bounds rows
  s = table.plain.legal.structured

  whole : Whole rows
  whole = whole-rows Kernel bounds rows s

  kind-of : (row k : ℕ) → number_at rows row 0 ≡ k → kind_at rows row ≡ kind_of k
  unfolding kind_at
  kind-of row k e = ap kind_of e

  -- ---- words that name something

  word_number : (row field : ℕ) → number_at rows row field < 2 ^ 31 → word_at rows row field ≡ pos (number_at rows row field)
  unfolding number_at
  word_number row field h = natural-pos (word_at rows row field) (natural (word_at rows row field)) refl h

  pub variable-few : (row : ℕ) → row < row_count rows → number_at rows row 0 ≡ 2 → number_at rows row 1 < 65536
  unfolding kind_of kind_in kinds sort_in kind_row expression_fields bounds_of header_store
  variable-few row n k =
      let few = header_fits-facts Kernel table.header table.plain.legal.header-fits in
      let a = few.few_variables in
      let b = few.small_store in
      let c = few.few_declared in
      let d = few.few_temporaries in
      ⊎_elim (λ h. omega arith) (λ h. let top = h.1 in omega arith) (names-variable Kernel bounds rows s row n (kind-of row 2 k) 1 refl)

  variable-word : (row : ℕ) → row < row_count rows → number_at rows row 0 ≡ 2 → word_at rows row 1 ≡ pos (number_at rows row 1)
  variable-word row n k = word_number row 1 (omega (arith, variable-few row n k))

  pub array-few : (row : ℕ) → row < row_count rows → number_at rows row 0 ≡ 3 → number_at rows row 1 < 65536
  unfolding kind_of kind_in kinds sort_in kind_row expression_fields bounds_of
  array-few row n k =
      let a = (header_fits-facts Kernel table.header table.plain.legal.header-fits).few_arrays in
      omega (arith, names-array Kernel bounds rows s row n (kind-of row 3 k) 1 refl)

  array-word : (row : ℕ) → row < row_count rows → number_at rows row 0 ≡ 3 → word_at rows row 1 ≡ pos (number_at rows row 1)
  array-word row n k = word_number row 1 (omega (arith, array-few row n k))

  -- ---- atoms

  module _ (a : ℕ) (n : a < row_count rows) (e : is_atom rows a ≡ true) where
    pub atom-word : word_at rows a 1 ≡ word_of (operand_of (expression_at rows a))
    atom-word = by (ℕ_discrete (number_at rows a 0) 1)
      where
        by : Dec (number_at rows a 0 ≡ 1) → word_at rows a 1 ≡ word_of (operand_of (expression_at rows a))
        by (yes k) = rw (constant-operand table a k)
        by (no k) = let two = other-atom table a e k in rw (variable-operand table a two) (variable-word a n two)

    pub constant-sort : number_at rows a 0 ≡ 1 → 1 ≡ sort_of (operand_of (expression_at rows a))
    constant-sort k = rw (constant-operand table a k)

    pub variable-sort : (number_at rows a 0 ≡ 1 → ⊥) → 0 ≡ sort_of (operand_of (expression_at rows a))
    variable-sort k = rw (variable-operand table a (other-atom table a e k))

  -- ---- an assignment

  pub record AssignAt (e : ℕ) : Type 0 where
    pub place_inside : number_at rows e 1 < row_count rows
    pub value_inside : number_at rows e 2 < row_count rows
    pub is : expression_at rows e ≡ assign (place_of (expression_at rows (number_at rows e 1))) (expression_at rows (number_at rows e 2))
    pub fits-value : pick (eqb (number_at rows (number_at rows e 1) 0) 2) (fits_variable rows (number_at rows e 2)) (is_atom_element rows (number_at rows e 1) && is_atom rows (number_at rows e 2)) ≡ true

  operand : (row : ℕ) → row < row_count rows → {kind : Kind} → kind_at rows row ≡ kind → (field : ℕ) → holds (eqb expression) kind field ≡ true → Linked rows row expression field
  unfolding is_required
  operand row n k field t = linked Kernel bounds rows s row n k expression field refl t

  target : (row : ℕ) → row < row_count rows → kind_at rows row ≡ OfExpression Assign → Linked rows row place 1
  unfolding is_required sort_in kind_row expression_fields statement_fields mark_fields member_fields
  target row n k = linked Kernel bounds rows s row n k place 1 refl refl

  pub assign-parts : (e : ℕ) → e < row_count rows → is_assignment rows e ≡ true → AssignAt e
  unfolding is_assignment kind_of kind_in kinds sort_in kind_row expression_fields statement_fields mark_fields member_fields
  assign-parts e n t =
      let parts = both (eqb (number_at rows e 0) 21) _ t in
      let kind = kind-of e 21 (eqb-true _ _ parts.0) in
      let a = target e n kind in
      let b = operand e n kind 2 refl in
      record {
        place_inside = rw a.same at a.leads.inside;
        value_inside = rw b.same at b.leads.inside;
        is = at-assign rows whole e kind a.later b.later;
        fits-value = parts.1;
      }

  -- ---- an element with an atom index

  pub record ElementAt (row : ℕ) : Type 0 where
    pub inside : number_at rows row 2 < row_count rows
    pub is : expression_at rows row ≡ read (element (number_at rows row 1) (expression_at rows (number_at rows row 2)))

  pub element-parts : (row : ℕ) → row < row_count rows → number_at rows row 0 ≡ 3 → ElementAt row
  unfolding kind_of kind_in kinds sort_in kind_row expression_fields statement_fields mark_fields member_fields
  element-parts row n k =
      let kind = kind-of row 3 k in
      let i = operand row n kind 2 refl in
      record { inside = rw i.same at i.leads.inside; is = at-element rows whole row kind i.later }

  pub variable-place : (row : ℕ) → number_at rows row 0 ≡ 2 → place_of (expression_at rows row) ≡ variable (number_at rows row 1)
  unfolding kind_of kind_in kinds
  variable-place row k = rw (at-variable rows whole row (kind-of row 2 k))

  -- ---- what is assigned to a variable

  pub data ValueAt (v : ℕ) : Type 0 where
    atom-value : number_at rows v 0 ≤ 2 → is_atom rows v ≡ true → ValueAt v
    minus_value : number_at rows v 0 ≡ 4 → is_atom rows (number_at rows v 1) ≡ true → ValueAt v
    operation-value : 6 ≤ number_at rows v 0 → number_at rows v 0 ≤ 16 → is_atom rows (number_at rows v 1) ≡ true → is_atom rows (number_at rows v 2) ≡ true → ValueAt v
    element-value : number_at rows v 0 ≡ 3 → is_atom rows (number_at rows v 2) ≡ true → ValueAt v

  atom-few : (a : ℕ) → is_atom rows a ≡ true → number_at rows a 0 ≤ 2
  unfolding is_atom
  atom-few a e = (between-true 1 2 (number_at rows a 0) e).1

  -- a plain program has no calls
  no_call : (v : ℕ) → number_at rows v 0 ≡ 31 → ⊥
  unfolding is_function_number
  no_call v k = go (dec_lt v (row_count rows))
    where
      go : Dec (v < row_count rows) → ⊥
      go (yes h) = true≢false (sym (ap is_function_number k) ∙ plain-number table.header rows table.plain v h)
      go (no h) = let z = number-beyond rows v 0 (structured-tree Kernel bounds rows s).whole (omega (arith, h)) in omega arith

  pub value-at : (v : ℕ) → fits_variable rows v ≡ true → ValueAt v
  unfolding fits_variable is_atom_minus is_atom_operation is_atom_element is_atom_call
  value-at v e =
      let k = number_at rows v 0 in
      ⊎_elim (λ h. atom-value (atom-few v h) h)
      (λ h. ⊎_elim (λ h. let p = both (eqb k 4) (is_atom rows (number_at rows v 1)) h in minus_value (eqb-true k 4 p.0) p.1)
      (λ h. ⊎_elim (λ h. let p = both _ _ h in let q = both (is_atom rows (number_at rows v 1)) (is_atom rows (number_at rows v 2)) p.1 in let r = between-true 6 16 k p.0 in operation-value r.0 r.1 q.0 q.1)
      (λ h. ⊎_elim (λ h. let p = both (eqb k 3) (is_atom rows (number_at rows v 2)) h in element-value (eqb-true k 3 p.0) p.1)
      (λ h. absurd (no_call v (eqb-true k 31 (both (eqb k 31) _ h).0))) (either (is_atom_element rows v) _ h)) (either (is_atom_operation rows v) _ h)) (either (is_atom_minus rows v) _ h)) (either (is_atom rows v) _ e)

  pub record MinusAt (v : ℕ) : Type 0 where
    pub inside : number_at rows v 1 < row_count rows
    pub is : expression_at rows v ≡ minus (expression_at rows (number_at rows v 1))

  pub minus-parts : (v : ℕ) → v < row_count rows → number_at rows v 0 ≡ 4 → MinusAt v
  unfolding kind_of kind_in kinds sort_in kind_row expression_fields statement_fields mark_fields member_fields
  minus-parts v n k =
      let kind = kind-of v 4 k in
      let i = operand v n kind 1 refl in
      record { inside = rw i.same at i.leads.inside; is = at-minus rows whole v kind i.later }

  pub record BinaryAt (v : ℕ) : Type 0 where
    pub operator : Operator
    pub left_inside : number_at rows v 1 < row_count rows
    pub right_inside : number_at rows v 2 < row_count rows
    pub is : expression_at rows v ≡ binary operator (expression_at rows (number_at rows v 1)) (expression_at rows (number_at rows v 2))
    pub numbered : 6 + operator_number operator ≡ number_at rows v 0

  pub binary-parts : (v : ℕ) → v < row_count rows → 6 ≤ number_at rows v 0 → number_at rows v 0 ≤ 16 → BinaryAt v
  unfolding sort_in kind_row expression_fields statement_fields mark_fields member_fields
  binary-parts v n h k =
      let b = binary-kind (number_at rows v 0) h k in
      let kind = kind-of v (number_at rows v 0) refl ∙ b.is in
      let x = operand v n kind 1 refl in
      let y = operand v n kind 2 refl in
      record {
        operator = b.operator;
        left_inside = rw x.same at x.leads.inside;
        right_inside = rw y.same at y.leads.inside;
        is = at-binary rows whole v b.operator kind x.later y.later;
        numbered = b.numbered;
      }

  -- an assignment to an element
  pub record ElementPlace (e : ℕ) : Type 0 where
    pub three : number_at rows (number_at rows e 1) 0 ≡ 3
    pub element-is : ElementAt (number_at rows e 1)
    pub index-atom : is_atom rows (number_at rows (number_at rows e 1) 2) ≡ true
    pub value-atom : is_atom rows (number_at rows e 2) ≡ true

  pub element-place-at : (e : ℕ) (n : e < row_count rows) (g : is_assignment rows e ≡ true) → (number_at rows (number_at rows e 1) 0 ≡ 2 → ⊥) → ElementPlace e
  unfolding is_atom_element
  element-place-at e n g h =
      let r = assign-parts e n g in
      let parts = both (is_atom_element rows (number_at rows e 1)) (is_atom rows (number_at rows e 2)) (rw (ne_eqb (number_at rows (number_at rows e 1) 0) 2 h) at r.fits-value) in
      let inner = both (eqb (number_at rows (number_at rows e 1) 0) 3) (is_atom rows (number_at rows (number_at rows e 1) 2)) parts.0 in
      let three-is = eqb-true (number_at rows (number_at rows e 1) 0) 3 inner.0 in
      record { three = three-is; element-is = element-parts (number_at rows e 1) r.place_inside three-is; index-atom = inner.1; value-atom = parts.1 }

  -- ---- the five words

  module _ (i v : ℕ) (n : v < row_count rows) where
    pub atom-five : is_atom rows v ≡ true → (x : ℕ) (w : ℤ) → x ≡ sort_of (operand_of (expression_at rows v)) → w ≡ word_at rows v 1
        → pos (1 + 64 * x) ∷ pos i ∷ w ∷ pos 0 ∷ pos 0 ∷ [] ≡ five_words (operation_parts (assigned i (expression_at rows v)))
    unfolding operation_number
    atom-five e x w f g =
        five-of (operation_parts (copy i (operand_of (expression_at rows v)))) _ (pos i) w (pos 0) (pos 0) (omega arith) refl (g ∙ atom-word v n e) refl refl
        ∙ ap (λ o. five_words (operation_parts o)) (sym (assigned-atom i (atom-at bounds rows s v e)))

    pub minus-five : number_at rows v 0 ≡ 4 → is_atom rows (number_at rows v 1) ≡ true → (a x : ℕ) (w : ℤ) → a ≡ number_at rows v 1 → x ≡ sort_of (operand_of (expression_at rows a)) → w ≡ word_at rows a 1
        → pos (4 + 64 * x) ∷ pos i ∷ w ∷ pos 0 ∷ pos 0 ∷ [] ≡ five_words (operation_parts (assigned i (expression_at rows v)))
    unfolding operation_number
    minus-five k e a x w d f g =
        let r = minus-parts v n k in
        let y : x ≡ sort_of (operand_of (expression_at rows (number_at rows v 1))) = f ∙ (rw d) in
        rw r.is
        (five-of (operation_parts (negate i (operand_of (expression_at rows (number_at rows v 1))))) _ (pos i) w (pos 0) (pos 0) (omega arith) refl (g ∙ (rw d (atom-word (number_at rows v 1) r.inside e))) refl refl)

    pub element-five : number_at rows v 0 ≡ 3 → is_atom rows (number_at rows v 2) ≡ true → (a x : ℕ) (u w : ℤ) → a ≡ number_at rows v 2 → x ≡ sort_of (operand_of (expression_at rows a)) → u ≡ word_at rows v 1 → w ≡ word_at rows a 1
        → pos (3 + 128 * x) ∷ pos i ∷ u ∷ w ∷ pos 0 ∷ [] ≡ five_words (operation_parts (assigned i (expression_at rows v)))
    unfolding operation_number
    element-five k e a x u w d f h g =
        let r = element-parts v n k in
        let y : x ≡ sort_of (operand_of (expression_at rows (number_at rows v 2))) = f ∙ (rw d) in
        rw r.is
        (five-of (operation_parts (fetch i (number_at rows v 1) (operand_of (expression_at rows (number_at rows v 2))))) _ (pos i) u w (pos 0) (omega arith) refl (h ∙ array-word v n k) (g ∙ (rw d (atom-word (number_at rows v 2) r.inside e))) refl)

    pub operation-five : (h : 6 ≤ number_at rows v 0) (k : number_at rows v 0 ≤ 16) → is_atom rows (number_at rows v 1) ≡ true → is_atom rows (number_at rows v 2) ≡ true → (kind a b x y : ℕ) (u w : ℤ) → kind ≡ number_at rows v 0 → a ≡ number_at rows v 1 → b ≡ number_at rows v 2
        → x ≡ sort_of (operand_of (expression_at rows a)) → y ≡ sort_of (operand_of (expression_at rows b)) → u ≡ word_at rows a 1 → w ≡ word_at rows b 1
        → pos (kind + (64 * x + 128 * y)) ∷ pos i ∷ u ∷ w ∷ pos 0 ∷ [] ≡ five_words (operation_parts (assigned i (expression_at rows v)))
    unfolding operation_number
    operation-five h k e f kind a b x y u w q c d p o l m =
        let r = binary-parts v n h k in
        let left : x ≡ sort_of (operand_of (expression_at rows (number_at rows v 1))) = p ∙ (rw c) in
        let right : y ≡ sort_of (operand_of (expression_at rows (number_at rows v 2))) = o ∙ (rw d) in
        let number_is : 6 + operator_number r.operator ≡ number_at rows v 0 = r.numbered in
        rw r.is
        (five-of (operation_parts (operate r.operator i (operand_of (expression_at rows (number_at rows v 1))) (operand_of (expression_at rows (number_at rows v 2))))) _ (pos i) u w (pos 0) (omega arith) refl
        (l ∙ (rw c (atom-word (number_at rows v 1) r.left_inside e))) (m ∙ (rw d (atom-word (number_at rows v 2) r.right_inside f))) refl)

  -- an element is assigned an atom
  pub put_five : (e : ℕ) (n : e < row_count rows) (g : is_assignment rows e ≡ true) → (number_at rows (number_at rows e 1) 0 ≡ 2 → ⊥) → (p v j x y t : ℕ) (u w : ℤ) → p ≡ number_at rows e 1 → v ≡ number_at rows e 2 → j ≡ number_at rows p 2
      → x ≡ sort_of (operand_of (expression_at rows j)) → y ≡ sort_of (operand_of (expression_at rows v)) → t ≡ number_at rows p 1 → u ≡ word_at rows j 1 → w ≡ word_at rows v 1
      → pos (21 + (64 * x + 128 * y)) ∷ pos t ∷ u ∷ w ∷ pos 0 ∷ [] ≡ five_words (operation_parts (operation_of (expression_at rows e)))
  unfolding operation_number
  put_five e n g h p v j x y t u w a b c d f k l m =
      let r = assign-parts e n g in
      let o = element-place-at e n g h in
      let place_is : place_of (expression_at rows (number_at rows e 1)) ≡ element (number_at rows (number_at rows e 1) 1) (expression_at rows (number_at rows (number_at rows e 1) 2)) = (rw o.element-is.is) in
      let index-row : j ≡ number_at rows (number_at rows e 1) 2 = c ∙ (rw a) in
      let left : x ≡ sort_of (operand_of (expression_at rows (number_at rows (number_at rows e 1) 2))) = d ∙ (rw index-row) in
      let right : y ≡ sort_of (operand_of (expression_at rows (number_at rows e 2))) = f ∙ (rw b) in
      rw (r.is, place_is)
      (five-of (operation_parts (put (number_at rows (number_at rows e 1) 1) (operand_of (expression_at rows (number_at rows (number_at rows e 1) 2))) (operand_of (expression_at rows (number_at rows e 2))))) _ (pos t) u w (pos 0) (omega arith)
      (ap pos (k ∙ (rw a))) (l ∙ (rw index-row (atom-word (number_at rows (number_at rows e 1) 2) o.element-is.inside o.index-atom))) (m ∙ (rw b (atom-word (number_at rows e 2) r.value_inside o.value-atom))) refl)

  -- a variable is assigned a value
  pub assign-five : (e : ℕ) (n : e < row_count rows) (g : is_assignment rows e ≡ true) → number_at rows (number_at rows e 1) 0 ≡ 2 → (p v : ℕ) → p ≡ number_at rows e 1 → v ≡ number_at rows e 2
      → operation_parts (assigned (number_at rows p 1) (expression_at rows v)) ≡ operation_parts (operation_of (expression_at rows e))
  assign-five e n g k p v a b = rw (a, b, (assign-parts e n g).is, variable-place (number_at rows e 1) k)

  pub assign-fits : (e : ℕ) (n : e < row_count rows) (g : is_assignment rows e ≡ true) → number_at rows (number_at rows e 1) 0 ≡ 2 → fits_variable rows (number_at rows e 2) ≡ true
  assign-fits e n g k = rw (eq-eqb (number_at rows (number_at rows e 1) 0) 2 k) at (assign-parts e n g).fits-value
