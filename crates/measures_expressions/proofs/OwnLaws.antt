-- What an expression's own row brings, kind by kind.
use mathlib.Core.Path.{◌≡◌, refl, sym, ap, ap₂, subst, ◌∙◌}
use mathlib.Core.Bool.{Bool, true, false}
use mathlib.Core.List.{List}
use Prim.Native.Nat.{ℕ, ◌+◌, ◌*◌, ◌-◌, ◌<◌}
use native.Mathlib.Omega.{arith}
use lib.Dec.{eqb}
use lib.IntN.{ℤ}
use borrow.Author.Tests.{eq-eqb, ne_eqb}
use Rattle.words.specs.Word.{pick}
use Rattle.words.specs.Laws.{by_cases}
use Rattle.words.specs.Table.{row_count}
use Rattle.words.specs.declared.Operator.{Operator}
use Rattle.language.specs.Trees.{Expression, assign, postfix, Place, variable, element, absent, present}
use Rattle.language.specs.Writes.{writes, index_writes}
use Rattle.language.specs.Decode.{place_of, expression_at}
use Rattle.language.specs.DecodeLaws.{part-some}
use Rattle.language_shapes.specs.Shapes.{place_tree, Onward}
use Rattle.language_shapes.specs.Source.{PlaceAt, ExpressionAt}
use Rattle.language_shapes.specs.declared.PlaceShape.{PlaceShape}
use Rattle.language_shapes.specs.declared.PlaceShape.TheVariants.{Variable, Element}
use Rattle.language_shapes.specs.declared.OperationShape.TheVariants.{Minus, Not, Binary, Comma, Assign, Compound, Prefix}
use Rattle.language_shapes.specs.declared.ChoiceShape.TheVariants.{And, Or, Conditional}
use Rattle.language_shapes.specs.declared.ExpressionShape.TheVariants.{Number, Read, Operation, Choice}
use Rattle.translation.specs.Uses.{direct}
use Rattle.translation.specs.declared.Use.{Use}
use Rattle.translation.specs.declared.Use.TheVariants.{Dropped as dropped, Wanted as wanted, Stored as stored}
use Rattle.translation.specs.Translate.{Atom, number, word, top, held, atom_of, taken, result_levels}
use Rattle.translation.specs.TranslateSize.{index_rows, copy_rows, update_rows, own_rows}
use Rattle.translation.specs.Holding.{held_by}
use Rattle.translation.proofs.HeldCode.{taken-held, held-variable, held-by}
use Rattle.translation.proofs.TranslateBounds.{taken_most}
use Rattle.measures_table.specs.Parts.{called_in, index_of, update_own, first_operand, second_operand, third_operand, fourth_operand, above_first, first_copied, plain_atom, first_use, second_use, own_levels, plain_own, result_own, stored_own, comma_own, step_own, Operand, Brings, OwnAt, PlaceOwnAt}
use Rattle.measures_table.specs.Measures.{value_slot, slot_at, MeasuredFrom, StoreAsks, PostfixAt}
use Rattle.measures_table.specs.MeasureLaws.{at_some, link-measured}
use Rattle.measures_table.specs.declared.Own.{Own}
use Rattle.measures_table.specs.declared.PlaceOwn.{PlaceOwn}

-- ---- operands

module _ (rows : List ℤ) (row : ℕ) where
  nothing : Operand rows row 0 absent
  nothing = record { is = refl; onward = λ h. absurd (omega arith) }

  some : {link : ℕ} → Onward rows row link → Operand rows row link (present (expression_at rows link))
  some {link} o = record { is = part-some rows link (omega (arith, o.later)); onward = λ h. o }

  -- the index of a place that this row links
  indexed : {place index : ℕ} → Onward rows row place → Operand rows place index (index_of (place_of (expression_at rows place))) → Operand rows row index (index_of (place_of (expression_at rows place)))
  indexed {place} {index} o i = record {
    is = i.is;
    onward = λ h. let n = i.onward h in record { later = omega (arith, o.later, n.later); inside = n.inside };
  }

  -- the index of an element whose row this row links
  behind-place : {place index : ℕ} → Onward rows row place → Onward rows place index → Operand rows row index (present (expression_at rows index))
  behind-place {place} {index} o n = record { is = part-some rows index (omega (arith, n.later)); onward = λ h. record { later = omega (arith, o.later, n.later); inside = n.inside } }

-- ---- places

abbrev place_own : ℕ → ℕ → ℕ → PlaceOwn
place_own index n levels = record { index = index; rows = n; levels = levels }

module _ {rows : List ℤ} {row : ℕ} where
  pub own-variable-place : {i : ℕ} → PlaceAt rows row (Variable i) → PlaceOwnAt rows row (place_own 0 0 0)
  own-variable-place f = record {
    index = record { is = sym (ap index_of f.is); onward = λ h. absurd (omega arith) };
    rows_are = sym (ap index_rows f.is);
    levels_are = sym (ap (update_own (called_in rows)) f.is);
  }

  pub own-element-place : {array index t : ℕ} → PlaceAt rows row (Element array index) → t ≡ taken (atom_of (called_in rows) (expression_at rows index)) → PlaceOwnAt rows row (place_own index 1 (2 + t))
  own-element-place {array} {index} f e = record {
    index = record { is = part-some rows index (omega (arith, f.onward.1.later)) ∙ sym (ap index_of f.is); onward = λ h. f.onward.1 };
    rows_are = sym (ap index_rows f.is);
    levels_are = ap (λ (n : ℕ). 2 + n) e ∙ sym (ap (update_own (called_in rows)) f.is);
  }

-- ---- expressions, kind by kind

pub copy-taken : (h : Atom) → copy_rows h ≡ 4 - 4 * taken h
copy-taken (number v) = refl
copy-taken (word i) = refl
copy-taken top = refl

update-rows : (p : Place) → 6 + 10 * index_rows p ≡ update_rows p
update-rows (variable i) = refl
update-rows (element array e) = refl

-- the row that the value of an assignment to an element comes from
pub value-own : (k row other : ℕ) → k ≡ 1 → row ≡ pick (eqb k 1) row other
value-own k row other e = rw (eq-eqb k 1 e)

pub value-other : (k row : ℕ) {other x : ℕ} → (k ≡ 1 → ⊥) → x ≡ other → x ≡ pick (eqb k 1) row other
value-other k row n e = rw (ne_eqb k 1 n) e

copies_of : (called : ℕ → ℕ → Bool) {d e : Expression} {k : ℕ} → d ≡ e → k ≡ first_copied called d → k ≡ first_copied called e
copies_of called is ek = ek ∙ ap (first_copied called) is

module _ {rows : List ℤ} {row : ℕ} where
  own-by : {e : Expression} {o o' : Own} → expression_at rows row ≡ e → Brings rows row e o' → o ≡ o' → OwnAt rows row o
  own-by {e} {o} {o'} is b h = subst (λ (x : Expression). Brings rows row x o) (sym is) (rw h b)

  -- whose own code does not depend on the use of its value
  own-plain : {e : Expression} (a b c d above n levels value : ℕ) → expression_at rows row ≡ e
      → Operand rows row a (first_operand (called_in rows) e) → Operand rows row b (second_operand (called_in rows) e) → Operand rows row c (third_operand (called_in rows) e) → Operand rows row d (fourth_operand (called_in rows) e) → wanted ≡ first_use e → ((u : Use) → wanted ≡ second_use e u)
      → above ≡ above_first (called_in rows) e → ((u : Use) → n ≡ own_rows (called_in rows) e u) → ((u : Use) → levels ≡ own_levels (called_in rows) e u) → plain_atom (called_in rows) (expression_at rows value) ≡ atom_of (called_in rows) e → value < row_count rows
      → {o : Own} → o ≡ plain_own a b c d above n levels value → OwnAt rows row o
  own-plain a b c d above n levels value is pa pb pc pd f s ea en el ev iv h = own-by is (record {
    first = pa;
    second = pb;
    third = pc;
    fourth = pd;
    first-use = f;
    first_fits = tt;
    second-use = s;
    above-is = ea;
    rows_are = en wanted;
    levels_are = el wanted;
    dropped_rows_are = en dropped;
    dropped_levels_are = el dropped;
    stored_levels_are = el (stored 0);
    value_is = ev;
    value_inside = iv;
  }) h

  -- an element or an operation
  own-result : {e : Expression} (a b above n : ℕ) → expression_at rows row ≡ e → row < row_count rows
      → Operand rows row a (first_operand (called_in rows) e) → Operand rows row b (second_operand (called_in rows) e) → Operand rows row 0 (third_operand (called_in rows) e) → Operand rows row 0 (fourth_operand (called_in rows) e) → wanted ≡ first_use e → ((u : Use) → wanted ≡ second_use e u)
      → above ≡ above_first (called_in rows) e → ((u : Use) → n ≡ own_rows (called_in rows) e u) → ((u : Use) → result_levels u ≡ own_levels (called_in rows) e u) → plain_atom (called_in rows) e ≡ atom_of (called_in rows) e
      → {o : Own} → o ≡ result_own a b above n row → OwnAt rows row o
  own-result a b above n is inside pa pb pc pd f s ea en el ev h = own-by is (record {
    first = pa;
    second = pb;
    third = pc;
    fourth = pd;
    first-use = f;
    first_fits = tt;
    second-use = s;
    above-is = ea;
    rows_are = en wanted;
    levels_are = el wanted;
    dropped_rows_are = en dropped;
    dropped_levels_are = el dropped;
    stored_levels_are = el (stored 0);
    value_is = ap (plain_atom (called_in rows)) is ∙ ev;
    value_inside = inside;
  }) h

  module _ (inside : row < row_count rows) where
    pub own-number : {v : ℤ} {o : Own} → ExpressionAt rows row (Number v) → o ≡ plain_own 0 0 0 0 0 0 0 row → OwnAt rows row o
    unfolding atom_of
    own-number f h = own-plain 0 0 0 0 0 0 0 row f.is (nothing rows row) (nothing rows row) (nothing rows row) (nothing rows row) refl (λ u. refl) refl (λ u. refl) (λ u. refl) (ap (plain_atom (called_in rows)) f.is) inside h

    pub own-variable : {i : ℕ} {o : Own} → ExpressionAt rows row (Read (Variable i)) → o ≡ plain_own 0 0 0 0 0 0 0 row → OwnAt rows row o
    unfolding atom_of
    own-variable f h = own-plain 0 0 0 0 0 0 0 row f.is (nothing rows row) (nothing rows row) (nothing rows row) (nothing rows row) refl (λ u. refl) refl (λ u. refl) (λ u. refl) (ap (plain_atom (called_in rows)) f.is) inside h

    pub own-element : {array index : ℕ} {o : Own} → ExpressionAt rows row (Read (Element array index)) → o ≡ result_own index 0 0 5 row → OwnAt rows row o
    unfolding atom_of
    own-element {array} {index} f h = own-result index 0 0 5 f.is inside (some rows row f.onward.1) (nothing rows row) (nothing rows row) (nothing rows row) refl (λ u. refl) refl (λ u. refl) (λ u. refl) refl h

    pub own-minus : {a : ℕ} {o : Own} → ExpressionAt rows row (Operation (Minus a)) → o ≡ result_own a 0 0 5 row → OwnAt rows row o
    unfolding atom_of
    own-minus {a} f h = own-result a 0 0 5 f.is inside (some rows row f.onward) (nothing rows row) (nothing rows row) (nothing rows row) refl (λ u. refl) refl (λ u. refl) (λ u. refl) refl h

    pub own-not : {a : ℕ} {o : Own} → ExpressionAt rows row (Operation (Not a)) → o ≡ result_own a 0 0 6 row → OwnAt rows row o
    unfolding atom_of
    own-not {a} f h = own-result a 0 0 6 f.is inside (some rows row f.onward) (nothing rows row) (nothing rows row) (nothing rows row) refl (λ u. refl) refl (λ u. refl) (λ u. refl) refl h

    pub own-binary : {operator : Operator} {a b t k : ℕ} {o : Own} → ExpressionAt rows row (Operation (Binary operator a b)) → t ≡ taken (atom_of (called_in rows) (expression_at rows b)) → k ≡ first_copied (called_in rows) (expression_at rows row)
        → o ≡ result_own b a (t + k) (6 + 4 * k) row → OwnAt rows row o
    unfolding atom_of
    own-binary {operator} {a} {b} {t} {k} f et ek h =
        let copies = copies_of (called_in rows) f.is ek in
        own-result b a (t + k) (6 + 4 * k) f.is inside (some rows row f.onward.1) (some rows row f.onward.0) (nothing rows row) (nothing rows row) refl (λ u. refl)
        (ap₂ ◌+◌ et copies ∙ sym (taken-held (atom_of (called_in rows) (expression_at rows b)) (writes (called_in rows) (expression_at rows a)))) (λ u. ap (λ (n : ℕ). 6 + 4 * n) copies) (λ u. refl) refl h

    pub own-and : {a b : ℕ} {o : Own} → ExpressionAt rows row (Choice (And a b)) → o ≡ plain_own a 0 b 0 0 14 1 row → OwnAt rows row o
    unfolding atom_of
    own-and {a} {b} f h = own-plain a 0 b 0 0 14 1 row f.is (some rows row f.onward.0) (nothing rows row) (some rows row f.onward.1) (nothing rows row) refl (λ u. refl) refl (λ u. refl) (λ u. refl) (ap (plain_atom (called_in rows)) f.is) inside h

    pub own-or : {a b : ℕ} {o : Own} → ExpressionAt rows row (Choice (Or a b)) → o ≡ plain_own a 0 b 0 0 14 1 row → OwnAt rows row o
    unfolding atom_of
    own-or {a} {b} f h = own-plain a 0 b 0 0 14 1 row f.is (some rows row f.onward.0) (nothing rows row) (some rows row f.onward.1) (nothing rows row) refl (λ u. refl) refl (λ u. refl) (λ u. refl) (ap (plain_atom (called_in rows)) f.is) inside h

    pub own-conditional : {c a b t t' : ℕ} {o : Own} → ExpressionAt rows row (Choice (Conditional c a b)) → t ≡ taken (atom_of (called_in rows) (expression_at rows a)) → t' ≡ taken (atom_of (called_in rows) (expression_at rows b))
        → o ≡ plain_own c 0 a b 0 (12 - 4 * t - 4 * t') 1 row → OwnAt rows row o
    unfolding atom_of
    own-conditional {c} {a} {b} {t} {t'} f et eu h =
        own-plain c 0 a b 0 (12 - 4 * t - 4 * t') 1 row f.is (some rows row f.onward.0) (nothing rows row) (some rows row f.onward.1) (some rows row f.onward.2) refl (λ u. refl) refl
        (λ u. omega (arith, copy-taken (atom_of (called_in rows) (expression_at rows a)), copy-taken (atom_of (called_in rows) (expression_at rows b)), taken_most (atom_of (called_in rows) (expression_at rows a)), taken_most (atom_of (called_in rows) (expression_at rows b))))
        (λ u. refl) (ap (plain_atom (called_in rows)) f.is) inside h

    pub own-compound : {operator : Operator} {place v k : ℕ} {p : PlaceOwn} {o : Own} → ExpressionAt rows row (Operation (Compound operator place v)) → PlaceOwnAt rows place p → k ≡ first_copied (called_in rows) (expression_at rows row)
        → o ≡ plain_own v p.index 0 0 p.rows (6 + 10 * p.rows + 4 * k) p.levels row → OwnAt rows row o
    unfolding atom_of
    own-compound {operator} {place} {v} {k} {p} f q ek h =
        own-plain v p.index 0 0 p.rows (6 + 10 * p.rows + 4 * k) p.levels row f.is (some rows row f.onward.1) (indexed rows row f.onward.0 q.index) (nothing rows row) (nothing rows row) refl (λ u. refl) q.rows_are
        (λ u. ap₂ (λ (n m : ℕ). n + 4 * m) (ap (λ (n : ℕ). 6 + 10 * n) q.rows_are ∙ update-rows (place_of (expression_at rows place))) (copies_of (called_in rows) f.is ek)) (λ u. q.levels_are) (ap (plain_atom (called_in rows)) f.is) inside h

    pub own-prefix : {operator : Operator} {place : ℕ} {p : PlaceOwn} {o : Own} → ExpressionAt rows row (Operation (Prefix operator place)) → PlaceOwnAt rows place p
        → o ≡ plain_own 0 p.index 0 0 p.rows (6 + 10 * p.rows) p.levels row → OwnAt rows row o
    unfolding atom_of
    own-prefix {operator} {place} {p} f q h =
        own-plain 0 p.index 0 0 p.rows (6 + 10 * p.rows) p.levels row f.is (nothing rows row) (indexed rows row f.onward q.index) (nothing rows row) (nothing rows row) refl (λ u. refl) q.rows_are
        (λ u. ap (λ (n : ℕ). 6 + 10 * n) q.rows_are ∙ update-rows (place_of (expression_at rows place))) (λ u. q.levels_are) (ap (plain_atom (called_in rows)) f.is) inside h

    -- e++ and e−−, by the place
    postfix-tree : {place : ℕ} {p : PlaceShape} (f : PostfixAt rows row place) → PlaceAt rows place p → expression_at rows row ≡ postfix f.operator (place_tree rows p)
    postfix-tree f g = f.is ∙ ap (postfix f.operator) g.is

    pub own-step-variable : {place i : ℕ} {o : Own} → PostfixAt rows row place → PlaceAt rows place (Variable i) → o ≡ step_own row → OwnAt rows row o
    unfolding atom_of
    own-step-variable f g h = let is = postfix-tree f g in own-by is (record {
      first = nothing rows row;
      second = nothing rows row;
      third = nothing rows row;
      fourth = nothing rows row;
      first-use = refl;
      first_fits = tt;
      second-use = λ u. refl;
      above-is = refl;
      rows_are = refl;
      levels_are = refl;
      dropped_rows_are = refl;
      dropped_levels_are = refl;
      stored_levels_are = refl;
      value_is = ap (plain_atom (called_in rows)) is;
      value_inside = inside;
    }) h

    pub own-step-element : {place array index t : ℕ} {o : Own} → PostfixAt rows row place → PlaceAt rows place (Element array index) → t ≡ taken (atom_of (called_in rows) (expression_at rows index)) → o ≡ plain_own 0 index 0 0 1 16 (2 + t) row → OwnAt rows row o
    unfolding atom_of
    own-step-element {place} {array} {index} {t} f g et h =
        let is = postfix-tree f g in
        own-plain 0 index 0 0 1 16 (2 + t) row is (nothing rows row) (behind-place rows row f.onward g.onward.1) (nothing rows row) (nothing rows row) refl (λ u. refl) refl (λ u. refl) (λ u. ap (λ (n : ℕ). 2 + n) et) (ap (plain_atom (called_in rows)) is) inside h

  -- whose value comes from where an operand's comes from
  module _ {table : List ℕ} (m : MeasuredFrom rows table (row + 1)) where
    value-of : {link value : ℕ} → Onward rows row link → value ≡ slot_at table link value_slot → (plain_atom (called_in rows) (expression_at rows value) ≡ atom_of (called_in rows) (expression_at rows link)) × (value < row_count rows)
    value-of {link} {value} o e =
        let found = (link-measured rows table link m o).expression in
        rw (e ∙ at_some table link value_slot (omega (arith, o.later))) (found.value_is, found.value_inside)

    pub own-comma : {a b : ℕ} {o : Own} → ExpressionAt rows row (Operation (Comma a b)) → o ≡ comma_own a b (slot_at table b value_slot) → OwnAt rows row o
    unfolding atom_of
    own-comma {a} {b} f h =
        let found = value-of f.onward.1 refl in
        own-by f.is (record {
          first = some rows row f.onward.0;
          second = some rows row f.onward.1;
          third = nothing rows row;
          fourth = nothing rows row;
          first-use = refl;
          first_fits = tt;
          second-use = λ u. refl;
          above-is = refl;
          rows_are = refl;
          levels_are = refl;
          dropped_rows_are = refl;
          dropped_levels_are = refl;
          stored_levels_are = refl;
          value_is = found.0;
          value_inside = found.1;
        }) h

    -- an assignment to an element: its value comes from its own row, where it was copied, or from where its right side's comes from
    assigned : (array index v : ℕ) {k value : ℕ} → row < row_count rows → Onward rows row v → expression_at rows row ≡ assign (element array (expression_at rows index)) (expression_at rows v) → k ≡ first_copied (called_in rows) (expression_at rows row)
        → value ≡ pick (eqb k 1) row (slot_at table v value_slot)
        → (plain_atom (called_in rows) (expression_at rows value) ≡ held (atom_of (called_in rows) (expression_at rows v)) (index_writes (called_in rows) (element array (expression_at rows index)))) × (value < row_count rows)
    assigned array index v {k} {value} inside o is ek ev =
        let h = atom_of (called_in rows) (expression_at rows v) in
        let W = index_writes (called_in rows) (element array (expression_at rows index)) in
        let copies = copies_of (called_in rows) is ek in
        let holds = held-by h W ∙ ap (λ (n : ℕ). held_by n h) (sym copies) in
        by_cases (eqb k 1)
        (λ b. let own = rw b at ev in (ap (λ (n : ℕ). plain_atom (called_in rows) (expression_at rows n)) own ∙ ap (plain_atom (called_in rows)) is ∙ sym (rw b at holds), omega (arith, own, inside)))
        (λ b. let found = value-of o (rw b at ev) in (found.0 ∙ sym (rw b at holds), found.1))

    assign-tree : {place v : ℕ} {p : PlaceShape} → ExpressionAt rows row (Operation (Assign place v)) → PlaceAt rows place p → expression_at rows row ≡ assign (place_tree rows p) (expression_at rows v)
    assign-tree {place} {v} f g = f.is ∙ ap (λ (q : Place). assign q (expression_at rows v)) g.is

    pub own-assign : {place array index v t k value : ℕ} {o : Own} → row < row_count rows → ExpressionAt rows row (Operation (Assign place v)) → PlaceAt rows place (Element array index) → t ≡ taken (atom_of (called_in rows) (expression_at rows v)) → k ≡ first_copied (called_in rows) (expression_at rows row)
        → value ≡ pick (eqb k 1) row (slot_at table v value_slot) → o ≡ plain_own v index 0 0 (t + k) (5 + 4 * k) 0 value → OwnAt rows row o
    unfolding atom_of
    own-assign {place} {array} {index} {v} {t} {k} {value} inside f g et ek ev h =
        let is = assign-tree f g in
        let copies = copies_of (called_in rows) is ek in
        let found = assigned array index v inside f.onward.1 is ek ev in
        own-plain v index 0 0 (t + k) (5 + 4 * k) 0 value is (some rows row f.onward.1) (behind-place rows row f.onward.0 g.onward.1) (nothing rows row) (nothing rows row) refl (λ u. refl)
        (ap₂ ◌+◌ et copies ∙ sym (taken-held (atom_of (called_in rows) (expression_at rows v)) (index_writes (called_in rows) (element array (expression_at rows index)))))
        (λ u. ap (λ (n : ℕ). 5 + 4 * n) copies) (λ u. refl) found.0 found.1 h

    -- an assignment to a variable
    pub store_asks : {place i v : ℕ} → row < row_count rows → ExpressionAt rows row (Operation (Assign place v)) → PlaceAt rows place (Variable i) → StoreAsks rows table row i v
    store_asks inside f g = record { measured = m; inside = inside; is = assign-tree f g; onward = f.onward.1; low = g.onward.low }

-- the value of an assignment to a variable, and its rows
landed-atom : (called : ℕ → ℕ → Bool) (i : ℕ) (e : Expression) → atom_of called (assign (variable i) e) ≡ pick (direct e) (word i) (atom_of called e)
unfolding atom_of
landed-atom called i e = held-variable called (pick (direct e) (word i) (atom_of called e)) i

store-rows : (called : ℕ → ℕ → Bool) (i : ℕ) (e : Expression) (u : Use) → own_rows called (assign (variable i) e) u ≡ pick (direct e) 0 4
store-rows called i e u = rw (held-variable called (pick (direct e) (word i) (atom_of called e)) i) (omega arith)

module _ {rows : List ℤ} {table : List ℕ} {row i v : ℕ} (asks : StoreAsks rows table row i v) where
  own-stored : (above n value : ℕ) → above ≡ taken (pick (direct (expression_at rows v)) (word i) (atom_of (called_in rows) (expression_at rows v))) → n ≡ pick (direct (expression_at rows v)) 0 4
      → plain_atom (called_in rows) (expression_at rows value) ≡ pick (direct (expression_at rows v)) (word i) (atom_of (called_in rows) (expression_at rows v)) → value < row_count rows → {o : Own} → o ≡ stored_own i v above n value → OwnAt rows row o
  own-stored above n value ea en ev iv h =
      let e = expression_at rows v in
      let same : (u : Use) → n ≡ own_rows (called_in rows) (assign (variable i) e) u = λ u. en ∙ sym (store-rows (called_in rows) i e u) in
      own-by asks.is (record {
        first = some rows row asks.onward;
        second = nothing rows row;
        third = nothing rows row;
        fourth = nothing rows row;
        first-use = refl;
        first_fits = asks.low;
        second-use = λ u. refl;
        above-is = ea ∙ ap taken (sym (held-variable (called_in rows) (pick (direct e) (word i) (atom_of (called_in rows) e)) i));
        rows_are = same wanted;
        levels_are = refl;
        dropped_rows_are = same dropped;
        dropped_levels_are = refl;
        stored_levels_are = refl;
        value_is = ev ∙ sym (landed-atom (called_in rows) i e);
        value_inside = iv;
      }) h

  -- what goes straight into the variable
  pub own-straight : {o : Own} → direct (expression_at rows v) ≡ true → o ≡ stored_own i v 0 0 row → OwnAt rows row o
  own-straight d h = own-stored 0 0 row (rw d) (rw d) (ap (plain_atom (called_in rows)) asks.is ∙ rw d) asks.inside h

  -- and what an atom brings there
  pub own-moved : {t value : ℕ} {o : Own} → direct (expression_at rows v) ≡ false → t ≡ taken (atom_of (called_in rows) (expression_at rows v)) → value ≡ slot_at table v value_slot → o ≡ stored_own i v t 4 value → OwnAt rows row o
  own-moved {t} {value} d et ev h =
      let found = value-of asks.measured asks.onward ev in
      own-stored t 4 value (rw d et) (rw d) (rw d found.0) found.1 h
