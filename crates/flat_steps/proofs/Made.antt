-- Made: what a line of each kind asks, and what it does next, told by what its function reads and computes.
use Rattle.std.specs.Prelude.{Err, None, Ok, Option, Some, Result, ok_or}
use Rattle.words.specs.declared.FaultSort.{FaultSort}
use mathlib.Core.Path.{◌≡◌, refl, sym, ap, ◌∙◌, subst}
use mathlib.Core.Bool.{Bool, true, false, true≢false}
use mathlib.Core.List.{List}
use Prim.Native.Nat.{ℕ, ◌+◌, ◌-◌, ◌*◌, ◌^◌, ◌<◌}
use native.Mathlib.Omega.{arith}
use native.Mathlib.Numerals.{add-one}
use lib.Dec.{leb}
use lib.IntN.{ℤ, pos}
use lib.ListN.{length, get_or}
use lib.Signed.{mag}
use borrow.Author.Tests.{leb-true, le-leb, ne_eqb}
use Rattle.words.specs.Word.{natural}
use Rattle.words.specs.Kinds.{between, array, operator_of}
use Rattle.words.specs.Layout.{Layout, store_size, array_base, array_length}
use Rattle.arithmetic.specs.Arithmetic.{is_true, apply, minus as minus_word, element as element_word}
use Rattle.words.specs.Laws.{back, both, array-in-store}
use Rattle.arithmetic.proofs.Laws.{element-inside}
use Rattle.words.specs.declared.FaultSort.TheVariants.{Index, Guard}
use Rattle.words.specs.declared.Operator.{Operator}
use Rattle.check_fields.specs.Fields.{bounds_in}
use Rattle.check_fields.specs.declared.Bounds.{Bounds}
use Rattle.machine_operations.specs.Bounds.{layout_from}
use Rattle.machine_operations.proofs.Bounds.{Lies, lies_in}
use Rattle.flat.specs.Lines.{operate, fetch, does, value_of, stored, onward, next_of}
use Rattle.flat.specs.Words.{target_of, Parts, parts, line_of, line_count, field_at, operation_at, kind_of, left_constant, right_constant, operand_of, parts_at, line_at}
use Rattle.flat.specs.Legal.{NamesVariable, NamesArray, WithinOperand, Within}
use Rattle.flat.specs.LineKinds.{LineKind, copies, fetches, negates, operates, puts, jumps_at_zero, jumps_otherwise, jumps, aborts}
use Rattle.flat.proofs.Accepts.{Small, variable-below, array-below}
use Rattle.flat.proofs.WordsLaws.{operator-few}
use Rattle.language_emission.specs.Emission.{operator_number}
use Rattle.flat_steps.specs.Steps.{Makes, ReadyOperand, ReadyJump, ReadyLine, OfKind}
use Rattle.flat_steps.proofs.Handed.{again}

-- ---- what a line asks

module _ {bounds : List ℕ} {list : List ℤ} {words line operation kind : ℕ} (o : OfKind bounds list words line operation kind) where
  -- its parts, as the code takes them apart
  abbrev pub parts_is : Parts
  parts_is = parts kind (natural (field_at list line 1)) (operand_of (left_constant operation) (field_at list line 2)) (operand_of (right_constant operation) (field_at list line 3)) (field_at list line 4)

  -- the numbers that it may name
  abbrev pub numbers_is : Bounds
  numbers_is = bounds_in (layout_from bounds) o.ready.setting.declared words

  pub line-is : line_at list line ≡ line_of line parts_is
  unfolding line_at parts_at
  line-is = rw (← o.operation_is, o.kind_is)

  pub within-is : Within numbers_is (line_count list) (line_of line parts_is)
  within-is = subst (λ x. Within numbers_is (line_count list) x) line-is (o.ready.setting.within line o.ready.inside)

  pub small : Small numbers_is
  unfolding store_size
  small =
      let s = o.ready.setting in
      record { few_variables = omega (arith, s.store_fits); few_words = s.few_words; few_arrays = s.few_arrays }

  pub field-inside : (field : ℕ) → field < 5 → 5 * line + field < length list
  field-inside field h = omega (arith, o.ready.inside)

  pub variable-inside : (n : ℕ) → NamesVariable numbers_is n → n < words
  variable-inside n e = variable-below numbers_is small n e

  pub operand-ready : (field : ℕ) → field < 5 → (constant c : Bool) → c ≡ constant → WithinOperand numbers_is (operand_of constant (field_at list line field)) → ReadyOperand list line field c words
  operand-ready field h constant c e w =
      record { inside = field-inside field h; named = λ f. named constant (sym e ∙ f) w; few_words = omega (arith, o.ready.setting.few_words) }
    where
      named : (b : Bool) → b ≡ false → WithinOperand numbers_is (operand_of b (field_at list line field)) → natural (field_at list line field) < words
      named true e w = absurd (true≢false e)
      named false e w = variable-inside (natural (field_at list line field)) w

  pub jump-ready : ReadyJump list line
  jump-ready = record { inside = o.ready.inside; lands = o.ready.setting.lands line o.ready.inside }

  -- where an array lies
  pub lies : (n : ℕ) → NamesArray numbers_is n → Lies (layout_from bounds) bounds n
  lies n e =
      let s = o.ready.setting in
      lies_in bounds words s.bounds_are s.store_fits (omega (arith, s.few_words)) n (array-below numbers_is small n e)

  -- an element that the bounds test lets through lies in the store
  pub element-inside-store : (n : ℕ) → NamesArray numbers_is n → (v : ℤ) (at : ℕ) → element_word (get_or bounds n 0) (get_or bounds (n + 1) 0 - get_or bounds n 0) v ≡ Ok at → at < words
  element-inside-store n e v at f =
      let L = layout_from bounds in
      let s = o.ready.setting in
      let here = lies n e in
      let inside = element-inside (get_or bounds n 0) (get_or bounds (n + 1) 0 - get_or bounds n 0) v at f in
      let most = array-in-store L n (array-below numbers_is small n e) in
      omega (arith, inside.most, here.base, here.span, s.store_fits)

-- the bounds test, with the array and the index as the code reads them
element-is : (bounds : List ℕ) (L : Layout) (n array : ℕ) → array ≡ n → Lies L bounds n → (v x : ℤ) → mag v < 2 ^ 31 → v ≡ x → (l : Result ℕ FaultSort) → l ≡ element_word (get_or bounds array 0) (get_or bounds (array + 1) 0 - get_or bounds array 0) (again v)
    → element_word (array_base L n) (array_length L n) x ≡ l
element-is bounds L n array ae lie v x h ve l le = sym (rw (ae, lie.span, lie.base, back v h, ve) at le)

-- ---- what it does next

module _ {bounds : List ℕ} {list : List ℤ} {words line operation : ℕ} (s : List ℤ) where
  module _ (o : OfKind bounds list words line operation 1) where
    pub copy-next : (c : Bool) → c ≡ left_constant operation → (target : ℕ) → target ≡ natural (field_at list line 1) → (v : ℤ) → mag v < 2 ^ 31 → v ≡ value_of (operand_of c (field_at list line 2)) s
        → onward line (stored target s (Ok (again v))) ≡ next_of (layout_from bounds) (line_at list line) line s
    copy-next c ce target te v h ve = rw (line-is o, te, back v h, ve, ce)

  module _ (o : OfKind bounds list words line operation 4) where
    pub negate-next : (c : Bool) → c ≡ left_constant operation → (target : ℕ) → target ≡ natural (field_at list line 1) → (v : ℤ) → mag v < 2 ^ 31 → v ≡ value_of (operand_of c (field_at list line 2)) s
        → (m : Result ℤ FaultSort) → m ≡ minus_word (again v) → onward line (stored target s m) ≡ next_of (layout_from bounds) (line_at list line) line s
    negate-next c ce target te v h ve m me = rw (line-is o, te, me, back v h, ve, ce)

  module _ {kind : ℕ} (o : OfKind bounds list words line operation kind) (k : between 6 16 kind ≡ true) where
    operate-line : line_of line (parts_is o) ≡ does (operate (operator_of (kind - 6)) (natural (field_at list line 1)) (operand_of (left_constant operation) (field_at list line 2)) (operand_of (right_constant operation) (field_at list line 3)))
    operate-line =
        let least = leb-true 6 kind (both (leb 6 kind) (leb kind 16) k).0 in
        let most = leb-true kind 16 (both (leb 6 kind) (leb kind 16) k).1 in
        rw (ne_eqb kind 1 (λ e. omega arith), ne_eqb kind 3 (λ e. omega arith), ne_eqb kind 4 (λ e. omega arith), ne_eqb kind 21 (λ e. omega arith), ne_eqb kind 43 (λ e. omega arith), ne_eqb kind 44 (λ e. omega arith), ne_eqb kind 52 (λ e. omega arith), ne_eqb kind 57 (λ e. omega arith))

    pub operate-within : NamesVariable (numbers_is o) (natural (field_at list line 1))
        × WithinOperand (numbers_is o) (operand_of (left_constant operation) (field_at list line 2)) × WithinOperand (numbers_is o) (operand_of (right_constant operation) (field_at list line 3))
    operate-within = subst (λ x. Within (numbers_is o) (line_count list) x) operate-line (within-is o)

    pub operate-next : (c d : Bool) → c ≡ left_constant operation → d ≡ right_constant operation → (target : ℕ) → target ≡ natural (field_at list line 1)
        → (v w : ℤ) → mag v < 2 ^ 31 → mag w < 2 ^ 31 → v ≡ value_of (operand_of c (field_at list line 2)) s → w ≡ value_of (operand_of d (field_at list line 3)) s
        → (p : Operator) → p ≡ operator_of (kind - 6) → (m : Result ℤ FaultSort) → m ≡ apply p (again v) (again w) → onward line (stored target s m) ≡ next_of (layout_from bounds) (line_at list line) line s
    operate-next c d ce de target te v w h g ve we p pe m me = rw (line-is o, operate-line, te, me, pe, back v h, back w g, ve, we, ce, de)

  module _ (o : OfKind bounds list words line operation 3) where
    plain-left : left_constant operation ≡ false
    plain-left = ap left_constant o.operation_is ∙ o.ready.setting.array_left line o.ready.inside (ap kind_of (sym o.operation_is) ∙ o.kind_is)

    fetch-line : line_of line (parts_is o) ≡ does (fetch (natural (field_at list line 1)) (natural (field_at list line 2)) (operand_of (right_constant operation) (field_at list line 3)))
    fetch-line = rw plain-left

    pub fetch-within : NamesVariable (numbers_is o) (natural (field_at list line 1)) × NamesArray (numbers_is o) (natural (field_at list line 2))
        × WithinOperand (numbers_is o) (operand_of (right_constant operation) (field_at list line 3))
    fetch-within = subst (λ x. Within (numbers_is o) (line_count list) x) fetch-line (within-is o)

    module _ (d : Bool) (de : d ≡ right_constant operation) (array : ℕ) (ae : array ≡ natural (field_at list line 2)) (v : ℤ) (h : mag v < 2 ^ 31)
        (ve : v ≡ value_of (operand_of d (field_at list line 3)) s) (l : Result ℕ FaultSort) (le : l ≡ element_word (get_or bounds array 0) (get_or bounds (array + 1) 0 - get_or bounds array 0) (again v)) where
      fetch-element : element_word (array_base (layout_from bounds) (natural (field_at list line 2))) (array_length (layout_from bounds) (natural (field_at list line 2))) (value_of (operand_of (right_constant operation) (field_at list line 3)) s) ≡ l
      fetch-element = element-is bounds (layout_from bounds) (natural (field_at list line 2)) array ae (lies o (natural (field_at list line 2)) fetch-within.1) v _ h (ve ∙ ap (λ b. value_of (operand_of b (field_at list line 3)) s) de) l le

      pub fetch-fails : (sort : FaultSort) → l ≡ Err sort → Makes s (Err sort) s (next_of (layout_from bounds) (line_at list line) line s)
      fetch-fails sort e = rw (line-is o ∙ fetch-line, fetch-element, e) (refl, refl)

      pub fetch-next : (at : ℕ) → l ≡ Ok at → (target : ℕ) → target ≡ natural (field_at list line 1) → (w : ℤ) → mag w < 2 ^ 31 → w ≡ get_or s at (pos 0)
          → onward line (stored target s (Ok (again w))) ≡ next_of (layout_from bounds) (line_at list line) line s
      fetch-next at e target te w g we = rw (line-is o ∙ fetch-line, fetch-element, e, te, back w g, we)

      pub fetch-inside : (at : ℕ) → l ≡ Ok at → at < words
      fetch-inside at e = element-inside-store o (natural (field_at list line 2)) fetch-within.1 (again v) at (rw ae at (sym le ∙ e))

  module _ (o : OfKind bounds list words line operation 21) (c d : Bool) (ce : c ≡ left_constant operation) (de : d ≡ right_constant operation) (array : ℕ) (ae : array ≡ natural (field_at list line 1))
      (v : ℤ) (h : mag v < 2 ^ 31) (ve : v ≡ value_of (operand_of c (field_at list line 2)) s) (l : Result ℕ FaultSort) (le : l ≡ element_word (get_or bounds array 0) (get_or bounds (array + 1) 0 - get_or bounds array 0) (again v)) where
    put-element : element_word (array_base (layout_from bounds) (natural (field_at list line 1))) (array_length (layout_from bounds) (natural (field_at list line 1))) (value_of (operand_of (left_constant operation) (field_at list line 2)) s) ≡ l
    put-element = element-is bounds (layout_from bounds) (natural (field_at list line 1)) array ae (lies o (natural (field_at list line 1)) (within-is o).0) v _ h (ve ∙ ap (λ b. value_of (operand_of b (field_at list line 2)) s) ce) l le

    pub put-fails : (sort : FaultSort) → l ≡ Err sort → Makes s (Err sort) s (next_of (layout_from bounds) (line_at list line) line s)
    put-fails sort e = rw (line-is o, put-element, e) (refl, refl)

    pub put_next : (at : ℕ) → l ≡ Ok at → (w : ℤ) → mag w < 2 ^ 31 → w ≡ value_of (operand_of d (field_at list line 3)) s
        → onward line (stored at s (Ok (again w))) ≡ next_of (layout_from bounds) (line_at list line) line s
    put_next at e w g we = rw (line-is o, put-element, e, back w g, we, de)

    pub put-inside : (at : ℕ) → l ≡ Ok at → at < words
    put-inside at e =
        element-inside-store o (natural (field_at list line 1)) (within-is o).0 (again v) at (rw ae at (sym le ∙ e))

  -- ---- jumps

  module _ (o : OfKind bounds list words line operation 43) (c : Bool) (ce : c ≡ left_constant operation) (v : ℤ) (h : mag v < 2 ^ 31) (ve : v ≡ value_of (operand_of c (field_at list line 2)) s) (t : Bool) (te : t ≡ is_true (again v)) where
    zero_test : is_true (value_of (operand_of (left_constant operation) (field_at list line 2)) s) ≡ t
    zero_test = sym (te ∙ ap is_true (back v h ∙ ve ∙ ap (λ b. value_of (operand_of b (field_at list line 2)) s) ce))

    pub zero-stays : t ≡ true → Makes s (Ok (line + 1)) s (next_of (layout_from bounds) (line_at list line) line s)
    zero-stays e = rw (line-is o, zero_test, e) (ap Ok (add-one line), refl)

    pub zero-jumps : t ≡ false → (j : ℕ) → j ≡ target_of line (field_at list line 4) → Makes s (Ok j) s (next_of (layout_from bounds) (line_at list line) line s)
    zero-jumps e j je = rw (line-is o, zero_test, e) (ap Ok je, refl)

  module _ (o : OfKind bounds list words line operation 44) (c : Bool) (ce : c ≡ left_constant operation) (v : ℤ) (h : mag v < 2 ^ 31) (ve : v ≡ value_of (operand_of c (field_at list line 2)) s) (t : Bool) (te : t ≡ is_true (again v)) where
    other_test : is_true (value_of (operand_of (left_constant operation) (field_at list line 2)) s) ≡ t
    other_test = sym (te ∙ ap is_true (back v h ∙ ve ∙ ap (λ b. value_of (operand_of b (field_at list line 2)) s) ce))

    pub other-stays : t ≡ false → Makes s (Ok (line + 1)) s (next_of (layout_from bounds) (line_at list line) line s)
    other-stays e = rw (line-is o, other_test, e) (ap Ok (add-one line), refl)

    pub other-jumps : t ≡ true → (j : ℕ) → j ≡ target_of line (field_at list line 4) → Makes s (Ok j) s (next_of (layout_from bounds) (line_at list line) line s)
    other-jumps e j je = rw (line-is o, other_test, e) (ap Ok je, refl)

  pub jump-next : OfKind bounds list words line operation 52 → (j : ℕ) → j ≡ target_of line (field_at list line 4) → Makes s (Ok j) s (next_of (layout_from bounds) (line_at list line) line s)
  jump-next o j je = rw (line-is o) (ap Ok je, refl)

  pub abort_fails : OfKind bounds list words line operation 57 → Makes s (Err Guard) s (next_of (layout_from bounds) (line_at list line) line s)
  abort_fails o = rw (line-is o) (refl, refl)

-- ---- the kind that is left

pub last-kind : {k : ℕ} → LineKind k → between 6 16 k ≡ false → (k ≡ 1 → ⊥) → (k ≡ 43 → ⊥) → (k ≡ 52 → ⊥) → (k ≡ 3 → ⊥) → (k ≡ 21 → ⊥) → (k ≡ 44 → ⊥) → (k ≡ 57 → ⊥) → k ≡ 4
last-kind copies b a1 a43 a52 a3 a21 a44 a57 = absurd (a1 refl)
last-kind fetches b a1 a43 a52 a3 a21 a44 a57 = absurd (a3 refl)
last-kind negates b a1 a43 a52 a3 a21 a44 a57 = refl
last-kind (operates q e) b a1 a43 a52 a3 a21 a44 a57 = absurd (operator (rw e at b))
  where
    operator : between 6 16 (6 + operator_number q) ≡ false → ⊥
    operator f = true≢false (sym (rw (le-leb 6 (6 + operator_number q) (omega arith), le-leb (6 + operator_number q) 16 (omega (arith, operator-few q)))) ∙ f)
last-kind puts b a1 a43 a52 a3 a21 a44 a57 = absurd (a21 refl)
last-kind jumps_at_zero b a1 a43 a52 a3 a21 a44 a57 = absurd (a43 refl)
last-kind jumps_otherwise b a1 a43 a52 a3 a21 a44 a57 = absurd (a44 refl)
last-kind jumps b a1 a43 a52 a3 a21 a44 a57 = absurd (a52 refl)
last-kind aborts b a1 a43 a52 a3 a21 a44 a57 = absurd (a57 refl)

-- ---- what the code reads of a line first

pub small-operation : {bounds : List ℕ} {list : List ℤ} {words line : ℕ} → ReadyLine bounds list words line → natural (field_at list line 0) < 256
unfolding operation_at
small-operation {line = line} r = r.setting.small line r.inside

pub of-kind : {bounds : List ℕ} {list : List ℤ} {words line operation kind : ℕ} → ReadyLine bounds list words line → operation ≡ natural (field_at list line 0) → kind_of operation ≡ kind → OfKind bounds list words line operation kind
unfolding operation_at
of-kind r e k = record { ready = r; operation_is = e; kind_is = k }

pub kind-known : {bounds : List ℕ} {list : List ℤ} {words line operation kind : ℕ} → ReadyLine bounds list words line → operation ≡ natural (field_at list line 0) → kind ≡ kind_of operation → LineKind kind
unfolding operation_at
kind-known {line = line} r e k = rw (k, e) (r.setting.known line r.inside)
