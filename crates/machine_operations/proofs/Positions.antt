-- Positions that a place's answer gives lie in the store, since the table is sound.
use Rattle.std.specs.Prelude.{Option, Some, Err, Ok, Result}
use Rattle.words.specs.declared.FaultSort.{FaultSort}
use mathlib.Core.Path.{◌≡◌, refl, sym, ap, ◌∙◌}
use mathlib.Core.List.{List}
use Prim.Native.Nat.{ℕ, zero, suc, ◌^◌, ◌<◌}
use native.Mathlib.Omega.{arith}
use lib.IntN.{ℤ}
use lib.Signed.{mag}
use Rattle.words.specs.Table.{number_at}
use Rattle.words.specs.Kinds.{kinds, kind_in, kind_of, kind_at}
use Rattle.words.specs.KindLaws.{kind-numbered, place-cases}
use Rattle.words.specs.Layout.{array_base, array_length}
use Rattle.arithmetic.specs.Arithmetic.{element}
use Rattle.words.specs.Laws.{array-in-store}
use Rattle.arithmetic.proofs.Laws.{element-inside}
use Rattle.words.specs.declared.Kind.TheVariants.{OfExpression}
use Rattle.words.specs.declared.ExpressionKind.TheVariants.{Variable, Element}
use Rattle.computation.specs.Computation.{settle}
use Rattle.computation.specs.Remaining.{Rest, gives, halts, onward, spend}
use Rattle.machine_operations.specs.Answers.{operand_of, position_of, placed}
use Rattle.machine_operations.specs.Bounds.{layout_in}
use Rattle.machine_operations.specs.Ready.{ReadyPlace, Entered}
use Rattle.machine_operations.specs.Rows.{value_at, locate_at, place_at}
use Rattle.machine_operations.proofs.Decoding.{handed, handed-is}
use Rattle.machine_operations.proofs.Enter.{entered, not_entered}
use Rattle.machine_operations.proofs.Rows.{variable-inside, place-variable-row, element-array, locate-row}

-- the run of the place that this answer is of
pub given-at : {m : Rest ℕ} (r : ℤ) (n : ℕ) (s : List ℤ) → mag r < 2 ^ 63 → placed r n s ≡ m → (p : Option ℕ) → p ≡ position_of (operand_of (handed r)) → (i : ℕ) → p ≡ Some i → m ≡ gives i n s
given-at r n s fits h p e i q =
    let lies : position_of (operand_of r) ≡ Some i = ap (λ (z : ℤ). position_of (operand_of z)) (sym (handed-is r fits)) ∙ sym e ∙ q in
    sym h ∙ rw lies

same-position : {i j : ℕ} {n k : ℕ} {s t : List ℤ} → gives i n s ≡ gives j k t → i ≡ j
same-position e = cc

module _ {rows : List ℤ} {bounds : List ℕ} {words row : ℕ} where
  pub locate-inside : Entered rows bounds words row (OfExpression Element) → (n : ℕ) (s : List ℤ) (i k : ℕ) (t : List ℤ) → spend (locate_at rows bounds row) n s ≡ gives i k t → i < words
  unfolding spend
  locate-inside here n s i k t e = index (spend (value_at rows bounds (number_at rows row 2)) n s) (sym (locate-row here refl refl n s) ∙ e)
    where
      array : ℕ
      array = number_at rows row 1

      position : (o : Result ℕ FaultSort) (v : ℤ) (n : ℕ) (s : List ℤ) → o ≡ element (array_base (layout_in rows bounds) array) (array_length (layout_in rows bounds) array) v → spend (settle o) n s ≡ gives i k t → i < words
      position (Ok j) v n s q e =
          let same : j ≡ i = cc in
          let inside = element-inside _ _ v j (sym q) in
          omega (arith, inside.most, array-in-store (layout_in rows bounds) array (element-array here), here.ready.setting.sound.store_fits)
      position (Err sort) v n s q e = let z : ◌≡◌ {A = ℕ} 0 1 = cc in omega arith

      index : (m : Rest ℤ) → onward m (λ v n s. spend (settle (element (array_base (layout_in rows bounds) array) (array_length (layout_in rows bounds) array) v)) n s) ≡ gives i k t → i < words
      index (gives v n s) e = position (element (array_base (layout_in rows bounds) array) (array_length (layout_in rows bounds) array) v) v n s refl e
      index (halts why n s) e = let z : ◌≡◌ {A = ℕ} 0 1 = cc in omega arith

  -- a place is a variable or an element
  place-kinds : {A : Type 0} → ReadyPlace rows bounds words row → (kind_at rows row ≡ OfExpression Variable → A) → (kind_at rows row ≡ OfExpression Element → A) → A
  unfolding kinds kind_in kind_of kind_at
  place-kinds here f g = place-cases (number_at rows row 0) here.place_is (λ e. f (kind-numbered rows row refl 2 e)) (λ e. g (kind-numbered rows row refl 3 e))

  pub place-variable : ReadyPlace rows bounds words row → {number : ℕ} → number ≡ number_at rows row 0 → (number ≡ 3 → ⊥) → Entered rows bounds words row (OfExpression Variable)
  unfolding kinds kind_in kind_of kind_at
  place-variable here p other =
      place-cases (number_at rows row 0) here.place_is (λ e. record { ready = here.ready; kind_is = kind-numbered rows row refl 2 e }) (λ e. absurd (other (p ∙ e)))

  located-inside : ReadyPlace rows bounds words row → (n : ℕ) (s : List ℤ) (i k : ℕ) (t : List ℤ) → spend (locate_at rows bounds row) n s ≡ gives i k t → i < words
  located-inside here n s i k t e =
      place-kinds here
      (λ v. let entry : Entered rows bounds words row (OfExpression Variable) = record { ready = here.ready; kind_is = v } in
      let same : number_at rows row 1 ≡ i = same-position (sym (place-variable-row entry n s) ∙ e) in omega (arith, variable-inside entry))
      (λ v. locate-inside (record { ready = here.ready; kind_is = v }) n s i k t e)

  pub place_inside : ReadyPlace rows bounds words row → (n : ℕ) (s : List ℤ) (i k : ℕ) (t : List ℤ) → spend (place_at rows bounds row) n s ≡ gives i k t → i < words
  place_inside here zero s i k t e = let q = sym (not_entered (locate_at rows bounds row) s zero refl) ∙ e in let z : ◌≡◌ {A = ℕ} 0 1 = cc in omega arith
  place_inside here (suc n) s i k t e = located-inside here _ s i k t (sym (entered (locate_at rows bounds row) s (suc n) (λ z. omega arith)) ∙ e)
