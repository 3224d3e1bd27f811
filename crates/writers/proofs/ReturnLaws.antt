-- Returns: the code of a return, its value and then the return of what holds it.
use mathlib.Core.Path.{◌≡◌, refl, sym, ap, ◌∙◌}
use mathlib.Core.Bool.{Bool, true}
use mathlib.Core.List.{List}
use Prim.Native.Nat.{ℕ, zero, suc, ◌+◌}
use lib.IntN.{ℤ, pos}
use Rattle.words.specs.Over.{over}
use Rattle.language.specs.Trees.{Expression, constant, Part, absent, present, give_back, none, ◌then◌, ◌⧺◌}
use Rattle.language.specs.Decode.{expression_at, part_at}
use Rattle.translation.specs.declared.Use.TheVariants.{Wanted as wanted}
use Rattle.translation.specs.Translate.{expression_code, operand_code, Exits, statement_code}
use Rattle.translation.specs.TranslateSize.{operand_size}
use Rattle.translation.proofs.TranslateRows.{rows-expression}
use Rattle.language_emission.specs.Emission.{emit_items}
use Rattle.measures_table.specs.Parts.{called_in}
use Rattle.writers_rows.specs.Atoms.{atom_tree}
use Rattle.writers_rows.specs.Chain.{part, back_in}
use Rattle.writers_rows.specs.LeafLaws.{return-wrote}
use Rattle.writers_rows.specs.declared.KernelAtom.{KernelAtom}
use Rattle.writers_steps.specs.Asks.{AtomAt}
use Rattle.writers.specs.Code.{returned_code}
use Rattle.writers.proofs.Sequence.{wrote-behind}

pub returned-code : (called : ℕ → ℕ → Bool) (S : ℕ) (p : Part) (x : Exits) (l : ℕ) → returned_code called S p ≡ statement_code called S (give_back p) x l
unfolding statement_code
returned-code called S absent x l = refl
returned-code called S (present e) x l = refl

module _ (S : ℕ) (follows : Bool) (base : ℕ) (l : List ℤ) where
  -- 0, where the value is absent
  pub returned-nothing : (rows : List ℤ) {value : ℕ} {m : List ℤ} → value ≡ 0 → m ≡ over (emit_items follows (give_back (present (constant (pos 0))) then none) base) l
      → m ≡ over (emit_items follows (returned_code (called_in rows) S (part_at rows value)) base) l
  returned-nothing rows z e = e ∙ sym (ap (λ (v : ℕ). over (emit_items follows (returned_code (called_in rows) S (part_at rows v)) base) l) z)

  -- the value, and then the return
  pub returned-done : {rows : List ℤ} (value : ℕ) {n : ℕ} {x : KernelAtom} {l1 l2 : List ℤ} → (value ≡ 0 → ⊥) → AtomAt S rows value 0 x → n ≡ operand_size (called_in rows) (part_at rows value) wanted
      → l1 ≡ over (emit_items true (operand_code (called_in rows) S (part_at rows value) wanted 0) base) l
      → l2 ≡ over (emit_items follows (give_back (present (atom_tree x)) then none) (base + n)) (part n l1)
      → back_in n l1 l2 ≡ over (emit_items follows (returned_code (called_in rows) S (part_at rows value)) base) l
  returned-done zero some a en e1 e2 = absurd (some refl)
  returned-done {rows} (suc value) {n} {x} {l1} {l2} some a en e1 e2 =
      let e = expression_at rows (suc value) in
      (wrote-behind {first = true} (n + 2) refl refl refl
      (record { table = e1; size = rows-expression (called_in rows) S e wanted 0 ∙ sym en })
      (return-wrote follows (base + n) (part n l1) l2 x e2)).table
      ∙ ap (λ (y : Expression). over (emit_items follows (expression_code (called_in rows) S e wanted 0 ⧺ give_back (present y) then none) base) l) a.is
