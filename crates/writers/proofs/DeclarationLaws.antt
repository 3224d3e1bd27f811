-- Declarations: the code of a declaration, its value and then the assignment to its word; it has a row.
use mathlib.Core.Path.{◌≡◌, refl, sym, ap, ◌∙◌}
use mathlib.Core.Bool.{Bool, true, false, false≢true}
use mathlib.Core.List.{List}
use Prim.Native.Nat.{ℕ, zero, suc, ◌+◌, ◌≤◌, ◌<◌}
use native.Mathlib.Omega.{arith}
use lib.IntN.{ℤ, pos}
use Rattle.words.specs.Word.{pick}
use Rattle.words.specs.Over.{over}
use Rattle.words.specs.Laws.{by_cases}
use Rattle.language.specs.Trees.{Expression, constant, read, minus, not, binary, and, or, comma, conditional, assign, compound, prefix, postfix, call, variable, element, declare, Items, ◌⧺◌}
use Rattle.language.specs.Sizes.{items_rows}
use Rattle.language.specs.Decode.{expression_at, part_at}
use Rattle.translation.specs.Uses.{direct}
use Rattle.translation.specs.declared.Use.{Use}
use Rattle.translation.specs.declared.Use.TheVariants.{Stored as stored}
use Rattle.translation.specs.Translate.{atom_of, atom, store_code, operand_code, expression_code, exits, statement_code}
use Rattle.translation.specs.TranslateSize.{store_rows, expression_size, operand_size, statement_size}
use Rattle.translation.proofs.TranslateRows.{rows_append, rows-expression, rows-statement}
use Rattle.language_emission.specs.Emission.{emit_items}
use Rattle.measures_table.specs.Parts.{called_in}
use Rattle.writers_rows.specs.Room.{more_rows}
use Rattle.writers_rows.specs.Straight.{straight_code}
use Rattle.writers_rows.specs.Chain.{part, back_in, Wrote}
use Rattle.writers_steps.specs.AtomLaws.{stored-straight, stored-copy}
use Rattle.writers.specs.Code.{declared_code}
use Rattle.writers.proofs.Sequence.{wrote-behind, more-rows}

-- A value that goes straight into a variable has code.
direct-some : (called : ℕ → ℕ → Bool) (e : Expression) (u : Use) → direct e ≡ true → 1 ≤ expression_size called e u
unfolding direct expression_size
direct-some called (constant v) u d = absurd (false≢true d)
direct-some called (read (variable i)) u d = absurd (false≢true d)
direct-some called (read (element array e)) u d = omega arith
direct-some called (minus e) u d = omega arith
direct-some called (not e) u d = omega arith
direct-some called (binary operator a b) u d = omega arith
direct-some called (and a b) u d = absurd (false≢true d)
direct-some called (or a b) u d = absurd (false≢true d)
direct-some called (comma a b) u d = absurd (false≢true d)
direct-some called (conditional c a b) u d = absurd (false≢true d)
direct-some called (assign p e) u d = absurd (false≢true d)
direct-some called (compound operator p e) u d = absurd (false≢true d)
direct-some called (prefix operator p) u d = absurd (false≢true d)
direct-some called (postfix operator p) u d = absurd (false≢true d)
direct-some called (call f arguments) u d = omega arith

-- So has every declaration.
pub declared-some : (called : ℕ → ℕ → Bool) (i : ℕ) (e : Expression) → 1 ≤ store_rows (variable i) (direct e) + expression_size called e (stored i)
declared-some called i e = by_cases (direct e) (λ d. rw d (omega (arith, direct-some called e (stored i) d))) (λ d. rw d (omega arith))

module _ (called : ℕ → ℕ → Bool) (S i : ℕ) (e : Expression) where
  -- The assignment behind the value, as the writer of assignments has it.
  last-is : (u : Use) → straight_code called S (assign (variable i) e) u 0 ≡ store_code S (variable i) (direct e) (atom S 0 (atom_of called e))
  last-is u = by_cases (direct e) (λ d. sym (stored-straight called S i e u 0 d) ∙ rw d) (λ d. sym (stored-copy called S i e u 0 d refl) ∙ rw d)

  last-rows : items_rows (store_code S (variable i) (direct e) (atom S 0 (atom_of called e))) ≡ store_rows (variable i) (direct e)
  unfolding statement_code statement_size
  last-rows =
      omega (arith, rows-statement called S (declare i e) (exits 0 0) 0, rows_append (expression_code called S e (stored i) 0) (store_code S (variable i) (direct e) (atom S 0 (atom_of called e))), rows-expression called S e (stored i) 0)

-- An absent expression takes nothing, as a constant does.
pub initial-size : (rows : List ℤ) (i value : ℕ) → (value ≡ 0 → expression_at rows value ≡ constant (pos 0)) → operand_size (called_in rows) (part_at rows value) (stored i) ≡ expression_size (called_in rows) (expression_at rows value) (stored i)
unfolding expression_size
initial-size rows i zero absent = rw (absent refl)
initial-size rows i (suc value) absent = refl

initial-code : (rows : List ℤ) (i value : ℕ) → (value ≡ 0 → expression_at rows value ≡ constant (pos 0)) → (S : ℕ) → operand_code (called_in rows) S (part_at rows value) (stored i) 0 ≡ expression_code (called_in rows) S (expression_at rows value) (stored i) 0
unfolding expression_code
initial-code rows i zero absent S = rw (absent refl)
initial-code rows i (suc value) absent S = refl

-- The value, and what stands behind it.
pub declared-done : (S : ℕ) (rows : List ℤ) (i value base : ℕ) (follows : Bool) (l : List ℤ) (u : Use) {n last : ℕ} {then : Bool} {l1 l2 : List ℤ} → (value ≡ 0 → expression_at rows value ≡ constant (pos 0))
    → n ≡ operand_size (called_in rows) (part_at rows value) (stored i) → last ≡ pick (direct (expression_at rows value)) 0 4 → then ≡ more_rows follows last
    → l1 ≡ over (emit_items then (operand_code (called_in rows) S (part_at rows value) (stored i) 0) base) l
    → l2 ≡ over (emit_items follows (straight_code (called_in rows) S (assign (variable i) (expression_at rows value)) u 0) (base + n)) (part n l1)
    → back_in n l1 l2 ≡ over (emit_items follows (declared_code (called_in rows) S i (expression_at rows value)) base) l
declared-done S rows i value base follows l u {n} {last} {then} {l1} {l2} absent en el et t1 t2 =
    let e = expression_at rows value in
    let E = expression_code (called_in rows) S e (stored i) 0 in
    let C = store_code S (variable i) (direct e) (atom S 0 (atom_of (called_in rows) e)) in
    let size : items_rows C ≡ last = last-rows (called_in rows) S i e ∙ sym el in
    let w1 : Wrote then E base n l l1 = record { table = t1 ∙ ap (λ (xs : Items). over (emit_items then xs base) l) (initial-code rows i value absent S); size = rows-expression (called_in rows) S e (stored i) 0 ∙ sym (initial-size rows i value absent) ∙ sym en } in
    let w2 : Wrote follows C (base + n) last (part n l1) l2 = record { table = t2 ∙ ap (λ (xs : Items). over (emit_items follows xs (base + n)) (part n l1)) (last-is (called_in rows) S i e u); size = size } in
    (wrote-behind (n + last) refl (et ∙ more-rows follows C last size) refl w1 w2).table
