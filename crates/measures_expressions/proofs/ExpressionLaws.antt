-- An expression's measures, by the use of its value, from what its own row brings and those of its operands.
use mathlib.Core.Path.{◌≡◌, refl, sym, ap, ◌∙◌}
use mathlib.Core.Bool.{Bool, false, true≢false}
use mathlib.Core.List.{List}
use Prim.Native.Nat.{ℕ, ◌+◌, ◌-◌, ◌≤◌, ◌<◌, max}
use native.Mathlib.Omega.{arith}
use lib.IntN.{ℤ}
use Rattle.language.specs.Trees.{Expression, constant, read, minus, not, binary, and, or, comma, conditional, assign, compound, prefix, postfix, call, variable, element, Part}
use Rattle.language.specs.Writes.{writes, index_writes}
use Rattle.language.specs.Decode.{expression_at, part_at}
use Rattle.language_shapes.specs.Functions.{is_call}
use Rattle.language_shapes.specs.Shapes.{OptionalOnward}
use Rattle.translation.specs.Uses.{direct}
use Rattle.translation.specs.declared.Use.{Use}
use Rattle.translation.specs.declared.Use.TheVariants.{Dropped as dropped, Wanted as wanted, Stored as stored}
use Rattle.translation.specs.Translate.{held, landed, atom_of, expression_levels, operand_levels}
use Rattle.translation.specs.TranslateSize.{own_rows, expression_size, operand_size}
use Rattle.translation.proofs.TranslateBounds.{copy-most, hold-most, index-most, store-most, update-most, postfix-most, taken_most}
use Rattle.measures_table.specs.Parts.{called_in, first_operand, second_operand, third_operand, fourth_operand, above_first, first_use, second_use, own_levels, use_passed, rows_by, levels_by, OwnAt}
use Rattle.measures_table.specs.Measures.{limited, rows_slot, levels_slot, rows_for, levels_for, RowsWord, LevelsWord, slot_at, MeasuredFrom}
use Rattle.measures_table.specs.MeasureLaws.{part-rows, part-levels, size-parts, levels-parts}
use Rattle.measures_table.specs.NoCalls.{passes_none}
use Rattle.measures_table.specs.declared.Own.{Own}

-- ---- sums that are cut off

pub limited-max : (a b : ℕ) → limited (max a b) ≡ max (limited a) (limited b)
unfolding limited
limited-max a b = omega arith

pub limited-twice : (a : ℕ) → limited (limited a) ≡ limited a
unfolding limited
limited-twice a = omega arith

pub limited-more : (n a : ℕ) → limited (n + limited a) ≡ limited (n + a)
unfolding limited
limited-more n a = omega arith

module _ (called : ℕ → ℕ → Bool) where
  -- what an own row brings, by the use of its value
  stored-rows : (e : Expression) (i : ℕ) → own_rows called e (stored i) ≡ own_rows called e wanted
  stored-rows (constant v) i = refl
  stored-rows (read p) i = refl
  stored-rows (minus e) i = refl
  stored-rows (not e) i = refl
  stored-rows (binary operator a b) i = refl
  stored-rows (and a b) i = refl
  stored-rows (or a b) i = refl
  stored-rows (comma a b) i = refl
  stored-rows (conditional c a b) i = refl
  stored-rows (assign p e) i = refl
  stored-rows (compound operator p e) i = refl
  stored-rows (prefix operator p) i = refl
  stored-rows (postfix operator (variable j)) i = refl
  stored-rows (postfix operator (element array e)) i = refl
  stored-rows (call f arguments) i = refl

  stored-own-levels : (e : Expression) (i : ℕ) → own_levels called e (stored i) ≡ own_levels called e (stored 0)
  stored-own-levels (constant v) i = refl
  stored-own-levels (read (variable j)) i = refl
  stored-own-levels (read (element array e)) i = refl
  stored-own-levels (minus e) i = refl
  stored-own-levels (not e) i = refl
  stored-own-levels (binary operator a b) i = refl
  stored-own-levels (and a b) i = refl
  stored-own-levels (or a b) i = refl
  stored-own-levels (comma a b) i = refl
  stored-own-levels (conditional c a b) i = refl
  stored-own-levels (assign p e) i = refl
  stored-own-levels (compound operator p e) i = refl
  stored-own-levels (prefix operator p) i = refl
  stored-own-levels (postfix operator (variable j)) i = refl
  stored-own-levels (postfix operator (element array e)) i = refl
  stored-own-levels (call f arguments) i = refl

module _ {rows : List ℤ} {row : ℕ} {o : Own} (at : OwnAt rows row o) where
  pub own-rows-by : (u : Use) → rows_by o u ≡ own_rows (called_in rows) (expression_at rows row) u
  own-rows-by dropped = at.dropped_rows_are
  own-rows-by wanted = at.rows_are
  own-rows-by (stored i) = at.rows_are ∙ sym (stored-rows (called_in rows) (expression_at rows row) i)

  pub own-levels-by : (u : Use) → levels_by o u ≡ own_levels (called_in rows) (expression_at rows row) u
  own-levels-by dropped = at.dropped_levels_are
  own-levels-by wanted = at.levels_are
  own-levels-by (stored i) = at.stored_levels_are ∙ sym (stored-own-levels (called_in rows) (expression_at rows row) i)

module _ (rows : List ℤ) (table : List ℕ) (row : ℕ) (m : MeasuredFrom rows table (row + 1)) where
  part-row : (u : Use) (link k : ℕ) (part : Part) (x : ℕ) → part_at rows link ≡ part → OptionalOnward rows row link → k ≡ rows_for u → x ≡ slot_at table link k → x ≡ limited (operand_size (called_in rows) part u)
  part-row u link k part x e o f h = h ∙ ap (slot_at table link) f ∙ part-rows rows table m u link o ∙ ap (λ p. limited (operand_size (called_in rows) p u)) e

  part-level : (u : Use) (link k : ℕ) (part : Part) (x : ℕ) → part_at rows link ≡ part → OptionalOnward rows row link → k ≡ levels_for u → x ≡ slot_at table link k → x ≡ limited (operand_levels (called_in rows) part u)
  part-level u link k part x e o f h = h ∙ ap (slot_at table link) f ∙ part-levels rows table m u link o ∙ ap (λ p. limited (operand_levels (called_in rows) p u)) e

  module _ (o : Own) (at : OwnAt rows row o) (u : Use) where
    abbrev e : Expression
    e = expression_at rows row

    -- the use of the second operand's value, as the code finds it
    passed : {v : Use} → v ≡ use_passed o.passes u → v ≡ second_use e u
    passed h = h ∙ at.second-use u

    pub rows-of : {v : Use} (i j a b c d own : ℕ) → is_call e ≡ false → v ≡ use_passed o.passes u → RowsWord o.first_use i → RowsWord v j
        → a ≡ slot_at table o.first i → b ≡ slot_at table o.second j → c ≡ slot_at table o.third rows_slot → d ≡ slot_at table o.fourth rows_slot → own ≡ rows_by o u
        → limited (a + b + c + d + own) ≡ limited (expression_size (called_in rows) e u)
    unfolding limited
    rows-of i j a b c d own plain ep ei ej ea eb ec ed eo =
        let qa = part-row (first_use e) o.first i (first_operand (called_in rows) e) a at.first.is at.first.onward (ei.is ∙ ap rows_for at.first-use) ea in
        let qb = part-row (second_use e u) o.second j (second_operand (called_in rows) e) b at.second.is at.second.onward (ej.is ∙ ap rows_for (passed ep)) eb in
        let qc = part-row wanted o.third rows_slot (third_operand (called_in rows) e) c at.third.is at.third.onward refl ec in
        let qd = part-row wanted o.fourth rows_slot (fourth_operand (called_in rows) e) d at.fourth.is at.fourth.onward refl ed in
        omega (arith, size-parts (called_in rows) e u, own-rows-by at u, passes_none (called_in rows) e plain)

    pub levels-of : {v : Use} (i j a b c d own above : ℕ) → v ≡ use_passed o.passes u → LevelsWord o.first_use i → LevelsWord v j
        → a ≡ slot_at table o.first i → b ≡ slot_at table o.second j → c ≡ slot_at table o.third levels_slot → d ≡ slot_at table o.fourth levels_slot → own ≡ levels_by o u → above ≡ above_first (called_in rows) e
        → limited (max own (max (max a (above + b)) (max c d))) ≡ limited (expression_levels (called_in rows) e u)
    levels-of i j a b c d own above ep ei ej ea eb ec ed eo ev =
        let qa = part-level (first_use e) o.first i (first_operand (called_in rows) e) a at.first.is at.first.onward (ei.is ∙ ap levels_for at.first-use) ea in
        let qb = part-level (second_use e u) o.second j (second_operand (called_in rows) e) b at.second.is at.second.onward (ej.is ∙ ap levels_for (passed ep)) eb in
        let qc = part-level wanted o.third levels_slot (third_operand (called_in rows) e) c at.third.is at.third.onward refl ec in
        let qd = part-level wanted o.fourth levels_slot (fourth_operand (called_in rows) e) d at.fourth.is at.fourth.onward refl ed in
        let qo = eo ∙ own-levels-by at u in
        rw (qa, qb, qc, qd, qo, ev, levels-parts (called_in rows) e u) (simp (limited-max, limited-twice, limited-more))

module _ (called : ℕ → ℕ → Bool) where
  -- A call brings two rows more for each argument.
  pub own-most : (e : Expression) (u : Use) → is_call e ≡ false → own_rows called e u ≤ 20
  own-most (constant v) u n = omega arith
  own-most (read p) u n = omega (arith, index-most p)
  own-most (minus e) u n = omega arith
  own-most (not e) u n = omega arith
  own-most (binary operator a b) u n = omega (arith, hold-most (atom_of called b) (writes called a))
  own-most (and a b) u n = omega arith
  own-most (or a b) u n = omega arith
  own-most (comma a b) u n = omega arith
  own-most (conditional c a b) u n = omega (arith, copy-most (atom_of called a), copy-most (atom_of called b))
  own-most (assign p e) u n = omega (arith, store-most p (direct e), hold-most (landed p (direct e) (atom_of called e)) (index_writes called p))
  own-most (compound operator p e) u n = omega (arith, update-most p, hold-most (atom_of called e) (index_writes called p))
  own-most (prefix operator p) u n = omega (arith, update-most p)
  own-most (postfix operator p) u n = omega (arith, postfix-most p u)
  own-most (call f arguments) u n = absurd (true≢false n)

  pub above_most : (e : Expression) → above_first called e ≤ 1
  above_most (constant v) = omega arith
  above_most (read p) = omega arith
  above_most (minus e) = omega arith
  above_most (not e) = omega arith
  above_most (binary operator a b) = taken_most (held (atom_of called b) (writes called a))
  above_most (and a b) = omega arith
  above_most (or a b) = omega arith
  above_most (comma a b) = omega arith
  above_most (conditional c a b) = omega arith
  above_most (assign p e) = taken_most (held (landed p (direct e) (atom_of called e)) (index_writes called p))
  above_most (compound operator p e) = index-most p
  above_most (prefix operator p) = index-most p
  above_most (postfix operator p) = index-most p
  above_most (call f arguments) = omega arith
