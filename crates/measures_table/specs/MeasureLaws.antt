-- Laws of the measures: sums that are cut off, the words of the table, and an expression's measures from those of its operands.
use Rattle.std.specs.Prelude.{◌≡◌, Bool, true, false, List, ℤ, length}
use Rattle.std.proofs.Math.Path.{refl}
use Rattle.std.proofs.Common.{sym, ap, ◌∙◌}
use Prim.Native.Nat.{ℕ, zero, suc, ◌+◌, ◌*◌, ◌-◌, ◌≤◌, ◌<◌, min, max}
use native.Mathlib.Omega.{arith}
use Rattle.words.specs.Table.{row_count}
use Rattle.language.specs.Trees.{Expression, constant, read, minus, not, binary, and, or, comma, conditional, assign, compound, prefix, postfix, call, Place, variable, element, present, ◌here◌}
use Rattle.language.specs.Decode.{expression_at, statement_at, list_at, arm_list_at, part_at}
use Rattle.translation.specs.Uses.{direct}
use Rattle.translation.specs.declared.Use.{Use}
use Rattle.translation.specs.declared.Use.TheVariants.{Dropped as dropped, Wanted as wanted, Stored as stored}
use Rattle.translation.specs.Translate.{Atom, top, held, landed, atom_of, labels, arms_labels, items_labels, expression_levels, operand_levels, statement_levels, arms_levels, items_levels}
use Rattle.language.specs.Writes.{writes, index_writes}
use Rattle.translation.proofs.HeldCode.{copied-most, held-variable}
use Rattle.translation.specs.TranslateSize.{copied, own_rows, expression_size, operand_size, statement_size, arms_size, items_size, cases}
use Rattle.language_shapes.specs.Shapes.{choice_tree, Onward, OptionalOnward}
use Rattle.language_shapes.specs.Source.{Source}
use Rattle.language_shapes.specs.declared.ChoiceShape.{ChoiceShape}
use Rattle.language_shapes.specs.declared.ChoiceShape.TheVariants.{And, Or, Conditional}
use Rattle.measures_table.specs.Parts.{called_in, passed_rows, first_operand, second_operand, third_operand, fourth_operand, above_first, first_copied, plain_atom, first_use, second_use, own_levels, use_passed, UseFits}
use Rattle.measures_table.specs.Measures.{limited, default_place, width, sums, rows_slot, levels_slot, value_slot, statement_rows_slot, statement_levels_slot, statement_labels_slot, list_rows_slot, list_levels_slot, list_labels_slot, list_cases_slot, list_default_slot, copied_slot, arms_rows_slot, arms_levels_slot, arms_labels_slot, rows_for, levels_for, slot, slot_at, LinkMeasured, MeasuredRow, MeasuredFrom, Measured}

-- ---- sums that are cut off

pub limited-is : (n : ℕ) → limited n ≡ min n 65536
unfolding limited
limited-is n = refl

pub limited-most : (n : ℕ) → limited n ≤ 65536
unfolding limited
limited-most n = omega arith

pub limited-small : (n : ℕ) → n ≤ 65536 → limited n ≡ n
unfolding limited
limited-small n h = omega arith

-- ---- the words of the table

pub at_none : (table : List ℕ) (link k : ℕ) → link ≡ 0 → 0 ≡ slot_at table link k
at_none table zero k h = refl
at_none table (suc link) k h = absurd (omega arith)

pub at_some : (table : List ℕ) (link k : ℕ) → 0 < link → slot_at table link k ≡ slot table link k
at_some table zero k h = absurd (omega arith)
at_some table (suc link) k h = refl

-- ---- a value that is stored

-- takes the rows of one that is wanted; and it does not matter which variable stores it
module _ (called : ℕ → ℕ → Bool) where
  pub stored-size : (e : Expression) (i : ℕ) → expression_size called e (stored i) ≡ expression_size called e wanted
  unfolding expression_size
  stored-size (constant v) i = refl
  stored-size (read p) i = refl
  stored-size (minus e) i = refl
  stored-size (not e) i = refl
  stored-size (binary operator a b) i = refl
  stored-size (and a b) i = refl
  stored-size (or a b) i = refl
  stored-size (comma a b) i = refl
  stored-size (conditional c a b) i = refl
  stored-size (assign p e) i = refl
  stored-size (compound operator p e) i = refl
  stored-size (prefix operator p) i = refl
  stored-size (postfix operator (variable j)) i = refl
  stored-size (postfix operator (element array e)) i = refl
  stored-size (call f arguments) i = refl

  pub stored-levels : (e : Expression) (i : ℕ) → expression_levels called e (stored i) ≡ expression_levels called e (stored 0)
  unfolding expression_levels
  stored-levels (constant v) i = refl
  stored-levels (read (variable j)) i = refl
  stored-levels (read (element array e)) i = refl
  stored-levels (minus e) i = refl
  stored-levels (not e) i = refl
  stored-levels (binary operator a b) i = refl
  stored-levels (and a b) i = refl
  stored-levels (or a b) i = refl
  stored-levels (comma a b) i = refl
  stored-levels (conditional c a b) i = refl
  stored-levels (assign p e) i = refl
  stored-levels (compound operator p e) i = refl
  stored-levels (prefix operator p) i = refl
  stored-levels (postfix operator (variable j)) i = refl
  stored-levels (postfix operator (element array e)) i = refl
  stored-levels (call f arguments) i = refl

-- a use that is passed on stores nothing
pub passed-fits : (passes : Bool) (u : Use) → UseFits (use_passed passes u)
passed-fits true dropped = tt
passed-fits true wanted = tt
passed-fits true (stored i) = tt
passed-fits false u = tt

-- ---- the measures of a row, by the use of its value

pub measured-rows : {rows : List ℤ} {table : List ℕ} {row : ℕ} (u : Use) → MeasuredRow rows table row → slot table row (rows_for u) ≡ limited (expression_size (called_in rows) (expression_at rows row) u)
measured-rows dropped m = m.expression.dropped_rows_are
measured-rows wanted m = m.expression.rows_are
measured-rows {rows} {table} {row} (stored i) m = m.expression.rows_are ∙ ap limited (sym (stored-size (called_in rows) (expression_at rows row) i))

pub measured-levels : {rows : List ℤ} {table : List ℕ} {row : ℕ} (u : Use) → MeasuredRow rows table row → slot table row (levels_for u) ≡ limited (expression_levels (called_in rows) (expression_at rows row) u)
measured-levels dropped m = m.expression.dropped_levels_are
measured-levels wanted m = m.expression.levels_are
measured-levels {rows} {table} {row} (stored i) m = m.expression.stored_levels_are ∙ ap limited (sym (stored-levels (called_in rows) (expression_at rows row) i))

module _ (rows : List ℤ) (table : List ℕ) where
  -- a link of this row that leads on leads to a measured row
  pub link-measured : {row : ℕ} (link : ℕ) → MeasuredFrom rows table (row + 1) → Onward rows row link → MeasuredRow rows table link
  link-measured link m o = m.row_measured link (omega (arith, o.later)) o.inside

  pub link-held : {row : ℕ} (link : ℕ) → MeasuredFrom rows table (row + 1) → OptionalOnward rows row link → 0 < link → width * link + width ≤ length table
  link-held link m o p = omega (arith, m.room, (o p).inside)

  module _ {row : ℕ} (m : MeasuredFrom rows table (row + 1)) where
    -- the measures of an expression at a link, by the use of its value
    pub part-rows : (u : Use) (link : ℕ) → OptionalOnward rows row link → slot_at table link (rows_for u) ≡ limited (operand_size (called_in rows) (part_at rows link) u)
    unfolding limited
    part-rows u zero o = refl
    part-rows u (suc link) o = measured-rows u (link-measured (suc link) m (o (omega arith)))

    pub part-levels : (u : Use) (link : ℕ) → OptionalOnward rows row link → slot_at table link (levels_for u) ≡ limited (operand_levels (called_in rows) (part_at rows link) u)
    unfolding limited
    part-levels u zero o = refl
    part-levels u (suc link) o = measured-levels u (link-measured (suc link) m (o (omega arith)))

    -- those of a list
    pub list-rows : (link : ℕ) → OptionalOnward rows row link → slot_at table link list_rows_slot ≡ limited (items_size (called_in rows) (list_at rows link))
    unfolding limited items_size
    list-rows zero o = refl
    list-rows (suc link) o = (link-measured (suc link) m (o (omega arith))).list.rows_are

    pub list-levels : (link : ℕ) → OptionalOnward rows row link → slot_at table link list_levels_slot ≡ limited (items_levels (called_in rows) (list_at rows link))
    unfolding limited items_levels
    list-levels zero o = refl
    list-levels (suc link) o = (link-measured (suc link) m (o (omega arith))).list.levels_are

    pub list-labels : (link : ℕ) → OptionalOnward rows row link → slot_at table link list_labels_slot ≡ limited (items_labels (list_at rows link))
    unfolding limited items_labels
    list-labels zero o = refl
    list-labels (suc link) o = (link-measured (suc link) m (o (omega arith))).list.labels_are

    pub list_cases : (link : ℕ) → OptionalOnward rows row link → slot_at table link list_cases_slot ≡ limited (cases (list_at rows link))
    unfolding limited
    list_cases zero o = refl
    list_cases (suc link) o = (link-measured (suc link) m (o (omega arith))).list.cases_are

    pub list-default : (link : ℕ) → OptionalOnward rows row link → slot_at table link list_default_slot ≡ limited (default_place (list_at rows link))
    unfolding limited default_place
    list-default zero o = refl
    list-default (suc link) o = (link-measured (suc link) m (o (omega arith))).list.default_is

    -- those of arms
    pub arms-rows : (link : ℕ) → OptionalOnward rows row link → slot_at table link arms_rows_slot ≡ limited (arms_size (called_in rows) (arm_list_at rows link))
    unfolding limited arms_size
    arms-rows zero o = refl
    arms-rows (suc link) o = (link-measured (suc link) m (o (omega arith))).arms.rows_are

    pub arms-levels : (link : ℕ) → OptionalOnward rows row link → slot_at table link arms_levels_slot ≡ limited (arms_levels (called_in rows) (arm_list_at rows link))
    unfolding limited arms_levels
    arms-levels zero o = refl
    arms-levels (suc link) o = (link-measured (suc link) m (o (omega arith))).arms.levels_are

    pub arms-labels : (link : ℕ) → OptionalOnward rows row link → slot_at table link arms_labels_slot ≡ limited (arms_labels (arm_list_at rows link))
    unfolding limited arms_labels
    arms-labels zero o = refl
    arms-labels (suc link) o = (link-measured (suc link) m (o (omega arith))).arms.labels_are

    -- those of a statement
    pub body-rows : (link : ℕ) → Onward rows row link → slot_at table link statement_rows_slot ≡ limited (statement_size (called_in rows) (statement_at rows link))
    body-rows link o = at_some table link statement_rows_slot (omega (arith, o.later)) ∙ (link-measured link m o).statement.rows_are

    pub body-levels : (link : ℕ) → Onward rows row link → slot_at table link statement_levels_slot ≡ limited (statement_levels (called_in rows) (statement_at rows link))
    body-levels link o = at_some table link statement_levels_slot (omega (arith, o.later)) ∙ (link-measured link m o).statement.levels_are

    pub body-labels : (link : ℕ) → Onward rows row link → slot_at table link statement_labels_slot ≡ limited (labels (statement_at rows link))
    body-labels link o = at_some table link statement_labels_slot (omega (arith, o.later)) ∙ (link-measured link m o).statement.labels_are

-- ---- an expression's measures, from those of its operands

module _ (called : ℕ → ℕ → Bool) where
  pub size-parts : (e : Expression) (u : Use)
      → expression_size called e u
      ≡ operand_size called (first_operand called e) (first_use e) + operand_size called (second_operand called e) (second_use e u) + operand_size called (third_operand called e) wanted + operand_size called (fourth_operand called e) wanted + own_rows called e u + passed_rows called e
  unfolding expression_size
  size-parts (constant v) u = refl
  size-parts (read (variable i)) u = refl
  size-parts (read (element array e)) u = omega arith
  size-parts (minus e) u = omega arith
  size-parts (not e) u = omega arith
  size-parts (binary operator a b) u = omega arith
  size-parts (and a b) u = omega arith
  size-parts (or a b) u = omega arith
  size-parts (comma a b) u = omega arith
  size-parts (conditional c a b) u = omega arith
  size-parts (assign (variable i) e) u = omega arith
  size-parts (assign (element array i) e) u = omega arith
  size-parts (compound operator (variable i) e) u = omega arith
  size-parts (compound operator (element array i) e) u = omega arith
  size-parts (prefix operator (variable i)) u = refl
  size-parts (prefix operator (element array i)) u = omega arith
  size-parts (postfix operator (variable i)) u = omega arith
  size-parts (postfix operator (element array i)) u = omega arith
  size-parts (call f arguments) u = omega arith

  pub levels-parts : (e : Expression) (u : Use)
      → expression_levels called e u
      ≡ max (own_levels called e u)
      (max (max (operand_levels called (first_operand called e) (first_use e)) (above_first called e + operand_levels called (second_operand called e) (second_use e u))) (max (operand_levels called (third_operand called e) wanted) (operand_levels called (fourth_operand called e) wanted)))
  unfolding expression_levels atom_of
  levels-parts (constant v) u = refl
  levels-parts (read (variable i)) u = refl
  levels-parts (read (element array e)) u = omega arith
  levels-parts (minus e) u = omega arith
  levels-parts (not e) u = omega arith
  levels-parts (binary operator a b) u = omega arith
  levels-parts (and a b) u = omega arith
  levels-parts (or a b) u = omega arith
  levels-parts (comma a b) u = omega arith
  levels-parts (conditional c a b) u = omega arith
  levels-parts (assign (variable i) e) u = omega arith
  levels-parts (assign (element array i) e) u = omega arith
  levels-parts (compound operator (variable i) e) u = omega arith
  levels-parts (compound operator (element array i) e) u = omega arith
  levels-parts (prefix operator (variable i)) u = refl
  levels-parts (prefix operator (element array i)) u = omega arith
  levels-parts (postfix operator (variable i)) u = omega arith
  levels-parts (postfix operator (element array i)) u = omega arith
  levels-parts (call f arguments) u = omega arith

  -- ---- the value of a choice stands in a temporary

  pub choice-top : (rows : List ℤ) (c : ChoiceShape) → plain_atom called (choice_tree rows c) ≡ top
  choice-top rows (And a b) = refl
  choice-top rows (Or a b) = refl
  choice-top rows (Conditional c a b) = refl

  -- ---- the copy of the first operand's value

  pub first-copied-most : (e : Expression) → first_copied called e ≤ 1
  first-copied-most (constant v) = omega arith
  first-copied-most (read p) = omega arith
  first-copied-most (minus e) = omega arith
  first-copied-most (not e) = omega arith
  first-copied-most (binary operator a b) = copied-most (atom_of called b) (writes called a)
  first-copied-most (and a b) = omega arith
  first-copied-most (or a b) = omega arith
  first-copied-most (comma a b) = omega arith
  first-copied-most (conditional c a b) = omega arith
  first-copied-most (assign p e) = copied-most (atom_of called e) (index_writes called p)
  first-copied-most (compound operator p e) = copied-most (atom_of called e) (index_writes called p)
  first-copied-most (prefix operator p) = omega arith
  first-copied-most (postfix operator p) = omega arith
  first-copied-most (call f arguments) = omega arith

  -- a value that an assignment stores is copied where its own atom would be: a variable has no index
  pub landed-copied : (p : Place) (straight : Bool) (h : Atom) → copied (landed p straight h) (index_writes called p) ≡ copied h (index_writes called p)
  landed-copied (variable i) straight h = rw (held-variable called (landed (variable i) straight h) i, held-variable called h i) (omega arith)
  landed-copied (element array e) straight h = refl

  -- its rows are among the own ones
  pub own-copies : (e : Expression) (u : Use) → 4 * first_copied called e ≤ own_rows called e u
  own-copies (constant v) u = omega arith
  own-copies (read p) u = omega arith
  own-copies (minus e) u = omega arith
  own-copies (not e) u = omega arith
  own-copies (binary operator a b) u = omega arith
  own-copies (and a b) u = omega arith
  own-copies (or a b) u = omega arith
  own-copies (comma a b) u = omega arith
  own-copies (conditional c a b) u = omega arith
  own-copies (assign p e) u = omega (arith, landed-copied p (direct e) (atom_of called e))
  own-copies (compound operator p e) u = omega arith
  own-copies (prefix operator p) u = omega arith
  own-copies (postfix operator p) u = omega arith
  own-copies (call f arguments) u = omega arith

-- ---- what calls ask

pub limited-as : {x : ℕ} (n : ℕ) → x ≡ limited n → x ≤ 65536
limited-as {x} n e = omega (arith, limited-most n)

measured-small : {rows : List ℤ} {table : List ℕ} {row : ℕ} → Source rows → MeasuredRow rows table row → (k : ℕ) → k < sums → slot table row k ≤ 65536
measured-small s m zero h = limited-as _ m.expression.rows_are
measured-small s m (suc zero) h = limited-as _ m.expression.levels_are
measured-small s m (suc (suc zero)) h = omega (arith, m.expression.value_inside, s.few_rows)
measured-small s m (suc (suc (suc zero))) h = limited-as _ m.statement.rows_are
measured-small s m (suc (suc (suc (suc zero)))) h = limited-as _ m.statement.levels_are
measured-small s m (suc (suc (suc (suc (suc zero))))) h = limited-as _ m.statement.labels_are
measured-small s m (suc (suc (suc (suc (suc (suc zero)))))) h = limited-as _ m.list.rows_are
measured-small s m (suc (suc (suc (suc (suc (suc (suc zero))))))) h = limited-as _ m.list.levels_are
measured-small s m (suc (suc (suc (suc (suc (suc (suc (suc zero)))))))) h = limited-as _ m.list.labels_are
measured-small s m (suc (suc (suc (suc (suc (suc (suc (suc (suc zero))))))))) h = limited-as _ m.list.cases_are
measured-small s m (suc (suc (suc (suc (suc (suc (suc (suc (suc (suc zero)))))))))) h = limited-as _ m.list.default_is
measured-small {rows} {table} {row} s m (suc (suc (suc (suc (suc (suc (suc (suc (suc (suc (suc zero))))))))))) h = omega (arith, m.expression.copied_is, first-copied-most (called_in rows) (expression_at rows row))
measured-small s m (suc (suc (suc (suc (suc (suc (suc (suc (suc (suc (suc (suc zero)))))))))))) h = limited-as _ m.expression.dropped_rows_are
measured-small s m (suc (suc (suc (suc (suc (suc (suc (suc (suc (suc (suc (suc (suc zero))))))))))))) h = limited-as _ m.expression.dropped_levels_are
measured-small s m (suc (suc (suc (suc (suc (suc (suc (suc (suc (suc (suc (suc (suc (suc zero)))))))))))))) h = limited-as _ m.expression.stored_levels_are
measured-small s m (suc (suc (suc (suc (suc (suc (suc (suc (suc (suc (suc (suc (suc (suc (suc zero))))))))))))))) h = limited-as _ m.arms.rows_are
measured-small s m (suc (suc (suc (suc (suc (suc (suc (suc (suc (suc (suc (suc (suc (suc (suc (suc zero)))))))))))))))) h = limited-as _ m.arms.levels_are
measured-small s m (suc (suc (suc (suc (suc (suc (suc (suc (suc (suc (suc (suc (suc (suc (suc (suc (suc zero))))))))))))))))) h = limited-as _ m.arms.labels_are
measured-small s m (suc (suc (suc (suc (suc (suc (suc (suc (suc (suc (suc (suc (suc (suc (suc (suc (suc (suc k)))))))))))))))))) h = absurd (omega arith)

pub measured-less : {rows : List ℤ} {table : List ℕ} {k : ℕ} (j : ℕ) → MeasuredFrom rows table k → k ≤ j → MeasuredFrom rows table j
measured-less j m h = record { source = m.source; room = m.room; row_measured = λ row l. m.row_measured row (omega arith) }

module _ {rows : List ℤ} {table : List ℕ} {row : ℕ} (m : MeasuredFrom rows table (row + 1)) where
  -- a row that a link leads to
  pub link-asks : {link : ℕ} → Onward rows row link → Source rows × (link < row_count rows) × (width * row_count rows ≤ length table) × MeasuredRow rows table link
  link-asks {link} o = (m.source, o.inside, m.room, link-measured rows table link m o)

  pub slot-asks : {link : ℕ} → OptionalOnward rows row link → LinkMeasured table link
  slot-asks {link} o k h = record { held = λ p. omega (arith, link-held rows table link m o p); small = slot_small link k h o }
    where
      slot_small : (link k : ℕ) → k < sums → OptionalOnward rows row link → slot_at table link k ≤ 65536
      slot_small zero k h o = omega arith
      slot_small (suc link) k h o = measured-small m.source (link-measured rows table (suc link) m (o (omega arith))) k h

-- ---- the pass

pub measured-none : {rows : List ℤ} {table : List ℕ} → Source rows → width * row_count rows ≤ length table → MeasuredFrom rows table (row_count rows)
measured-none s h = record { source = s; room = h; row_measured = λ row l b. absurd (omega arith) }

pub measured-back : {rows : List ℤ} {table : List ℕ} (row : ℕ) → 1 ≤ row → MeasuredFrom rows table row → MeasuredFrom rows table (row - 1 + 1)
measured-back row h m = measured-less _ m (omega arith)

pub measured-zero : {rows : List ℤ} {table : List ℕ} (row : ℕ) → row ≡ 0 → MeasuredFrom rows table row → MeasuredFrom rows table 0
measured-zero row h m = measured-less _ m (omega arith)

-- ---- the whole table

module _ {rows : List ℤ} {table : List ℕ} (m : Measured rows table) where
  pub whole_row : {row : ℕ} → row < row_count rows → MeasuredRow rows table row
  whole_row {row} h = m.row_measured row (omega arith) h

  pub whole-asks : {row : ℕ} → row < row_count rows → Source rows × (row < row_count rows) × (width * row_count rows ≤ length table) × MeasuredRow rows table row
  whole-asks {row} h = (m.source, h, m.room, whole_row h)

  -- the rows behind a row
  pub whole-behind : (row : ℕ) → MeasuredFrom rows table (row + 1)
  whole-behind row = measured-less (row + 1) m (omega arith)

  pub whole-slot : (link : ℕ) → link < row_count rows → LinkMeasured table link
  whole-slot link h k l = record { held = λ p. omega (arith, m.room); small = by link h }
    where
      by : (link : ℕ) → link < row_count rows → slot_at table link k ≤ 65536
      by zero h = omega arith
      by (suc link) h = measured-small m.source (whole_row h) k l

  pub whole_part : (u : Use) (link : ℕ) → link < row_count rows → slot_at table link (rows_for u) ≡ limited (operand_size (called_in rows) (part_at rows link) u)
  unfolding limited
  whole_part u zero h = refl
  whole_part u (suc link) h = measured-rows u (whole_row h)

  pub whole-list : (link : ℕ) → link < row_count rows → slot_at table link list_rows_slot ≡ limited (items_size (called_in rows) (list_at rows link))
  unfolding limited items_size
  whole-list zero h = refl
  whole-list (suc link) h = (whole_row h).list.rows_are

  pub whole-cases : (link : ℕ) → link < row_count rows → slot_at table link list_cases_slot ≡ limited (cases (list_at rows link))
  unfolding limited
  whole-cases zero h = refl
  whole-cases (suc link) h = (whole_row h).list.cases_are

  pub whole-default : (link : ℕ) → link < row_count rows → slot_at table link list_default_slot ≡ limited (default_place (list_at rows link))
  unfolding limited default_place
  whole-default zero h = refl
  whole-default (suc link) h = (whole_row h).list.default_is

  pub whole-arms : (link : ℕ) → link < row_count rows → slot_at table link arms_rows_slot ≡ limited (arms_size (called_in rows) (arm_list_at rows link))
  unfolding limited arms_size
  whole-arms zero h = refl
  whole-arms (suc link) h = (whole_row h).arms.rows_are
