-- Nineteen stores of a row's measures are the table with the row's words put in; and what is measured in such a table.
use mathlib.Core.Path.{◌≡◌, refl, sym, ap, subst, ◌∙◌}
use mathlib.Core.List.{List, [], ◌∷◌, ◌++◌}
use Prim.Native.Nat.{ℕ, zero, suc, ◌+◌, ◌*◌, ◌≤◌, ◌<◌}
use native.Mathlib.Nat.{suc-add}
use native.Mathlib.Decide.{ℕ_discrete}
use native.Mathlib.Omega.{arith}
use lib.Arith.{lt_of_le-ne}
use lib.ListN.{length, take, drop, set, get_or}
use lib.IntN.{ℤ}
use Rattle.words.specs.Table.{row_count}
use Rattle.language.specs.Decode.{expression_at, statement_at, items_at, arms_at}
use Rattle.measures_table.specs.Parts.{called_in}
use Rattle.measures_table.specs.Measures.{width, rows_slot, levels_slot, value_slot, statement_rows_slot, statement_levels_slot, statement_labels_slot, list_rows_slot, list_levels_slot, list_labels_slot, list_cases_slot, list_default_slot, copied_slot, dropped_rows_slot, dropped_levels_slot, stored_levels_slot, arms_rows_slot, arms_levels_slot, arms_labels_slot, copies_slot, slot, row_words, ExpressionMeasured, StatementMeasured, ListMeasured, ArmsMeasured, MeasuredRow, MeasuredFrom}
use Rattle.measures_table.specs.declared.ExpressionMeasures.{ExpressionMeasures}
use Rattle.measures_table.specs.declared.StatementMeasures.{StatementMeasures}
use Rattle.measures_table.specs.declared.ListMeasures.{ListMeasures}
use Rattle.measures_table.proofs.RowWords.{stored-length, own-words, other-words}

pub nineteen-stores : (l : List ℕ) (n a b c d e f g h i j k m o q r s v w z : ℕ) → n + 19 ≤ length l
    → set (set (set (set (set (set (set (set (set (set (set (set (set (set (set (set (set (set (set l (n + 0) a) (n + 1) b) (n + 2) c) (n + 3) d) (n + 4) e) (n + 5) f) (n + 6) g) (n + 7) h) (n + 8) i) (n + 9) j) (n + 10) k) (n + 11) m) (n + 12) o) (n + 13) q) (n + 14) r) (n + 15) s) (n + 16) v) (n + 17) w) (n + 18) z
    ≡ (take n l ++ (a ∷ b ∷ c ∷ d ∷ e ∷ f ∷ g ∷ h ∷ i ∷ j ∷ k ∷ m ∷ o ∷ q ∷ r ∷ s ∷ v ∷ w ∷ z ∷ [])) ++ drop (n + 19) l
nineteen-stores [] n a b c d e f g h i j k m o q r s v w z p = absurd (omega arith)
nineteen-stores (x ∷ l) (suc n) a b c d e f g h i j k m o q r s v w z p =
    rw (suc-add n 0, suc-add n 1, suc-add n 2, suc-add n 3, suc-add n 4, suc-add n 5, suc-add n 6, suc-add n 7, suc-add n 8, suc-add n 9, suc-add n 10, suc-add n 11, suc-add n 12, suc-add n 13, suc-add n 14, suc-add n 15, suc-add n 16, suc-add n 17, suc-add n 18, suc-add n 19)
    (ap (λ (y : List ℕ). x ∷ y) (nineteen-stores l n a b c d e f g h i j k m o q r s v w z (omega arith)))
nineteen-stores (x0 ∷ []) zero a b c d e f g h i j k m o q r s v w z p = absurd (omega arith)
nineteen-stores (x0 ∷ x1 ∷ []) zero a b c d e f g h i j k m o q r s v w z p = absurd (omega arith)
nineteen-stores (x0 ∷ x1 ∷ x2 ∷ []) zero a b c d e f g h i j k m o q r s v w z p = absurd (omega arith)
nineteen-stores (x0 ∷ x1 ∷ x2 ∷ x3 ∷ []) zero a b c d e f g h i j k m o q r s v w z p = absurd (omega arith)
nineteen-stores (x0 ∷ x1 ∷ x2 ∷ x3 ∷ x4 ∷ []) zero a b c d e f g h i j k m o q r s v w z p = absurd (omega arith)
nineteen-stores (x0 ∷ x1 ∷ x2 ∷ x3 ∷ x4 ∷ x5 ∷ []) zero a b c d e f g h i j k m o q r s v w z p = absurd (omega arith)
nineteen-stores (x0 ∷ x1 ∷ x2 ∷ x3 ∷ x4 ∷ x5 ∷ x6 ∷ []) zero a b c d e f g h i j k m o q r s v w z p = absurd (omega arith)
nineteen-stores (x0 ∷ x1 ∷ x2 ∷ x3 ∷ x4 ∷ x5 ∷ x6 ∷ x7 ∷ []) zero a b c d e f g h i j k m o q r s v w z p = absurd (omega arith)
nineteen-stores (x0 ∷ x1 ∷ x2 ∷ x3 ∷ x4 ∷ x5 ∷ x6 ∷ x7 ∷ x8 ∷ []) zero a b c d e f g h i j k m o q r s v w z p = absurd (omega arith)
nineteen-stores (x0 ∷ x1 ∷ x2 ∷ x3 ∷ x4 ∷ x5 ∷ x6 ∷ x7 ∷ x8 ∷ x9 ∷ []) zero a b c d e f g h i j k m o q r s v w z p = absurd (omega arith)
nineteen-stores (x0 ∷ x1 ∷ x2 ∷ x3 ∷ x4 ∷ x5 ∷ x6 ∷ x7 ∷ x8 ∷ x9 ∷ x10 ∷ []) zero a b c d e f g h i j k m o q r s v w z p = absurd (omega arith)
nineteen-stores (x0 ∷ x1 ∷ x2 ∷ x3 ∷ x4 ∷ x5 ∷ x6 ∷ x7 ∷ x8 ∷ x9 ∷ x10 ∷ x11 ∷ []) zero a b c d e f g h i j k m o q r s v w z p = absurd (omega arith)
nineteen-stores (x0 ∷ x1 ∷ x2 ∷ x3 ∷ x4 ∷ x5 ∷ x6 ∷ x7 ∷ x8 ∷ x9 ∷ x10 ∷ x11 ∷ x12 ∷ []) zero a b c d e f g h i j k m o q r s v w z p = absurd (omega arith)
nineteen-stores (x0 ∷ x1 ∷ x2 ∷ x3 ∷ x4 ∷ x5 ∷ x6 ∷ x7 ∷ x8 ∷ x9 ∷ x10 ∷ x11 ∷ x12 ∷ x13 ∷ []) zero a b c d e f g h i j k m o q r s v w z p = absurd (omega arith)
nineteen-stores (x0 ∷ x1 ∷ x2 ∷ x3 ∷ x4 ∷ x5 ∷ x6 ∷ x7 ∷ x8 ∷ x9 ∷ x10 ∷ x11 ∷ x12 ∷ x13 ∷ x14 ∷ []) zero a b c d e f g h i j k m o q r s v w z p = absurd (omega arith)
nineteen-stores (x0 ∷ x1 ∷ x2 ∷ x3 ∷ x4 ∷ x5 ∷ x6 ∷ x7 ∷ x8 ∷ x9 ∷ x10 ∷ x11 ∷ x12 ∷ x13 ∷ x14 ∷ x15 ∷ []) zero a b c d e f g h i j k m o q r s v w z p = absurd (omega arith)
nineteen-stores (x0 ∷ x1 ∷ x2 ∷ x3 ∷ x4 ∷ x5 ∷ x6 ∷ x7 ∷ x8 ∷ x9 ∷ x10 ∷ x11 ∷ x12 ∷ x13 ∷ x14 ∷ x15 ∷ x16 ∷ []) zero a b c d e f g h i j k m o q r s v w z p = absurd (omega arith)
nineteen-stores (x0 ∷ x1 ∷ x2 ∷ x3 ∷ x4 ∷ x5 ∷ x6 ∷ x7 ∷ x8 ∷ x9 ∷ x10 ∷ x11 ∷ x12 ∷ x13 ∷ x14 ∷ x15 ∷ x16 ∷ x17 ∷ []) zero a b c d e f g h i j k m o q r s v w z p = absurd (omega arith)
nineteen-stores (x0 ∷ x1 ∷ x2 ∷ x3 ∷ x4 ∷ x5 ∷ x6 ∷ x7 ∷ x8 ∷ x9 ∷ x10 ∷ x11 ∷ x12 ∷ x13 ∷ x14 ∷ x15 ∷ x16 ∷ x17 ∷ x18 ∷ l) zero a b c d e f g h i j k m o q r s v w z p = refl

module _ (rows : List ℤ) (t u : List ℕ) (row : ℕ) (e : ExpressionMeasures) (s : StatementMeasures) (l : ListMeasures) (a : StatementMeasures)
    (fits : width * row + width ≤ length t) (is : u ≡ (take (width * row) t ++ row_words e s l a) ++ drop (width * row + width) t) where
  own : (k : ℕ) → k < width → slot u row k ≡ get_or (row_words e s l a) k 0
  own k h = own-words width t u (row_words e s l a) row refl fits is k h

  others : (other k : ℕ) → row < other → slot u other k ≡ slot t other k
  others other k h = other-words width t u (row_words e s l a) row refl fits is (width * other + k) (omega arith)

  module _ (em : ExpressionMeasured rows (expression_at rows row) e) (sm : StatementMeasured (called_in rows) (statement_at rows row) s) (lm : ListMeasured (called_in rows) (items_at rows row) l) (am : ArmsMeasured (called_in rows) (arms_at rows row) a) where
    own_row : MeasuredRow rows u row
    own_row = record {
      expression = rw (own rows_slot (omega arith), own levels_slot (omega arith), own value_slot (omega arith), own copied_slot (omega arith), own dropped_rows_slot (omega arith), own dropped_levels_slot (omega arith), own stored_levels_slot (omega arith), own copies_slot (omega arith)) em;
      statement = rw (own statement_rows_slot (omega arith), own statement_levels_slot (omega arith), own statement_labels_slot (omega arith)) sm;
      list = rw (own list_rows_slot (omega arith), own list_levels_slot (omega arith), own list_labels_slot (omega arith), own list_cases_slot (omega arith), own list_default_slot (omega arith)) lm;
      arms = rw (own arms_rows_slot (omega arith), own arms_levels_slot (omega arith), own arms_labels_slot (omega arith)) am;
    }

    other_row : (other : ℕ) → row < other → MeasuredRow rows t other → MeasuredRow rows u other
    other_row other h m = record {
      expression = rw (others other rows_slot h, others other levels_slot h, others other value_slot h, others other copied_slot h, others other dropped_rows_slot h, others other dropped_levels_slot h, others other stored_levels_slot h, others other copies_slot h) m.expression;
      statement = rw (others other statement_rows_slot h, others other statement_levels_slot h, others other statement_labels_slot h) m.statement;
      list = rw (others other list_rows_slot h, others other list_levels_slot h, others other list_labels_slot h, others other list_cases_slot h, others other list_default_slot h) m.list;
      arms = rw (others other arms_rows_slot h, others other arms_levels_slot h, others other arms_labels_slot h) m.arms;
    }

    -- with the row's words in, one more row is measured
    pub one_more : MeasuredFrom rows t (row + 1) → MeasuredFrom rows u row
    one_more m = record {
      source = m.source;
      room = omega (arith, m.room, stored-length width t u (row_words e s l a) row refl fits is);
      row_measured = λ r h b. by r h b (lem-eq r);
    }
      where
        lem-eq : (r : ℕ) → Dec (r ≡ row)
        lem-eq r = ℕ_discrete r row

        by : (r : ℕ) → row ≤ r → r < row_count rows → Dec (r ≡ row) → MeasuredRow rows u r
        by r h b (yes q) = subst (λ (r : ℕ). MeasuredRow rows u r) (sym q) own_row
        by r h b (no q) = let k = lt_of_le-ne h (λ x. q (sym x)) in other_row r k (m.row_measured r (omega arith) b)
