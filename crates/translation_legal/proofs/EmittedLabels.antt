-- A label that stands once in a tree stands once in its table: the rows with a label count as often as the tree has it.
use Rattle.std.proofs.Math.Path.{◌≡◌, refl, ap}
use Rattle.std.proofs.Common.{sym, ◌∙◌}
use Rattle.std.specs.Prelude.{Bool, ◌&&◌, List, ℤ, pos}
use Rattle.std.proofs.Math.Bool.{true, false}
use Prim.Native.Nat.{ℕ, zero, suc, ◌+◌, ◌*◌, ◌-◌, ◌≤◌, ◌<◌}
use Rattle.std.proofs.Math.Numerals.{add-one}
use Rattle.std.proofs.Math.Nat.{add-zero, add-suc}
use Rattle.std.proofs.Math.Decide.{ℕ_discrete, dec_lt}
use native.Mathlib.Omega.{arith}
use Rattle.std.proofs.Math.Arith.{lt_of_le-ne}
use Rattle.std.proofs.Math.Dec.{eqb}
use borrow.Author.Tests.{eq-eqb, eqb-true}
use Rattle.std.proofs.Math.ListN.{length, get_or-eq_default}
use Rattle.words.specs.Word.{natural, one}
use Rattle.words.specs.Table.{row_count, word_at, number_at}
use Rattle.language.specs.Trees.{Expression, Statement, Items}
use Rattle.language.specs.Sizes.{expression_rows, statement_rows, items_rows}
use Rattle.translation.specs.KernelForm.{statement_times, items_times}
use Rattle.words.specs.Kinds.{sort_of, sort_at, kind_of, kind_in, kinds, sort_in, kind_row, expression_fields, statement_fields, mark_fields, definition_fields, member_fields}
use Rattle.words.specs.Links.{is_statement}
use Rattle.check_labels.specs.Ahead.{Label}
use Rattle.language_emission.specs.Emitted.{Row, EmittedExpression, EmittedParameters, no_parameter_at, parameter-at, EmittedStatement, empty-at, express-at, block_at, if-at, while-at, goto-at, abort-at, return-at, EmittedItems, none-at, then_at, label_at, define-at}
use Rattle.translation_legal.specs.Ranges.{Each}
use Rattle.translation_legal.proofs.EmittedAhead.{plain-expression}

module _ (rows : List ℤ) (l : ℕ) where
  -- Whether the label stands at a row, and at how many rows before a row.
  abbrev stands : ℕ → Bool
  stands row = eqb (number_at rows row 0) 53 && eqb l (number_at rows row 1)

  labels_before : ℕ → ℕ
  labels_before zero = 0
  labels_before (suc row) = labels_before row + one (stands row)

  before-next : (row : ℕ) → labels_before (row + 1) ≡ labels_before row + one (stands row)
  unfolding labels_before
  before-next row = rw add-one

  -- The rows of an expression have no label.
  no_label : (row : ℕ) → is_statement rows row ≡ false → stands row ≡ false
  unfolding is_statement sort_at sort_of kind_of kind_in kinds sort_in kind_row expression_fields statement_fields mark_fields definition_fields member_fields
  no_label row e = go (eqb (number_at rows row 0) 53) refl
    where
      go : (b : Bool) → eqb (number_at rows row 0) 53 ≡ b → (b && eqb l (number_at rows row 1)) ≡ false
      go true q =
          let kind : number_at rows row 0 ≡ 53 = eqb-true _ _ q in
          let other : true ≡ false = rw kind at e in
          absurd (let z : ◌≡◌ {A = ℕ} 0 1 = cc in omega arith)
      go false q = refl

  none_before : (base n : ℕ) → Each (λ row. is_statement rows row ≡ false) base (base + n) → labels_before (base + n) ≡ labels_before base
  unfolding labels_before
  none_before base zero h = ap labels_before (add-zero base)
  none_before base (suc n) h =
      let last = no_label (base + n) (h (base + n) (omega arith) (omega arith)) in
      let rest = none_before base n (λ row p q. h row p (omega arith)) in
      rw (add-suc, last) (omega arith)

  before-expression : {e : Expression} {base : ℕ} (end : ℕ) → base + expression_rows e ≡ end → EmittedExpression rows e base → labels_before end ≡ labels_before base
  before-expression {e} {base} end q m = ap labels_before (sym q) ∙ none_before base (expression_rows e) (plain-expression (base + expression_rows e) refl m)

  -- A row that is no label.
  other_row : {row kind a b c d next : ℕ} → Row rows row kind a b c d next → eqb kind 53 ≡ false → labels_before (row + 1) ≡ labels_before row
  other_row {row} r h = before-next row ∙ rw (r.kind_is, h) (omega arith)

  label-row : {row k b c d next : ℕ} → Row rows row 53 k b c d next → labels_before (row + 1) ≡ labels_before row + one (eqb l k)
  label-row {row} r = before-next row ∙ rw (r.kind_is, r.a_is)

  before-parameters : {words : List ℕ} {base : ℕ} (end : ℕ) → base + length words ≡ end → EmittedParameters rows words base → labels_before end ≡ labels_before base
  before-parameters end q (no_parameter_at {base}) = let z : end ≡ base = omega arith in ap labels_before z
  before-parameters end q (parameter-at {word} {words} {base} r n) = before-parameters end (omega arith) n ∙ other_row r refl

  mutual
    unfolding statement_rows statement_times

    before-statement : {s : Statement} {base next : ℕ} (end : ℕ) → base + statement_rows s ≡ end → EmittedStatement rows s base next → labels_before end ≡ labels_before base + statement_times l s
    before-statement end q (empty-at {base} r) = let z : end ≡ base + 1 = omega arith in rw z (omega (arith, other_row r refl))
    before-statement end q (express-at {e} {base} r m) = omega (arith, other_row r refl, before-expression end (omega arith) m)
    before-statement end q (block_at {is} {base} r m) = omega (arith, other_row r refl, before-items end (omega arith) m)
    before-statement end q (if-at {e} {on_true} {on_false} {base} r m n o) =
        omega (arith, other_row r refl, before-expression (base + 1 + expression_rows e) refl m, before-statement (base + 1 + expression_rows e + statement_rows on_true) refl n, before-statement end (omega arith) o)
    before-statement end q (while-at {e} {body} {base} r m n) =
        omega (arith, other_row r refl, before-expression (base + 1 + expression_rows e) refl m, before-statement end (omega arith) n)
    before-statement end q (goto-at {l = k} {base} r) = let z : end ≡ base + 1 = omega arith in rw z (omega (arith, other_row r refl))
    before-statement end q (abort-at {base} r) = let z : end ≡ base + 1 = omega arith in rw z (omega (arith, other_row r refl))
    before-statement end q (return-at {e} {base} r m) = omega (arith, other_row r refl, before-expression end (omega arith) m)

    before-items : {is : Items} {base : ℕ} (end : ℕ) → base + items_rows is ≡ end → EmittedItems rows is base → labels_before end ≡ labels_before base + items_times l is
    before-items end q (none-at {base}) = let z : end ≡ base = omega arith in rw z (omega arith)
    before-items end q (then_at {s} {is} {base} m n) = omega (arith, before-statement (base + statement_rows s) refl m, before-items end (omega arith) n)
    before-items end q (label_at {l = k} {is} {base} r n) = omega (arith, label-row r, before-items end (omega arith) n)
    before-items end q (define-at {f} {words} {body} {is} {base} r p m n) =
        let own = base + 1 + length words in
        omega (arith, other_row r refl, before-parameters own refl p, before-statement (own + 1 + items_rows body) (omega arith) m, before-items end (omega arith) n)

  before-grows : (row n : ℕ) → labels_before row ≤ labels_before (row + n)
  unfolding labels_before
  before-grows row zero = rw add-zero (omega arith)
  before-grows row (suc n) = rw add-suc (omega (arith, before-grows row n))

  before-most : (low high : ℕ) → low ≤ high → labels_before low ≤ labels_before high
  before-most low high p = let same : low + (high - low) ≡ high = omega arith in rw (← same) (before-grows low (high - low))

  label-counts : (row : ℕ) → Label rows l row → labels_before (row + 1) ≡ labels_before row + 1
  label-counts row label = before-next row ∙ rw (label.label, label.number_is, eq-eqb l l refl)

  -- Beyond the table there is no label.
  label_inside : length rows ≡ 6 * row_count rows → (row : ℕ) → Label rows l row → row < row_count rows
  unfolding number_at word_at natural
  label_inside whole row label = go (dec_lt row (row_count rows))
    where
      go : Dec (row < row_count rows) → row < row_count rows
      go (yes h) = h
      go (no h) =
          let beyond : length rows ≤ 6 * row + 0 = omega arith in
          let kind : number_at rows row 0 ≡ 0 = rw (get_or-eq_default rows (pos 0) beyond) in
          absurd (omega (arith, kind, label.label))

  apart : (row other : ℕ) → labels_before (row_count rows) ≤ 1 → Label rows l row → Label rows l other → other < row_count rows → row < other → ⊥
  apart row other few one_Label other-label inside h =
      omega (arith, label-counts row one_Label, label-counts other other-label, before-most (row + 1) other (omega arith), before-most (other + 1) (row_count rows) (omega arith))

  pub labels-alone : {s : Statement} → length rows ≡ 6 * row_count rows → row_count rows ≡ statement_rows s → EmittedStatement rows s 0 0 → statement_times l s ≤ 1
      → (row other : ℕ) → Label rows l row → Label rows l other → row ≡ other
  unfolding labels_before
  labels-alone {s} whole size m few row other one_Label other-label =
      let count = before-statement (row_count rows) (omega arith) m in
      go (ℕ_discrete row other) (dec_lt row other) (omega arith)
    where
      go : Dec (row ≡ other) → Dec (row < other) → labels_before (row_count rows) ≤ 1 → row ≡ other
      go (yes q) d k = q
      go (no q) (yes h) k = absurd (apart row other k one_Label other-label (label_inside whole other other-label) h)
      go (no q) (no h) k = absurd (apart other row k other-label one_Label (label_inside whole row one_Label) (lt_of_le-ne (omega arith) (λ e. q (sym e))))
