-- A statement's and a list's measures, from those of the rows that their links lead to: shape by shape.
use Rattle.std.specs.Prelude.{None, Option, Some}
use mathlib.Core.Path.{◌≡◌, refl, sym, ap, ap₂, subst, ◌∙◌}
use mathlib.Core.Bool.{Bool, true, false}
use mathlib.Core.List.{List}
use Prim.Native.Nat.{ℕ, zero, suc, ◌+◌, ◌*◌, ◌≤◌, ◌<◌, max}
use native.Mathlib.Omega.{arith}
use lib.IntN.{ℤ}
use Rattle.words.specs.Word.{pick}
use Rattle.language.specs.Trees.{Expression, absent, present, Statement, while, do_while, for, guarded_if, guarded_do, Arms, no_arm, arm, Items, none, ◌here◌, Mark, case, default, label}
use Rattle.language.specs.Decode.{expression_at, statement_at, items_at, arms_at, list_at, arm_list_at, part_at}
use Rattle.language.specs.DecodeLaws.{part-some}
use Rattle.translation.specs.Uses.{direct}
use Rattle.translation.specs.declared.Use.{Use}
use Rattle.translation.specs.declared.Use.TheVariants.{Dropped as dropped, Wanted as wanted, Stored as stored}
use Rattle.translation.specs.Translate.{atom_of, taken, labels, arms_labels, items_labels, expression_levels, operand_levels, statement_levels, arms_levels, items_levels}
use Rattle.translation.proofs.TranslateBounds.{taken_most}
use Rattle.translation.specs.TranslateSize.{expression_size, operand_size, test_size, statement_size, arms_size, items_size, cases}
use Rattle.language_shapes.specs.Shapes.{statement_tree, Onward, OptionalOnward, Initial, ItemAt, ArmAt}
use Rattle.language_shapes.specs.Source.{StatementAt}
use Rattle.language_shapes.specs.ShapeLaws.{optional}
use Rattle.language_shapes.specs.declared.StatementShape.{StatementShape}
use Rattle.language_shapes.specs.declared.StatementShape.TheVariants.{Express, Block, If, While, Do, For, Switch, GuardedIf, GuardedDo, Declare, Return}
use Rattle.language_shapes.specs.declared.MarkShape.TheVariants.{Case, Default, Label}
use Rattle.language_shapes.specs.declared.Item.TheVariants as item
use Rattle.measures_table.specs.Parts.{called_in}
use Rattle.measures_table.specs.Measures.{limited, past_labels, default_place, rows_slot, levels_slot, dropped_rows_slot, dropped_levels_slot, rows_for, levels_for, statement_rows_slot, statement_levels_slot, statement_labels_slot, list_rows_slot, list_levels_slot, list_labels_slot, list_cases_slot, list_default_slot, arms_rows_slot, arms_levels_slot, arms_labels_slot, slot_at, test_slots, MeasuredFrom, StatementMeasured, ListMeasured, ArmsMeasured, mark_measures, statement_measures, plain_measures, no_measures, around_arms, express_measures, block_measures, if_measures, loop_measures, switch_measures, guarded_measures, rounds_measures, declare_measures, return_measures, arm_measures}
use Rattle.measures_table.specs.declared.StatementMeasures.{StatementMeasures}
use Rattle.measures_table.specs.declared.ListMeasures.{ListMeasures}
use Rattle.measures_table.specs.MeasureLaws.{part-rows, part-levels, list-rows, list-levels, list-labels, list_cases, list-default, arms-rows, arms-levels, arms-labels, body-rows, body-levels, body-labels}
use Rattle.measures_expressions.proofs.ExpressionLaws.{limited-max, limited-twice}

small : (n : ℕ) → n ≤ 2 → n ≡ limited n
unfolding limited
small n h = omega arith

-- the rows that store a value are few
pub store-small : {n : ℕ} (straight : Bool) → n ≡ pick straight 0 4 → n ≤ 4
store-small true e = omega arith
store-small false e = omega arith

sum : (x y a b : ℕ) → x ≡ limited a → y ≡ limited b → limited (x + y) ≡ limited (a + b)
unfolding limited
sum x y a b h k = omega arith

more : (a x : ℕ) → x ≡ limited a → (d : ℕ) → limited (past_labels x d) ≡ limited (past_labels a d)
unfolding limited
more a x h zero = refl
more a x h (suc d) = omega arith

-- a sum of two, each cut off or not
step : (p q x a : ℕ) → limited p ≡ limited q → limited x ≡ limited a → limited (p + x) ≡ limited (q + a)
unfolding limited
step p q x a h k = omega arith

cut : (x a : ℕ) → x ≡ limited a → limited x ≡ limited a
cut x a e = ap limited e ∙ limited-twice a

flat : (w x y z : ℕ) → 5 + (w + x) + (y + z) ≡ 5 + w + x + y + z
flat w x y z = omega arith

two_more : (x a : ℕ) → x ≡ limited a → limited (2 + x) ≡ limited (2 + a)
unfolding limited
two_more x a e = omega arith

one_more : (x a : ℕ) → x ≡ limited a → limited (1 + x) ≡ limited (1 + a)
unfolding limited
one_more x a e = omega arith

-- a switch: its selector, the tests of its cases, its items
selected : (x y z a b c : ℕ) → x ≡ limited a → y ≡ limited b → z ≡ limited c → limited (2 + x + 11 * y + z) ≡ limited (2 + a + 11 * b + c)
unfolding limited
selected x y z a b c p q r = omega arith

past-limited : (more x d : ℕ) → x ≡ limited d → limited (past_labels more x) ≡ limited (past_labels more d)
unfolding limited
past-limited more zero zero h = refl
past-limited more zero (suc d) h = absurd (omega arith)
past-limited more (suc x) zero h = absurd (omega arith)
past-limited more (suc x) (suc d) h = omega arith

past-nothing : (place : ℕ) → past_labels 0 place ≡ place
past-nothing zero = refl
past-nothing (suc place) = omega arith

-- while and do are loops of one form with for
same-measured : {called : ℕ → ℕ → Bool} {s t : Statement} {r : StatementMeasures} → statement_size called s ≡ statement_size called t → statement_levels called s ≡ statement_levels called t → labels s ≡ labels t → StatementMeasured called s r → StatementMeasured called t r
same-measured p q l h = record { rows_are = h.rows_are ∙ ap limited p; levels_are = h.levels_are ∙ ap limited q; labels_are = h.labels_are ∙ ap limited l }

while-measured : {called : ℕ → ℕ → Bool} {e : Expression} {body : Statement} {r : StatementMeasures} → StatementMeasured called (for absent (present e) absent body) r → StatementMeasured called (while e body) r
unfolding statement_size statement_levels labels
while-measured {called} {e} {body} h = same-measured {called = called} {s = for absent (present e) absent body} {t = while e body} (omega arith) (omega arith) refl h

do-measured : {called : ℕ → ℕ → Bool} {e : Expression} {body : Statement} {r : StatementMeasures} → StatementMeasured called (for absent (present e) absent body) r → StatementMeasured called (do_while body e) r
unfolding statement_size statement_levels labels
do-measured {called} {e} {body} h = same-measured {called = called} {s = for absent (present e) absent body} {t = do_while body e} (omega arith) (omega arith) refl h

-- a guarded do by its arms: what their measures x, y, z come to
rounds-measured : {called : ℕ → ℕ → Bool} (arms : Arms) (x y z : ℕ) → x ≡ limited (arms_size called arms) → y ≡ limited (arms_levels called arms) → z ≡ limited (arms_labels arms)
    → StatementMeasured called (guarded_do arms) (around_arms x (record { rows = limited (6 + x); levels = y; labels = limited (2 + z) }))
unfolding statement_size statement_levels labels arms_size arms_levels arms_labels limited
rounds-measured no_arm zero y z p q r = record { rows_are = refl; levels_are = refl; labels_are = refl }
rounds-measured no_arm (suc x) y z p q r = absurd (omega arith)
rounds-measured (arm e s arms) zero y z p q r = absurd (omega arith)
rounds-measured (arm e s arms) (suc x) y z p q r = record { rows_are = omega arith; levels_are = q; labels_are = omega arith }

module _ {rows : List ℤ} {table : List ℕ} {row : ℕ} (m : MeasuredFrom rows table (row + 1)) where
  -- an expression that is there
  some_rows : (u : Use) (link : ℕ) → Onward rows row link → slot_at table link (rows_for u) ≡ limited (expression_size (called_in rows) (expression_at rows link) u)
  some_rows u link o = part-rows rows table m u link (optional o) ∙ ap (λ p. limited (operand_size (called_in rows) p u)) (part-some rows link (omega (arith, o.later)))

  some-levels : (u : Use) (link : ℕ) → Onward rows row link → slot_at table link (levels_for u) ≡ limited (expression_levels (called_in rows) (expression_at rows link) u)
  some-levels u link o = part-levels rows table m u link (optional o) ∙ ap (λ p. limited (operand_levels (called_in rows) p u)) (part-some rows link (omega (arith, o.later)))

  -- ---- statements, shape by shape

  by_shape : {s : StatementShape} {r r' : StatementMeasures} → StatementAt rows row s → r ≡ r' → StatementMeasured (called_in rows) (statement_tree rows s) r' → StatementMeasured (called_in rows) (statement_at rows row) r
  by_shape {s} {r} {r'} f e h = rw e (subst (λ (t : Statement). StatementMeasured (called_in rows) t r') (sym f.is) h)

  pub plain-measured : {s : StatementShape} {r : StatementMeasures} → StatementAt rows row s → statement_size (called_in rows) (statement_tree rows s) ≡ 1 → statement_levels (called_in rows) (statement_tree rows s) ≡ 0 → labels (statement_tree rows s) ≡ 0
      → r ≡ plain_measures → StatementMeasured (called_in rows) (statement_at rows row) r
  plain-measured f p q l e =
      by_shape f e (record { rows_are = small 1 (omega arith) ∙ sym (ap limited p); levels_are = small 0 (omega arith) ∙ sym (ap limited q); labels_are = small 0 (omega arith) ∙ sym (ap limited l) })

  pub express-measured : {e : ℕ} {r : StatementMeasures} → StatementAt rows row (Express e) → r ≡ express_measures table e → StatementMeasured (called_in rows) (statement_at rows row) r
  unfolding statement_size statement_levels labels limited
  express-measured {e} f h = by_shape f h (record { rows_are = omega (arith, some_rows dropped e f.onward); levels_are = some-levels dropped e f.onward; labels_are = refl })

  pub block-measured : {list : ℕ} {r : StatementMeasures} → StatementAt rows row (Block list) → r ≡ block_measures table list → StatementMeasured (called_in rows) (statement_at rows row) r
  unfolding statement_size statement_levels labels limited
  block-measured {list} f h = by_shape f h (record {
    rows_are = omega (arith, list-rows rows table m list f.onward);
    levels_are = list-levels rows table m list f.onward;
    labels_are = list-labels rows table m list f.onward;
  })

  if-rows : (e on_true on_false : ℕ) → Onward rows row e → Onward rows row on_true → OptionalOnward rows row on_false → (if_measures table e on_true on_false).rows ≡ limited (statement_size (called_in rows) (statement_tree rows (If e on_true on_false)))
  unfolding statement_size limited
  if-rows e on_true zero a b c = omega (arith, some_rows wanted e a, body-rows rows table m on_true b)
  if-rows e on_true (suc on_false) a b c = omega (arith, some_rows wanted e a, body-rows rows table m on_true b, body-rows rows table m (suc on_false) (c (omega arith)))

  if-levels : (e on_true on_false : ℕ) → Onward rows row e → Onward rows row on_true → OptionalOnward rows row on_false → (if_measures table e on_true on_false).levels ≡ limited (statement_levels (called_in rows) (statement_tree rows (If e on_true on_false)))
  unfolding statement_levels
  if-levels e on_true zero a b c =
      let none : max (slot_at table on_true statement_levels_slot) 0 ≡ slot_at table on_true statement_levels_slot = omega arith in
      rw (none, limited-max) (ap₂ max (some-levels wanted e a) (body-levels rows table m on_true b))
  if-levels e on_true (suc on_false) a b c =
      rw (limited-max, limited-max) (ap₂ max (some-levels wanted e a) (ap₂ max (body-levels rows table m on_true b) (body-levels rows table m (suc on_false) (c (omega arith)))))

  if-labels : (e on_true on_false : ℕ) → Onward rows row on_true → OptionalOnward rows row on_false → (if_measures table e on_true on_false).labels ≡ limited (labels (statement_tree rows (If e on_true on_false)))
  unfolding labels limited
  if-labels e on_true zero b c = omega (arith, body-labels rows table m on_true b)
  if-labels e on_true (suc on_false) b c = omega (arith, body-labels rows table m on_true b, body-labels rows table m (suc on_false) (c (omega arith)))

  pub if-measured : {e on_true on_false : ℕ} {r : StatementMeasures} → StatementAt rows row (If e on_true on_false) → r ≡ if_measures table e on_true on_false → StatementMeasured (called_in rows) (statement_at rows row) r
  if-measured {e} {on_true} {on_false} f h =
      let o = f.onward in
      by_shape f h (record { rows_are = if-rows e on_true on_false o.0 o.1 o.2; levels_are = if-levels e on_true on_false o.0 o.1 o.2; labels_are = if-labels e on_true on_false o.1 o.2 })

  test-slots : (test : ℕ) → OptionalOnward rows row test → limited (test_slots table test) ≡ limited (test_size (called_in rows) (part_at rows test))
  unfolding limited
  test-slots zero o = refl
  test-slots (suc test) o = omega (arith, part-rows rows table m wanted (suc test) o)

  loop-measured : (first test action body : ℕ) → OptionalOnward rows row first → OptionalOnward rows row test → OptionalOnward rows row action → Onward rows row body
      → StatementMeasured (called_in rows) (for (part_at rows first) (part_at rows test) (part_at rows action) (statement_at rows body)) (loop_measures table first test action body)
  unfolding statement_size statement_levels labels
  loop-measured first test action body a b c d = record {
    rows_are =
        ap limited (flat (slot_at table first dropped_rows_slot) (test_slots table test) (slot_at table action dropped_rows_slot) (slot_at table body statement_rows_slot))
        ∙ step _ _ _ _ (step _ _ _ _ (step _ _ _ _ (step 5 5 _ _ refl (cut _ _ (part-rows rows table m dropped first a))) (test-slots test b)) (cut _ _ (part-rows rows table m dropped action c))) (cut _ _ (body-rows rows table m body d));
    levels_are = simp limited-max (ap₂ max (ap₂ max (part-levels rows table m dropped first a) (part-levels rows table m wanted test b)) (ap₂ max (part-levels rows table m dropped action c) (body-levels rows table m body d)));
    labels_are = two_more _ _ (body-labels rows table m body d);
  }

  pub for-measured : {first test action body : ℕ} {r : StatementMeasures} → StatementAt rows row (For first test action body) → r ≡ loop_measures table first test action body → StatementMeasured (called_in rows) (statement_at rows row) r
  for-measured {first} {test} {action} {body} f h = let o = f.onward in by_shape f h (loop-measured first test action body o.0 o.1 o.2 o.3)

  -- a loop with a test and a body
  tested : (e body : ℕ) → Onward rows row e → Onward rows row body → StatementMeasured (called_in rows) (for absent (present (expression_at rows e)) absent (statement_at rows body)) (loop_measures table 0 e 0 body)
  tested e body a b = rw (part-some rows e (omega (arith, a.later))) at (loop-measured 0 e 0 body (λ h. absurd (omega arith)) (optional a) (λ h. absurd (omega arith)) b)

  pub while-shape : {e body : ℕ} {r : StatementMeasures} → StatementAt rows row (While e body) → r ≡ loop_measures table 0 e 0 body → StatementMeasured (called_in rows) (statement_at rows row) r
  while-shape {e} {body} f h = by_shape f h (while-measured (tested e body f.onward.0 f.onward.1))

  pub do-shape : {e body : ℕ} {r : StatementMeasures} → StatementAt rows row (Do body e) → r ≡ loop_measures table 0 e 0 body → StatementMeasured (called_in rows) (statement_at rows row) r
  do-shape {e} {body} f h = by_shape f h (do-measured (tested e body f.onward.1 f.onward.0))

  pub switch-measured : {e list held : ℕ} {r : StatementMeasures} → StatementAt rows row (Switch e list) → held ≡ taken (atom_of (called_in rows) (expression_at rows e)) → r ≡ switch_measures table held e list → StatementMeasured (called_in rows) (statement_at rows row) r
  unfolding statement_size statement_levels labels
  switch-measured {e} {list} {held} f p h =
      let o = f.onward in
      by_shape f h (record {
        rows_are = switch-rows e list o.0 o.1;
        levels_are = simp limited-max (ap₂ max (small (held + 1) (omega (arith, taken_most (atom_of (called_in rows) (expression_at rows e)))) ∙ ap (λ (n : ℕ). limited (n + 1)) p) (ap₂ max (some-levels wanted e o.0) (list-levels rows table m list o.1)));
        labels_are = one_more _ _ (list-labels rows table m list o.1);
      })
    where
      switch-rows : (e list : ℕ) → Onward rows row e → OptionalOnward rows row list → (switch_measures table held e list).rows ≡ limited (2 + expression_size (called_in rows) (expression_at rows e) wanted + 11 * cases (list_at rows list) + items_size (called_in rows) (list_at rows list))
      switch-rows e list a b = selected _ _ _ _ _ _ (some_rows wanted e a) (list_cases rows table m list b) (list-rows rows table m list b)

  pub guarded-measured : {arms : ℕ} {r : StatementMeasures} → StatementAt rows row (GuardedIf arms) → r ≡ guarded_measures table 2 1 arms → StatementMeasured (called_in rows) (statement_at rows row) r
  unfolding statement_size statement_levels labels
  guarded-measured {arms} f h = by_shape f h (record {
    rows_are = two_more _ _ (arms-rows rows table m arms f.onward);
    levels_are = arms-levels rows table m arms f.onward;
    labels_are = one_more _ _ (arms-labels rows table m arms f.onward);
  })

  pub rounds-shape : {arms : ℕ} {r : StatementMeasures} → StatementAt rows row (GuardedDo arms) → r ≡ rounds_measures table arms → StatementMeasured (called_in rows) (statement_at rows row) r
  rounds-shape {arms} f h =
      by_shape f h (rounds-measured (arm_list_at rows arms) _ _ _ (arms-rows rows table m arms f.onward) (arms-levels rows table m arms f.onward) (arms-labels rows table m arms f.onward))

  -- an absent expression takes nothing, as a constant does
  initial-rows : (i e : ℕ) → Initial rows row e → slot_at table e (rows_for (stored i)) ≡ limited (expression_size (called_in rows) (expression_at rows e) (stored i))
  unfolding limited expression_size
  initial-rows i zero o = rw (o.absent refl)
  initial-rows i (suc e) o = some_rows (stored i) (suc e) (o.onward (omega arith))

  initial-levels : (i e : ℕ) → Initial rows row e → slot_at table e (levels_for (stored i)) ≡ limited (expression_levels (called_in rows) (expression_at rows e) (stored i))
  unfolding limited expression_levels
  initial-levels i zero o = rw (o.absent refl)
  initial-levels i (suc e) o = some-levels (stored i) (suc e) (o.onward (omega arith))

  pub declare-measured : {i e store : ℕ} {r : StatementMeasures} → StatementAt rows row (Declare i e) → store ≡ pick (direct (expression_at rows e)) 0 4 → r ≡ declare_measures table store e → StatementMeasured (called_in rows) (statement_at rows row) r
  unfolding statement_size statement_levels labels
  declare-measured {i} {e} {store} f p h =
      let o = f.onward.1 in
      by_shape f h (record {
        rows_are = step store _ _ _ (ap limited p) (cut _ _ (initial-rows i e o));
        levels_are = initial-levels i e o;
        labels_are = small 0 (omega arith);
      })

  pub return-measured : {value : ℕ} {r : StatementMeasures} → StatementAt rows row (Return value) → r ≡ return_measures table value → StatementMeasured (called_in rows) (statement_at rows row) r
  unfolding statement_size statement_levels labels
  return-measured {value} f h =
      by_shape f h (record { rows_are = two_more _ _ (part-rows rows table m wanted value f.onward); levels_are = part-levels rows table m wanted value f.onward; labels_are = small 0 (omega arith) })

  -- ---- arms

  pub arm-measured : {guard body next : ℕ} {r : StatementMeasures} → ArmAt rows row next (Some (guard, body)) → r ≡ arm_measures table guard body next → ArmsMeasured (called_in rows) (arms_at rows row) r
  unfolding arms_size arms_levels arms_labels
  arm-measured {guard} {body} {next} f h =
      let o = f.onward in
      rw (h, f.is) (record {
        rows_are = step _ _ _ _ (step _ _ _ _ (step 5 5 _ _ refl (cut _ _ (some_rows wanted guard o.0))) (cut _ _ (body-rows rows table m body o.1))) (cut _ _ (arms-rows rows table m next f.behind));
        levels_are = simp limited-max (ap₂ max (some-levels wanted guard o.0) (ap₂ max (body-levels rows table m body o.1) (arms-levels rows table m next f.behind)));
        labels_are = sum _ _ _ _ (body-labels rows table m body o.1) (arms-labels rows table m next f.behind);
      })

  pub no-arm-measured : {next : ℕ} {r : StatementMeasures} → ArmAt rows row next None → r ≡ no_measures → ArmsMeasured (called_in rows) (arms_at rows row) r
  unfolding arms_size arms_levels arms_labels
  no-arm-measured f h = rw (h, f.is) (record { rows_are = small 0 (omega arith); levels_are = small 0 (omega arith); labels_are = small 0 (omega arith) })

  -- ---- lists

  -- a list that begins with a mark: what it adds to the list behind it
  mark-list : (k : Mark) (next cased place : ℕ) (is : Items) → OptionalOnward rows row next
      → is ≡ k here list_at rows next → (n : ℕ) → cases (k here list_at rows next) ≡ cased + cases (list_at rows next) → place ≡ limited (default_place (k here list_at rows next))
      → ListMeasured (called_in rows) is (mark_measures table next cased place)
  unfolding items_size items_levels items_labels limited
  mark-list k next cased place is o e n c d = rw e (record {
    rows_are = omega (arith, list-rows rows table m next o);
    levels_are = list-levels rows table m next o;
    labels_are = omega (arith, list-labels rows table m next o);
    cases_are = rw c (omega (arith, list_cases rows table m next o));
    default_is = d;
  })

  limited-past : (more : ℕ) (next x : ℕ) → OptionalOnward rows row next → x ≡ slot_at table next list_default_slot → limited (past_labels more x) ≡ limited (past_labels more (default_place (list_at rows next)))
  limited-past more next x o e = past-limited more x (default_place (list_at rows next)) (e ∙ list-default rows table m next o)

  module _ (next : ℕ) where
    pub case-list : {v : ℤ} {place x : ℕ} {r : ListMeasures} → ItemAt rows row next (item.Mark (Case v)) → x ≡ slot_at table next list_default_slot → place ≡ limited (past_labels 1 x) → r ≡ mark_measures table next 1 place → ListMeasured (called_in rows) (items_at rows row) r
    unfolding default_place
    case-list {v} {place} {x} {r} f h p e = rw e (mark-list (case v) next 1 place (items_at rows row) f.onward f.is 0 refl (p ∙ limited-past 1 next x f.onward h))

    pub label-list : {l place x : ℕ} {r : ListMeasures} → ItemAt rows row next (item.Mark (Label l)) → x ≡ slot_at table next list_default_slot → place ≡ limited (past_labels 1 x) → r ≡ mark_measures table next 0 place → ListMeasured (called_in rows) (items_at rows row) r
    unfolding default_place
    label-list {l} {place} {x} {r} f h p e = rw e (mark-list (label l) next 0 place (items_at rows row) f.onward f.is 0 (omega arith) (p ∙ limited-past 1 next x f.onward h))

    pub default-list : {r : ListMeasures} → ItemAt rows row next (item.Mark Default) → r ≡ mark_measures table next 0 1 → ListMeasured (called_in rows) (items_at rows row) r
    unfolding default_place limited
    default-list {r} f e = rw e (mark-list default next 0 1 (items_at rows row) f.onward f.is 0 (omega arith) refl)

    -- a list that begins with a statement
    pub statement-list : {s : StatementMeasures} {r : ListMeasures} → ItemAt rows row next item.Statement → StatementMeasured (called_in rows) (statement_at rows row) s → r ≡ statement_measures table next s → ListMeasured (called_in rows) (items_at rows row) r
    unfolding items_size items_levels items_labels default_place
    statement-list {s} {r} f sm e = rw (e, f.is) (record {
      rows_are = sum s.rows (slot_at table next list_rows_slot) _ _ sm.rows_are (list-rows rows table m next f.onward);
      levels_are = ap₂ max sm.levels_are (list-levels rows table m next f.onward) ∙ sym (limited-max _ _);
      labels_are = sum s.labels (slot_at table next list_labels_slot) _ _ sm.labels_are (list-labels rows table m next f.onward);
      cases_are = list_cases rows table m next f.onward;
      default_is = limited-past s.labels next _ f.onward refl ∙ more (labels (statement_at rows row)) s.labels sm.labels_are (default_place (list_at rows next));
    })

    -- a definition adds nothing where it stands
    pub definition-list : {f words body : ℕ} {r : ListMeasures} → ItemAt rows row next (item.Definition f words body) → r ≡ statement_measures table next no_measures → ListMeasured (called_in rows) (items_at rows row) r
    unfolding items_size items_levels items_labels default_place limited
    definition-list {r = r} f e = rw (e, f.is) (record {
      rows_are = omega (arith, list-rows rows table m next f.onward);
      levels_are = omega (arith, list-levels rows table m next f.onward);
      labels_are = omega (arith, list-labels rows table m next f.onward);
      cases_are = list_cases rows table m next f.onward;
      default_is = limited-past 0 next _ f.onward refl ∙ ap limited (past-nothing (default_place (list_at rows next)));
    })

-- ---- the place of a default behind more labels

pub past-none : (more place : ℕ) → place ≡ 0 → 0 ≡ limited (past_labels more place)
unfolding limited
past-none more zero h = refl
past-none more (suc place) h = absurd (omega arith)

pub past-some : (more place : ℕ) → 0 < place → limited (place + more) ≡ limited (past_labels more place)
past-some more zero h = absurd (omega arith)
past-some more (suc place) h = refl

-- ---- a loop's test

pub test-none : (table : List ℕ) (test : ℕ) → test ≡ 0 → 0 ≡ test_slots table test
test-none table zero h = refl
test-none table (suc test) h = absurd (omega arith)

pub test_some : (table : List ℕ) (test x : ℕ) → 0 < test → x ≡ slot_at table test rows_slot → x + 5 ≡ test_slots table test
test_some table zero x h e = absurd (omega arith)
test_some table (suc test) x h e = rw e

-- ---- the words that the code puts together

-- a guarded do, by whether it has arms
pub around-none : (n : ℕ) (m : StatementMeasures) → n ≡ 0 → plain_measures ≡ around_arms n m
around-none zero m h = refl
around-none (suc n) m h = absurd (omega arith)

pub around-some : (n : ℕ) (m : StatementMeasures) → 0 < n → m ≡ around_arms n m
around-some zero m h = absurd (omega arith)
around-some (suc n) m h = refl

abbrev three : ℕ → ℕ → ℕ → StatementMeasures
three a b c = record { rows = a; levels = b; labels = c }

pub same-three : {a b c a' b' c' : ℕ} → a ≡ a' → b ≡ b' → c ≡ c' → three a b c ≡ three a' b' c'
same-three {a} {b} {c} p q r = rw (p, q, r)

module _ (table : List ℕ) where
  pub if-words : (e on_true on_false : ℕ) {a b c x y z u v : ℕ} → a ≡ slot_at table e rows_slot → b ≡ slot_at table on_true statement_rows_slot → c ≡ slot_at table on_false statement_rows_slot
      → x ≡ slot_at table e levels_slot → y ≡ slot_at table on_true statement_levels_slot → z ≡ slot_at table on_false statement_levels_slot → u ≡ slot_at table on_true statement_labels_slot → v ≡ slot_at table on_false statement_labels_slot
      → three (limited (4 + a + b + c)) (max x (max y z)) (limited (u + v)) ≡ if_measures table e on_true on_false
  if-words e on_true on_false pa pb pc px py pz pu pv = rw (pa, pb, pc, px, py, pz, pu, pv)

  pub arm-words : (guard body next : ℕ) {a b c x y z u v : ℕ} → a ≡ slot_at table guard rows_slot → b ≡ slot_at table body statement_rows_slot → c ≡ slot_at table next arms_rows_slot
      → x ≡ slot_at table guard levels_slot → y ≡ slot_at table body statement_levels_slot → z ≡ slot_at table next arms_levels_slot → u ≡ slot_at table body statement_labels_slot → v ≡ slot_at table next arms_labels_slot
      → three (limited (5 + a + b + c)) (max x (max y z)) (limited (u + v)) ≡ arm_measures table guard body next
  arm-words guard body next pa pb pc px py pz pu pv = rw (pa, pb, pc, px, py, pz, pu, pv)

  pub loop-words : (first test action body : ℕ) {a t b c w x y z v : ℕ} → a ≡ slot_at table first dropped_rows_slot → t ≡ test_slots table test → b ≡ slot_at table action dropped_rows_slot → c ≡ slot_at table body statement_rows_slot
      → w ≡ slot_at table first dropped_levels_slot → x ≡ slot_at table test levels_slot → y ≡ slot_at table action dropped_levels_slot → z ≡ slot_at table body statement_levels_slot → v ≡ slot_at table body statement_labels_slot
      → three (limited (5 + (a + t) + (b + c))) (max (max w x) (max y z)) (limited (2 + v)) ≡ loop_measures table first test action body
  loop-words first test action body pa pt pb pc pw px py pz pv = rw (pa, pt, pb, pc, pw, px, py, pz, pv)

  pub switch-words : (held e list : ℕ) {a b c x y v : ℕ} → a ≡ slot_at table e rows_slot → b ≡ slot_at table list list_cases_slot → c ≡ slot_at table list list_rows_slot → x ≡ slot_at table e levels_slot → y ≡ slot_at table list list_levels_slot → v ≡ slot_at table list list_labels_slot
      → three (limited (2 + a + 11 * b + c)) (max (held + 1) (max x y)) (limited (1 + v)) ≡ switch_measures table held e list
  switch-words held e list pa pb pc px py pv = rw (pa, pb, pc, px, py, pv)

-- the row behind an arm, as it was read
pub at-behind : {rows : List ℤ} {row next read : ℕ} {s : (Option (ℕ × ℕ))} → read ≡ next → ArmAt rows row next s → ArmAt rows row read s
at-behind {rows} {row} {next} {read} {s} e f = subst (λ (n : ℕ). ArmAt rows row n s) (sym e) f

-- a link that is absent
pub absent-link : {rows : List ℤ} {row : ℕ} → OptionalOnward rows row 0
absent-link h = absurd (omega arith)

abbrev measures : ℕ → ℕ → ℕ → ℕ → ℕ → ListMeasures
measures a b c d e = record { rows = a; levels = b; labels = c; cases = d; default = e }

pub same-measures : {a b c d e a' b' c' d' e' : ℕ} → a ≡ a' → b ≡ b' → c ≡ c' → d ≡ d' → e ≡ e' → measures a b c d e ≡ measures a' b' c' d' e'
same-measures {a} {b} {c} {d} {e} p q r s t = rw (p, q, r, s, t)
