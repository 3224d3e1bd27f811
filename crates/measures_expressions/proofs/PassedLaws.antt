-- The measures of a call's arguments, from those of the first and of the arguments behind it; and those of a call.
use Rattle.std.specs.Prelude.{None, Some}
use mathlib.Core.Path.{◌≡◌, refl, sym, ap, ap₂, subst, ◌∙◌}
use mathlib.Core.Bool.{Bool, false, true≢false}
use mathlib.Core.List.{List}
use Prim.Native.Nat.{ℕ, zero, suc, ◌+◌, ◌*◌, ◌≤◌, ◌<◌, ◌^◌, max}
use native.Mathlib.Nat.{pow-suc}
use native.Mathlib.Numerals.{add-one}
use native.Mathlib.Omega.{arith}
use lib.IntN.{ℤ}
use lib.Pow.{pow_mono}
use Rattle.words.specs.Table.{row_count}
use Rattle.language.specs.Trees.{Expression, call, Arguments, no_more, ◌also◌}
use Rattle.language.specs.Calls.{argument_count}
use Rattle.language.specs.Writes.{writes}
use Rattle.language.specs.Decode.{expression_at, arguments_at, argument_list_at}
use Rattle.translation.specs.declared.Use.TheVariants.{Dropped as dropped, Wanted as wanted, Stored as stored}
use Rattle.translation.specs.Translate.{held, together, nothing, atom_of, taken, arguments_taken, expression_levels, arguments_levels}
use Rattle.translation.specs.TranslateSize.{copied, expression_size, arguments_size}
use Rattle.translation.proofs.HeldCode.{taken-held}
use Rattle.translation.proofs.TranslateBounds.{taken_most}
use Rattle.language_shapes.specs.Functions.{is_call}
use Rattle.language_shapes.specs.Shapes.{expression_tree, operation_tree, choice_tree, ArgumentAt}
use Rattle.language_shapes.specs.Source.{ExpressionAt}
use Rattle.language_shapes.specs.declared.OperationShape.{OperationShape}
use Rattle.language_shapes.specs.declared.OperationShape.TheVariants.{Minus, Not, Binary, Comma, Assign, Compound, Prefix, Postfix}
use Rattle.language_shapes.specs.declared.ChoiceShape.{ChoiceShape}
use Rattle.language_shapes.specs.declared.ChoiceShape.TheVariants.{And, Or, Conditional}
use Rattle.language_shapes.specs.declared.ExpressionShape.TheVariants.{Number, Read, Operation, Choice, Call}
use Rattle.language_shapes.specs.declared.PlaceShape.{PlaceShape}
use Rattle.write_sets.specs.Sets.{join}
use Rattle.write_sets.specs.declared.WriteSet.{WriteSet}
use Rattle.measures_table.specs.Parts.{called_in}
use Rattle.measures_table.specs.Arguments.{argument_copies, call_copies}
use Rattle.measures_table.specs.Measures.{limited, rows_slot, levels_slot, slot_at, PassedMeasured, ExpressionMeasured, MeasuredRow}
use Rattle.measures_table.specs.MeasureLaws.{at_some, limited-most}
use Rattle.measures_table.specs.declared.Passed.{Passed}
use Rattle.measures_table.specs.declared.ExpressionMeasures.{ExpressionMeasures}
use Rattle.write_sets_rows.specs.WriteSets.{SetIs}
use Rattle.write_sets_rows.proofs.WriteLaws.{set-join}
use Rattle.write_sets_rows.proofs.ArgumentLaws.{list-some}
use Rattle.measures_expressions.proofs.ExpressionLaws.{limited-max, limited-twice}
use Rattle.measures_expressions.specs.Passed.{CopiedBy, no_passed, passed_with, PassedFits, PassedAt, call_measures}

-- ---- sums that are cut off

rows-sum : (k size rest x y : ℕ) → x ≡ limited size → y ≡ limited rest → limited (4 * k + x + y) ≡ limited (4 * k + size + rest)
unfolding limited
rows-sum k size rest x y ex ey = omega arith

level-above : (own t h : ℕ) → limited (t + max (limited own) h) ≡ limited (t + max own h)
unfolding limited
level-above own t h = omega arith

levels-sum : (l own t h x y : ℕ) → x ≡ limited l → y ≡ limited own → limited (max x (t + max y h)) ≡ limited (max l (t + max own h))
levels-sum l own t h x y ex ey =
    limited-max x (t + max y h) ∙ ap₂ max (ap limited ex ∙ limited-twice l) (ap (λ (n : ℕ). limited (t + max n h)) ey ∙ level-above own t h) ∙ sym (limited-max l (t + max own h))

call-sum : (n rest x : ℕ) → x ≡ limited rest → limited (4 + 2 * n + x) ≡ limited (4 + 2 * n + rest)
unfolding limited
call-sum n rest x ex = omega arith

level-sum : (l x : ℕ) → x ≡ limited l → max 1 x ≡ limited (max 1 l)
unfolding limited
level-sum l x ex = omega arith

level-alone : (l x : ℕ) → x ≡ limited l → x ≡ limited (max 0 l)
unfolding limited
level-alone l x ex = omega arith

-- one digit more
digit-more : (n a b : ℕ) → a ≤ 1 → b + 1 ≤ 2 ^ n → a + 2 * b + 1 ≤ 2 ^ (n + 1)
digit-more n a b h k = omega (arith, ap (λ (m : ℕ). 2 ^ m) (add-one n) ∙ pow-suc 2 n)

pub digits-fit : (n b : ℕ) → n ≤ 63 → b + 1 ≤ 2 ^ n → b + 1 ≤ 2 ^ 63
digits-fit n b h k = omega (arith, pow_mono {i = n} {j = 63} h)

-- ---- no argument more

none-measured : (called : ℕ → ℕ → Bool) (W : ℕ → Bool) → PassedMeasured called no_more W no_passed
unfolding limited arguments_size arguments_levels arguments_taken argument_count argument_copies
none-measured called W = record { rows_are = refl; levels_are = refl; taken_is = refl; count_is = refl; copies_are = refl }

none_passed : {S : ℕ} {rows : List ℤ} {link : ℕ} {before : WriteSet} {m : Passed} → argument_list_at rows link ≡ no_more → m ≡ no_passed → PassedAt S rows link before m
unfolding argument_count
none_passed {S} {rows} {link} {before} e em = subst (λ (m : Passed). PassedAt S rows link before m) (sym em) (record {
  measured = λ W x. subst (λ (a : Arguments). PassedMeasured (called_in rows) a W no_passed) (sym e) (none-measured (called_in rows) W);
  count_is = sym (ap argument_count e);
  rows_small = omega arith;
  levels_small = omega arith;
  taken_most = omega arith;
  copies_small = omega arith;
})

pub absent-passed : {S : ℕ} {rows : List ℤ} (link : ℕ) {before : WriteSet} {m : Passed} → link ≡ 0 → m ≡ no_passed → PassedAt S rows link before m
absent-passed {S} {rows} link e em = none_passed (ap (argument_list_at rows) e) em

pub ended-passed : {S : ℕ} {rows : List ℤ} (link : ℕ) {next : ℕ} {before : WriteSet} {m : Passed} → 0 < link → ArgumentAt rows link next None → m ≡ no_passed → PassedAt S rows link before m
ended-passed {S} {rows} link h f em = none_passed (list-some rows link h ∙ f.is) em

-- ---- an argument before others

module _ {rows : List ℤ} {link next e : ℕ} (f : ArgumentAt rows link next (Some e)) (there : 0 < link) where
  list-is : argument_list_at rows link ≡ expression_at rows e also argument_list_at rows next
  list-is = list-some rows link there ∙ f.is

  -- the arguments behind it are one less
  pub count-behind : argument_count (argument_list_at rows link) ≡ argument_count (argument_list_at rows next) + 1
  unfolding argument_count
  count-behind = ap argument_count list-is ∙ sym (add-one (argument_count (argument_list_at rows next)))

  pub behind-fits : {S : ℕ} {written : WriteSet} {b : Passed} → argument_count (argument_list_at rows link) ≤ 64 → PassedAt S rows next written b → PassedFits b
  behind-fits few at = record { rows_small = at.rows_small; levels_small = at.levels_small; few = omega (arith, few, count-behind, at.count_is); taken_most = at.taken_most; copies_small = at.copies_small }

module _ {rows : List ℤ} {table : List ℕ} {link next e : ℕ} (f : ArgumentAt rows link next (Some e)) (there : 0 < link) (measured-row : MeasuredRow rows table e) where
  abbrev called : ℕ → ℕ → Bool
  called = called_in rows

  abbrev E : Expression
  E = expression_at rows e

  abbrev behind : Arguments
  behind = argument_list_at rows next

  own-rows : slot_at table e rows_slot ≡ limited (expression_size called E wanted)
  own-rows = at_some table e rows_slot (omega (arith, f.onward.later)) ∙ measured-row.expression.rows_are

  own-levels : slot_at table e levels_slot ≡ limited (expression_levels called E wanted)
  own-levels = at_some table e levels_slot (omega (arith, f.onward.later)) ∙ measured-row.expression.levels_are

  measured-with : {t k : ℕ} (b : Passed) (W : ℕ → Bool) → t ≡ taken (atom_of called E) → k ≡ copied (atom_of called E) W → PassedMeasured called behind (together (writes called E) W) b
      → PassedMeasured called (E also behind) W (passed_with table e t k b)
  unfolding arguments_size arguments_levels arguments_taken argument_count argument_copies
  measured-with {t} {k} b W et ek m =
      let X = together (writes called E) W in
      let waits : t + k ≡ taken (held (atom_of called E) W) = ap (λ (n : ℕ). n + k) et ∙ ap (λ (n : ℕ). taken (atom_of called E) + n) ek ∙ sym (taken-held (atom_of called E) W) in
      record {
        rows_are = rows-sum k _ (arguments_size called behind X) _ _ own-rows m.rows_are ∙ ap (λ (n : ℕ). limited (4 * n + expression_size called E wanted + arguments_size called behind X)) ek;
        levels_are =
            levels-sum (arguments_levels called behind X) _ b.taken (t + k) _ _ m.levels_are own-levels
            ∙ ap (λ (n : ℕ). limited (max (arguments_levels called behind X) (n + max (expression_levels called E wanted) (t + k)))) m.taken_is
            ∙ ap (λ (n : ℕ). limited (max (arguments_levels called behind X) (arguments_taken called behind X + max (expression_levels called E wanted) n))) waits;
        taken_is = ap (λ (n : ℕ). n + (t + k)) m.taken_is ∙ ap (λ (n : ℕ). arguments_taken called behind X + n) waits;
        count_is = ap (λ (n : ℕ). n + 1) m.count_is ∙ add-one (argument_count behind);
        copies_are = ap (λ (n : ℕ). n + 2 * b.copies) ek ∙ ap (λ (n : ℕ). copied (atom_of called E) W + 2 * n) m.copies_are;
      }

  pub argument-passed : {S : ℕ} {before written s : WriteSet} {b m : Passed} {t k : ℕ} → t ≡ taken (atom_of called E) → t ≤ 1 → CopiedBy S called E before k → SetIs S s (writes called E) → written ≡ join s before → PassedAt S rows next written b → m ≡ passed_with table e t k b → PassedAt S rows link before m
  argument-passed {S} {before} {written} {s} {b} {m} {t} {k} et small copies x ew at em = subst (λ (m : Passed). PassedAt S rows link before m) (sym em) (record {
    measured = λ W w. subst (λ (a : Arguments). PassedMeasured called a W (passed_with table e t k b)) (sym (list-is f there))
        (measured-with b W et (copies.is W w) (at.measured (together (writes called E) W) (set-join s before (writes called E) W x w ew)));
    count_is = ap (λ (n : ℕ). n + 1) at.count_is ∙ sym (count-behind f there);
    rows_small = limited-most _;
    levels_small = limited-most _;
    taken_most = omega (arith, at.taken_most, copies.most);
    copies_small = digit-more b.count k b.copies copies.most at.copies_small;
  })

-- the row behind, as the code reads it
pub read_next : {rows : List ℤ} {link next read e : ℕ} → read ≡ next → ArgumentAt rows link next (Some e) → ArgumentAt rows link read (Some e)
read_next {rows} {link} {e = e} h f = subst (λ (n : ℕ). ArgumentAt rows link n (Some e)) (sym h) f

pub taken-small : {rows : List ℤ} {link next e t : ℕ} → ArgumentAt rows link next (Some e) → t ≡ taken (atom_of (called_in rows) (expression_at rows e)) → t ≤ 1
taken-small {rows} {e = e} f h = omega (arith, taken_most (atom_of (called_in rows) (expression_at rows e)))

-- as the code puts it together
pub passed_words : (table : List ℕ) (e t k : ℕ) (b : Passed) {x y own level n l : ℕ} → x ≡ slot_at table e rows_slot → y ≡ slot_at table e levels_slot → own ≡ max y (t + k) → level ≡ max b.levels (b.taken + own) → n ≡ limited (4 * k + x + b.rows) → l ≡ limited level
    → record { rows = n; levels = l; taken = b.taken + (t + k); count = b.count + 1; copies = k + 2 * b.copies } ≡ passed_with table e t k b
passed_words table e t k b ex ey eo ev en el =
    ap₂ (λ (n l : ℕ). record { rows = n; levels = l; taken = b.taken + (t + k); count = b.count + 1; copies = k + 2 * b.copies }) (en ∙ ap (λ (x : ℕ). limited (4 * k + x + b.rows)) ex)
    (el ∙ ap limited (ev ∙ ap (λ (o : ℕ). max b.levels (b.taken + o)) (eo ∙ ap (λ (y : ℕ). max y (t + k)) ey)))

-- ---- a call

pub call-measured : {rows : List ℤ} {row f first : ℕ} {p : Passed} {m : ExpressionMeasures} → ExpressionAt rows row (Call f first) → row < row_count rows → PassedMeasured (called_in rows) (argument_list_at rows first) nothing p → m ≡ call_measures row p → ExpressionMeasured rows (expression_at rows row) m
unfolding expression_size expression_levels atom_of
call-measured {rows} {row} {f} {first} {p} g inside m em =
    let called = called_in rows in
    let passed = argument_list_at rows first in
    let count = ap (λ (n : ℕ). limited (4 + 2 * n + arguments_size called passed nothing)) m.count_is in
    subst (λ (x : ExpressionMeasures). ExpressionMeasured rows (expression_at rows row) x) (sym em) (subst (λ (e : Expression). ExpressionMeasured rows e (call_measures row p)) (sym g.is) (record {
      rows_are = call-sum p.count _ _ m.rows_are ∙ count;
      levels_are = level-sum _ _ m.levels_are;
      value_is = rw g.is;
      value_inside = inside;
      copied_is = refl;
      dropped_rows_are = call-sum p.count _ _ m.rows_are ∙ count;
      dropped_levels_are = level-sum _ _ m.levels_are;
      stored_levels_are = level-alone _ _ m.levels_are;
      copies_are = m.copies_are;
    }))

pub call-words : (row : ℕ) (p : Passed) {n l : ℕ} → n ≡ limited (4 + 2 * p.count + p.rows) → l ≡ max 1 p.levels
    → record { rows = n; levels = l; value = row; copied = 0; dropped_rows = n; dropped_levels = l; stored_levels = p.levels; copies = p.copies } ≡ call_measures row p
call-words row p en el = ap₂ (λ (n l : ℕ). record { rows = n; levels = l; value = row; copied = 0; dropped_rows = n; dropped_levels = l; stored_levels = p.levels; copies = p.copies }) en el

-- ---- shapes of no calls

operation-no-call : (rows : List ℤ) (o : OperationShape) → is_call (operation_tree rows o) ≡ false
operation-no-call rows (Minus a) = refl
operation-no-call rows (Not a) = refl
operation-no-call rows (Binary operator a b) = refl
operation-no-call rows (Comma a b) = refl
operation-no-call rows (Assign p e) = refl
operation-no-call rows (Compound operator p e) = refl
operation-no-call rows (Prefix operator p) = refl
operation-no-call rows (Postfix operator p) = refl

choice-no-call : (rows : List ℤ) (c : ChoiceShape) → is_call (choice_tree rows c) ≡ false
choice-no-call rows (And a b) = refl
choice-no-call rows (Or a b) = refl
choice-no-call rows (Conditional c a b) = refl

module _ {rows : List ℤ} {row : ℕ} where
  pub number-no-call : {v : ℤ} → ExpressionAt rows row (Number v) → is_call (expression_at rows row) ≡ false
  number-no-call f = ap is_call f.is

  pub read-no-call : {p : PlaceShape} → ExpressionAt rows row (Read p) → is_call (expression_at rows row) ≡ false
  read-no-call f = ap is_call f.is

  pub operated-no-call : {o : OperationShape} → ExpressionAt rows row (Operation o) → is_call (expression_at rows row) ≡ false
  operated-no-call {o} f = ap is_call f.is ∙ operation-no-call rows o

  pub chosen-no-call : {c : ChoiceShape} → ExpressionAt rows row (Choice c) → is_call (expression_at rows row) ≡ false
  chosen-no-call {c} f = ap is_call f.is ∙ choice-no-call rows c

  pub called-otherwise : {f first : ℕ} → ExpressionAt rows row (Call f first) → is_call (expression_at rows row) ≡ false → ⊥
  called-otherwise f n = true≢false (sym (ap is_call f.is) ∙ n)
