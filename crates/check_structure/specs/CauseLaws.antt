-- Laws of the pass for the causes 3, 4 and 6: the least cause, at the lowest row that has it, is what the chain of causes names.
use Rattle.std.specs.Prelude.{◌≡◌, Bool, true, false, List, ℕ, zero, suc, ◌+◌, ◌≤◌, ◌<◌, min, ltb, ℤ, Err, None, Ok, Result, Some}
use Rattle.std.proofs.Math.Path.{refl, ap}
use Rattle.std.proofs.Common.{sym, ◌∙◌, true≢false, add-one, lt-ltb, le-ltb, ltb-true}
use native.Mathlib.Omega.{arith}
use Rattle.std.proofs.Math.Decide.{dec_lt, ℕ_discrete}
use Rattle.std.proofs.Math.Arith.{lt_of_le-ne}
use Rattle.words.specs.Word.{pick}
use Rattle.words.specs.Table.{row_count}
use Rattle.words.specs.Laws.{by_cases}
use Rattle.words.specs.declared.Form.{Form}
use Rattle.words.specs.Refusals.{NumberedRefusal}
use Rattle.check_fields.specs.Fields.{foreign, mislinked, outside}
use Rattle.check_structure.specs.Links.{link_count, not_once}
use Rattle.check_structure.specs.Passes.{least_of, field_cause, least_cause, row_cause, lowered, lowest_cause, cause_named, first_of, verdict_of, lowered_by, comes_first, later_causes}
use Rattle.check_structure.specs.Refusal.{at, ◌next◌, row_causes}
use Rattle.check_structure.specs.RefusalLaws.{ends, goes_on}
use Rattle.words.specs.Search.{lowest_row, some_field}
use Rattle.words.specs.SearchLaws.{all-lowest_row, some_field-all, all-some_field, lowest-at}
use Rattle.check_fields.specs.declared.Bounds.{Bounds}

-- ---- as the code goes: one more

pub least_cause-more : (cause_of : ℕ → ℕ) (count : ℕ) → least_cause cause_of (count + 1) ≡ min (least_cause cause_of count) (cause_of count)
unfolding least_cause
least_cause-more cause_of count = rw (add-one count) refl

pub lowest_cause-more : (cause_of : ℕ → ℕ) (count : ℕ) → lowest_cause cause_of (count + 1) ≡ lowered (lowest_cause cause_of count) (cause_of count) count
unfolding lowest_cause
lowest_cause-more cause_of count = rw (add-one count) refl

-- ---- what the least of the three says of each

record Three (a b c : Bool) (cause : ℕ) : Type 0 where
  least : 3 ≤ cause
  not_five : cause ≡ 5 → ⊥
  no_foreign : 3 < cause → a ≡ false
  no_mislinked : 4 < cause → b ≡ false
  no_outside : 6 < cause → c ≡ false
  foreign_is : cause ≡ 3 → a ≡ true
  mislinked_is : cause ≡ 4 → b ≡ true
  outside_is : cause ≡ 6 → c ≡ true

three : (a b c : Bool) → Three a b c (least_of a b c)
three true b c =
    record {
      least = omega arith;
      not_five = λ e. omega arith;
      no_foreign = λ h. absurd (omega arith);
      no_mislinked = λ h. absurd (omega arith);
      no_outside = λ h. absurd (omega arith);
      foreign_is = λ e. refl;
      mislinked_is = λ e. absurd (omega arith);
      outside_is = λ e. absurd (omega arith);
    }
three false true c =
    record {
      least = omega arith;
      not_five = λ e. omega arith;
      no_foreign = λ h. refl;
      no_mislinked = λ h. absurd (omega arith);
      no_outside = λ h. absurd (omega arith);
      foreign_is = λ e. absurd (omega arith);
      mislinked_is = λ e. refl;
      outside_is = λ e. absurd (omega arith);
    }
three false false true =
    record {
      least = omega arith;
      not_five = λ e. omega arith;
      no_foreign = λ h. refl;
      no_mislinked = λ h. refl;
      no_outside = λ h. absurd (omega arith);
      foreign_is = λ e. absurd (omega arith);
      mislinked_is = λ e. absurd (omega arith);
      outside_is = λ e. refl;
    }
three false false false =
    record {
      least = omega arith;
      not_five = λ e. omega arith;
      no_foreign = λ h. refl;
      no_mislinked = λ h. refl;
      no_outside = λ h. refl;
      foreign_is = λ e. absurd (omega arith);
      mislinked_is = λ e. absurd (omega arith);
      outside_is = λ e. absurd (omega arith);
    }

-- ---- the least cause of a row's fields

least-below : (cause_of : ℕ → ℕ) (count i : ℕ) → i < count → least_cause cause_of count ≤ cause_of i
unfolding least_cause
least-below cause_of zero i h = absurd (omega arith)
least-below cause_of (suc count) i h = go (dec_lt i count) (λ l. least-below cause_of count i l)
  where
    go : Dec (i < count) → (i < count → least_cause cause_of count ≤ cause_of i) → min (least_cause cause_of count) (cause_of count) ≤ cause_of i
    go (yes l) before = let b = before l in omega arith
    go (no l) before = let q : i ≡ count = omega (arith, l) in rw q (omega arith)

record Hit (cause_of : ℕ → ℕ) (count cause : ℕ) : Type 0 where
  field : ℕ
  below : field < count
  is : cause_of field ≡ cause

least-hit : (cause_of : ℕ → ℕ) (count : ℕ) → least_cause cause_of count < 7 → Hit cause_of count (least_cause cause_of count)
unfolding least_cause
least-hit cause_of zero h = absurd (omega arith)
least-hit cause_of (suc count) h = go (dec_lt (cause_of count) (least_cause cause_of count)) (λ l. least-hit cause_of count l)
  where
    go : Dec (cause_of count < least_cause cause_of count) → (least_cause cause_of count < 7 → Hit cause_of count (least_cause cause_of count)) → Hit cause_of (suc count) (min (least_cause cause_of count) (cause_of count))
    go (yes l) before = record { field = count; below = omega arith; is = omega arith }
    go (no l) before =
        let same : min (least_cause cause_of count) (cause_of count) ≡ least_cause cause_of count = omega (arith, l) in
        let hit = before (omega arith) in
        record { field = hit.field; below = (let b = hit.below in omega arith); is = hit.is ∙ sym same }

some-true : (p : ℕ → Bool) (field : ℕ) → field < 6 → p field ≡ true → some_field p ≡ true
some-true p field h e = by_cases (some_field p) (λ t. t) (λ f. absurd (true≢false (sym e ∙ some_field-all p f field h)))

module _ (A B C : ℕ → Bool) where
  row-three : Three (some_field A) (some_field B) (some_field C) (least_cause (λ i. least_of (A i) (B i) (C i)) 6)
  row-three =
      record {
        least = go (dec_lt least 7);
        not_five = λ e. let hit = least-hit cause_of 6 (omega arith) in (of_field hit.field).not_five (hit.is ∙ e);
        no_foreign = λ h. all-some_field A (λ field k. (of_field field).no_foreign (let b = least-below cause_of 6 field k in omega arith));
        no_mislinked = λ h. all-some_field B (λ field k. (of_field field).no_mislinked (let b = least-below cause_of 6 field k in omega arith));
        no_outside = λ h. all-some_field C (λ field k. (of_field field).no_outside (let b = least-below cause_of 6 field k in omega arith));
        foreign_is = λ e. let hit = least-hit cause_of 6 (omega arith) in some-true A hit.field hit.below ((of_field hit.field).foreign_is (hit.is ∙ e));
        mislinked_is = λ e. let hit = least-hit cause_of 6 (omega arith) in some-true B hit.field hit.below ((of_field hit.field).mislinked_is (hit.is ∙ e));
        outside_is = λ e. let hit = least-hit cause_of 6 (omega arith) in some-true C hit.field hit.below ((of_field hit.field).outside_is (hit.is ∙ e));
      }
    where
      cause_of : ℕ → ℕ
      cause_of i = least_of (A i) (B i) (C i)

      least : ℕ
      least = least_cause cause_of 6

      of_field : (i : ℕ) → Three (A i) (B i) (C i) (least_of (A i) (B i) (C i))
      of_field i = three (A i) (B i) (C i)

      go : Dec (least < 7) → 3 ≤ least
      go (yes h) = let hit = least-hit cause_of 6 h in let l = (of_field hit.field).least in let e = hit.is in omega arith
      go (no h) = omega (arith, h)

-- ---- the least cause of the rows, at the lowest row

record Lowest (cause_of : ℕ → ℕ) (count : ℕ) (found : NumberedRefusal) : Type 0 where
  below : (row : ℕ) → row < count → found.number ≤ cause_of row
  inside : found.number < 7 → found.place < count
  is : found.number < 7 → cause_of found.place ≡ found.number
  first : (row : ℕ) → row < found.place → found.number < cause_of row

lowest-cause : (cause_of : ℕ → ℕ) (count : ℕ) → Lowest cause_of count (lowest_cause cause_of count)
unfolding lowest_cause lowered
lowest-cause cause_of zero =
    record { below = λ row h. absurd (omega arith); inside = λ h. absurd (omega arith); is = λ h. absurd (omega arith); first = λ row h. absurd (omega arith) }
lowest-cause cause_of (suc count) = go (lowest_cause cause_of count) (lowest-cause cause_of count) (dec_lt (cause_of count) (lowest_cause cause_of count).number)
  where
    go : (found : NumberedRefusal) → Lowest cause_of count found → Dec (cause_of count < found.number) → Lowest cause_of (suc count) (lowered found (cause_of count) count)
    go found l (yes h) =
        rw (lt-ltb (cause_of count) found.number h)
        (record {
          below = λ row n. at-most row n (dec_lt row count);
          inside = λ k. omega arith;
          is = λ k. refl;
          first = λ row n. let b = l.below row n in omega arith;
        })
      where
        at-most : (row : ℕ) → row < suc count → Dec (row < count) → cause_of count ≤ cause_of row
        at-most row n (yes m) = let b = l.below row m in omega arith
        at-most row n (no m) = let q : row ≡ count = omega (arith, m) in rw q (omega arith)
    go found l (no h) =
        let most : found.number ≤ cause_of count = omega (arith, h) in
        rw (le-ltb (cause_of count) found.number most)
        (record {
          below = λ row n. at-most row n (dec_lt row count);
          inside = λ k. let i = l.inside k in omega arith;
          is = l.is;
          first = l.first;
        })
      where
        at-most : (row : ℕ) → row < suc count → Dec (row < count) → found.number ≤ cause_of row
        at-most row n (yes m) = l.below row m
        at-most row n (no m) = let q : row ≡ count = omega (arith, m) in rw q (omega (arith, h))

-- ---- the chain of causes

module _ (form : Form) (bounds : Bounds) (rows : List ℤ) (found : NumberedRefusal) (facts : Lowest (row_cause form bounds rows) (row_count rows) found) where
  of_row : (row : ℕ) → Three (some_field (foreign form rows row)) (some_field (mislinked rows row)) (some_field (outside bounds rows row)) (row_cause form bounds rows row)
  unfolding row_cause field_cause
  of_row row = row-three (foreign form rows row) (mislinked rows row) (outside bounds rows row)

  no-foreign-row : 3 < found.number → lowest_row rows (λ row. some_field (foreign form rows row)) ≡ None
  no-foreign-row h =
      all-lowest_row rows (λ row. some_field (foreign form rows row)) (λ row n. (of_row row).no_foreign (let b = facts.below row n in omega arith))

  no-mislinked-row : 4 < found.number → lowest_row rows (λ row. some_field (mislinked rows row)) ≡ None
  no-mislinked-row h =
      all-lowest_row rows (λ row. some_field (mislinked rows row)) (λ row n. (of_row row).no_mislinked (let b = facts.below row n in omega arith))

  no-outside-row : 6 < found.number → lowest_row rows (λ row. some_field (outside bounds rows row)) ≡ None
  no-outside-row h =
      all-lowest_row rows (λ row. some_field (outside bounds rows row)) (λ row n. (of_row row).no_outside (let b = facts.below row n in omega arith))

  -- the lowest row with a property is the place, where the place has it and no row with a higher cause has
  at_place : (p : ℕ → Bool) → found.number < 7 → p found.place ≡ true → ((row : ℕ) → found.number < row_cause form bounds rows row → p row ≡ false) → lowest_row rows p ≡ Some found.place
  unfolding lowest_row
  at_place p h e f =
      lowest-at p found.place (row_count rows) 0 (omega arith) (let i = facts.inside h in omega arith) e (λ row a b. f row (facts.first row b))

  named : (cause : ℕ) → found.number ≡ cause → ◌≡◌ {A = Result (Unit {0}) NumberedRefusal} (Err (record { number = cause; place = found.place })) (Err found)
  named cause e = ap {B = Result (Unit {0}) NumberedRefusal} (λ (n : ℕ). Err (record { number = n; place = found.place })) (sym e)

  early : found.number < 5 → row_causes form bounds rows ≡ Err found
  unfolding row_causes
  early h = go (ℕ_discrete found.number 3)
    where
      place_is : row_cause form bounds rows found.place ≡ found.number
      place_is = facts.is (omega arith)

      go : Dec (found.number ≡ 3) → row_causes form bounds rows ≡ Err found
      go (yes e) =
          sym (ends 3 _ _ _ _ (at_place _ (omega arith) ((of_row found.place).foreign_is (place_is ∙ e)) (λ row k. (of_row row).no_foreign (omega arith))) refl)
          ∙ named 3 e
      go (no n) =
          let least = (of_row found.place).least in
          let more : 3 < found.number = lt_of_le-ne (let p = place_is in let l : 3 ≤ found.number = omega arith in l) (λ q. n (sym q)) in
          let e : found.number ≡ 4 = omega arith in
          goes_on 3 _ _ _ (no-foreign-row (omega arith)) refl
          ∙ sym (ends 4 _ _ _ _ (at_place _ (omega arith) ((of_row found.place).mislinked_is (place_is ∙ e)) (λ row k. (of_row row).no_mislinked (omega arith))) refl)
          ∙ named 4 e

  numbers : 5 ≤ found.number → at 6 (lowest_row rows (λ row. some_field (outside bounds rows row))) ≡ pick (ltb found.number 7) (Err found) (Ok tt)
  unfolding at
  numbers h = go (dec_lt found.number 7)
    where
      go : Dec (found.number < 7) → at 6 (lowest_row rows (λ row. some_field (outside bounds rows row))) ≡ pick (ltb found.number 7) (Err found) (Ok tt)
      go (yes k) =
          let place_is = facts.is k in
          let six : found.number ≡ 6 = lone (ℕ_discrete found.number 5) in
          rw (lt-ltb found.number 7 k)
          (ap (at 6) (at_place _ k ((of_row found.place).outside_is (place_is ∙ six)) (λ row l. (of_row row).no_outside (omega arith))) ∙ named 6 six)
        where
          lone : Dec (found.number ≡ 5) → found.number ≡ 6
          lone (yes e) = absurd ((of_row found.place).not_five (facts.is k ∙ e))
          lone (no n) = let more = lt_of_le-ne h (λ q. n (sym q)) in omega arith
      go (no k) =
          rw (le-ltb found.number 7 (let l : 7 ≤ found.number = omega (arith, k) in l)) (ap (at 6) (no-outside-row (let l : 6 < found.number = omega (arith, k) in l)))

  late : 5 ≤ found.number → row_causes form bounds rows ≡ later_causes rows (verdict_of found)
  unfolding row_causes later_causes
  late h =
      goes_on 3 _ _ _ (no-foreign-row (omega arith)) refl
      ∙ goes_on 4 _ _ _ (no-mislinked-row (omega arith)) refl
      ∙ ap (λ (rest : Result (Unit {0}) NumberedRefusal). at 5 (lowest_row rows (λ row. not_once rows (link_count rows row) row)) next rest) (numbers h)

  -- the verdict on the rows, from what the pass found
  first-verdict : comes_first (verdict_of found) ≡ true → verdict_of found ≡ row_causes form bounds rows
  first-verdict e = go (dec_lt found.number 7)
    where
      go : Dec (found.number < 7) → verdict_of found ≡ row_causes form bounds rows
      go (yes k) =
          let less : ltb found.number 5 ≡ true = rw (lt-ltb found.number 7 k) at e in
          rw (lt-ltb found.number 7 k) (sym (early (ltb-true found.number 5 less)))
      go (no k) = absurd (true≢false (sym (rw (le-ltb found.number 7 (let l : 7 ≤ found.number = omega (arith, k) in l)) at e)))

  later-verdict : comes_first (verdict_of found) ≡ false → later_causes rows (verdict_of found) ≡ row_causes form bounds rows
  later-verdict e = sym (late (go (dec_lt found.number 5)))
    where
      go : Dec (found.number < 5) → 5 ≤ found.number
      go (yes k) =
          let less : found.number < 7 = omega arith in
          absurd (true≢false (sym (lt-ltb found.number 5 k) ∙ (rw (lt-ltb found.number 7 less) at e)))
      go (no k) = omega (arith, k)

pub pass-verdict : (form : Form) (bounds : Bounds) (rows : List ℤ) (verdict : Result (Unit {0}) NumberedRefusal) → verdict ≡ verdict_of (lowest_cause (row_cause form bounds rows) (row_count rows))
    → (comes_first verdict ≡ true → verdict ≡ row_causes form bounds rows) × (comes_first verdict ≡ false → later_causes rows verdict ≡ row_causes form bounds rows)
pass-verdict form bounds rows verdict e =
    let found = lowest_cause (row_cause form bounds rows) (row_count rows) in
    let facts = lowest-cause (row_cause form bounds rows) (row_count rows) in
    rw e (first-verdict form bounds rows found facts, later-verdict form bounds rows found facts)

-- ---- the causes as the code keeps them

-- a number that is none of the three is no cause
named-first : (one other : ℕ) → first_of (cause_named one) (cause_named other) ≡ cause_named (min one other)
named-first one other = go (dec_lt one 7) (dec_lt other 7)
  where
    go : Dec (one < 7) → Dec (other < 7) → first_of (cause_named one) (cause_named other) ≡ cause_named (min one other)
    go (yes k) (yes l) = rw (lt-ltb one 7 k, lt-ltb other 7 l, lt-ltb (min one other) 7 (let m : min one other < 7 = omega arith in m))
    go (yes k) (no l) =
        let same : min one other ≡ one = omega (arith, l) in
        rw (lt-ltb one 7 k, le-ltb other 7 (let m : 7 ≤ other = omega (arith, l) in m), same, lt-ltb one 7 k)
    go (no k) (yes l) =
        let same : min one other ≡ other = omega (arith, k) in
        rw (le-ltb one 7 (let m : 7 ≤ one = omega (arith, k) in m), lt-ltb other 7 l, same, lt-ltb other 7 l)
    go (no k) (no l) =
        rw (le-ltb one 7 (let m : 7 ≤ one = omega (arith, k) in m), le-ltb other 7 (let m : 7 ≤ other = omega (arith, l) in m), le-ltb (min one other) 7 (let m : 7 ≤ min one other = omega (arith, k, l) in m))

pub named-least : (cause_of : ℕ → ℕ) (count : ℕ) → first_of (cause_named (least_cause cause_of count)) (cause_named (cause_of count)) ≡ cause_named (least_cause cause_of (count + 1))
named-least cause_of count = named-first _ _ ∙ ap cause_named (sym (least_cause-more cause_of count))

verdict-lowered : (found : NumberedRefusal) (cause row : ℕ) → lowered_by (verdict_of found) (cause_named cause) row ≡ verdict_of (lowered found cause row)
unfolding lowered
verdict-lowered found cause row = go (dec_lt found.number 7) (dec_lt cause 7) (dec_lt cause found.number)
  where
    go : Dec (found.number < 7) → Dec (cause < 7) → Dec (cause < found.number)
        → lowered_by (verdict_of found) (cause_named cause) row ≡ verdict_of (pick (ltb cause found.number) (record { number = cause; place = row }) found)
    go (yes f) (yes c) (yes l) = rw (lt-ltb found.number 7 f, lt-ltb cause 7 c, lt-ltb cause found.number l, lt-ltb cause 7 c)
    go (yes f) (yes c) (no l) =
        let most : found.number ≤ cause = omega (arith, l) in
        rw (lt-ltb found.number 7 f, lt-ltb cause 7 c, le-ltb cause found.number most, lt-ltb found.number 7 f)
    go (yes f) (no c) _ =
        let above : 7 ≤ cause = omega (arith, c) in
        let most : found.number ≤ cause = omega (arith, c) in
        rw (lt-ltb found.number 7 f, le-ltb cause 7 above, le-ltb cause found.number most, lt-ltb found.number 7 f)
    go (no f) (yes c) _ =
        let above : 7 ≤ found.number = omega (arith, f) in
        let less : cause < found.number = omega (arith, f) in
        rw (le-ltb found.number 7 above, lt-ltb cause 7 c, lt-ltb cause found.number less, lt-ltb cause 7 c)
    go (no f) (no c) (yes l) =
        let above : 7 ≤ found.number = omega (arith, f) in
        let over : 7 ≤ cause = omega (arith, c) in
        rw (le-ltb found.number 7 above, le-ltb cause 7 over, lt-ltb cause found.number l, le-ltb cause 7 over)
    go (no f) (no c) (no l) =
        let above : 7 ≤ found.number = omega (arith, f) in
        let over : 7 ≤ cause = omega (arith, c) in
        let most : found.number ≤ cause = omega (arith, l) in
        rw (le-ltb found.number 7 above, le-ltb cause 7 over, le-ltb cause found.number most, le-ltb found.number 7 above)

pub verdict-more : (cause_of : ℕ → ℕ) (count : ℕ) → lowered_by (verdict_of (lowest_cause cause_of count)) (cause_named (cause_of count)) count ≡ verdict_of (lowest_cause cause_of (count + 1))
verdict-more cause_of count = verdict-lowered (lowest_cause cause_of count) (cause_of count) count ∙ ap verdict_of (sym (lowest_cause-more cause_of count))
