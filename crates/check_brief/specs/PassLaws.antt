-- Laws of the pass for the causes 3, 4 and 6, of crate check_structure, in numbers: what it finds, with cause 5 after it, is what the chain of
-- causes names.
use Rattle.std.specs.Prelude.{◌≡◌, Bool, true, false, List, ℕ, ◌≤◌, ◌<◌, ltb, ℤ, Err, Ok, Result}
use Rattle.std.proofs.Math.Path.{refl, ap}
use Rattle.std.proofs.Common.{lt-ltb, le-ltb}
use native.Mathlib.Omega.{arith}
use Rattle.std.proofs.Math.Decide.{dec_lt}
use Rattle.words.specs.Word.{pick}
use Rattle.words.specs.Table.{row_count}
use Rattle.words.specs.Search.{lowest_row}
use Rattle.words.specs.Refusals.{NumberedRefusal}
use Rattle.words.specs.declared.Form.{Form}
use Rattle.check_fields.specs.declared.Bounds.{Bounds}
use Rattle.check_structure.specs.Links.{link_count, not_once}
use Rattle.check_structure.specs.Passes.{row_cause, lowest_cause, verdict_of, comes_first, later_causes}
use Rattle.check_structure.specs.Refusal.{at, ◌next◌, row_causes}
use Rattle.check_structure.specs.CauseLaws.{pass-verdict}

-- Causes 5 and 6, with what the pass found: 6, or 7 for none.
unfoldable pub later_found : List ℤ → NumberedRefusal → Result (Unit {0}) NumberedRefusal
later_found rows found =
    at 5 (lowest_row rows (λ row. not_once rows (link_count rows row) row)) next pick (ltb found.number 7) (Err found) (Ok tt)

module _ (form : Form) (bounds : Bounds) (rows : List ℤ) (found : NumberedRefusal) (e : found ≡ lowest_cause (row_cause form bounds rows) (row_count rows)) where
  kept : (comes_first (verdict_of found) ≡ true → verdict_of found ≡ row_causes form bounds rows) × (comes_first (verdict_of found) ≡ false → later_causes rows (verdict_of found) ≡ row_causes form bounds rows)
  kept = pass-verdict form bounds rows (verdict_of found) (ap verdict_of e)

  early : found.number < 5 → Err found ≡ row_causes form bounds rows
  early h =
      let seven : found.number < 7 = omega arith in
      let first : comes_first (verdict_of found) ≡ true = rw (lt-ltb found.number 7 seven) (lt-ltb found.number 5 h) in
      rw (lt-ltb found.number 7 seven) at (kept.0 first)

  late : 5 ≤ found.number → later_found rows found ≡ row_causes form bounds rows
  unfolding later_found later_causes
  late h = kept.1 (go (dec_lt found.number 7))
    where
      go : Dec (found.number < 7) → comes_first (verdict_of found) ≡ false
      go (yes k) = rw (lt-ltb found.number 7 k) (le-ltb found.number 5 h)
      go (no k) = rw (le-ltb found.number 7 (let l : 7 ≤ found.number = omega (arith, k) in l)) refl

pub found-verdict : (form : Form) (bounds : Bounds) (rows : List ℤ) (found : NumberedRefusal) → found ≡ lowest_cause (row_cause form bounds rows) (row_count rows)
    → (found.number < 5 → Err found ≡ row_causes form bounds rows) × (5 ≤ found.number → later_found rows found ≡ row_causes form bounds rows)
found-verdict form bounds rows found e = (early form bounds rows found e, late form bounds rows found e)
