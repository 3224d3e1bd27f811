-- Laws of standings: the walks that note them, the words of a row, the parts of a join one behind the other.
use Rattle.std.specs.Prelude.{◌≡◌, Bool, true, false, List, ℤ, length, get_or, set}
use Rattle.std.proofs.Math.Path.{refl, sym, ap}
use Rattle.std.proofs.Common.{◌∙◌, get_or-set_same, get_or-set_other}
use Prim.Native.Nat.{ℕ, zero, suc, ◌+◌, ◌-◌, ◌≤◌, ◌<◌}
use native.Mathlib.Omega.{arith}
use Rattle.std.proofs.Math.Decide.{ℕ_discrete}
use Rattle.std.proofs.Math.Arith.{lt_of_le-ne}
use Rattle.std.proofs.Math.ListN.{length-set}
use Rattle.words.specs.Word.{pick, one}
use Rattle.words.specs.Laws.{by_cases}
use Rattle.words.specs.Table.{row_count}
use Rattle.words.specs.Links.{link}
use Rattle.check_structure.specs.LinkLaws.{part-inside}
use Rattle.check_structure.specs.Passes.{Notes}
use Rattle.check_structure.specs.Structured.{Tree}
use Rattle.check_function_causes.specs.Functions.{is_definition}
use Rattle.check_function_causes.specs.Demands.{InFront, foremost, behind}
use Rattle.check_function_causes.proofs.FrontLaws.{front-later, front-inside, definition-leads}
use Rattle.join.specs.Join.{is_of_definition, is_other, before, definition_rows, functions_from, item_from, functions_of, first_item}
use Rattle.join.proofs.Counting.{before-parts}
use Rattle.join_rows.specs.Standings.{rank_of}

-- ---- ranks

-- a row's place in its part
rank_is : (rows : List ℤ) (row : ℕ) → pick (is_of_definition rows row) (before (is_of_definition rows) row) (row - before (is_of_definition rows) row) ≡ rank_of rows row
unfolding rank_of is_other
rank_is rows row =
    let parts = before-parts (is_of_definition rows) row in
    by_cases (is_of_definition rows row) (λ e. rw e) (λ e. rw e (omega arith))

-- The rows before this one have their places, with the number of rows of definitions among them.
pub record Ranking (rows : List ℤ) (start ranks : List ℕ) (definitions row : ℕ) : Type 0 where
  pub same : length ranks ≡ length start
  pub most : row ≤ row_count rows
  pub counts : definitions ≡ before (is_of_definition rows) row
  pub written : (earlier : ℕ) → earlier < row → get_or ranks earlier 0 ≡ rank_of rows earlier

module _ {rows : List ℤ} {start : List ℕ} where
  pub ranking-begun : Ranking rows start start 0 0
  unfolding before
  ranking-begun = record { same = refl; most = omega arith; counts = refl; written = λ earlier l. absurd (omega arith) }

  pub ranking-below : {ranks : List ℕ} {definitions row : ℕ} → Ranking rows start ranks definitions row → definitions ≤ row
  ranking-below {ranks} {definitions} {row} r = let parts = before-parts (is_of_definition rows) row in let c = r.counts in omega arith

  pub ranking-on : {ranks : List ℕ} {definitions row : ℕ} (ofRow : Bool) (rank counted : ℕ) → Ranking rows start ranks definitions row → row < row_count rows → row_count rows ≤ length start
      → ofRow ≡ is_of_definition rows row → rank ≡ pick ofRow definitions (row - definitions) → counted ≡ definitions + one ofRow → Ranking rows start (set ranks row rank) counted (row + 1)
  unfolding before
  ranking-on {ranks} {definitions} {row} ofRow rank counted r n room e q c =
      let same = r.same in
      let counts = r.counts in
      record {
        same = length-set ranks row rank ∙ r.same;
        most = omega arith;
        counts = c ∙ rw (e, counts) (let w : row + 1 ≡ suc row = omega arith in rw w refl);
        written = λ earlier l. go earlier l (ℕ_discrete earlier row);
      }
    where
      value : rank ≡ rank_of rows row
      value = q ∙ rw (e, r.counts) (rank_is rows row)

      go : (earlier : ℕ) → earlier < row + 1 → Dec (earlier ≡ row) → get_or (set ranks row rank) earlier 0 ≡ rank_of rows earlier
      go earlier l (yes w) = let same = r.same in rw w (get_or-set_same ranks row rank 0 (omega arith) ∙ value)
      go earlier l (no w) = get_or-set_other ranks row earlier rank 0 w ∙ r.written earlier (lt_of_le-ne (omega arith) w)

  pub ranking-ended : {ranks : List ℕ} {definitions row : ℕ} → Ranking rows start ranks definitions row → row_count rows ≤ row → row_count rows ≤ length start → (definitions ≡ definition_rows rows) × Notes rows (rank_of rows) ranks
  ranking-ended {ranks} {definitions} {row} r end room =
      let most = r.most in
      let same = r.same in
      let e : row ≡ row_count rows = omega arith in
      (r.counts ∙ ap (before (is_of_definition rows)) e, record { room = omega arith; is = λ earlier n. r.written earlier (omega arith) })

-- ---- the walk along the front

pub record Going (rows : List ℤ) (number row : ℕ) : Type 0 where
  pub inside : row < row_count rows
  pub placed : is_definition rows row ≡ true → InFront rows row number
  pub most : number < row_count rows
  pub total : functions_of rows ≡ number + functions_from (row_count rows - number) rows row
  pub item : first_item rows ≡ item_from (row_count rows - number) rows row

module _ {rows : List ℤ} (t : Tree rows) (root : is_definition rows 0 ≡ false) where
  pub going-begun : (row : ℕ) → row ≡ link rows 0 1 → Going rows 0 row
  unfolding functions_of first_item
  going-begun row e =
      let some = t.some_rows in
      let whole : row_count rows - 0 ≡ row_count rows = omega arith in
      rw e (record {
        inside = part-inside rows t 0 1 (link rows 0 1) some (omega arith) refl;
        placed = λ d. foremost (definition-leads rows t root 0 1 some (omega arith) d) d;
        most = some;
        total = rw whole (omega arith);
        item = rw whole refl;
      })

  pub going-number : {number row : ℕ} → Going rows number row → is_definition rows row ≡ true → number + 1 < row_count rows
  going-number g d = let f = g.placed d in let l = front-later rows f in let i = front-inside rows f in omega arith

  pub going_on : {number row : ℕ} (following : ℕ) → Going rows number row → is_definition rows row ≡ true → following ≡ link rows row 5 → Going rows (number + 1) following
  unfolding functions_from item_from
  going_on {number} {row} following g d e =
      let few = going-number g d in
      let left : ℕ = row_count rows - (number + 1) in
      let whole : row_count rows - number ≡ suc (row_count rows - (number + 1)) = omega arith in
      let total = g.total ∙ ap (λ (n : ℕ). number + functions_from n rows row) whole in
      let item = g.item ∙ ap (λ (n : ℕ). item_from n rows row) whole in
      rw e (record {
        inside = part-inside rows t row 5 (link rows row 5) g.inside (omega arith) refl;
        placed = λ f. behind (g.placed d) (definition-leads rows t root row 5 g.inside (omega arith) f) f;
        most = few;
        total = (let step = rw d at total in omega arith);
        item = rw d at item;
      })

  pub going-ended : {number row : ℕ} → Going rows number row → is_definition rows row ≡ false → (number ≡ functions_of rows) × (row ≡ first_item rows)
  unfolding functions_from item_from
  going-ended {number} {row} g d = (sym (g.total ∙ ap (λ (n : ℕ). number + n) (none (row_count rows - number)) ∙ (let e : number + 0 ≡ number = omega arith in e)), sym (g.item ∙ here (row_count rows - number)))
    where
      none : (n : ℕ) → functions_from n rows row ≡ 0
      none zero = refl
      none (suc n) = rw d

      here : (n : ℕ) → item_from n rows row ≡ row
      here zero = refl
      here (suc n) = rw d
