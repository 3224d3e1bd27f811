-- Laws of labels: in a tree of rows the search of cause 13 finds a label exactly where one is ahead.
use Rattle.std.specs.Prelude.{◌≡◌, Bool, List, ℤ}
use Rattle.std.proofs.Math.Path.{refl, sym, ap}
use Rattle.std.proofs.Common.{◌∙◌, true≢false, eq-eqb, ne_eqb, eqb-true}
use Rattle.std.proofs.Math.Bool.{true, false}
use Rattle.std.proofs.lemmas.Bool.{false≢true, eqb-false}
use Prim.Native.Nat.{ℕ, zero, suc, ◌+◌, ◌≤◌, ◌<◌}
use native.Mathlib.Omega.{arith}
use Rattle.std.proofs.Math.Decide.{ℕ_discrete, dec_lt}
use Rattle.std.proofs.Math.Dec.{eqb}
use Rattle.words.specs.Word.{pick}
use Rattle.words.specs.Table.{row_count, number_at}
use Rattle.words.specs.Laws.{by_cases, both}
use Rattle.words.specs.Links.{link}
use Rattle.check_structure.specs.NoteLaws.{above_zero}
use Rattle.check_structure.specs.Structured.{Leads, Tree}
use Rattle.check_structure.specs.Lists.{Before, adjacent, Step, once, on, before-later, before_inside, before-before, before-step}
use Rattle.check_kernel_statements.specs.Laws.{number-beyond}
use Rattle.check_function_causes.specs.Functions.{is_definition}
use Rattle.check_labels.specs.Labels.{is_label, owner_at, around_at, label_behind, label_ahead}
use Rattle.check_labels.specs.Ahead.{Label, Owner, part, beside, Ahead, behind, outward}
use Rattle.check_labels.proofs.ListLaws.{owner-root, owner-is, owner-earlier, owner-of-row, owner-below}

either_way : (b : Bool) → pick b true true ≡ true
either_way true = refl
either_way false = refl

-- ---- labels

pub label-test : (rows : List ℤ) (number row : ℕ) → Label rows number row → is_label rows number row ≡ true
unfolding is_label
label-test rows number row l = rw (eq-eqb _ _ l.label, eq-eqb _ _ l.number_is)

pub test-label : (rows : List ℤ) (number row : ℕ) → is_label rows number row ≡ true → Label rows number row
unfolding is_label
test-label rows number row e =
    let parts = both (eqb (number_at rows row 0) 53) (eqb (number_at rows row 1) number) e in
    record { label = eqb-true _ _ parts.0; number_is = eqb-true _ _ parts.1 }

pub label_inside : (rows : List ℤ) (number row : ℕ) → Tree rows → Label rows number row → row < row_count rows
label_inside rows number row t l = go (dec_lt row (row_count rows))
  where
    go : Dec (row < row_count rows) → row < row_count rows
    go (yes d) = d
    go (no d) = absurd (let z = number-beyond rows row 0 t.whole (omega (arith, d)) in let k = l.label in omega arith)

-- ---- behind a row in its list

module _ (rows : List ℤ) (t : Tree rows) (number : ℕ) where
  pub record Behind (row : ℕ) : Type 0 where
    pub item : ℕ
    pub before : Before rows row item
    pub is : Label rows number item

  pub search-behind : (items row : ℕ) → row < row_count rows → label_behind items rows number row ≡ true → Behind row
  unfolding label_behind
  search-behind zero row n e = absurd (false≢true e)
  search-behind (suc items) row n e =
      go (eqb (link rows row 5) 0) (is_label rows number (link rows row 5)) refl refl e (search-behind items (link rows row 5))
    where
      go : (absent here : Bool) → eqb (link rows row 5) 0 ≡ absent → is_label rows number (link rows row 5) ≡ here
          → pick absent false (pick here true (label_behind items rows number (link rows row 5))) ≡ true
          → (link rows row 5 < row_count rows → label_behind items rows number (link rows row 5) ≡ true → Behind (link rows row 5)) → Behind row
      go true here a h e r = absurd (false≢true e)
      go false here a h e r = next here h e
        where
          leads : Leads rows row 5
          leads = t.forward row 5 n (omega arith) (above_zero _ (eqb-false _ _ a))

          next : (here : Bool) → is_label rows number (link rows row 5) ≡ here → pick here true (label_behind items rows number (link rows row 5)) ≡ true → Behind row
          next true h e = record { item = link rows row 5; before = adjacent leads; is = test-label rows number (link rows row 5) h }
          next false h e =
              let z = r leads.inside e in
              record { item = z.item; before = before-before (adjacent leads) z.before; is = z.is }

  pub behind-search : (items row item : ℕ) → item ≤ row + items → Before rows row item → Label rows number item → label_behind items rows number row ≡ true
  unfolding label_behind
  behind-search zero row item h b l = absurd (let later = before-later b in omega arith)
  behind-search (suc items) row item h b l = go item (before-step b) l (λ later. behind-search items (link rows row 5) item (omega arith))
    where
      go : (item : ℕ) → Step rows row item → Label rows number item
          → (row < link rows row 5 → Before rows (link rows row 5) item → Label rows number item → label_behind items rows number (link rows row 5) ≡ true)
          → pick (eqb (link rows row 5) 0) false (pick (is_label rows number (link rows row 5)) true (label_behind items rows number (link rows row 5))) ≡ true
      go item (once leads) l r =
          let later : row < link rows row 5 = leads.later in
          rw (ne_eqb (link rows row 5) 0 (λ q. omega arith), label-test rows number (link rows row 5) l)
      go item (on leads b) l r =
          let later : row < link rows row 5 = leads.later in
          rw (ne_eqb (link rows row 5) 0 (λ q. omega arith), r later b l) (either_way (is_label rows number (link rows row 5)))

  -- ---- ahead of a row: in its list or in one around it

  module _ (lone : link rows 0 5 ≡ 0) where
    root-behind : (items : ℕ) → label_behind items rows number 0 ≡ false
    unfolding label_behind
    root-behind zero = refl
    root-behind (suc items) = rw lone

    -- ---- the row around a row, in its function

    around-none : (row : ℕ) → is_definition rows (owner_at rows row) ≡ true → around_at rows row ≡ 0
    unfolding around_at
    around-none row d = rw d

    around-owner : (row : ℕ) → is_definition rows (owner_at rows row) ≡ false → around_at rows row ≡ owner_at rows row
    unfolding around_at
    around-owner row d = rw d

    around-is : {owner row : ℕ} → Owner rows owner row → is_definition rows owner ≡ false → around_at rows row ≡ owner
    around-is {owner} {row} o d = let is = owner-is rows t o in around-owner row (ap (is_definition rows) is ∙ d) ∙ is

    around-root : around_at rows 0 ≡ 0
    around-root =
        by_cases (is_definition rows (owner_at rows 0)) (λ d. around-none 0 d) (λ d. around-owner 0 d ∙ owner-root rows t)

    pub around-below : (row : ℕ) → 0 < row → row < row_count rows → around_at rows row < row
    around-below row p n =
        by_cases (is_definition rows (owner_at rows row))
        (λ d. let is = around-none row d in omega arith)
        (λ d. let is = around-owner row d in let below = owner-below rows t lone row p n in omega arith)

    root-ahead : (levels : ℕ) → label_ahead levels rows number 0 ≡ false
    unfolding label_ahead
    root-ahead zero = refl
    root-ahead (suc levels) = rw (root-behind (row_count rows), around-root) (root-ahead levels)

    -- as many levels as the row's number are enough
    enough : (levels more row : ℕ) → row ≤ levels → row ≤ more → row < row_count rows → label_ahead levels rows number row ≡ label_ahead more rows number row
    unfolding label_ahead
    enough zero more row h k n = let z : row ≡ 0 = omega arith in rw z (sym (root-ahead more))
    enough (suc levels) zero row h k n = let z : row ≡ 0 = omega arith in rw z (root-ahead (suc levels))
    enough (suc levels) (suc more) row h k n = go (ℕ_discrete row 0) (enough levels more (around_at rows row))
      where
        go : Dec (row ≡ 0) → (around_at rows row ≤ levels → around_at rows row ≤ more → around_at rows row < row_count rows → label_ahead levels rows number (around_at rows row) ≡ label_ahead more rows number (around_at rows row))
            → label_ahead (suc levels) rows number row ≡ label_ahead (suc more) rows number row
        go (yes q) r = rw q (root-ahead (suc levels) ∙ sym (root-ahead (suc more)))
        go (no q) r = let below = around-below row (above_zero row q) n in rw (r (omega arith) (omega arith) (omega arith))

    -- one step of the climb
    pub ahead_step : (row : ℕ) → 0 < row → row < row_count rows
        → label_ahead row rows number row ≡ pick (label_behind (row_count rows) rows number row) true (label_ahead (around_at rows row) rows number (around_at rows row))
    unfolding label_ahead
    ahead_step zero p n = absurd (omega arith)
    ahead_step (suc row) p n =
        let below = around-below (suc row) p n in
        ap (pick (label_behind (row_count rows) rows number (suc row)) true) (enough row (around_at rows (suc row)) (around_at rows (suc row)) (omega arith) (omega arith) (omega arith))

    pub ahead-end : label_ahead 0 rows number 0 ≡ false
    ahead-end = root-ahead 0

    pub search-ahead : (levels row : ℕ) → row < row_count rows → label_ahead levels rows number row ≡ true → Ahead rows number row
    unfolding label_ahead
    search-ahead zero row n e = absurd (false≢true e)
    search-ahead (suc levels) row n e =
        go (label_behind (row_count rows) rows number row) refl e (ℕ_discrete row 0) (search-ahead levels (around_at rows row))
      where
        go : (here : Bool) → label_behind (row_count rows) rows number row ≡ here → pick here true (label_ahead levels rows number (around_at rows row)) ≡ true → Dec (row ≡ 0)
            → (around_at rows row < row_count rows → label_ahead levels rows number (around_at rows row) ≡ true → Ahead rows number (around_at rows row)) → Ahead rows number row
        go true b e d r = let z = search-behind (row_count rows) row n b in behind z.before z.is
        go false b e (yes q) r = absurd (true≢false (sym e ∙ (rw (q, around-root) (root-ahead levels))))
        go false b e (no q) r =
            let o = owner-of-row rows t lone row (above_zero row q) n in
            by_cases (is_definition rows (owner_at rows row))
            (λ d. absurd (true≢false (sym e ∙ rw (around-none row d) (root-ahead levels))))
            (λ d. let is = around-owner row d in
            outward o d (rw is at (r (let below = owner-earlier rows t o in omega arith) e)))

    owner-row-inside : {owner row : ℕ} → Owner rows owner row → row < row_count rows
    owner-row-inside (part h leads) = leads.inside
    owner-row-inside (beside o leads) = leads.inside

    pub ahead-search : {row : ℕ} → Ahead rows number row → label_ahead row rows number row ≡ true
    ahead-search (behind {row} {item} b l) = go (ℕ_discrete row 0)
      where
        go : Dec (row ≡ 0) → label_ahead row rows number row ≡ true
        go (yes q) = absurd (true≢false (sym (behind-search (row_count rows) row item (let i = before_inside b in omega arith) b l) ∙ rw q (root-behind (row_count rows))))
        go (no q) =
            let i = before_inside b in
            let later = before-later b in
            rw (ahead_step row (above_zero row q) (omega arith), behind-search (row_count rows) row item (omega arith) b l)
    ahead-search (outward {owner} {row} o d a) =
        let inside = owner-row-inside o in
        let earlier = owner-earlier rows t o in
        rw (ahead_step row (omega arith) inside, around-is o d, ahead-search a) (either_way (label_behind (row_count rows) rows number row))
