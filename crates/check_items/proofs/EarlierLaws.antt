-- Laws of earlier items: in a tree of rows a search back from a row meets exactly the items of the sort before it in its list.
use Rattle.std.specs.Prelude.{◌≡◌, Bool, List, eqb, ℤ}
use Rattle.std.proofs.Common.{subst, sym, ◌∙◌, eqb-true, eq-eqb, ne_eqb}
use Rattle.std.proofs.Math.Path.{refl}
use Rattle.std.proofs.Math.Bool.{true, false}
use Rattle.std.proofs.lemmas.Bool.{false≢true}
use Prim.Native.Nat.{ℕ, zero, suc, ◌≤◌, ◌<◌}
use native.Mathlib.Omega.{arith}
use Rattle.std.proofs.Math.Decide.{ℕ_discrete}
use Rattle.words.specs.Word.{pick}
use Rattle.words.specs.Table.{row_count}
use Rattle.words.specs.Laws.{by_cases}
use Rattle.words.specs.Links.{link}
use Rattle.check_structure.specs.LinkLaws.{owner_of, by-owner}
use Rattle.check_structure.specs.NoteLaws.{above_zero, note-root, note-link}
use Rattle.check_structure.specs.Structured.{Leads, Tree}
use Rattle.check_structure.specs.Lists.{Before, adjacent, further, before-later, before-before}
use Rattle.check_items.specs.Items.{earlier_of, earlier_at, some_from, some_earlier}

module _ (rows : List ℤ) (t : Tree rows) (sort : ℕ → Bool) where
  earlier-root : earlier_at sort rows 0 ≡ 0
  unfolding earlier_at
  earlier-root = note-root (earlier_of sort) 0 rows

  earlier-link : (row field : ℕ) → field < 6 → Leads rows row field → earlier_at sort rows (link rows row field) ≡ pick (eqb field 5) (pick (sort row) row (earlier_at sort rows row)) 0
  unfolding earlier_at earlier_of
  earlier-link row field h leads = note-link (earlier_of sort) 0 rows t row field h leads

  -- ---- they stand at lower rows

  linked-lower : (owner field : ℕ) → field < 6 → Leads rows owner field → earlier_at sort rows owner ≤ owner → earlier_at sort rows (link rows owner field) < link rows owner field
  linked-lower owner field h leads lower =
      let later = leads.later in
      rw (earlier-link owner field h leads) (go (eqb field 5) (sort owner) later)
    where
      go : (n s : Bool) → owner < link rows owner field → pick n (pick s owner (earlier_at sort rows owner)) 0 < link rows owner field
      go true true later = later
      go true false later = omega arith
      go false s later = omega arith

  earlier-most : (row : ℕ) → row < row_count rows → earlier_at sort rows row ≤ row
  earlier-most =
      by-owner rows t (λ (row : ℕ). earlier_at sort rows row ≤ row) (rw earlier-root (omega arith))
      (λ owner field h leads lower. let l = linked-lower owner field h leads lower in omega arith)

  pub earlier-lower : (row : ℕ) → 0 < row → row < row_count rows → earlier_at sort rows row < row
  earlier-lower row p n =
      let o = owner_of rows t row p n in
      let inside : o.owner < row_count rows = (let e = o.earlier in omega arith) in
      subst (λ (x : ℕ). earlier_at sort rows x < x) o.is (linked-lower o.owner o.field o.last o.leads (earlier-most o.owner inside))

  pub earlier-inside : (row item : ℕ) → row < row_count rows → item ≡ earlier_at sort rows row → item < row_count rows
  earlier-inside row item n e = let l = earlier-most row n in omega arith

  -- ---- the nearest one

  -- An item of the sort before a row.
  pub record Earlier (row item : ℕ) : Type 0 where
    pub before : Before rows item row
    pub sorted : sort item ≡ true

  -- the nearest one, if there is one, is such an item
  pub nearest : (row : ℕ) → row < row_count rows → (earlier_at sort rows row ≡ 0 → ⊥) → Earlier row (earlier_at sort rows row)
  nearest =
      by-owner rows t (λ (row : ℕ). (earlier_at sort rows row ≡ 0 → ⊥) → Earlier row (earlier_at sort rows row))
      (λ p. absurd (p earlier-root))
      (λ owner field h leads above p.
      by_cases (eqb field 5)
      (λ f. subst (λ (x : ℕ). Leads rows owner x → (earlier_at sort rows (link rows owner x) ≡ 0 → ⊥) → Earlier (link rows owner x) (earlier_at sort rows (link rows owner x)))
      (sym (eqb-true field 5 f)) (after owner above) leads p)
      (λ f. absurd (p (earlier-link owner field h leads ∙ rw f))))
    where
      after : (row : ℕ) → ((earlier_at sort rows row ≡ 0 → ⊥) → Earlier row (earlier_at sort rows row)) → Leads rows row 5
          → (earlier_at sort rows (link rows row 5) ≡ 0 → ⊥) → Earlier (link rows row 5) (earlier_at sort rows (link rows row 5))
      after row above leads p =
          let is = earlier-link row 5 (omega arith) leads in
          by_cases (sort row)
          (λ s. subst (Earlier (link rows row 5)) (sym (is ∙ rw s)) (record { before = adjacent leads; sorted = s }))
          (λ s. let same : earlier_at sort rows (link rows row 5) ≡ earlier_at sort rows row = is ∙ rw s in
          let back = above (λ q. p (same ∙ q)) in
          subst (Earlier (link rows row 5)) (sym same) (record { before = further back.before leads; sorted = back.sorted }))

  -- ---- the search back

  module _ (property : ℕ → Bool) where
    from_zero : (items : ℕ) → some_from items sort property rows 0 ≡ false
    unfolding some_from
    from_zero zero = refl
    from_zero (suc items) = refl

    -- as many items as the number of the first are enough
    enough : (items more item : ℕ) → item ≤ items → item ≤ more → item < row_count rows → some_from items sort property rows item ≡ some_from more sort property rows item
    unfolding some_from
    enough zero more item h k n = let z : item ≡ 0 = omega arith in rw z (sym (from_zero more))
    enough (suc items) zero item h k n = let z : item ≡ 0 = omega arith in rw z (from_zero (suc items))
    enough (suc items) (suc more) item h k n =
        go (ℕ_discrete item 0) (λ p. let l = earlier-lower item p n in enough items more (earlier_at sort rows item) (omega arith) (omega arith) (omega arith))
      where
        go : Dec (item ≡ 0) → (0 < item → some_from items sort property rows (earlier_at sort rows item) ≡ some_from more sort property rows (earlier_at sort rows item))
            → pick (eqb item 0) false (pick (property item) true (some_from items sort property rows (earlier_at sort rows item)))
            ≡ pick (eqb item 0) false (pick (property item) true (some_from more sort property rows (earlier_at sort rows item)))
        go (yes q) r = rw (eq-eqb _ _ q)
        go (no q) r = rw (r (above_zero item q))

    -- one item at a time
    pub from-none : (item : ℕ) → item ≡ 0 → some_from item sort property rows item ≡ false
    from-none item z = rw z (from_zero 0)

    pub from-here : (item : ℕ) → (item ≡ 0 → ⊥) → property item ≡ true → some_from item sort property rows item ≡ true
    unfolding some_from
    from-here zero p e = absurd (p refl)
    from-here (suc item) p e = rw (ne_eqb (suc item) 0 p, e)

    pub from_back : (item earlier : ℕ) → (item ≡ 0 → ⊥) → item < row_count rows → earlier ≡ earlier_at sort rows item → property item ≡ false
        → some_from item sort property rows item ≡ some_from earlier sort property rows earlier
    unfolding some_from
    from_back zero earlier p n b e = absurd (p refl)
    from_back (suc item) earlier p n b e =
        let l = earlier-lower (suc item) (omega arith) n in
        rw (ne_eqb (suc item) 0 p, e, ← b) (enough item earlier earlier (omega arith) (omega arith) (omega arith))

    -- ---- what it meets

    -- it meets each item of the sort before the row; row 0 stands for none
    pub earlier-met : {item row : ℕ} → Before rows item row → sort item ≡ true → (item ≡ 0 → ⊥) → property item ≡ true → some_earlier sort property rows row ≡ true
    unfolding some_earlier
    earlier-met (adjacent {item} leads) s p e = rw (earlier-link item 5 (omega arith) leads, s) (from-here item p e)
    earlier-met (further {item} {row} b leads) s p e =
        let met = earlier-met b s p e in
        let later = before-later b in
        let inside : row < row_count rows = (let l = leads.later in let i = leads.inside in omega arith) in
        rw (earlier-link row 5 (omega arith) leads)
        (by_cases (sort row)
        (λ q. rw q (by_cases (property row) (λ f. from-here row (λ z. omega arith) f) (λ f. from_back row (earlier_at sort rows row) (λ z. omega arith) inside refl f ∙ met)))
        (λ q. rw q met))

    pub record Met (row : ℕ) : Type 0 where
      pub item : ℕ
      pub earlier : Earlier row item
      pub has : property item ≡ true

    -- and no others
    met-from : (items row : ℕ) → row < row_count rows → some_from items sort property rows (earlier_at sort rows row) ≡ true → Met row
    unfolding some_from
    met-from zero row n e = absurd (false≢true e)
    met-from (suc items) row n e = go (ℕ_discrete (earlier_at sort rows row) 0) (met-from items (earlier_at sort rows row) (earlier-inside row (earlier_at sort rows row) n refl))
      where
        go : Dec (earlier_at sort rows row ≡ 0) → (some_from items sort property rows (earlier_at sort rows (earlier_at sort rows row)) ≡ true → Met (earlier_at sort rows row)) → Met row
        go (yes q) rest = absurd (false≢true (rw (eq-eqb _ _ q) at e))
        go (no q) rest =
            let near = nearest row n q in
            by_cases (property (earlier_at sort rows row))
            (λ h. record { item = earlier_at sort rows row; earlier = near; has = h })
            (λ h. let back = rest (rw (ne_eqb _ _ q, h) at e) in
            record { item = back.item; earlier = record { before = before-before back.earlier.before near.before; sorted = back.earlier.sorted }; has = back.has })

    pub met-earlier : (row : ℕ) → row < row_count rows → some_earlier sort property rows row ≡ true → Met row
    unfolding some_earlier
    met-earlier row n e = met-from (earlier_at sort rows row) row n e
