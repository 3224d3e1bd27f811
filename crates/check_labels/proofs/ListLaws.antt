-- Laws of lists: in a tree of rows two rows stand in one list exactly where their lists have the same first row; the row that is
-- noted as a row's owner is its owner.
use Rattle.std.specs.Prelude.{◌≡◌, List, ℕ, zero, suc, ◌≤◌, ◌<◌, ℤ}
use Rattle.std.proofs.Common.{subst, sym, ◌∙◌, arith, ne_eqb}
use Rattle.std.proofs.Math.Path.{refl}
use Rattle.std.proofs.Math.Decide.{ℕ_discrete, dec_lt}
use Rattle.std.proofs.Math.Arith.{lt_of_le-ne}
use Rattle.words.specs.Table.{row_count}
use Rattle.words.specs.Links.{link}
use Rattle.check_structure.specs.LinkLaws.{owner_of, by-owner}
use Rattle.check_structure.specs.NoteLaws.{above_zero, note-root, note-link}
use Rattle.check_structure.specs.Structured.{Leads, Tree}
use Rattle.check_structure.specs.Lists.{Before, adjacent, further, before-next}
use Rattle.check_labels.specs.Labels.{owning, owner_at}
use Rattle.check_labels.specs.Ahead.{Owner, part, beside}
use Rattle.check_labels.specs.Passes.{handed, note_at}
use Rattle.check_labels.specs.declared.LabelNote.{LabelNote}
use Rattle.check_labels.specs.declared.LabelNote.TheVariants.{First}

module _ (rows : List ℤ) (t : Tree rows) where
  abbrev first : ℕ → ℕ
  first row = note_at First rows row

  -- ---- notes along the links

  pub first-root : first 0 ≡ 0
  unfolding note_at
  first-root = note-root (handed First rows) 0 rows

  pub first_part : (row field : ℕ) → field < 5 → Leads rows row field → first (link rows row field) ≡ link rows row field
  unfolding note_at handed
  first_part row field h leads = note-link (handed First rows) 0 rows t row field (omega arith) leads ∙ rw (ne_eqb field 5 (λ q. omega arith))

  pub first_next : (row : ℕ) → Leads rows row 5 → first (link rows row 5) ≡ first row
  unfolding note_at handed
  first_next row leads = note-link (handed First rows) 0 rows t row 5 (omega arith) leads

  pub owner-root : owner_at rows 0 ≡ 0
  unfolding owner_at
  owner-root = note-root owning 0 rows

  pub owner-part : (row field : ℕ) → field < 5 → Leads rows row field → owner_at rows (link rows row field) ≡ row
  unfolding owner_at owning
  owner-part row field h leads = note-link owning 0 rows t row field (omega arith) leads ∙ rw (ne_eqb field 5 (λ q. omega arith))

  pub owner-next : (row : ℕ) → Leads rows row 5 → owner_at rows (link rows row 5) ≡ owner_at rows row
  unfolding owner_at owning
  owner-next row leads = note-link owning 0 rows t row 5 (omega arith) leads

  pub owner-noted : (row : ℕ) → note_at LabelNote.Owner rows row ≡ owner_at rows row
  unfolding note_at handed owner_at
  owner-noted row = refl

  -- ---- the row that links a row, as a part of it or as the next item

  -- a field links a part, or it is the last and links the next item
  by_field : (P : ℕ → Type 0) (field : ℕ) → field < 6 → (field < 5 → P field) → P 5 → P field
  by_field P field h part_field next_field = go (ℕ_discrete field 5)
    where
      go : Dec (field ≡ 5) → P field
      go (yes q) = subst P (sym q) next_field
      go (no q) = part_field (lt_of_le-ne (omega arith) q)

  pub data Linked : ℕ → Type 0 where
    as-part : (row field : ℕ) → field < 5 → Leads rows row field → Linked (link rows row field)
    as-next : (row : ℕ) → Leads rows row 5 → Linked (link rows row 5)

  pub linked : (row : ℕ) → 0 < row → row < row_count rows → Linked row
  linked row p n =
      let o = owner_of rows t row p n in
      subst Linked o.is (by_field (λ (field : ℕ). Leads rows o.owner field → Linked (link rows o.owner field)) o.field o.last (as-part o.owner o.field) (as-next o.owner) o.leads)

  -- what holds of row 0, and goes on to parts and to next items, holds of every row
  by-linked : (P : ℕ → Type 0) → P 0 → ((row field : ℕ) → field < 5 → Leads rows row field → P row → P (link rows row field)) → ((row : ℕ) → Leads rows row 5 → P row → P (link rows row 5))
      → (row : ℕ) → row < row_count rows → P row
  by-linked P root to_part to-next =
      by-owner rows t P root
      (λ owner field h. by_field (λ (f : ℕ). Leads rows owner f → P owner → P (link rows owner f)) field h (to_part owner field) (to-next owner))

  -- ---- lists

  -- the first row of a list is no later than its rows
  pub first-most : (row : ℕ) → row < row_count rows → first row ≤ row
  first-most =
      by-linked (λ (row : ℕ). first row ≤ row) (let e = first-root in omega arith)
      (λ row field h leads lower. let e = first_part row field h leads in omega arith)
      (λ row leads lower. let e = first_next row leads in let later = leads.later in omega arith)

  -- items of one list have the same first row, and items with the same first row stand in one list, the lower before the higher
  pub before-first : {item row : ℕ} → Before rows item row → first row ≡ first item
  before-first (adjacent {item} leads) = first_next item leads
  before-first (further {item} {row} b leads) = first_next row leads ∙ before-first b

  list-step : (item row : ℕ) → ((x y : ℕ) → y < row → x < y → y < row_count rows → first x ≡ first y → Before rows x y)
      → item < row → row < row_count rows → first item ≡ first row → Linked row → Before rows item row
  list-step item row r l n e (as-part y field f leads) = absurd (let s = first_part y field f leads in let m = first-most item (omega arith) in omega arith)
  list-step item row r l n e (as-next y leads) = go (ℕ_discrete item y) (dec_lt item y)
    where
      same : first item ≡ first y
      same = e ∙ first_next y leads

      later : y < link rows y 5
      later = leads.later

      go : Dec (item ≡ y) → Dec (item < y) → Before rows item (link rows y 5)
      go (yes q) d = subst (λ (x : ℕ). Before rows x (link rows y 5)) (sym q) (adjacent leads)
      go (no q) (yes d) = further (r item y later d (omega arith) same) leads
      go (no q) (no d) =
          let above : y < item = lt_of_le-ne (omega (arith, d)) (λ (x : y ≡ item). q (sym x)) in
          absurd (let next = before-next (r y item l above (omega arith) (sym same)) in omega arith)

  list-before : (most item row : ℕ) → row < most → item < row → row < row_count rows → first item ≡ first row → Before rows item row
  list-before zero item row h l n e = absurd (omega arith)
  list-before (suc most) item row h l n e =
      list-step item row (λ x y k. list-before most x y (omega arith)) l n e (linked row (omega arith) n)

  pub same-list : (item row : ℕ) → item < row → row < row_count rows → first item ≡ first row → Before rows item row
  same-list item row l n e = list-before (suc row) item row (omega arith) l n e

  -- ---- owners

  pub owner-is : {owner row : ℕ} → Owner rows owner row → owner_at rows row ≡ owner
  owner-is (part {row} {field} h leads) = owner-part row field h leads
  owner-is (beside {owner} {row} o leads) = owner-next row leads ∙ owner-is o

  pub owner-earlier : {owner row : ℕ} → Owner rows owner row → owner < row
  owner-earlier (part h leads) = leads.later
  owner-earlier (beside o leads) = let r = owner-earlier o in let l = leads.later in omega arith

  -- row 0 has no item behind it; then every other row has an owner
  module _ (lone : link rows 0 5 ≡ 0) where
    has-owner : (row : ℕ) → row < row_count rows → 0 < row → Owner rows (owner_at rows row) row
    has-owner =
        by-linked (λ (row : ℕ). 0 < row → Owner rows (owner_at rows row) row) (λ p. absurd (omega arith))
        (λ row field h leads owned p. subst (λ (x : ℕ). Owner rows x (link rows row field)) (sym (owner-part row field h leads)) (part h leads))
        (λ row leads owned p. subst (λ (x : ℕ). Owner rows x (link rows row 5)) (sym (owner-next row leads)) (beside (owned (first-item row leads)) leads))
      where
        first-item : (row : ℕ) → Leads rows row 5 → 0 < row
        first-item zero leads = absurd (let l = leads.later in omega arith)
        first-item (suc row) leads = omega arith

    pub owner-of-row : (row : ℕ) → 0 < row → row < row_count rows → Owner rows (owner_at rows row) row
    owner-of-row row p n = has-owner row n p

    pub owner-below : (row : ℕ) → 0 < row → row < row_count rows → owner_at rows row < row
    owner-below row p n = owner-earlier (owner-of-row row p n)

    pub owner-inside : (row : ℕ) → row < row_count rows → owner_at rows row < row_count rows
    owner-inside row n = go (ℕ_discrete row 0)
      where
        go : Dec (row ≡ 0) → owner_at rows row < row_count rows
        go (yes z) = rw (z, owner-root) (omega arith)
        go (no z) = let below = owner-below row (above_zero row z) n in omega arith
