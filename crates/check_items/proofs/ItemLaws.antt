-- Laws of a list's items: in a tree of rows the note is 1 at the items of the list and nowhere else. Note and relation both go along the
-- links: each row by the row that links it.
use Rattle.std.specs.Prelude.{◌≡◌, refl, true, false, ◌&&◌, List, ℕ, ◌<◌, eqb, ℤ}
use Rattle.std.proofs.Common.{subst, sym, ◌∙◌, true≢false, arith, eqb-true, eq-eqb, ne_eqb}
use Rattle.words.specs.Word.{pick}
use Rattle.words.specs.Table.{row_count, number_at}
use Rattle.words.specs.Laws.{by_cases, both}
use Rattle.words.specs.Links.{link}
use Rattle.check_structure.specs.LinkLaws.{by-owner}
use Rattle.check_structure.specs.NoteLaws.{note-root, note-link}
use Rattle.check_structure.specs.Structured.{Leads, Tree}
use Rattle.check_items.specs.Items.{ListItem, first, next, item_of, item_at}

module _ (rows : List ℤ) (t : Tree rows) (kind part : ℕ) where
  pub item-root : item_at rows kind part 0 ≡ 0
  unfolding item_at
  item-root = note-root (item_of rows kind part) 0 rows

  item-link : (row field : ℕ) → field < 6 → Leads rows row field
      → item_at rows kind part (link rows row field) ≡ pick (eqb field 5) (item_at rows kind part row) (pick (eqb (number_at rows row 0) kind && eqb field part) 1 0)
  unfolding item_at item_of
  item-link row field h leads = note-link (item_of rows kind part) 0 rows t row field h leads

  -- the list begins at a part, and not at a next item
  pub item-noted : part < 5 → {row : ℕ} → ListItem rows kind part row → item_at rows kind part row ≡ 1
  item-noted own (first {row} k leads) = item-link row part (omega arith) leads ∙ rw (ne_eqb part 5 (λ q. omega arith), eq-eqb _ _ k, eq-eqb part part refl)
  item-noted own (next {row} leads i) = item-link row 5 (omega arith) leads ∙ item-noted own i

  first-item : (owner field : ℕ) → Leads rows owner field → (eqb (number_at rows owner 0) kind && eqb field part) ≡ true → ListItem rows kind part (link rows owner field)
  first-item owner field leads e =
      let parts = both (eqb (number_at rows owner 0) kind) (eqb field part) e in
      subst (λ (x : ℕ). Leads rows owner x → ListItem rows kind part (link rows owner x)) (sym (eqb-true _ _ parts.1)) (λ l. first (eqb-true _ _ parts.0) l) leads

  next-item : (owner field : ℕ) → Leads rows owner field → eqb field 5 ≡ true → ListItem rows kind part owner → ListItem rows kind part (link rows owner field)
  next-item owner field leads f i = subst (λ (x : ℕ). Leads rows owner x → ListItem rows kind part (link rows owner x)) (sym (eqb-true _ _ f)) (λ l. next l i) leads

  pub noted-item : (row : ℕ) → row < row_count rows → eqb (item_at rows kind part row) 0 ≡ false → ListItem rows kind part row
  noted-item =
      by-owner rows t (λ (row : ℕ). eqb (item_at rows kind part row) 0 ≡ false → ListItem rows kind part row)
      (λ e. absurd (true≢false (sym (eq-eqb _ _ item-root) ∙ e)))
      (λ owner field h leads above e.
      let is = item-link owner field h leads in
      by_cases (eqb field 5)
      (λ q. next-item owner field leads q (above (rw (is, q) at e)))
      (λ q. by_cases (eqb (number_at rows owner 0) kind && eqb field part)
      (λ k. first-item owner field leads k)
      (λ k. absurd (true≢false (rw (is, q, k) at e)))))
