-- Laws of places: the notes say what a row stands inside, so cause 7 is document 01's sentence on break, continue, case and default, and
-- Change 11's on declarations and Change 13's on returns.
-- Notes and relations both go along the links: each row by the row that links it.
use Rattle.std.specs.Prelude.{◌≡◌, Bool, List, ℕ, ◌<◌, ℤ}
use Rattle.std.proofs.Math.Path.{refl, ap}
use Rattle.std.proofs.Common.{sym, ◌∙◌, arith}
use Rattle.std.proofs.Math.Bool.{true, false, true≢false}
use Rattle.std.proofs.Math.Arith.{lt_of_le-ne}
use Rattle.std.proofs.Math.Dec.{eqb}
use borrow.Author.Tests.{eqb-true, eqb-false, eq-eqb, ne_eqb}
use Rattle.words.specs.Word.{pick}
use Rattle.words.specs.Table.{row_count, number_at}
use Rattle.words.specs.Laws.{by_cases, neither}
use Rattle.words.specs.Links.{link}
use Rattle.check_structure.specs.LinkLaws.{by-owner}
use Rattle.check_structure.specs.Structured.{Leads, Tree}
use Rattle.check_items.proofs.ItemLaws.{item-noted, noted-item}
use Rattle.check_notes.specs.RowNotes.{note_at}
use Rattle.check_notes.specs.RowNoteLaws.{note_at-root, note_at-link}
use Rattle.check_notes.specs.declared.Note.{Note}
use Rattle.check_places.proofs.NoteLaws.{Around, loop-around, loop-or-switch-around, switch-item-note}
use Rattle.check_places.specs.Places.{is_loop, is_loop_or_switch, is_mark, in_loop, in_loop_or_switch, out_of_place, misplaced}
use Rattle.check_declaration_causes.specs.Causes.{outside_block}
use Rattle.check_declaration_causes.proofs.DeclarationLaws.{inside-block, block_inside}
use Rattle.check_function_causes.specs.Functions.{is_definition}
use Rattle.check_function_causes.proofs.AroundLaws.{inside-function, function-inside}
use Rattle.check_source.specs.Refusal.{wrongly_placed}
use Rattle.check_source.specs.Legal.{Inside, part, along, PlacedRow}

module _ (rows : List ℤ) (t : Tree rows) where
  -- ---- inside a loop, inside a loop or switch

  module _ (which : Note) (kinds : ℕ → Bool) (rule : Around rows which kinds) where
    note-of : (row field : ℕ) → field < 6 → Leads rows row field → note_at which rows (link rows row field) ≡ pick (eqb field 5) (note_at which rows row) (pick (kinds (number_at rows row 0)) 1 (note_at which rows row))
    note-of row field h leads = note_at-link rows t which row field h leads ∙ rule row field (note_at which rows row)

    inside-noted : {row : ℕ} → Inside rows kinds row → note_at which rows row ≡ 1
    inside-noted (part {row} {field} h leads k) = note-of row field (omega arith) leads ∙ rw (ne_eqb field 5 (λ q. omega arith), k)
    inside-noted (along {row} {field} h leads i) = note-of row field h leads ∙ rw (inside-noted i) (shared (eqb field 5) (kinds (number_at rows row 0)))
      where
        shared : (a b : Bool) → ◌≡◌ {A = ℕ} (pick a 1 (pick b 1 1)) 1
        shared true b = refl
        shared false true = refl
        shared false false = refl

    noted-inside : (row : ℕ) → row < row_count rows → eqb (note_at which rows row) 0 ≡ false → Inside rows kinds row
    noted-inside =
        by-owner rows t (λ (row : ℕ). eqb (note_at which rows row) 0 ≡ false → Inside rows kinds row)
        (λ e. absurd (true≢false (sym (eq-eqb _ _ (note_at-root which rows)) ∙ e)))
        (λ owner field h leads above e.
        let is = note-of owner field h leads in
        by_cases (eqb field 5)
        (λ q. along h leads (above (rw (is, q) at e)))
        (λ q. by_cases (kinds (number_at rows owner 0))
        (λ k. part (let n = eqb-false field 5 q in lt_of_le-ne (omega arith) n) leads k)
        (λ k. along h leads (above (rw (is, q, k) at e)))))

  -- ---- cause 7

  pub none-wrong-placed : is_definition rows 0 ≡ false → (row : ℕ) → row < row_count rows → wrongly_placed rows row ≡ false → PlacedRow rows row
  unfolding wrongly_placed misplaced out_of_place
  none-wrong-placed root row n e =
      let well = neither (misplaced rows row) _ e in
      record {
        break_inside = λ k. noted-inside in_loop_or_switch is_loop_or_switch (loop-or-switch-around rows) row n (rw k at well.0);
        continue_inside = λ k. noted-inside in_loop is_loop (loop-around rows) row n (rw k at well.0);
        mark_inside = λ k. noted-item rows t 47 2 row n (rw (mark-other row k 50 refl, mark-other row k 51 refl, k, switch-item-note rows row) at well.0);
        declaration_inside = inside-block rows t row n (neither (outside_block rows row) _ well.1).0;
        return_inside = inside-function rows t root row n (neither (outside_block rows row) _ well.1).1;
      }
    where
      mark-other : (row : ℕ) → is_mark (number_at rows row 0) ≡ true → (kind : ℕ) → is_mark kind ≡ false → eqb (number_at rows row 0) kind ≡ false
      mark-other row k kind other = ne_eqb (number_at rows row 0) kind (λ q. true≢false (sym k ∙ ap is_mark q ∙ other))

  not-misplaced : (row : ℕ) → PlacedRow rows row → misplaced rows row ≡ false
  unfolding misplaced out_of_place
  not-misplaced row p =
      by_cases (eqb (number_at rows row 0) 50)
      (λ k. rw (k, inside-noted in_loop_or_switch is_loop_or_switch (loop-or-switch-around rows) (p.break_inside (eqb-true _ _ k))))
      (λ a. by_cases (eqb (number_at rows row 0) 51)
      (λ k. rw (a, k, inside-noted in_loop is_loop (loop-around rows) (p.continue_inside (eqb-true _ _ k))))
      (λ b. by_cases (is_mark (number_at rows row 0))
      (λ k. rw (a, b, k, switch-item-note rows row, item-noted rows t 47 2 (omega arith) (p.mark_inside k)))
      (λ c. rw (a, b, c))))

  pub placed-none-wrong : is_definition rows 0 ≡ false → (row : ℕ) → PlacedRow rows row → wrongly_placed rows row ≡ false
  unfolding wrongly_placed
  placed-none-wrong root row p = rw (not-misplaced row p, block_inside rows t row p.declaration_inside) (function-inside rows t root row p.return_inside)
