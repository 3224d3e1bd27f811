-- Laws of the walk for a number: which rows are left, and that the rows below a row decide where the row itself does not name the number.
use Rattle.std.specs.Prelude.{◌≡◌, Bool, false, List, ℕ, ◌-◌, ◌<◌, eqb, ℤ}
use Rattle.std.proofs.Common.{sym, ◌∙◌, arith, eq-eqb, ne_eqb}
use Rattle.std.proofs.Math.Decide.{ℕ_discrete}
use Rattle.words.specs.Word.{pick}
use Rattle.words.specs.Table.{row_count}
use Rattle.words.specs.Links.{link}
use Rattle.words.specs.Search.{some, some_field}
use Rattle.check_structure.specs.NoteLaws.{above_zero}
use Rattle.check_structure.specs.Structured.{Tree}
use Rattle.check_declaration_causes.specs.Causes.{names_number, named_from}
use Rattle.check_declaration_causes.proofs.InitialLaws.{named_step}

-- The rows from this one on; none where there is no row.
unfoldable pub left : List ℤ → ℕ → ℕ
left rows row = pick (eqb row 0) 0 (row_count rows - row)

module _ (rows : List ℤ) (t : Tree rows) where
  -- fewer rows are left at a row that a field links, or at 0
  pub part_falls : (row field part : ℕ) → (row ≡ 0 → ⊥) → row < row_count rows → field < 6 → part ≡ link rows row field → left rows part < left rows row
  unfolding left
  part_falls row field part p n h e = rw (ne_eqb row 0 p) (go (ℕ_discrete part 0))
    where
      go : Dec (part ≡ 0) → pick (eqb part 0) 0 (row_count rows - part) < row_count rows - row
      go (yes z) = rw (eq-eqb part 0 z) (omega arith)
      go (no z) =
          let later : row < part = rw e (t.forward row field n h (rw (← e) (above_zero part z))).later in
          rw (ne_eqb part 0 z) (omega arith)

  pub below-only : (number row : ℕ) (names : Bool) → (row ≡ 0 → ⊥) → row < row_count rows → names ≡ names_number rows number row → names ≡ false
      → named_from rows number row ≡ some (λ (field : ℕ). named_from rows number (link rows row field)) 0 6
  unfolding some_field
  below-only number row names p n e f = named_step rows t number row (above_zero row p) n ∙ rw (← e, f)
