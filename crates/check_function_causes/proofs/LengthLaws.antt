-- Laws of the lengths of lists: one row at a time; the number that is counted is the number of rows that the list has.
use Rattle.std.specs.Prelude.{◌≡◌, List, eqb, ℤ}
use Rattle.std.proofs.Common.{subst, ◌∙◌, arith, add-one, eq-eqb, ne_eqb}
use Rattle.std.proofs.Math.Path.{refl, sym, ap}
use Prim.Native.Nat.{ℕ, zero, suc, ◌+◌, ◌≤◌, ◌<◌}
use Rattle.std.proofs.Math.Decide.{ℕ_discrete}
use Rattle.words.specs.Word.{pick}
use Rattle.words.specs.Table.{row_count}
use Rattle.words.specs.Links.{link}
use Rattle.check_structure.specs.LinkLaws.{part-inside}
use Rattle.check_structure.specs.NoteLaws.{above_zero}
use Rattle.check_structure.specs.Structured.{Tree}
use Rattle.check_function_causes.specs.Functions.{rows_from, list_length}
use Rattle.check_function_causes.specs.Demands.{Listed, ended, counted}

module _ (rows : List ℤ) (t : Tree rows) where
  from_end : (most : ℕ) → rows_from most rows 0 ≡ 0
  unfolding rows_from
  from_end zero = refl
  from_end (suc most) = refl

  -- the next row of a list: none, or a later one
  data Next (row : ℕ) : Type 0 where
    last : link rows row 5 ≡ 0 → Next row
    later : row < link rows row 5 → link rows row 5 < row_count rows → Next row

  next-of : (row : ℕ) → row < row_count rows → Next row
  next-of row n = go (ℕ_discrete (link rows row 5) 0)
    where
      go : Dec (link rows row 5 ≡ 0) → Next row
      go (yes z) = last z
      go (no z) = let leads = t.forward row 5 n (omega arith) (above_zero _ z) in later leads.later leads.inside

  -- as many as there are rows from the row on are enough
  enough : (most row : ℕ) → row < row_count rows → row_count rows ≤ most + row → rows_from most rows row ≡ rows_from (suc most) rows row
  unfolding rows_from
  enough zero row n h = absurd (omega arith)
  enough (suc most) row n h = ap (λ (rest : ℕ). pick (eqb row 0) 0 (suc rest)) (go (next-of row n) (λ following m e. enough most following m e))
    where
      go : Next row → ((following : ℕ) → following < row_count rows → row_count rows ≤ most + following → rows_from most rows following ≡ rows_from (suc most) rows following)
          → rows_from most rows (link rows row 5) ≡ rows_from (suc most) rows (link rows row 5)
      go (last z) rest = rw z (from_end most ∙ sym (from_end (suc most)))
      go (later l i) rest = rest (link rows row 5) i (omega arith)

  -- ---- one row at a time

  pub length_none : (row : ℕ) → row ≡ 0 → list_length rows row ≡ 0
  unfolding list_length
  length_none row z = rw z (from_end (row_count rows))

  pub length-step : (row : ℕ) → (row ≡ 0 → ⊥) → row < row_count rows → list_length rows row ≡ suc (list_length rows (link rows row 5))
  unfolding list_length rows_from
  length-step row p n = go (row_count rows) refl
    where
      rest : (most : ℕ) → row_count rows ≡ suc most → Next row → rows_from most rows (link rows row 5) ≡ rows_from (suc most) rows (link rows row 5)
      rest most e (last z) = rw z (from_end most ∙ sym (from_end (suc most)))
      rest most e (later l i) = enough most (link rows row 5) i (omega arith)

      go : (count : ℕ) → row_count rows ≡ count → rows_from count rows row ≡ suc (rows_from count rows (link rows row 5))
      go zero e = absurd (omega arith)
      go (suc most) e = rw (ne_eqb row 0 p) (ap suc (rest most e (next-of row n)))

  -- ---- the rows that a list has

  pub listed-length : {row count : ℕ} → Listed rows row count → row < row_count rows → list_length rows row ≡ count
  listed-length ended n = length_none 0 refl
  listed-length (counted {row} {count} p rest) n =
      length-step row (λ z. omega arith) n
      ∙ ap suc (listed-length rest (part-inside rows t row 5 (link rows row 5) n (omega arith) refl))
      ∙ sym (add-one count)

  pub length-listed : (row : ℕ) → row < row_count rows → Listed rows row (list_length rows row)
  length-listed row n = go (row_count rows) row n (omega arith)
    where
      step : (row : ℕ) → row < row_count rows → Dec (row ≡ 0) → (0 < row → Listed rows (link rows row 5) (list_length rows (link rows row 5))) → Listed rows row (list_length rows row)
      step row n (yes z) rest = rw (z, length_none 0 refl) ended
      step row n (no z) rest =
          subst (Listed rows row) (add-one (list_length rows (link rows row 5)) ∙ sym (length-step row z n)) (counted (above_zero row z) (rest (above_zero row z)))

      go : (most row : ℕ) → row < row_count rows → row_count rows ≤ most + row → Listed rows row (list_length rows row)
      go zero row n h = absurd (omega arith)
      go (suc most) row n h = step row n (ℕ_discrete row 0) (λ p. following (next-of row n) (λ next m e. go most next m e))
        where
          following : Next row → ((next : ℕ) → next < row_count rows → row_count rows ≤ most + next → Listed rows next (list_length rows next)) → Listed rows (link rows row 5) (list_length rows (link rows row 5))
          following (last z) rest = rw (z, length_none 0 refl) ended
          following (later l i) rest = rest (link rows row 5) i (omega arith)
