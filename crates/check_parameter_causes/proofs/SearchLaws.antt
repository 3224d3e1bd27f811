-- Laws of the search along a list, one row at a time: it meets exactly the rows of the list.
use Rattle.std.specs.Prelude.{◌≡◌, Bool, List, eqb, ℤ}
use Rattle.std.proofs.Math.Path.{refl, sym, ap}
use Rattle.std.proofs.Common.{◌∙◌, arith, eq-eqb, ne_eqb}
use Rattle.std.proofs.Math.Bool.{true, false}
use Rattle.std.proofs.lemmas.Bool.{false≢true}
use Prim.Native.Nat.{ℕ, zero, suc, ◌+◌, ◌≤◌, ◌<◌}
use Rattle.std.proofs.Math.Decide.{ℕ_discrete}
use Rattle.words.specs.Word.{pick}
use Rattle.words.specs.Table.{row_count}
use Rattle.words.specs.Laws.{by_cases}
use Rattle.words.specs.Links.{link}
use Rattle.check_structure.specs.NoteLaws.{above_zero}
use Rattle.check_structure.specs.Structured.{Leads, Tree}
use Rattle.check_parameter_causes.specs.Parameters.{some_of_list}

module _ (rows : List ℤ) (t : Tree rows) (property : ℕ → Bool) where
  some_end : (most : ℕ) → some_of_list most property rows 0 ≡ false
  unfolding some_of_list
  some_end zero = refl
  some_end (suc most) = refl

  data Next (row : ℕ) : Type 0 where
    last : link rows row 5 ≡ 0 → Next row
    later : Leads rows row 5 → Next row

  next-of : (row : ℕ) → row < row_count rows → Next row
  next-of row n = go (ℕ_discrete (link rows row 5) 0)
    where
      go : Dec (link rows row 5 ≡ 0) → Next row
      go (yes z) = last z
      go (no z) = later (t.forward row 5 n (omega arith) (above_zero _ z))

  -- as many as there are rows from the row on are enough
  enough : (most row : ℕ) → row < row_count rows → row_count rows ≤ most + row → some_of_list most property rows row ≡ some_of_list (suc most) property rows row
  unfolding some_of_list
  enough zero row n h = absurd (omega arith)
  enough (suc most) row n h =
      ap (λ (rest : Bool). pick (eqb row 0) false (pick (property row) true rest)) (go (next-of row n) (λ following m e. enough most following m e))
    where
      go : Next row → ((following : ℕ) → following < row_count rows → row_count rows ≤ most + following → some_of_list most property rows following ≡ some_of_list (suc most) property rows following)
          → some_of_list most property rows (link rows row 5) ≡ some_of_list (suc most) property rows (link rows row 5)
      go (last z) rest = rw z (some_end most ∙ sym (some_end (suc most)))
      go (later leads) rest = let l = leads.later in rest (link rows row 5) leads.inside (omega arith)

  pub some-step : (row : ℕ) → (row ≡ 0 → ⊥) → row < row_count rows
      → some_of_list (row_count rows) property rows row ≡ pick (property row) true (some_of_list (row_count rows) property rows (link rows row 5))
  unfolding some_of_list
  some-step row p n = go (row_count rows) refl
    where
      rest : (most : ℕ) → row_count rows ≡ suc most → Next row → some_of_list most property rows (link rows row 5) ≡ some_of_list (suc most) property rows (link rows row 5)
      rest most e (last z) = rw z (some_end most ∙ sym (some_end (suc most)))
      rest most e (later leads) = let l = leads.later in enough most (link rows row 5) leads.inside (omega arith)

      go : (count : ℕ) → row_count rows ≡ count → some_of_list count property rows row ≡ pick (property row) true (some_of_list count property rows (link rows row 5))
      go zero e = absurd (omega arith)
      go (suc most) e = rw (ne_eqb row 0 p) (ap (λ (found : Bool). pick (property row) true found) (rest most e (next-of row n)))

  pub some-none : (row : ℕ) → row ≡ 0 → some_of_list (row_count rows) property rows row ≡ false
  some-none row z = rw z (some_end (row_count rows))

  pub some-here : (row : ℕ) → (row ≡ 0 → ⊥) → row < row_count rows → property row ≡ true → some_of_list (row_count rows) property rows row ≡ true
  some-here row p n e = some-step row p n ∙ rw e

  -- what is met behind a row is met from the row on
  pub some-behind : (row : ℕ) → (row ≡ 0 → ⊥) → row < row_count rows → some_of_list (row_count rows) property rows (link rows row 5) ≡ true → some_of_list (row_count rows) property rows row ≡ true
  some-behind row p n e = some-step row p n ∙ rw e (either (property row))
    where
      either : (b : Bool) → pick b true true ≡ true
      either true = refl
      either false = refl

  -- A row that is reached and has the property.
  pub record Met (Reached : ℕ → Type 0) : Type 0 where
    pub row : ℕ
    pub reached : Reached row
    pub has : property row ≡ true

  module _ (Reached : ℕ → Type 0) (along : (row : ℕ) → Leads rows row 5 → Reached row → Reached (link rows row 5)) where
    pub some-met : (most row : ℕ) → row < row_count rows → Reached row → some_of_list most property rows row ≡ true → Met Reached
    unfolding some_of_list
    some-met zero row n r e = absurd (false≢true e)
    some-met (suc most) row n r e = go (ℕ_discrete row 0) (next-of row n) (λ following m s f. some-met most following m s f)
      where
        deeper : Next row → ((following : ℕ) → following < row_count rows → Reached following → some_of_list most property rows following ≡ true → Met Reached)
            → some_of_list most property rows (link rows row 5) ≡ true → Met Reached
        deeper (last z) rest f = absurd (false≢true (sym (some_end most) ∙ ap (some_of_list most property rows) (sym z) ∙ f))
        deeper (later leads) rest f = rest (link rows row 5) leads.inside (along row leads r) f

        go : Dec (row ≡ 0) → Next row → ((following : ℕ) → following < row_count rows → Reached following → some_of_list most property rows following ≡ true → Met Reached) → Met Reached
        go (yes z) following rest = absurd (false≢true (rw (eq-eqb _ _ z) at e))
        go (no z) following rest =
            by_cases (property row)
            (λ h. record { row = row; reached = r; has = h })
            (λ h. deeper following rest (rw (ne_eqb _ _ z, h) at e))
