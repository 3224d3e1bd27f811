-- Laws of what is known of the rows: the note of definitions around a row is the function that it stands in; zeros are blank; where two
-- lists go on, their lengths are compared by what is left of them.
use Rattle.std.specs.Prelude.{◌≡◌, refl, Bool, true, false, List, ℕ, suc, ◌≤◌, ◌<◌, eqb, ℤ, replicate}
use Rattle.std.proofs.Common.{sym, ap, ◌∙◌, arith, eqb-true, eq-eqb, ne_eqb}
use Rattle.std.proofs.lemmas.List.{length-replicate, get_or-replicate}
use Rattle.std.proofs.lemmas.Bool.{eqb-false}
use Rattle.words.specs.Table.{row_count}
use Rattle.words.specs.Laws.{by_cases}
use Rattle.words.specs.Links.{link}
use Rattle.check_structure.specs.Structured.{Tree}
use Rattle.check_structure.specs.Passes.{Notes}
use Rattle.check_notes.specs.RowNotes.{handed, note_at}
use Rattle.check_notes.specs.RowNoteLaws.{same-notes}
use Rattle.check_notes.specs.declared.Note.TheVariants.{Around}
use Rattle.check_function_causes.specs.Functions.{is_definition, around_of, function_around, list_length}
use Rattle.check_function_causes.proofs.LengthLaws.{length_none, length-step}
use Rattle.check_functions.specs.Passes.{Blank}

around-note : (rows : List ℤ) (row : ℕ) → note_at (Around 59) rows row ≡ function_around rows row
unfolding note_at handed function_around around_of is_definition
around-note rows row = refl

pub around-notes : {rows : List ℤ} {notes : List ℕ} → Notes rows (note_at (Around 59) rows) notes → Notes rows (function_around rows) notes
around-notes {rows} n = same-notes (around-note rows) n

pub blank-zeros : (rows : List ℤ) (room : ℕ) → row_count rows ≤ room → Blank rows (replicate room 0)
blank-zeros rows room h = record { room = rw length-replicate h; is = λ row n. get_or-replicate room row 0 0 (omega arith) }

-- ---- two lists, gone through together

suc-same : (a b : ℕ) → eqb (suc a) (suc b) ≡ eqb a b
suc-same a b =
    by_cases (eqb a b)
    (λ e. rw e (eq-eqb _ _ (ap suc (eqb-true a b e))))
    (λ e. rw e (ne_eqb _ _ (λ (q : suc a ≡ suc b). eqb-false a b e (omega arith))))

module _ (rows : List ℤ) (t : Tree rows) (one other : ℕ) where
  pub both-ended : (row beside : ℕ) → beside < row_count rows → eqb (list_length rows one) (list_length rows other) ≡ eqb (list_length rows row) (list_length rows beside) → row ≡ 0
      → eqb beside 0 ≡ eqb (list_length rows one) (list_length rows other)
  both-ended row beside n e z =
      by_cases (eqb beside 0)
      (λ q. rw q (sym (e ∙ rw (length_none rows t row z, length_none rows t beside (eqb-true beside 0 q)))))
      (λ q. rw q (sym (e ∙ rw (length_none rows t row z, length-step rows t beside (eqb-false beside 0 q) n) (ne_eqb 0 _ (λ (w : 0 ≡ suc (list_length rows (link rows beside 5))). omega arith)))))

  pub one_ended : (row beside : ℕ) → row < row_count rows → eqb (list_length rows one) (list_length rows other) ≡ eqb (list_length rows row) (list_length rows beside) → (row ≡ 0 → ⊥) → beside ≡ 0
      → false ≡ eqb (list_length rows one) (list_length rows other)
  one_ended row beside n e p z =
      sym (e ∙ rw (length_none rows t beside z, length-step rows t row p n) (ne_eqb _ 0 (λ (w : suc (list_length rows (link rows row 5)) ≡ 0). omega arith)))

  pub both-on : (row beside next following : ℕ) → row < row_count rows → beside < row_count rows → eqb (list_length rows one) (list_length rows other) ≡ eqb (list_length rows row) (list_length rows beside)
      → (row ≡ 0 → ⊥) → (beside ≡ 0 → ⊥) → next ≡ link rows row 5 → following ≡ link rows beside 5
      → eqb (list_length rows one) (list_length rows other) ≡ eqb (list_length rows next) (list_length rows following)
  both-on row beside next following n m e p q a b =
      e ∙ rw (length-step rows t row p n, length-step rows t beside q m, a, b) (suc-same (list_length rows (link rows row 5)) (list_length rows (link rows beside 5)))
