-- Laws of bodies: what the pass notes of a row is the function in whose block's own list it stands; each row by the row that links it.
use Rattle.std.proofs.Math.Path.{◌≡◌, refl}
use Rattle.std.proofs.Common.{sym, ap, ◌∙◌, inl, inr, arith, eqb-true}
use Rattle.std.specs.Prelude.{Bool, ◌&&◌, ◌⊎◌, List, ℕ, ◌<◌, ℤ}
use Rattle.std.proofs.Math.Bool.{true, false}
use Rattle.std.proofs.Math.Decide.{ℕ_discrete}
use Rattle.std.proofs.Math.Dec.{eqb}
use Rattle.words.specs.Word.{pick}
use Rattle.words.specs.Table.{row_count, number_at}
use Rattle.words.specs.Kinds.{kinds, kind_in, kind_of, kind_row, definition_fields, sort_in, sort_of, sort_at, is_link}
use Rattle.words.specs.Links.{link}
use Rattle.check_structure.specs.LinkLaws.{by-owner}
use Rattle.check_structure.specs.NoteLaws.{note-root, note-link}
use Rattle.check_structure.specs.Passes.{Notes}
use Rattle.check_structure.specs.Structured.{Leads, Tree}
use Rattle.check_notes.specs.RowNotes.{handed, note_at}
use Rattle.check_notes.specs.RowNoteLaws.{note_at-root, note_at-link}
use Rattle.check_notes.specs.declared.Note.TheVariants.{BodyOf}
use Rattle.check_function_causes.specs.Functions.{is_definition}
use Rattle.check_parameter_causes.specs.Parameters.{body_of, body_at}
use Rattle.check_parameter_causes.specs.Demands.{BodyItem, first_item, next_item}
use Rattle.check_parameter_causes.proofs.BodyLaws.{Body, as-block, as-item, noted-body}

body_at-root : (rows : List ℤ) → body_at rows 0 ≡ 0
unfolding body_at
body_at-root rows = note-root (body_of rows) 0 rows

body_at-link : (rows : List ℤ) → Tree rows → (owner field : ℕ) → field < 6 → Leads rows owner field → body_at rows (link rows owner field) ≡ body_of rows owner field (body_at rows owner)
unfolding body_at
body_at-link rows t owner field h leads = note-link (body_of rows) 0 rows t owner field h leads

module _ (rows : List ℤ) (t : Tree rows) where
  block-link : (definition : ℕ) → is_definition rows definition ≡ true → link rows definition 3 ≡ number_at rows definition 3
  unfolding is_definition link sort_at sort_of sort_in kind_of kind_in kinds kind_row definition_fields is_link
  block-link definition d = rw (eqb-true (number_at rows definition 0) 59 d)

  defines : {definition row : ℕ} → BodyItem rows definition row → is_definition rows definition ≡ true
  defines (first_item d leads first) = d
  defines (next_item i leads) = defines i

  -- a row has no function's block around it, or that of a definition
  body-of : (row : ℕ) → row < row_count rows → (body_at rows row ≡ 0) ⊎ (is_definition rows (body_at rows row) ≡ true)
  body-of row n = go (ℕ_discrete (body_at rows row) 0)
    where
      told : Body rows t row (body_at rows row) → is_definition rows (body_at rows row) ≡ true
      told (as-block d leads e) = d
      told (as-item i) = defines i

      go : Dec (body_at rows row ≡ 0) → (body_at rows row ≡ 0) ⊎ (is_definition rows (body_at rows row) ≡ true)
      go (yes z) = inl z
      go (no z) = inr (told (noted-body rows t row n z))

  -- the number of a definition's block is its link
  same-hand : (owner field own : ℕ) → (own ≡ 0) ⊎ (is_definition rows own ≡ true) → handed (BodyOf 59) rows owner field own ≡ body_of rows owner field own
  unfolding handed body_of is_definition
  same-hand owner field own (inl z) = rw z (ap (λ (x : ℕ). pick (eqb (number_at rows owner 0) 59 && eqb field 3) owner x) (none (eqb (number_at rows 0 3) owner) (eqb (link rows 0 3) owner) (eqb field 1) (eqb field 5)))
    where
      none : (a b c d : Bool) → ◌≡◌ {A = ℕ} (pick a (pick c 0 0) (pick d 0 0)) (pick b (pick c 0 0) (pick d 0 0))
      none true true c d = refl
      none false false c d = refl
      none true false true true = refl
      none true false true false = refl
      none true false false true = refl
      none true false false false = refl
      none false true true true = refl
      none false true true false = refl
      none false true false true = refl
      none false true false false = refl
  same-hand owner field own (inr d) = rw (block-link own d)

  body_same : (row : ℕ) → row < row_count rows → note_at (BodyOf 59) rows row ≡ body_at rows row
  body_same =
      by-owner rows t (λ (row : ℕ). note_at (BodyOf 59) rows row ≡ body_at rows row)
      (note_at-root (BodyOf 59) rows ∙ sym (body_at-root rows))
      (λ owner field h leads same.
      let n : owner < row_count rows = (let l = leads.later in let i = leads.inside in omega arith) in
      note_at-link rows t (BodyOf 59) owner field h leads
      ∙ ap (handed (BodyOf 59) rows owner field) same
      ∙ same-hand owner field (body_at rows owner) (body-of owner n)
      ∙ sym (body_at-link rows t owner field h leads))

  pub body-notes : {notes : List ℕ} → Notes rows (note_at (BodyOf 59) rows) notes → Notes rows (body_at rows) notes
  body-notes n = record { room = n.room; is = λ row h. n.is row h ∙ body_same row h }

  item-before : {definition row : ℕ} → BodyItem rows definition row → definition < row
  item-before (first_item d leads first) = let l = leads.later in let f = first.later in omega arith
  item-before (next_item i leads) = let b = item-before i in let l = leads.later in omega arith

  -- the definition is in the table
  pub body_inside : (row : ℕ) → row < row_count rows → body_at rows row < row_count rows
  body_inside row n = go (ℕ_discrete (body_at rows row) 0)
    where
      told : Body rows t row (body_at rows row) → body_at rows row < row_count rows
      told (as-block d leads e) = let l = leads.later in omega arith
      told (as-item i) = let b = item-before i in omega arith

      go : Dec (body_at rows row ≡ 0) → body_at rows row < row_count rows
      go (yes z) = omega arith
      go (no z) = told (noted-body rows t row n z)
