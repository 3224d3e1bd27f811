-- Laws of the passes: what each has written after so many words or rows, and what the tables hold when all are done.
use Rattle.std.specs.Prelude.{◌≡◌, refl, List, ℕ, ◌+◌, ◌≤◌, ◌<◌, ℤ, length, get_or, set}
use Rattle.std.proofs.Common.{◌∙◌, arith, add-one, get_or-set_same, get_or-set_other}
use Rattle.std.proofs.Math.Decide.{ℕ_discrete}
use Rattle.std.proofs.Math.Arith.{lt_of_le-ne}
use Rattle.words.specs.Word.{one}
use Rattle.words.specs.Table.{row_count}
use Rattle.check_structure.specs.Passes.{Notes}
use Rattle.check_notes.specs.RowNotes.{handed, note_at}
use Rattle.check_notes.specs.RowNoteLaws.{same-notes}
use Rattle.check_notes.specs.declared.Note.TheVariants.{Behind}
use Rattle.check_function_causes.specs.Functions.{function_around}
use Rattle.check_function_causes.proofs.AroundLaws.{around-most}
use Rattle.names.specs.Names.{in_scope, scope_at}
use Rattle.names.proofs.ScopeLaws.{scope-before}
use Rattle.words.specs.StoreLaws.{before-few}
use Rattle.words.specs.Declarations.{is_declaration, declarations_before}
use Rattle.names_resolver.specs.Passes.{Scanned}

-- ---- scopes

scope-note : (rows : List ℤ) (row : ℕ) → note_at (Behind 58) rows row ≡ scope_at rows row
unfolding note_at handed scope_at in_scope is_declaration
scope-note rows row = refl

pub scope-notes : {rows : List ℤ} {notes : List ℕ} → Notes rows (note_at (Behind 58) rows) notes → Notes rows (scope_at rows) notes
scope-notes {rows} n = same-notes (scope-note rows) n

-- ---- counts

-- The counts of the first rows are written, and the next one is known.
pub record Counting (rows : List ℤ) (row : ℕ) (counts : List ℕ) (count : ℕ) : Type 0 where
  pub next : count ≡ declarations_before rows row
  pub before : (earlier : ℕ) → earlier < row → get_or counts earlier 0 ≡ declarations_before rows earlier

pub counting-begun : (rows : List ℤ) (counts : List ℕ) → Counting rows 0 counts 0
unfolding declarations_before
counting-begun rows counts = record { next = refl; before = λ earlier h. absurd (omega arith) }

pub counting-on : {rows : List ℤ} {row count next : ℕ} {counts : List ℕ} → Counting rows row counts count → row < length counts → next ≡ count + one (is_declaration rows row) → Counting rows (row + 1) (set counts row count) next
unfolding declarations_before
counting-on {rows} {row} {count} {next} {counts} c room e =
    record { next = rw (add-one, ← c.next) e; before = λ earlier h. go earlier h (ℕ_discrete earlier row) }
  where
    go : (earlier : ℕ) → earlier < row + 1 → Dec (earlier ≡ row) → get_or (set counts row count) earlier 0 ≡ declarations_before rows earlier
    go earlier h (yes q) = rw q (get_or-set_same counts row count 0 room ∙ c.next)
    go earlier h (no q) = get_or-set_other counts row earlier count 0 q ∙ c.before earlier (lt_of_le-ne (omega arith) q)

pub counting-ended : {rows : List ℤ} {row count : ℕ} {counts : List ℕ} → Counting rows row counts count → row_count rows ≤ row → row_count rows ≤ length counts → Notes rows (declarations_before rows) counts
counting-ended c h room = record { room = room; is = λ row n. c.before row (omega arith) }

-- ---- all

module _ {rows : List ℤ} {scopes around counts : List ℕ} (s : Scanned rows scopes around counts) (row : ℕ) (n : row < row_count rows) where
  pub scope-room : row < length scopes
  scope-room = let room = s.scoped.room in omega arith

  pub scope-is : get_or scopes row 0 ≡ scope_at rows row
  scope-is = s.scoped.is row n

  -- a row's scope is a row
  pub scope-inside : get_or scopes row 0 < row_count rows
  scope-inside = omega (arith, scope-is, scope-before rows s.tree row n, n)

  pub around-room : row < length around
  around-room = let room = s.standing.room in omega arith

  pub around-is : get_or around row 0 ≡ function_around rows row
  around-is = s.standing.is row n

  -- a definition stands at a row
  pub around-inside : get_or around row 0 < row_count rows
  around-inside = omega (arith, around-is, around-most rows s.tree row n, n)

  pub count_room : row < length counts
  count_room = let room = s.counted.room in omega arith

  pub count_is : get_or counts row 0 ≡ declarations_before rows row
  count_is = s.counted.is row n

  pub count-few : get_or counts row 0 ≤ 2048
  count-few = omega (arith, count_is, before-few rows row, s.few, n)
