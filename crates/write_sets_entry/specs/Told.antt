-- Told: what is answered for any words, by the check's answer.
use Rattle.std.specs.Prelude.{List, ℕ, ℤ, Err, Ok, Result}
use Rattle.words.specs.Layout.{layout_of, store_size}
use Rattle.words.specs.declared.Form.TheVariants.{Source}
use Rattle.words.specs.Refusals.{NumberedRefusal}
use Rattle.language_programs.specs.Program.{source_size, resolved_rows}
use Rattle.write_sets_programs.specs.ProgramWrites.{written, WritesAre}
use Rattle.write_sets_programs.specs.declared.Writes.{Writes}

-- The check's refusal, or the sets of an accepted program, by the table whose names are store words: each bit is 1 exactly where
-- `variable-bit`, `declared-bit` and `array-bit` of crate write_sets_programs say.
pub data Told (header rows : List ℤ) : Result (Unit {0}) NumberedRefusal → Result Writes NumberedRefusal → Type 0 where
  sets : {w : Writes} → WritesAre (source_size header) w (resolved_rows Source header rows) → Told header rows (Ok tt) (Ok w)
  refusal : {refused : NumberedRefusal} → Told header rows (Err refused) (Err refused)

abbrev pub count_of : Result (Unit {0}) NumberedRefusal → (header rows : List ℤ) → ℕ
count_of (Ok tt) header rows = written (source_size header) (resolved_rows Source header rows)
count_of (Err refused) header rows = 0
