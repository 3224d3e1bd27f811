-- The lines of what a program can write, by the check's answer: the bits of its sets are what it can write.
use Rattle.std.specs.Prelude.{Err, Ok, Result}
use mathlib.Core.Path.{◌≡◌, refl}
use mathlib.Core.List.{List}
use Prim.Native.Nat.{ℕ, ◌<◌}
use lib.IntN.{ℤ}
use Rattle.words.specs.declared.Form.TheVariants.{Source}
use Rattle.words.specs.Refusals.{NumberedRefusal}
use Rattle.text_report.specs.Lines.{refused_line}
use Rattle.language_programs.specs.Program.{source_size, resolved_rows}
use Rattle.write_sets_programs.specs.ProgramWrites.{WritesAre}
use Rattle.write_sets_programs.specs.declared.Writes.{Writes}
use Rattle.write_sets_entry.specs.Told.{Told, sets, refusal}
use Rattle.command_written_lines.specs.Lines.{bits_of, is_in, written_lines}
use Rattle.command_written_lines.specs.declared.PlaceSort.{PlaceSort}
use Rattle.command_written_lines.specs.declared.PlaceSort.TheVariants.{Variables, Arrays, Declared}
use Rattle.command_written_lines.proofs.NumberLaws.{lines_same}
use Rattle.command_questions.specs.Writes.{can_write, verdict_writes}

-- each bit
bits-told : {S : ℕ} {w : Writes} {rows : List ℤ} → WritesAre S w rows → (sort : PlaceSort) (i : ℕ) → i < bits_of sort → is_in w.variables w.arrays sort i ≡ can_write S rows sort i
bits-told x Variables i h = x.variables.variables i h
bits-told x Arrays i h = x.arrays.are i
bits-told x Declared i h = x.variables.declared i h

pub told-lines : {header rows : List ℤ} {v : (Result (Unit {0}) NumberedRefusal)} {w : Writes} → Told header rows v (Ok w) → written_lines (is_in w.variables w.arrays) ≡ verdict_writes v header rows
told-lines {header} {rows} {v} {w} (sets x) = lines_same (is_in w.variables w.arrays) (can_write (source_size header) (resolved_rows Source header rows)) (bits-told x)

pub told-refused : {header rows : List ℤ} {v : (Result (Unit {0}) NumberedRefusal)} {r : NumberedRefusal} → Told header rows v (Err r) → refused_line r.number r.place ≡ verdict_writes v header rows
told-refused refusal = refl
