-- Writes: what `writes` prints.
use Rattle.std.specs.Prelude.{Bool, List, ℕ, ℤ, Err, Ok, Result}
use Rattle.words.specs.Refusals.{NumberedRefusal}
use Rattle.words.specs.declared.Form.TheVariants.{Source}
use Rattle.text_report.specs.Lines.{refused_line}
use Rattle.language_programs.specs.Program.{source_size, resolved_rows}
use Rattle.write_sets_programs.specs.ProgramWrites.{variables_written, declared_written, program_writes_array}
use Rattle.command_written_lines.specs.Lines.{written_lines}
use Rattle.command_written_lines.specs.declared.PlaceSort.{PlaceSort}
use Rattle.command_written_lines.specs.declared.PlaceSort.TheVariants.{Variables, Arrays, Declared}
use Rattle.program_runs.specs.Runs.{refusal_of}

-- What a program can write, by number: its variables, the arrays of which it can write an element, and its declared words. S is where these
-- begin; a place that names a declared number is no variable.
abbrev pub can_write : (S : ℕ) → (rows : List ℤ) → PlaceSort → ℕ → Bool
can_write S rows Variables = variables_written S rows
can_write S rows Arrays = program_writes_array rows
can_write S rows Declared = declared_written S rows

abbrev pub verdict_writes : Result (Unit {0}) NumberedRefusal → (header rows : List ℤ) → List ℕ
verdict_writes (Err refusal) header rows = refused_line refusal.number refusal.place
verdict_writes (Ok tt) header rows = written_lines (can_write (source_size header) (resolved_rows Source header rows))

abbrev pub writes_lines : (header rows : List ℤ) → List ℕ
writes_lines header rows = verdict_writes (refusal_of Source header rows) header rows
