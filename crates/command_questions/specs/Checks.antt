-- Checks: the line of `check` and `kernel-check`.
use Rattle.std.specs.Prelude.{List, ℕ, ℤ}
use Rattle.words.specs.declared.Form.{Form}
use Rattle.program_runs.specs.Runs.{refusal_of}
use Rattle.command_lines.specs.Lines.{verdict_line}

abbrev pub check_line : Form → (header rows : List ℤ) → List ℕ
check_line form header rows = verdict_line (refusal_of form header rows)
