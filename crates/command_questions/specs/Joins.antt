-- Joins: what `join` prints.
use Rattle.std.specs.Prelude.{List, ℕ, ℤ, Err, Ok, Result}
use Rattle.words.specs.Refusals.{NumberedRefusal}
use Rattle.words.specs.declared.Form.TheVariants.{Source}
use Rattle.text_form.specs.Text.{text_bytes}
use Rattle.text_report.specs.Lines.{refused_line}
use Rattle.join.specs.Join.{joined_rows, join_refusal}
use Rattle.program_runs.specs.Runs.{refusal_of}
use Rattle.command_text.specs.Texts.{text_output}

-- The first's own causes come before all that follows.
abbrev pub after_check : Result (Unit {0}) NumberedRefusal → List ℕ → List ℕ
after_check (Err refusal) rest = refused_line refusal.number refusal.place
after_check (Ok tt) rest = rest

-- The joined rows under the header of both programs, or the refusal. The table has 2,048 rows, so that 10 does not arise.
abbrev pub join_text : (header rows secondHeader secondRows : List ℤ) → List ℕ
join_text header rows secondHeader secondRows = after_check (join_refusal header rows secondHeader secondRows 12288) (text_bytes header (joined_rows rows secondRows))

-- "After the first's own causes, then the second's": those of its text among them.
unfoldable pub second_output : (second : List ℕ) → (header rows : List ℤ) → List ℕ
second_output second header rows = after_check (refusal_of Source header rows) (text_output Source second (join_text header rows))

unfoldable pub join_output : (text second : List ℕ) → List ℕ
join_output text second = text_output Source text (second_output second)
