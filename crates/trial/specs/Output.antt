-- Output: the bytes that the trial program prints for a text. Document 01, the end of "Text".
use Rattle.std.specs.Prelude.{List, ◌++◌, ℕ, ℤ, take}
use Rattle.words.specs.Layout.{layout_of, store_size, store_words, zeros}
use Rattle.words.specs.declared.Form.TheVariants.{Source, Kernel}
use Rattle.language_programs.specs.Program.{resolved_rows, run_program}
use Rattle.text_rules.specs.Rules.{budget, Rule, accepted, refused, rule_of}
use Rattle.text_report.specs.Lines.{refused_line, source_line, kernel_line}
use Rattle.write_sets_programs.specs.ProgramWrites.{written}
use Rattle.translation_fate.specs.KernelForms.{kernel_header_of, kernel_rows_of}
use Rattle.translation_fate.specs.Views.{dispatcher_view}

-- "Output: form, ending .., source count on the first line only, S words", and last the number of variables and declared words that the program can write.
unfoldable pub source_output : List ℤ → List ℤ → List ℕ
source_output header rows =
    let finished = run_program Source header rows budget (zeros (store_words Source header rows)) in
    source_line finished.ending finished.count (take (store_size (layout_of Source header)) finished.store) (written (store_size (layout_of Source header)) (resolved_rows Source header rows))

-- The kernel's store has S+D+T words; its line is what a dispatcher is shown.
unfoldable pub kernel_output : ℕ → List ℤ → List ℤ → List ℕ
kernel_output words header rows =
    let view = dispatcher_view words (run_program Kernel header rows budget (zeros (store_words Kernel header rows))) in
    kernel_line view.ending view.words

-- "runs both forms"
unfoldable pub runs_output : List ℤ → List ℤ → List ℕ
runs_output header rows =
    source_output header rows ++ kernel_output (store_size (layout_of Source header)) (kernel_header_of header rows) (kernel_rows_of header rows)

-- "A refusal prints one line"; a rule that is accepted is run in both forms.
unfoldable pub rule_output : Rule → List ℕ
rule_output (refused number place) = refused_line number place
rule_output (accepted program) = runs_output program.header program.rows

unfoldable pub trial_output : List ℕ → List ℕ
trial_output text = rule_output (rule_of text)
