-- Output: the bytes that the day program prints for an input. Document 02, Change 12.
use Rattle.std.specs.Prelude.{List, ℕ, ℤ}
use Rattle.words.specs.Layout.{layout_of}
use Rattle.words.specs.declared.Form.TheVariants.{Source}
use Rattle.language_programs.specs.Program.{resolved_rows}
use Rattle.text_report.specs.Lines.{refused_line}
use Rattle.text_rules.specs.Rules.{Rule, accepted, refused, rule_of}
use Rattle.day_form.specs.Input.{rule_text}
use Rattle.day_form.specs.Plans.{Plan, planned, plan_of}
use Rattle.day_form.specs.Plans as plans
use Rattle.day_run.specs.Days.{pairs_of}
use Rattle.day_values.specs.Values.{setting_output}

-- "Refusals print as the trial's do", and nothing else is printed then; else a line "for each value, lowest first". The runs are those of the
-- table in which every name of the rule stands for its store word.
unfoldable pub plan_output : List ℤ → List ℤ → Plan → List ℕ
plan_output header rows (plans.refused number line) = refused_line number line
plan_output header rows (planned setting days) = setting_output header (resolved_rows Source header rows) setting (pairs_of days)

-- "After the rule's own causes and before the first run: 21 .., then 22".
unfoldable pub rule_output : Rule → List ℕ → List ℕ
rule_output (refused number place) input = refused_line number place
rule_output (accepted program) input = plan_output program.header program.rows (plan_of (layout_of Source program.header).variables input)

unfoldable pub day_output : List ℕ → List ℕ
day_output input = rule_output (rule_of (rule_text input)) input
