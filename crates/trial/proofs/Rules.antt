-- A rule that was read and checked: its program is within the limits, and what is printed for it.
use Rattle.std.specs.Prelude.{Ok}
use mathlib.Core.Path.{◌≡◌}
use mathlib.Core.List.{List}
use Prim.Native.Nat.{ℕ, ◌-◌, ◌≤◌}
use lib.IntN.{ℤ}
use lib.ListN.{take}
use Rattle.words.specs.declared.Form.TheVariants.{Source}
use Rattle.text_report.specs.Lines.{refused_line}
use Rattle.program_runs.specs.Runs.{refusal_of}
use Rattle.text_rules.specs.Rules.{refused, rule_of, Holds}
use Rattle.trial.specs.Output.{runs_output, rule_output, trial_output}
use Rattle.trial.specs.Conditions.{trial_room, Fits}

pub refused-output : (text : List ℕ) (number place : ℕ) → rule_of text ≡ refused number place → refused_line number place ≡ trial_output text
unfolding trial_output rule_output
refused-output text number place e = rw e

module _ (text : List ℕ) {headerWords row_words : ℕ} {header rows : List ℤ} (h : Holds (rule_of text) headerWords row_words header rows) where
  pub rule-output : runs_output (take (headerWords - 0) header) (take (row_words - 0) rows) ≡ trial_output text
  unfolding trial_output rule_output
  rule-output = rw (h.is, h.header_read, h.rows_read)

  pub rule-accepted : refusal_of Source (take (headerWords - 0) header) (take (row_words - 0) rows) ≡ (Ok tt)
  rule-accepted = rw (h.header_read, h.rows_read) h.allowed.checked

  pub rule_fits : (room : ℕ) → trial_room ≤ room → Fits (take (headerWords - 0) header) (take (row_words - 0) rows) room
  rule_fits room r =
      rw (h.header_read, h.rows_read) (record { header-fits = h.allowed.header-fits; few_words = h.allowed.few_words; few_rows = h.allowed.few_rows; both_lines = r })
