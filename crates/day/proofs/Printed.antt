-- What is printed: the rule's refusal, the refusal of what stands behind it, or the lines of its values.
use mathlib.Core.Path.{◌≡◌, refl, sym, ap, ◌∙◌}
use mathlib.Core.List.{List}
use Prim.Native.Nat.{ℕ, ◌-◌, ◌≤◌}
use native.Mathlib.Omega.{arith}
use lib.IntN.{ℤ}
use lib.ListN.{length, take, drop}
use Rattle.words.specs.Over.{over}
use Rattle.words.specs.Layout.{layout_of, store_words}
use Rattle.words.specs.OverLaws.{first_of, rest_of}
use Rattle.words.specs.declared.Form.TheVariants.{Source}
use Rattle.language_programs.specs.Program.{resolved_rows}
use Rattle.language_programs.specs.ResolvedRows.{resolved-store}
use Rattle.accepted_rows.specs.ResolvedPrograms.{lent-table}
use Rattle.program_runs.proofs.AcceptedLaws.{table-runnable}
use Rattle.text_lines.specs.Line.{lines_of}
use Rattle.text_report.specs.Lines.{refused_line}
use Rattle.text_rules.specs.Rules.{refused, rule_of, IsAccepted, Holds}
use Rattle.text_rules.specs.RuleLaws.{rule-store}
use Rattle.day_form.specs.Input.{rule_size, rule_text}
use Rattle.day_form.specs.Lines.{most_days}
use Rattle.day_form.specs.Plans.{plan_of, IsPlanned}
use Rattle.day_form.specs.Plans as plans
use Rattle.day_form.specs.declared.setting.Setting.{Setting}
use Rattle.day_run.specs.Days.{pairs_of}
use Rattle.day_values.specs.Values.{setting_output}
use Rattle.day_values.specs.Conditions.{Fits}
use Rattle.day.specs.Output.{plan_output, rule_output, day_output}

-- ---- what stands behind a rule

module _ (header rows : List ℤ) (input : List ℕ) {variables : ℕ} (v : variables ≡ (layout_of Source header).variables) where
  pub plan-refused : (number line : ℕ) → plan_of variables input ≡ plans.refused number line → refused_line number line ≡ plan_output header rows (plan_of (layout_of Source header).variables input)
  unfolding plan_output
  plan-refused number line e = rw (← v, e)

  module _ {setting : Setting} {at : ℕ} (p : IsPlanned (plan_of variables input) setting at input) where
    pub plan-printed : setting_output header (resolved_rows Source header rows) setting (pairs_of (lines_of (take (length input - at) (drop at input)))) ≡ plan_output header rows (plan_of (layout_of Source header).variables input)
    unfolding plan_output
    plan-printed =
        ap (λ (days : List ℕ). setting_output header (resolved_rows Source header rows) setting (pairs_of (lines_of days))) (rest_of input at)
        ∙ sym (ap (λ (n : ℕ). plan_output header rows (plan_of n input)) (sym v) ∙ ap (plan_output header rows) p.is)

    pub plan-days : length (lines_of (take (length input - at) (drop at input))) ≤ most_days
    plan-days = rw (rest_of input at) p.few_days

-- ---- the resolved table of a rule, as it was written at the start of another and is lent

module _ {header rows : List ℤ} (a : IsAccepted header rows) (table left : List ℤ) (written : left ≡ over (resolved_rows Source header rows) table) where
  lent : take (length rows - 0) left ≡ resolved_rows Source header rows
  lent = lent-table header rows table left (length rows) refl written

  pub lent_fits : {text : List ℕ} → length (lines_of text) ≤ most_days → Fits header (take (length rows - 0) left) text
  lent_fits few =
      let words : store_words Source header (take (length rows - 0) left) ≡ store_words Source header rows = ap (store_words Source header) lent ∙ resolved-store header rows in
      record {
        header-fits = a.header-fits;
        few_words = omega (arith, words, rule-store a);
        runnable = λ store all. table-runnable header rows _ lent a.checked store (all ∙ words);
        few_days = few;
      }

  pub lent-output : (setting : Setting) (lines : List (List ℤ)) → setting_output header (take (length rows - 0) left) setting lines ≡ setting_output header (resolved_rows Source header rows) setting lines
  lent-output setting lines = ap (λ (rows : List ℤ). setting_output header rows setting lines) lent

-- ---- the rule

module _ (input : List ℕ) {size : ℕ} (s : size ≡ rule_size input) where
  rule-is : rule_of (take (size - 0) input) ≡ rule_of (rule_text input)
  unfolding rule_text
  rule-is = ap rule_of (first_of input size ∙ ap (λ (n : ℕ). take n input) s)

  pub rule-refused : (number place : ℕ) → rule_of (take (size - 0) input) ≡ refused number place → refused_line number place ≡ day_output input
  unfolding day_output rule_output
  rule-refused number place e = rw (← rule-is, e)

  module _ {headerWords row_words : ℕ} {header rows : List ℤ} (h : Holds (rule_of (take (size - 0) input)) headerWords row_words header rows) where
    pub rule-printed : plan_output (take (headerWords - 0) header) (take (row_words - 0) rows) (plan_of (layout_of Source (take (headerWords - 0) header)).variables input) ≡ day_output input
    unfolding day_output rule_output
    rule-printed = rw (← rule-is, h.is, h.header_read, h.rows_read)

    pub rule-accepted : IsAccepted (take (headerWords - 0) header) (take (row_words - 0) rows)
    rule-accepted = rw (h.header_read, h.rows_read) h.allowed
