-- `lines_rule`: causes 1 and 2 by the first line in a scratch array, the rest by `program_rule`.
use mathlib.Core.Path.{refl, ap, ◌∙◌}
use Rattle.text_form.specs.Reader.{cause_says}
use Rattle.text_form.proofs.ReaderLaws.{line-exactly, scratch-holds}
use Rattle.text_rules.proofs.Within.{lines-cause, lines-refused, lines-within}
use Rattle.text_rules.proofs.rule.lines_rule.Goals as goal

pub store_numbers-requires : goal.store_numbers-requires
store_numbers-requires c =
    scratch-holds (line-exactly c.requires.has_lines) _ refl

pub returns-in-Some : goal.returns-in-Some
returns-in-Some c =
    let cause = lines-cause c.requires.has_lines _ _ _ c.store_numbers.ensures c.trial_cause.ensures in
    lines-refused c.requires.has_lines _ (cause ∙ ap cause_says c.in-Some.is)

pub program_rule-requires : goal.program_rule-requires
program_rule-requires c =
    let cause = lines-cause c.requires.has_lines _ _ _ c.store_numbers.ensures c.trial_cause.ensures in
    record { within_limits = lines-within c.requires.has_lines (cause ∙ ap cause_says c.in_default.is); header_len = c.requires.header_len; rows_len = c.requires.rows_len }
