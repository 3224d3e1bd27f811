-- `clight_check` hands on the entry's verdict, as numbers.
use mathlib.Core.Path.{ap, ◌∙◌}
use Rattle.words.specs.declared.Form.TheVariants.{Source}
use Rattle.program_runs.proofs.AcceptanceLaws.{check-no-cause-if-legal}
use Rattle.exports.specs.Numbers.{verdict_answer}
use borrow.Author.Rules.{rules}
use Rattle.exports.proofs.programs.clight_check.Goals as goal

pub returns : goal.returns
returns c =
    let told = c.into.ensures ∙ ap verdict_answer c.check.ensures.value in
    record { value = told; no_cause_if_legal = rw told (check-no-cause-if-legal Source c.args.header.now c.args.rows.now) }
