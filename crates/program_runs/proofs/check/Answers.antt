-- `check` hands on what the check of source programs answers; that it accepts the legal programs and no others is a theorem about the
-- definitions.
use borrow.Author.Rules.{rules}
use Rattle.words.specs.declared.Form.TheVariants.{Source}
use Rattle.program_runs.proofs.AcceptanceLaws.{check-accepts-legal, check-no-cause-if-legal}
use Rattle.program_runs.proofs.check.Goals as goal

pub returns : goal.returns
returns c =
    let start = c in
    let told = c.check.ensures in
    let header = start.args.header.now in
    let rows = start.args.rows.now in
    record { value = told; accepts_legal = check-accepts-legal Source header rows _ told; no_cause_if_legal = rw told (check-no-cause-if-legal Source header rows) }
