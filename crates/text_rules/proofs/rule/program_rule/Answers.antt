-- `program_rule`: what is read stands at the start of both tables, and the check is of it.
use Rattle.std.proofs.Common.{arith}
use Rattle.text_form.proofs.ReaderLaws.{err-is}
use Rattle.text_rules.proofs.Within.{within-read, within-accepted, table-refused, table-accepted}
use Rattle.text_rules.proofs.rule.program_rule.Goals as goal

pub slice_bounds-check-end : goal.slice_bounds-check-end
slice_bounds-check-end c =
    let tables = within-read c.requires.within_limits _ _ _ _ c.requires.header_len c.requires.rows_len _ _ c.in_ok-header_words.ensures in
    omega (arith, c.read.auto.header, c.requires.header_len, tables.header_inside)

pub slice_bounds-check-end-2 : goal.slice_bounds-check-end-2
slice_bounds-check-end-2 c =
    let tables = within-read c.requires.within_limits _ _ _ _ c.requires.header_len c.requires.rows_len _ _ c.in_ok-header_words.ensures in
    omega (arith, c.read.auto.rows, c.requires.rows_len, tables.rows_inside)

pub returns-in_err-header_words : goal.returns-in_err-header_words
returns-in_err-header_words c =
    within-accepted c.requires.within_limits _ _ _ _ c.requires.header_len c.requires.rows_len _ c.in_err-header_words.ensures

pub returns-in_err-check : goal.returns-in_err-check
returns-in_err-check c =
    let tables = within-read c.requires.within_limits _ _ _ _ c.requires.header_len c.requires.rows_len _ _ c.in_ok-header_words.ensures in
    rw (err-is _ _ c.from_residual-in_err-check.ensures.1) (table-refused c.requires.within_limits tables _ c.in_err-check.ensures)

pub returns : goal.returns
returns c =
    let tables = within-read c.requires.within_limits _ _ _ _ c.requires.header_len c.requires.rows_len _ _ c.in_ok-header_words.ensures in
    table-accepted c.requires.within_limits tables c.in_ok-check.ensures
