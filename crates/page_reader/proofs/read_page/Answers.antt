-- `read_page`: cause 1, then 14; then a page without a wrong line.
use mathlib.Core.Path.{sym, ◌∙◌}
use borrow.Author.Tests.{not-true, not-false}
use Rattle.page_reader.proofs.Results.{header_refused, by-scan, line_refused}
use borrow.Author.Rules.{rules}
use Rattle.page_reader.proofs.read_page.Goals as goal

pub returns-then-not-header_fits : goal.returns-then-not-header_fits
returns-then-not-header_fits c =
    let both = header_refused c.args.header.now c.args.page.now c.args.rows.now _ c.refused.ensures (sym c.header_fits.ensures ∙ c.if-not-header_fits.true) in
    record { rows_after = both.0; gives_rows = both.1 }

pub names_of-names-requires : goal.names_of-names-requires
names_of-names-requires c =
    sym c.header_fits.ensures ∙ c.if-not-header_fits.false

pub read_whole-requires : goal.read_whole-requires
read_whole-requires c =
    (sym c.header_fits.ensures ∙ c.if-not-header_fits.false, c.names_of-names.ensures, sym c.scan-scanned.ensures ∙ c.in-Ok.is)

pub returns-in-Ok : goal.returns-in-Ok
returns-in-Ok c =
    record { rows_after = by-scan c.args.header.now c.args.page.now c.args.rows.now (sym c.header_fits.ensures ∙ c.if-not-header_fits.false) _ c.names_of-names.ensures _ (sym c.in-Ok.is ∙ c.scan-scanned.ensures) _ c.read_whole.ensures.rows_after; gives_rows = c.read_whole.ensures.gives_rows }

pub returns-in-Err : goal.returns-in-Err
returns-in-Err c =
    let both = line_refused c.args.header.now c.args.page.now c.args.rows.now (sym c.header_fits.ensures ∙ c.if-not-header_fits.false) _ c.names_of-names.ensures _ c.scan-scanned.ensures _ _ c.refused-in-Err.ensures c.in-Err.is in
    record { rows_after = both.0; gives_rows = both.1 }
