-- `run_resolved` lends the machine the first words of a table into which the resolved one was written.
use mathlib.Core.Path.{refl, ◌∙◌}
use native.Mathlib.Omega.{arith}
use borrow.Author.Rules.{rules}
use lib.ListN.{length}
use Rattle.accepted_rows.specs.ResolvedPrograms.{accepted-words, lent-table}
use Rattle.program_runs.proofs.AcceptedLaws.{table-runnable, table-rows, table-run}
use Rattle.program_runs.proofs.run_resolved.Goals as goal

pub resolve_accepted-requires : goal.resolve_accepted-requires
resolve_accepted-requires c =
    let s = c in
    (s.requires.rows_value, accepted-words s.args.header.now s.args.rows.now s.requires.rows_value)

pub slice_bounds-run_source_table-end : goal.slice_bounds-run_source_table-end
slice_bounds-run_source_table-end c =
    let s = c in
    omega (arith, c.resolve_accepted.auto.out, accepted-words s.args.header.now s.args.rows.now s.requires.rows_value)

pub run_source_table-requires : goal.run_source_table-requires
run_source_table-requires c =
    let s = c in
    let header = s.args.header.now in
    let rows = s.args.rows.now in
    let lent = lent-table header rows _ _ (length rows) refl c.resolve_accepted.ensures in
    record { runs = table-runnable header rows _ lent s.requires.rows_value s.args.store.now s.requires.store_len; few = table-rows header rows _ lent s.requires.rows_value }

pub returns : goal.returns
returns c =
    let s = c in
    let header = s.args.header.now in
    let rows = s.args.rows.now in
    c.run_source_table.ensures
    ∙ table-run header rows _ (lent-table header rows _ _ (length rows) refl c.resolve_accepted.ensures) s.args.budget s.args.store.now
