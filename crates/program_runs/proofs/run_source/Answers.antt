-- `run_source` runs the rows as they stand where the store says that there are no declarations.
use mathlib.Core.Path.{◌≡◌, ◌∙◌}
use native.Mathlib.Omega.{arith}
use lib.ListN.{length}
use borrow.Author.Rules.{rules}
use Rattle.words.specs.declared.Form.TheVariants.{Source}
use Rattle.language_programs.specs.Program.{resolved_rows}
use Rattle.program_runs.proofs.AcceptedLaws.{accepted-header, table-runnable, table-rows, table-run, undeclared-store}
use Rattle.program_runs.proofs.run_source.Goals as goal
use Rattle.program_runs.proofs.run_source.Goals.{Then-store-store_size}

pub store_size-requires : goal.store_size-requires
store_size-requires c = accepted-header Source c.args.header.now c.args.rows.now c.requires.rows_value

-- the store says that there are none
undeclared : (c : Then-store-store_size) → c.args.rows.now ≡ resolved_rows Source c.args.header.now c.args.rows.now
undeclared c =
    let s = c in
    undeclared-store s.args.header.now s.args.rows.now s.requires.rows_value (length s.args.store.now) s.requires.store_len (omega (arith, c.if-store-store_size.true, c.store_size.ensures))

pub run_source_table-requires : goal.run_source_table-requires
run_source_table-requires c =
    let s = c in
    let rows = s.args.rows.now in
    let same = undeclared (goal.at.run_source_table-requires c).Then-store-store_size in
    record { runs = table-runnable s.args.header.now rows rows same s.requires.rows_value s.args.store.now s.requires.store_len; few = table-rows s.args.header.now rows rows same s.requires.rows_value }

pub returns-then-store-store_size : goal.returns-then-store-store_size
returns-then-store-store_size c =
    let s = c in
    let rows = s.args.rows.now in
    c.run_source_table.ensures ∙ table-run s.args.header.now rows rows (undeclared (goal.at.returns-then-store-store_size c).Then-store-store_size) s.args.budget s.args.store.now
