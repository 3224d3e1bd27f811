-- `accepted_writes` lends the first words of a table into which the resolved one was written.
use native.Mathlib.Omega.{arith}
use borrow.Author.Rules.{rules}
use Rattle.accepted_rows.specs.ResolvedPrograms.{accepted-header, accepted-words}
use Rattle.write_sets_entry.proofs.ToldLaws.{lent-source, lent-writes}
use Rattle.write_sets_entry.proofs.accepted_writes.Goals as goal

pub store_size-store-requires : goal.store_size-store-requires
store_size-store-requires c = accepted-header c.args.header.now c.args.rows.now c.requires

pub resolve_accepted-requires : goal.resolve_accepted-requires
resolve_accepted-requires c =
    (c.requires, accepted-words c.args.header.now c.args.rows.now c.requires)

pub slice_bounds-program_writes-end : goal.slice_bounds-program_writes-end
slice_bounds-program_writes-end c =
    omega (arith, c.resolve_accepted.auto.out, accepted-words c.args.header.now c.args.rows.now c.requires)

pub program_writes-requires : goal.program_writes-requires
program_writes-requires c =
    lent-source c.args.header.now c.args.rows.now _ _ c.requires c.store_size-store.ensures c.resolve_accepted.ensures

pub returns : goal.returns
returns c =
    lent-writes c.args.header.now c.args.rows.now _ _ c.requires c.store_size-store.ensures c.resolve_accepted.ensures c.program_writes.ensures
