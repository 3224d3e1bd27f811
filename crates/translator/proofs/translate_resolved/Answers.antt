-- `translate_resolved` lends the first words of a table into which the resolved one was written.
use mathlib.Core.Path.{refl}
use native.Mathlib.Omega.{arith}
use lib.ListN.{length}
use borrow.Author.Rules.{rules}
use Rattle.accepted_rows.specs.ResolvedPrograms.{accepted-words, lent-table}
use Rattle.translator.proofs.translate_resolved.Goals as goal

pub resolve_accepted-requires : goal.resolve_accepted-requires
resolve_accepted-requires c =
    (c.requires, accepted-words c.args.header.now c.args.rows.now c.requires)

pub slice_bounds-translate_table-end : goal.slice_bounds-translate_table-end
slice_bounds-translate_table-end c =
    omega (arith, c.resolve_accepted.auto.out, accepted-words c.args.header.now c.args.rows.now c.requires)

pub translate_table-requires : goal.translate_table-requires
translate_table-requires c =
    let rows = c.args.rows.now in
    (c.requires, lent-table c.args.header.now rows _ _ (length rows) refl c.resolve_accepted.ensures)
