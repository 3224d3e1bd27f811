-- `declared` goes outward from the row's scope. The invariant: what is meant is what is meant from the declaration reached.
use Rattle.std.proofs.Common.{◌≡◌, ◌-◌, ◌<◌}
use Rattle.words.specs.Table.{row_count}
use Rattle.names.specs.Names.{scope_at, meant_from}
use Rattle.names_resolver.proofs.store_words.ScannedRows.declared.Given as goal

abbrev pub invariant-loop-outward : goal.invariant-loop-outward
invariant-loop-outward l =
    let rows = l.self.rows.now in
    (l.declaration < row_count rows) × (meant_from 64 rows (scope_at rows l.row) l.number ≡ meant_from (64 - l._outward) rows l.declaration l.number)
