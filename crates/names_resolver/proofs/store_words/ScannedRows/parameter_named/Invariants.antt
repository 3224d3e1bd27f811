-- `parameter_named` goes along the parameters. The invariant: what is named is what is named from the parameter reached.
use Rattle.std.proofs.Common.{◌≡◌, ◌-◌, ◌<◌}
use Rattle.words.specs.Table.{row_count}
use Rattle.names.specs.Names.{parameter_from, parameter_at}
use Rattle.names_resolver.proofs.store_words.ScannedRows.parameter_named.Given as goal

abbrev pub invariant-loop-passed : goal.invariant-loop-passed
invariant-loop-passed l =
    let rows = l.self.rows.now in
    (l.parameter < row_count rows) × (parameter_at rows l.definition l.number ≡ parameter_from (64 - l._passed) rows l.parameter l.number)
