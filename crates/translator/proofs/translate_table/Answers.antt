-- `translate_table` measures the resolved table and writes both tables: it is what the measures ask for.
use mathlib.Core.Path.{sym, subst}
use mathlib.Core.List.{List}
use native.Mathlib.Omega.{arith}
use lib.IntN.{ℤ}
use borrow.Author.Rules.{rules}
use Rattle.language_shapes.specs.Source.{NamesFrom, Source}
use Rattle.translator.specs.AcceptedLaws.{accepted-header, accepted-source, names-from}
use Rattle.translator.proofs.translate_table.Goals as goal

pub store_size-store-requires : goal.store_size-store-requires
store_size-store-requires c = accepted-header c.args.header.now c.args.rows.now c.requires.0

pub measure-requires : goal.measure-requires
measure-requires c =
    let start = c.before.before in
    let header = start.args.header.now in
    let rows = start.args.rows.now in
    let same = sym start.requires.1 in
    let source = subst (λ (l : List ℤ). Source l) same (accepted-source header rows start.requires.0) in
    let names = subst (λ (l : List ℤ). NamesFrom c.store_size-store.result l) same (names-from header rows start.requires.0 c.store_size-store.ensures) in
    (source, names, omega (arith, source.few_rows))
