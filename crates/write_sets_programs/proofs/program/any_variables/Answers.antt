-- The variables and declared words of the rows so far; the invariant is `Variables`.
use Prim.Native.Nat.{◌<◌}
use native.Mathlib.Omega.{arith}
use lib.ListN.{length}
use Rattle.std.proofs.lemmas.List.{get_or_default}
use Rattle.words.specs.Table.{row_count}
use Rattle.write_sets_programs.proofs.UnionLaws.{variables-start, variables-next, variables-end}
use Rattle.write_sets_programs.proofs.program.any_variables.Goals as goal

pub loop-row-init : goal.loop-row-init
loop-row-init c = variables-start c.nothing-any.ensures

pub declared_set-requires : goal.declared_set-requires
declared_set-requires c = let asked = c.requires in (asked.source, asked.names, c.loop-row-test.true)

pub loop-row-preserved : goal.loop-row-preserved
loop-row-preserved c =
    let there : c.loop-row.row < length c.args.sets.now = omega (arith, c.loop-row-test.true, c.requires.room) in
    variables-next c.requires c.loop-row.invariant c.loop-row-test.true (get_or_default _ _ _ _ there)
    c.declared_set.ensures c.join.ensures c.join-any.ensures

pub returns : goal.returns
returns c = variables-end c.loop-row.invariant (omega (arith, c.loop-row-test.false))
