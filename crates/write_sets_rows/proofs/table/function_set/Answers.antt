-- The set of a function, where it is known.
use Prim.Native.Nat.{◌<◌}
use native.Mathlib.Omega.{arith}
use lib.ListN.{length}
use Rattle.std.proofs.lemmas.List.{get_or_default}
use Rattle.write_sets_rows.proofs.WriteLaws.{function-known, function-unknown}
use Rattle.write_sets_rows.proofs.table.function_set.Goals as goal

pub returns-then-function-known : goal.returns-then-function-known
returns-then-function-known c =
    let there : c.args.function < length c.args.sets.now = omega (arith, c.requires) in
    function-known c.args.sets.now c.args.known c.args.function c.if-function-known.true (get_or_default _ _ _ _ there)

pub returns : goal.returns
returns c = function-unknown c.args.sets.now c.args.known c.args.function (omega (arith, c.if-function-known.false)) c.nothing.ensures
