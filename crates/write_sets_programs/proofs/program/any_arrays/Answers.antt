-- The arrays of the rows so far; the invariant is `Arrays`.
use mathlib.Core.Path.{ap, ◌∙◌}
use Prim.Native.Nat.{ℕ, ◌<◌, ◌≤◌}
use native.Mathlib.Omega.{arith}
use Rattle.std.specs.Int.Bits.{bit_or}
use Rattle.std.proofs.lemmas.List.{get_or-take, length-take}
use Rattle.words.specs.Table.{row_count}
use Rattle.write_sets_programs.proofs.UnionLaws.{arrays-start, arrays-next, arrays-end}
use Rattle.write_sets_programs.proofs.program.any_arrays.Goals as goal

pub loop-word-init : goal.loop-word-init
loop-word-init c = arrays-start

pub loop-word-preserved : goal.loop-word-preserved
loop-word-preserved c =
    let count = row_count c.args.rows.now in
    let inside : c.loop-word.word-index < count = omega (arith, c.loop-word-test.true, length-take count c.args.arrays.now) in
    arrays-next c.requires c.loop-word.invariant inside (c.join_arrays-any.ensures ∙ ap (bit_or c.loop-word.any) (get_or-take count c.args.arrays.now c.loop-word.word-index 0 inside))

pub returns : goal.returns
returns c =
    let count = row_count c.args.rows.now in
    let past : count ≤ c.loop-word.word-index = omega (arith, c.loop-word-test.false, length-take count c.args.arrays.now, c.requires.room) in
    arrays-end c.loop-word.invariant past
