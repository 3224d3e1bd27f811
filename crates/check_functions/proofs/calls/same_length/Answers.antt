-- `same_length` goes through both lists. The invariant: what is left of them compares as they do.
use mathlib.Core.Path.{◌≡◌, refl}
use Prim.Native.Nat.{◌<◌}
use native.Mathlib.Omega.{arith}
use lib.Dec.{eqb}
use Rattle.words.specs.Table.{row_count}
use Rattle.check_structure.specs.LinkLaws.{part-inside}
use Rattle.check_function_causes.specs.Functions.{list_length}
use Rattle.check_function_causes.proofs.LengthLaws.{length-step}
use Rattle.check_functions.specs.KnownLaws.{both-ended, one_ended, both-on}
use Rattle.check_functions.proofs.calls.same_length.Goals as goal

pub loop-row-init : goal.loop-row-init
loop-row-init c =
    (c.requires.1, c.requires.2, refl)

pub returns-then-row-eq0 : goal.returns-then-row-eq0
returns-then-row-eq0 c =
    both-ended _ c.requires.0 _ _ _ _ c.loop-row.invariant.1 c.loop-row.invariant.2 c.if-row-eq0.true

pub returns-then-beside-eq0 : goal.returns-then-beside-eq0
returns-then-beside-eq0 c =
    one_ended _ c.requires.0 _ _ _ _ c.loop-row.invariant.0 c.loop-row.invariant.2 c.if-row-eq0.false c.if-beside-eq0.true

pub link-row-requires : goal.link-row-requires
link-row-requires c =
    let n = c.loop-row.invariant.0 in (omega arith, omega arith)

pub link-beside-requires : goal.link-beside-requires
link-beside-requires c =
    let n = c.loop-row.invariant.1 in (omega arith, omega arith)

pub loop-row-smaller : goal.loop-row-smaller
loop-row-smaller c =
    let step = length-step _ c.requires.0 _ c.if-row-eq0.false c.loop-row.invariant.0 in rw (c.link-row.ensures, step) (omega arith)

pub loop-row-preserved : goal.loop-row-preserved
loop-row-preserved c =
    (part-inside _ c.requires.0 _ 5 _ c.loop-row.invariant.0 (omega arith) c.link-row.ensures, part-inside _ c.requires.0 _ 5 _ c.loop-row.invariant.1 (omega arith) c.link-beside.ensures, both-on _ c.requires.0 _ _ _ _ _ _ c.loop-row.invariant.0 c.loop-row.invariant.1 c.loop-row.invariant.2 c.if-row-eq0.false c.if-beside-eq0.false c.link-row.ensures c.link-beside.ensures)
