-- The arguments so far; the invariant is `Gathered`.
use native.Mathlib.Omega.{arith}
use Rattle.write_sets_rows.proofs.WriteLaws.{sets-less}
use Rattle.write_sets_rows.proofs.ArgumentLaws.{left_less, gathered_none, gathered_next, gathered-all}
use Rattle.write_sets_rows.proofs.arguments.arguments_writes.Goals as goal

pub loop-argument-init : goal.loop-argument-init
loop-argument-init c = gathered_none c.requires.1 c.nothing-any.ensures

pub argument_writes-requires : goal.argument_writes-requires
argument_writes-requires c = let here = c.loop-argument.invariant.onward c.loop-argument-test.true in (sets-less _ c.requires.0 (omega (arith, here.later)), here.inside)

pub next_argument-argument-requires : goal.next_argument-argument-requires
next_argument-argument-requires c = (c.requires.0.source, (c.loop-argument.invariant.onward c.loop-argument-test.true).inside)

pub loop-argument-smaller : goal.loop-argument-smaller
loop-argument-smaller c = left_less _ _ (c.loop-argument.invariant.onward c.loop-argument-test.true).inside c.next_argument-argument.ensures.onward c.loop-argument-test.true

pub loop-argument-preserved : goal.loop-argument-preserved
loop-argument-preserved c = gathered_next c.loop-argument.invariant c.loop-argument-test.true c.argument_writes.ensures c.join-any.ensures c.next_argument-argument.ensures

pub returns : goal.returns
returns c = gathered-all c.loop-argument.invariant (omega (arith, c.loop-argument-test.false))
