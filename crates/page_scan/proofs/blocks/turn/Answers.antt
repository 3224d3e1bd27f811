-- `turn`: the innermost block, where it must turn.
use native.Mathlib.Omega.{arith}
use lib.ListN.{length-set}
use Rattle.page_scan.specs.StackLaws.{turn-none, turn-wrong, turn-right}
use borrow.Author.Rules.{rules}
use Rattle.page_scan.proofs.blocks.turn.Goals as goal

pub returns-then-depth-eq0 : goal.returns-then-depth-eq0
returns-then-depth-eq0 c = record { around_after = turn-none c.args.depth c.args.around.now c.if-depth-eq0.true; result_bound = (omega arith, c.requires.1) }

pub returns-then-around-last-ne1 : goal.returns-then-around-last-ne1
returns-then-around-last-ne1 c = record { around_after = turn-wrong c.args.depth c.args.around.now c.if-depth-eq0.false c.if-around-last-ne1.true; result_bound = (omega arith, c.requires.1) }

pub returns : goal.returns
returns c = record { around_after = turn-right c.args.depth c.args.around.now c.if-depth-eq0.false (omega (arith, c.requires.0, c.requires.1)) c.if-around-last-ne1.false; result_bound = (omega arith, simp length-set c.requires.1) }
