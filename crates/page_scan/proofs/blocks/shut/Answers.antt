-- `shut`: the innermost block, where it need not turn.
use native.Mathlib.Omega.{arith}
use Rattle.page_scan.specs.StackLaws.{shut_none, shut-wrong, shut-right}
use borrow.Author.Rules.{rules}
use Rattle.page_scan.proofs.blocks.shut.Goals as goal

pub returns-then-depth-eq0 : goal.returns-then-depth-eq0
returns-then-depth-eq0 c = record { around_after = shut_none c.args.depth c.args.around.now c.if-depth-eq0.true; result_bound = (omega arith, c.requires.1) }

pub returns-then-around-last-eq1 : goal.returns-then-around-last-eq1
returns-then-around-last-eq1 c = record { around_after = shut-wrong c.args.depth c.args.around.now c.if-depth-eq0.false c.if-around-last-eq1.true; result_bound = (omega arith, c.requires.1) }

pub returns : goal.returns
returns c = record { around_after = shut-right c.args.depth c.args.around.now c.if-depth-eq0.false c.if-around-last-eq1.false; result_bound = (omega arith, c.requires.1) }
