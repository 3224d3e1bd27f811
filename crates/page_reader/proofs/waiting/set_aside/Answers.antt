-- `set_aside`: one number more on the stack.
use native.Mathlib.Omega.{arith}
use lib.ListN.{length-set}
use Rattle.page_reader.proofs.WaitingRows.{set-aside-is}
use borrow.Author.Rules.{rules}
use Rattle.page_reader.proofs.waiting.set_aside.Goals as goal

pub returns : goal.returns
returns c =
    record { waiting_after = set-aside-is c.args.row c.args.depth c.args.waiting.now _ c.narrow.ensures (omega (arith, c.requires.1, c.requires.2)); depth_bound = (omega arith, simp length-set c.requires.2) }
