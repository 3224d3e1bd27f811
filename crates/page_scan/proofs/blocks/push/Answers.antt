-- `push`: a byte more is a block more.
use Rattle.std.specs.Prelude.{Some}
use mathlib.Core.Path.{ap}
use mathlib.Core.Bool.{Bool}
use mathlib.Core.List.{List}
use native.Mathlib.Omega.{arith}
use lib.ListN.{length-set}
use Rattle.page_blocks.specs.Blocks.{outside}
use Rattle.page_scan.specs.StackLaws.{block-pushed}
use borrow.Author.Rules.{rules}
use Rattle.page_scan.proofs.blocks.push.Goals as goal

pub returns : goal.returns
returns c = record { around_after = ap (λ (blocks : List Bool). Some (outside blocks)) (block-pushed c.args.depth c.args.flag c.args.around.now (omega (arith, c.requires.0, c.requires.1))); result_bound = (omega arith, simp length-set c.requires.1) }
