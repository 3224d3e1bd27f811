-- `narrow_row`: the i-th from the innermost.
use mathlib.Core.Path.{sym}
use Rattle.page_scan.specs.StackLaws.{inside, outside}
use borrow.Author.Rules.{rules}
use Rattle.page_reader.proofs.waiting.narrow_row.Goals as goal

pub returns-then-i-depth : goal.returns-then-i-depth
returns-then-i-depth c = sym (inside c.args.i c.args.depth c.args.waiting.now c.if-i-depth.true)

pub returns : goal.returns
returns c = sym (outside c.args.i c.args.depth c.args.waiting.now c.if-i-depth.false)
