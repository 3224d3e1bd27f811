-- `number_or_zero` reads within the table. Beyond it every word is 0.
use borrow.Author.Rules.{rules}
use Rattle.check_kernel_statements.specs.Laws.{number-beyond}
use Rattle.check_kernel_statements.proofs.number_or_zero.Goals as goal

pub returns : goal.returns
returns c = number-beyond _ _ _ c.requires.0 c.if-row-rows.false
