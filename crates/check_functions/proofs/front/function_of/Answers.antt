-- `function_of` reads the definition of a number below the number of rows; others have none.
use mathlib.Core.Path.{sym, ◌∙◌}
use Rattle.check_function_causes.proofs.FrontLaws.{function-none}
use borrow.Author.Rules.{rules}
use Rattle.check_functions.proofs.front.function_of.Goals as goal

pub returns-then-number-rows : goal.returns-then-number-rows
returns-then-number-rows c =
    c.wide.ensures ∙ c.requires.2.is _ c.if-number-rows.true

pub returns : goal.returns
returns c =
    sym (function-none _ c.requires.0 c.requires.1 _ c.if-number-rows.false)
