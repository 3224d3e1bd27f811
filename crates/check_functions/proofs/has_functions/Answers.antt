-- `has_functions` looks at the rows in order.
use native.Mathlib.Omega.{arith}
use Rattle.words.specs.SearchLaws.{tried-start, tried-on, tried-hit, tried-end}
use Rattle.check_function_causes.specs.Functions.{has_functions}
use Rattle.check_functions.proofs.has_functions.Goals as goal

pub loop-row-init : goal.loop-row-init
loop-row-init c = tried-start _ _

pub returns-then-is_of_functions : goal.returns-then-is_of_functions
unfolding has_functions
returns-then-is_of_functions c =
    tried-hit _ _ _ _ (omega arith) c.loop-row.invariant c.is_of_functions.ensures c.if-is_of_functions.true

pub loop-row-preserved : goal.loop-row-preserved
loop-row-preserved c =
    tried-on _ _ _ _ (omega arith) c.loop-row.invariant c.is_of_functions.ensures c.if-is_of_functions.false

pub returns : goal.returns
unfolding has_functions
returns c = tried-end _ _ _ (omega arith) c.loop-row.invariant
