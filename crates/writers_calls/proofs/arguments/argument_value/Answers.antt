-- The expression of an argument: where arguments are counted, the row is one.
use mathlib.Core.Path.{ap}
use native.Mathlib.Omega.{arith}
use Rattle.language.specs.Calls.{argument_count}
use Rattle.language_shapes.specs.ShapeLaws.{argued}
use Rattle.writers_calls.specs.ArgumentLaws.{passing, passes_none, argument-some}
use Rattle.writers_calls.proofs.arguments.argument_value.Goals as goal

pub returns-in-Some : goal.returns-in-Some
returns-in-Some c =
    let argument = c.args.argument in
    passing argument (argument-some c.args.rows.now argument c.requires.2) (argued c.argument_at-shape.ensures c.in-Some.is)

pub returns-in-None : goal.returns-in-None
unfolding argument_count
returns-in-None c =
    absurd (omega (arith, c.requires.2, ap argument_count (passes_none c.args.argument (argued c.argument_at-shape.ensures c.in-None.is))))
