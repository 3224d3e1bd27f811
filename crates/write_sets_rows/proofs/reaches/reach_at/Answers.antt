-- The reach of an expression, by its shape.
use mathlib.Core.Path.{refl}
use Rattle.language_shapes.specs.ShapeLaws.{expressed}
use Rattle.write_sets_rows.proofs.ReachLaws.{number-reach, called-reach}
use Rattle.write_sets_rows.proofs.reaches.reach_at.Goals as goal

pub read_reach-requires : goal.read_reach-requires
read_reach-requires c = expressed c.expression_at-shape.ensures c.in-Read.is

pub operation_reach-requires : goal.operation_reach-requires
operation_reach-requires c = (c.requires.0, c.requires.1, expressed c.expression_at-shape.ensures c.in-Operation.is)

pub choice_reach-requires : goal.choice_reach-requires
choice_reach-requires c = expressed c.expression_at-shape.ensures c.in-Choice.is

pub returns-in-Number : goal.returns-in-Number
returns-in-Number c = λ called held. number-reach called (expressed c.expression_at-shape.ensures c.in-Number.is) refl refl

pub returns-in-Read : goal.returns-in-Read
returns-in-Read c = λ called held. c.read_reach.ensures called

pub returns-in-Operation : goal.returns-in-Operation
returns-in-Operation c = λ called held. c.operation_reach.ensures called

pub returns-in-Choice : goal.returns-in-Choice
returns-in-Choice c = λ called held. c.choice_reach.ensures called

pub returns-in-Call : goal.returns-in-Call
returns-in-Call c = called-reach c.args.sets.now c.args.known (expressed c.expression_at-shape.ensures c.in-Call.is) c.function_set.ensures refl
