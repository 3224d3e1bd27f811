-- A declaration writes its word.
use mathlib.Core.Path.{refl}
use Rattle.write_sets_functions.proofs.StepLaws.{declare-step}
use Rattle.write_sets_functions.proofs.steps.declare_step.Goals as goal

pub returns : goal.returns
returns c = λ called. declare-step called c.requires.0 c.requires.1 c.single.ensures refl
