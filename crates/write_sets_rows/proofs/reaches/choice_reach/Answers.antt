-- The reach of a choice, a clause of `writes` each.
use mathlib.Core.Path.{refl, ap}
use Rattle.language_shapes.specs.ShapeLaws.{expressed}
use Rattle.language_shapes.specs.declared.ExpressionShape.TheVariants.{Choice}
use Rattle.write_sets_rows.proofs.ReachLaws.{and-reach, or-reach, conditional-reach}
use Rattle.write_sets_rows.proofs.reaches.choice_reach.Goals as goal

pub returns-in-And : goal.returns-in-And
returns-in-And c = λ called. and-reach called (expressed c.requires (ap Choice c.in-And.is)) refl refl

pub returns-in-Or : goal.returns-in-Or
returns-in-Or c = λ called. or-reach called (expressed c.requires (ap Choice c.in-Or.is)) refl refl

pub returns-in-Conditional : goal.returns-in-Conditional
returns-in-Conditional c = λ called. conditional-reach called (expressed c.requires (ap Choice c.in-Conditional.is)) refl refl
