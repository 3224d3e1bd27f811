-- The reach of an operation, a clause of `writes` each.
use mathlib.Core.Path.{refl, ap}
use Rattle.language_shapes.specs.ShapeLaws.{expressed}
use Rattle.language_shapes.specs.declared.ExpressionShape.TheVariants.{Operation}
use Rattle.write_sets_rows.proofs.ReachLaws.{minus-reach, not-reach, binary-reach, comma-reach, assign-reach, compound-reach, prefix-reach, postfix-reach}
use Rattle.write_sets_rows.proofs.reaches.operation_reach.Goals as goal

pub update_reach-requires : goal.update_reach-requires
update_reach-requires c = (c.requires.0, c.requires.1, (expressed c.requires.2 (ap Operation c.in-Assign.is)).onward.0.inside)

pub update_reach-requires-in-Compound : goal.update_reach-requires-in-Compound
update_reach-requires-in-Compound c = (c.requires.0, c.requires.1, (expressed c.requires.2 (ap Operation c.in-Compound.is)).onward.0.inside)

pub update_reach-requires-in-Prefix : goal.update_reach-requires-in-Prefix
update_reach-requires-in-Prefix c = (c.requires.0, c.requires.1, (expressed c.requires.2 (ap Operation c.in-Prefix.is)).onward.inside)

pub update_reach-requires-in-Postfix : goal.update_reach-requires-in-Postfix
update_reach-requires-in-Postfix c = (c.requires.0, c.requires.1, (expressed c.requires.2 (ap Operation c.in-Postfix.is)).onward.inside)

pub returns-in-Minus : goal.returns-in-Minus
returns-in-Minus c = λ called. minus-reach called (expressed c.requires.2 (ap Operation c.in-Minus.is)) refl refl

pub returns-in-Not : goal.returns-in-Not
returns-in-Not c = λ called. not-reach called (expressed c.requires.2 (ap Operation c.in-Not.is)) refl refl

pub returns-in-Binary : goal.returns-in-Binary
returns-in-Binary c = λ called. binary-reach called (expressed c.requires.2 (ap Operation c.in-Binary.is)) refl refl

pub returns-in-Comma : goal.returns-in-Comma
returns-in-Comma c = λ called. comma-reach called (expressed c.requires.2 (ap Operation c.in-Comma.is)) refl refl

pub returns-in-Assign : goal.returns-in-Assign
returns-in-Assign c = λ called. assign-reach called (expressed c.requires.2 (ap Operation c.in-Assign.is)) c.update_reach.ensures

pub returns-in-Compound : goal.returns-in-Compound
returns-in-Compound c = λ called. compound-reach called (expressed c.requires.2 (ap Operation c.in-Compound.is)) c.update_reach-in-Compound.ensures

pub returns-in-Prefix : goal.returns-in-Prefix
returns-in-Prefix c = λ called. prefix-reach called (expressed c.requires.2 (ap Operation c.in-Prefix.is)) c.update_reach-in-Prefix.ensures

pub returns-in-Postfix : goal.returns-in-Postfix
returns-in-Postfix c = λ called. postfix-reach called (expressed c.requires.2 (ap Operation c.in-Postfix.is)) c.update_reach-in-Postfix.ensures
