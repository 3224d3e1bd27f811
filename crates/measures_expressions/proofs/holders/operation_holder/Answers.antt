-- What holds an operation's value, kind by kind.
use mathlib.Core.Path.{refl, ap}
use Rattle.language_shapes.specs.ShapeLaws.{expressed}
use Rattle.language_shapes.specs.declared.ExpressionShape.TheVariants.{Operation}
use Rattle.measures_expressions.proofs.HolderLaws.{plain-holds, top-holds}
use Rattle.measures_expressions.proofs.holders.operation_holder.Goals as goal

pub updated_holder-requires : goal.updated_holder-requires
updated_holder-requires c =
    (c.requires.0, (expressed c.requires.1 (ap Operation c.in-Assign.is)).onward.0.inside)

pub updated_holder-requires-in-Compound : goal.updated_holder-requires-in-Compound
updated_holder-requires-in-Compound c =
    (c.requires.0, (expressed c.requires.1 (ap Operation c.in-Compound.is)).onward.0.inside)

pub updated_holder-requires-in-Prefix : goal.updated_holder-requires-in-Prefix
updated_holder-requires-in-Prefix c =
    (c.requires.0, (expressed c.requires.1 (ap Operation c.in-Prefix.is)).onward.inside)

pub returns-in-Minus : goal.returns-in-Minus
returns-in-Minus c =
    plain-holds (expressed c.requires.1 (ap Operation c.in-Minus.is)) (top-holds refl)

pub returns-in-Not : goal.returns-in-Not
returns-in-Not c =
    plain-holds (expressed c.requires.1 (ap Operation c.in-Not.is)) (top-holds refl)

pub returns-in-Binary : goal.returns-in-Binary
returns-in-Binary c =
    plain-holds (expressed c.requires.1 (ap Operation c.in-Binary.is)) (top-holds refl)

pub returns-in-Comma : goal.returns-in-Comma
returns-in-Comma c =
    plain-holds (expressed c.requires.1 (ap Operation c.in-Comma.is)) (top-holds refl)

pub returns-in-Assign : goal.returns-in-Assign
returns-in-Assign c =
    plain-holds (expressed c.requires.1 (ap Operation c.in-Assign.is)) c.updated_holder.ensures

pub returns-in-Compound : goal.returns-in-Compound
returns-in-Compound c =
    plain-holds (expressed c.requires.1 (ap Operation c.in-Compound.is)) c.updated_holder-in-Compound.ensures

pub returns-in-Prefix : goal.returns-in-Prefix
returns-in-Prefix c =
    plain-holds (expressed c.requires.1 (ap Operation c.in-Prefix.is)) c.updated_holder-in-Prefix.ensures

pub returns-in-Postfix : goal.returns-in-Postfix
returns-in-Postfix c =
    plain-holds (expressed c.requires.1 (ap Operation c.in-Postfix.is)) (top-holds refl)
