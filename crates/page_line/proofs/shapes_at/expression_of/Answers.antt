-- What a shape is as an expression.
use Rattle.page_line.proofs.shapes_at.expression_of.Goals as goal

pub returns-in-OfStatement : goal.returns-in-OfStatement
returns-in-OfStatement c =
    cc

pub returns-in-OfMark : goal.returns-in-OfMark
returns-in-OfMark c =
    cc

pub returns-in-OfArm : goal.returns-in-OfArm
returns-in-OfArm c =
    cc

pub returns-in-OfArgument : goal.returns-in-OfArgument
returns-in-OfArgument c =
    cc

pub returns-in-OfDefinition : goal.returns-in-OfDefinition
returns-in-OfDefinition c =
    cc

pub returns-in-Other : goal.returns-in-Other
returns-in-Other c =
    cc
