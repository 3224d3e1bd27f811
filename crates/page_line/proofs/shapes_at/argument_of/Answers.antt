-- What a shape is among arguments.
use Rattle.page_line.proofs.shapes_at.argument_of.Goals as goal

pub returns-in-OfArgument : goal.returns-in-OfArgument
returns-in-OfArgument c =
    cc
