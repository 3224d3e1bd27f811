-- `body`: the statement, and how far in it stands.
use mathlib.Core.Path.{ap₂, ◌∙◌}
use Rattle.page_frame.specs.Frames.{levelled, body_read}
use borrow.Author.Rules.{rules}
use Rattle.page_frame.proofs.body.Goals as goal

pub returns : goal.returns
unfolding body_read
returns c =
    c.at_level.ensures ∙ ap₂ (levelled c.args.depth) c.leading_blanks.ensures c.statement.ensures
