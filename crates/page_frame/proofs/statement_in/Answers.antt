-- `statement_in`: the statement stands between the number and the newline.
use Rattle.page_frame.specs.Frames.{statement_in}
use borrow.Author.Rules.{rules}
use Rattle.page_frame.proofs.statement_in.Goals as goal

pub returns : goal.returns
unfolding statement_in
returns c = c.statement.ensures
