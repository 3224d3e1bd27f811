-- `start_arguments`: two arguments or three, of which the second is the budget and the third names a store file.
use borrow.Author.Tests.{le-leb, lt-leb}
use Rattle.command_request.specs.Requests.{budget_of, request_by}
use Rattle.command_request.proofs.request.start_arguments.Goals as goal
use Rattle.command_request.proofs.request.start_arguments.Goals.{then-count-lt2-via-then-count-lt2, then-count-lt2-via-else-count-lt2+then-count-gt3}

pub returns-then-count-lt2 : goal.returns-then-count-lt2
unfolding request_by
returns-then-count-lt2 c =
    elim c.then-count-lt2.branch [
      | then-count-lt2-via-then-count-lt2 w ↦ rw (lt-leb _ _ w.if-count-lt2.true)
      | then-count-lt2-via-else-count-lt2+then-count-gt3 w ↦ rw (le-leb _ _ w.if-count-lt2.false, lt-leb _ _ w.if-count-gt3.true)
    ]

pub returns : goal.returns
unfolding request_by budget_of
returns c = rw (le-leb _ _ c.if-count-lt2.false, le-leb _ _ c.if-count-gt3.false, ← c.natural_of.ensures) c.start_request.ensures
