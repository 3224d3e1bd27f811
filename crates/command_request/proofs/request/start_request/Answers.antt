-- `start_request`: a budget, or none.
use Rattle.command_request.specs.Requests.{start_request}
use Rattle.command_request.proofs.request.start_request.Goals as goal

pub returns-in-Some : goal.returns-in-Some
unfolding start_request
returns-in-Some c = rw c.in-Some.is

pub returns-in-None : goal.returns-in-None
unfolding start_request
returns-in-None c = rw c.in-None.is
