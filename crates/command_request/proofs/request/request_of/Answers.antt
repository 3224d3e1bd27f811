-- `request_of`: the verb first.
use Rattle.command_request.specs.Requests.{request_of}
use Rattle.command_request.proofs.request.request_of.Goals as goal

pub returns : goal.returns
unfolding request_of
returns c = rw (← c.verb_named.ensures) c.request_by.ensures
