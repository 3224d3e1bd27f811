-- `request_by`: an arm for each verb.
use Rattle.command_request.specs.Requests.{request_by}
use Rattle.command_request.proofs.request.request_by.Goals as goal

pub returns-in-Ask : goal.returns-in-Ask
unfolding request_by
returns-in-Ask c = rw c.in-Ask.is c.with_arguments.ensures

pub returns-in-Translate : goal.returns-in-Translate
unfolding request_by
returns-in-Translate c = rw c.in-Translate.is c.with_arguments-in-Translate.ensures

pub returns-in-Start : goal.returns-in-Start
returns-in-Start c = rw c.in-Start.is c.start_arguments.ensures

pub returns-in-Join : goal.returns-in-Join
unfolding request_by
returns-in-Join c = rw c.in-Join.is c.with_arguments-in-Join.ensures

pub returns-in-Unknown : goal.returns-in-Unknown
unfolding request_by
returns-in-Unknown c = rw c.in-Unknown.is
