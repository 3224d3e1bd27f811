-- `clight_dispatcher_run` hands on the entry's answer, as numbers, and the words that it leaves.
use mathlib.Core.Path.{ap, ◌∙◌}
use Rattle.program_dispatcher.specs.DispatcherRuns.{DispatcherResult}
use Rattle.exports.specs.Numbers.{answer_of}
use borrow.Author.Rules.{rules}
use Rattle.exports.proofs.programs.clight_dispatcher_run.Goals as goal

pub returns : goal.returns
returns c =
    let result = c.dispatcher_run.ensures in
    record { value = c.into.ensures ∙ ap (λ (r : DispatcherResult). answer_of r.numbers) result; words_after = ap (λ (r : DispatcherResult). r.words) result }
