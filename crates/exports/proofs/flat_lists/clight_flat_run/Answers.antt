-- `clight_flat_run` hands on the entry's answer, as numbers, and the store that it leaves.
use mathlib.Core.Path.{ap, ◌∙◌}
use Rattle.flat.specs.Results.{FlatResult}
use Rattle.exports.specs.Numbers.{answer_of}
use borrow.Author.Rules.{rules}
use Rattle.exports.proofs.flat_lists.clight_flat_run.Goals as goal

pub returns : goal.returns
returns c =
    let result = c.flat_run.ensures in
    record { value = c.into.ensures ∙ ap (λ (r : FlatResult). answer_of r.numbers) result; store_after = ap (λ (r : FlatResult). r.store) result }
