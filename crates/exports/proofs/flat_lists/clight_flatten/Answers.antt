-- `clight_flatten` hands on the entry's answer, as numbers, the output that it leaves, and what holds of it.
use mathlib.Core.Path.{ap, ◌∙◌}
use Rattle.flattener.specs.Flattening.{FlattenResult}
use Rattle.exports.specs.Numbers.{answer_of}
use Rattle.exports.specs.ListNumbersLaws.{lists-if-done}
use Rattle.exports.proofs.Sizes.{size-flattened}
use borrow.Author.Rules.{rules}
use Rattle.exports.proofs.flat_lists.clight_flatten.Goals as goal

pub returns : goal.returns
returns c =
    let flattened = c.flatten in
    let result = flattened.ensures.list_after in
    record {
      value = c.into.ensures ∙ size-flattened c.flatten.result ∙ ap (λ (r : FlattenResult). answer_of r.numbers) result;
      list_after = ap (λ (r : FlattenResult). r.list) result;
      lists_if_done = lists-if-done _ _ _ _ flattened.result _ (c.into.ensures ∙ size-flattened c.flatten.result) result flattened.ensures.writes_list;
    }
