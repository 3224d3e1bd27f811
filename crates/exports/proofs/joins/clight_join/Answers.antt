-- `clight_join` hands on the entry's answer, as numbers, the table that it leaves, and what holds of it.
use mathlib.Core.Path.{ap, ◌∙◌}
use Rattle.joiner.specs.Joining.{JoinResult}
use Rattle.exports.specs.Numbers.{answer_of}
use Rattle.exports.specs.JoinNumbersLaws.{joins-if-done}
use Rattle.exports.proofs.Sizes.{size-joined}
use borrow.Author.Rules.{rules}
use Rattle.exports.proofs.joins.clight_join.Goals as goal

pub returns : goal.returns
returns c =
    let joined = c.join in
    let result = joined.ensures.out_rows_after in
    record {
      value = c.into.ensures ∙ size-joined c.join.result ∙ ap (λ (r : JoinResult). answer_of r.numbers) result;
      out_rows_after = ap (λ (r : JoinResult). r.rows) result;
      joins_if_done = joins-if-done _ _ _ _ _ _ joined.result _ (c.into.ensures ∙ size-joined c.join.result) result joined.ensures.writes_join;
    }
