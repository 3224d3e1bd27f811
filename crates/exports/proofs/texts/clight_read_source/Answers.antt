-- `clight_read_source` hands on the entry's answer, as numbers, and the tables that it leaves.
use mathlib.Core.Path.{ap, ◌∙◌}
use Rattle.exports.specs.Numbers.{outcome_answer}
use Rattle.exports.proofs.Sizes.{sizes-read}
use borrow.Author.Rules.{rules}
use Rattle.exports.proofs.texts.clight_read_source.Goals as goal

pub returns : goal.returns
returns c =
    let result = c.read_source.ensures in
    record { value = c.into.ensures ∙ sizes-read c.read_source.result ∙ ap outcome_answer result.outcome; header_after = result.header_left; rows_after = result.rows-left }
