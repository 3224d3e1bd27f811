-- `clight_write_source` hands on the entry's answer, as numbers, and the text that it leaves.
use mathlib.Core.Path.{ap, ◌∙◌}
use Rattle.exports.specs.Numbers.{outcome_answer}
use Rattle.exports.proofs.Sizes.{size-written}
use borrow.Author.Rules.{rules}
use Rattle.exports.proofs.texts.clight_write_source.Goals as goal

pub returns : goal.returns
returns c =
    let result = c.write_source.ensures in
    record { value = c.into.ensures ∙ size-written c.write_source.result ∙ ap outcome_answer result.outcome; text_after = result.text_left }
