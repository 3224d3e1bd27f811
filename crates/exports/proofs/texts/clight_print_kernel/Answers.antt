-- `clight_print_kernel` hands on the entry's answer, as numbers, and the page that it leaves.
use mathlib.Core.Path.{ap, ◌∙◌}
use Rattle.exports.specs.Numbers.{outcome_answer}
use Rattle.exports.proofs.Sizes.{size-written}
use borrow.Author.Rules.{rules}
use Rattle.exports.proofs.texts.clight_print_kernel.Goals as goal

pub returns : goal.returns
returns c =
    let result = c.print_kernel.ensures.writes in
    record { value = c.into.ensures ∙ size-written c.print_kernel.result ∙ ap outcome_answer result.outcome; page_after = result.text_left }
