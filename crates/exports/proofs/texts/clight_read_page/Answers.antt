-- `clight_read_page` hands on the entry's answer, as numbers, and the rows that it leaves.
use mathlib.Core.Path.{ap, ◌∙◌}
use Rattle.page_reader.specs.Reads.{PageResult}
use Rattle.exports.specs.Numbers.{answer_of}
use Rattle.exports.proofs.Sizes.{size-page}
use borrow.Author.Rules.{rules}
use Rattle.exports.proofs.texts.clight_read_page.Goals as goal

pub returns : goal.returns
returns c =
    let result = c.read_page.ensures.rows_after in record { value = c.into.ensures ∙ size-page c.read_page.result ∙ ap (λ (r : PageResult). answer_of r.numbers) result; rows_after = ap (λ (r : PageResult). r.rows) result }
