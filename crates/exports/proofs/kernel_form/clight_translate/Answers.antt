-- `clight_translate` hands on the entry's answer, as numbers, the tables that it leaves, and what holds of them.
use mathlib.Core.Path.{ap, ◌∙◌}
use Rattle.translator.specs.Translation.{TranslateResult}
use Rattle.exports.specs.Numbers.{answer_of}
use Rattle.exports.specs.NumbersLaws.{writes-if-done}
use Rattle.exports.proofs.Sizes.{sizes-translated}
use borrow.Author.Rules.{rules}
use Rattle.exports.proofs.kernel_form.clight_translate.Goals as goal

pub returns : goal.returns
returns c =
    let translated = c.translate in
    let result = translated.ensures.kernel_rows_after in
    record {
      value = c.into.ensures ∙ sizes-translated c.translate.result ∙ ap (λ (r : TranslateResult). answer_of r.numbers) result;
      kernel_header_after = ap (λ (r : TranslateResult). r.header) result;
      kernel_rows_after = ap (λ (r : TranslateResult). r.rows) result;
      has_kernel_form = translated.ensures.has_kernel_form;
      writes_if_done = writes-if-done _ _ _ _ _ _ translated.result _ (c.into.ensures ∙ sizes-translated c.translate.result) result translated.ensures.writes_kernel_form;
    }
