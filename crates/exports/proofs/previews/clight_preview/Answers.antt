-- `clight_preview` hands on the entry's answer, as numbers, and the words that it leaves.
use mathlib.Core.Path.{ap, ◌∙◌}
use Rattle.program_previews.specs.Previews.{PreviewResult}
use Rattle.exports.specs.Numbers.{preview_answer}
use borrow.Author.Rules.{rules}
use Rattle.exports.proofs.previews.clight_preview.Goals as goal

pub returns : goal.returns
returns c =
    let result = c.preview.ensures in
    record {
      value = c.into.ensures ∙ ap (λ (r : PreviewResult). preview_answer r.numbers r.tally) result;
      store_value = ap (λ (r : PreviewResult). r.store) result;
      scratch_after = ap (λ (r : PreviewResult). r.scratch) result;
    }
