-- `operation_at` is the number that the word names.
use mathlib.Core.Path.{ap, ◌∙◌}
use Rattle.words.specs.Word.{natural}
use Rattle.words.specs.Laws.{back}
use Rattle.flat.specs.Words.{operation_at}
use Rattle.flat.proofs.lines.operation_at.Goals as goal

pub returns : goal.returns
unfolding operation_at
returns c =
    c.natural.ensures ∙ ap natural (back c.word_at.result c.word_at.type_inv ∙ c.word_at.ensures)
