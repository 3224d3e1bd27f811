-- `lowest_not_once` marks all links, then looks for a row whose mark is not 1.
use mathlib.Core.Path.{◌∙◌}
use Rattle.words.specs.SearchLaws.{lowest_row-same}
use Rattle.check_structure.proofs.Marks.{marked-once}
use borrow.Author.Rules.{rules}
use Rattle.check_structure.proofs.causes.lowest_not_once.Goals as goal

pub returns : goal.returns
returns c =
    c.lowest_not_marked_once.ensures ∙ lowest_row-same _ _ _ (marked-once _ _ c.requires.0 c.mark_links.ensures)
