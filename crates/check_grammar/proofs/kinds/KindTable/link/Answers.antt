-- `link` reads the field where its sort is a link's; a word that is 0 links nothing, whatever its sort.
use mathlib.Core.Path.{sym, ◌∙◌}
use Rattle.words.specs.Links.{link}
use Rattle.check_grammar.specs.GrammarLaws.{zero-links-none}
use borrow.Author.Rules.{rules}
use Rattle.check_grammar.proofs.kinds.KindTable.link.Goals as goal

pub returns-then-number-eq0 : goal.returns-then-number-eq0
returns-then-number-eq0 c = sym (zero-links-none _ _ _ (sym c.number_at-number.ensures ∙ c.if-number-eq0.true))

pub returns-then-is_link : goal.returns-then-is_link
unfolding link
returns-then-is_link c =
    rw (← c.sort_at.ensures, ← c.is_link.ensures, c.if-is_link.true) c.number_at-number.ensures

pub returns : goal.returns
unfolding link
returns c =
    rw (← c.sort_at.ensures, ← c.is_link.ensures, c.if-is_link.false)
