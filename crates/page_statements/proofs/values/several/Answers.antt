-- `several`: a minus by itself, or else an operand.
use mathlib.Core.Path.{sym, ap, ◌∙◌}
use Rattle.page_words.specs.Reads.{several_read, minus_of}
use Rattle.page_words.specs.declared.Value.TheVariants.{Minus}
use Rattle.page_atoms.proofs.Mapped.{mapped}
use borrow.Author.Rules.{rules}
use Rattle.page_statements.proofs.values.several.Goals as goal

pub returns-then-is_word : goal.returns-then-is_word
unfolding several_read
returns-then-is_word c =
    rw (sym c.is_word.ensures ∙ c.if-is_word.true) (mapped Minus c.atom.result c.map.result _ c.map.ensures.cases (λ x y k. search rules) ∙ ap minus_of c.atom.ensures)

pub returns : goal.returns
unfolding several_read
returns c =
    rw (sym c.is_word.ensures ∙ c.if-is_word.false) c.binary.ensures
