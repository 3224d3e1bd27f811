-- `resolved_word` makes one test.
use Rattle.std.proofs.Common.{sym, ◌∙◌}
use Rattle.words.specs.Laws.{back}
use Rattle.names_resolver.specs.WordLaws.{word-named, word_kept}
use Rattle.names_resolver.proofs.store_words.ScannedRows.resolved_word.Goals as goal

pub returns-then-field-eq1 : goal.returns-then-field-eq1
returns-then-field-eq1 c =
    back _ c.resolved_name.type_inv ∙ c.resolved_name.ensures ∙ sym (word-named _ _ _ _ c.if-field-eq1.true)

pub returns : goal.returns
returns c =
    back _ c.word_at.type_inv ∙ c.word_at.ensures ∙ sym (word_kept _ _ _ _ c.if-field-eq1.false)
