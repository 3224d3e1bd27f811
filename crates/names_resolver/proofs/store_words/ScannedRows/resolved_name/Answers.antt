-- `resolved_name` makes its two tests in order.
use Rattle.std.proofs.Common.{sym, ◌∙◌}
use Rattle.words.specs.Laws.{back}
use Rattle.names_resolver.specs.WordLaws.{name-declared, name_variable, name-other}
use Rattle.names_resolver.proofs.store_words.ScannedRows.resolved_name.Goals as goal

pub returns-then-is_declaration : goal.returns-then-is_declaration
returns-then-is_declaration c =
    back _ c.store_word.type_inv ∙ c.store_word.ensures ∙ sym (name-declared _ _ _ (sym c.is_declaration.ensures ∙ c.if-is_declaration.true))

pub returns-then-number_at-eq2 : goal.returns-then-number_at-eq2
returns-then-number_at-eq2 c =
    back _ c.variable_word.type_inv ∙ c.variable_word.ensures ∙ sym (name_variable _ _ _ (sym c.is_declaration.ensures ∙ c.if-is_declaration.false) (sym c.number_at.ensures ∙ c.if-number_at-eq2.true))

pub returns : goal.returns
returns c =
    back _ c.word_at.type_inv ∙ c.word_at.ensures ∙ sym (name-other _ _ _ (sym c.is_declaration.ensures ∙ c.if-is_declaration.false) (λ q. c.if-number_at-eq2.false (c.number_at.ensures ∙ q)))
