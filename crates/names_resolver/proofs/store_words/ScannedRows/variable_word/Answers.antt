-- `variable_word` takes what the number means, where that is a declaration.
use Rattle.std.proofs.Common.{◌≡◌, sym, ap, ◌∙◌, arith}
use Rattle.words.specs.Laws.{back}
use Rattle.words.specs.Table.{number_at}
use Rattle.names.specs.Names.{meant_at}
use Rattle.names.proofs.ScopeLaws.{meant-inside}
use Rattle.names_resolver.specs.WordLaws.{variable-outer, variable-declared}
use Rattle.names_resolver.proofs.store_words.ScannedRows.variable_word.Goals as goal
use Rattle.names_resolver.proofs.store_words.ScannedRows.variable_word.Goals.{After-meant-declaration}

is : (c : After-meant-declaration) → c.meant-declaration.result ≡ meant_at c.args.self.now.rows.now c.args.row (number_at c.args.self.now.rows.now c.args.row 1)
is c = c.meant-declaration.ensures ∙ ap (meant_at _ _) c.number_at.ensures

pub returns-then-declaration-eq0 : goal.returns-then-declaration-eq0
returns-then-declaration-eq0 c =
    back _ c.word_at.type_inv ∙ c.word_at.ensures ∙ sym (variable-outer _ _ _ _ (is (goal.at.returns-then-declaration-eq0 c).After-meant-declaration) c.if-declaration-eq0.true)

pub store_word-requires : goal.store_word-requires
store_word-requires c =
    let rows = c.args.self.now.rows.now in
    omega (arith, is (goal.at.store_word-requires c).After-meant-declaration, meant-inside rows c.args.self.now.scanned.tree c.args.row (number_at rows c.args.row 1) c.requires)

pub returns : goal.returns
returns c =
    back _ c.store_word.type_inv ∙ c.store_word.ensures ∙ sym (variable-declared _ _ _ _ (is (goal.at.returns c).After-meant-declaration) c.if-declaration-eq0.false)
