-- `put_named`: the name is a variable.
use mathlib.Core.Path.{sym, ap}
use Rattle.language.specs.Trees.{assign, express, none, ◌then◌}
use Rattle.writers_rows.specs.LeafLaws.{recoded}
use Rattle.page_words.specs.Trees.{value_tree}
use borrow.Author.Rules.{rules}
use Rattle.page_rows.proofs.assignments.put_named.Goals as goal

pub returns : goal.returns
returns c =
    recoded _ _ _ _ _ _ c.put_value.ensures (ap (λ p. express (assign p (value_tree c.args.sizes c.args.value)) then none) (sym c.variable_number.ensures.0))
