-- `is_of_definition`: the row's kind, or what is noted around it.
use mathlib.Core.Path.{sym, ◌∙◌}
use Rattle.join.specs.Join.{is_of_definition}
use Rattle.join_rows.proofs.parts.is_of_definition.Goals as goal

pub returns-then-is_definition : goal.returns-then-is_definition
unfolding is_of_definition
returns-then-is_definition c =
    rw (sym c.is_definition.ensures ∙ c.if-is_definition.true)

pub returns : goal.returns
unfolding is_of_definition
returns c =
    let is = c.requires.2.is _ c.requires.1 in rw (sym c.is_definition.ensures ∙ c.if-is_definition.false, ← is)
