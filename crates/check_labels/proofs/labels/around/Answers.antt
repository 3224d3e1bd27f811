-- `around` reads the owner from the notes.
use mathlib.Core.Path.{◌∙◌}
use native.Mathlib.Omega.{arith}
use Rattle.check_labels.specs.Labels.{around_at}
use Rattle.check_labels.proofs.ListLaws.{owner-noted, owner-inside}
use borrow.Author.Rules.{rules}
use Rattle.check_labels.proofs.labels.around.Goals as goal

pub is_definition-requires : goal.is_definition-requires
is_definition-requires c =
    let is = c.wide-owner.ensures ∙ c.requires.2.is _ c.requires.3 ∙ owner-noted _ c.requires.0 _ in let inside = owner-inside _ c.requires.0 c.requires.1 _ c.requires.3 in let whole = c.requires.0.whole in omega arith

pub returns-then-is_definition : goal.returns-then-is_definition
unfolding around_at
returns-then-is_definition c =
    let is = c.wide-owner.ensures ∙ c.requires.2.is _ c.requires.3 ∙ owner-noted _ c.requires.0 _ in rw (← is, ← c.is_definition.ensures, c.if-is_definition.true)

pub returns : goal.returns
unfolding around_at
returns c =
    let is = c.wide-owner.ensures ∙ c.requires.2.is _ c.requires.3 ∙ owner-noted _ c.requires.0 _ in rw (← is, ← c.is_definition.ensures, c.if-is_definition.false)
