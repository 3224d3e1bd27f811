-- `lowest_definition` looks for a definition.
use mathlib.Core.Path.{sym, ◌∙◌}
use Rattle.std.proofs.Common.{rules}
use Rattle.check_grammar.specs.LowestLaws.{lowest_row-is}
use Rattle.check_plain.proofs.lowest_definition.Goals as goal

pub returns-in_err-row : goal.returns-in_err-row
returns-in_err-row c = c.from_residual.ensures ∙ (sym c.in_err-row.was ∙ lowest_row-is _ _ _ c.lowest_row.ensures _ (λ row answer below met. search rules))

pub returns : goal.returns
returns c = sym c.in_ok-row.was ∙ lowest_row-is _ _ _ c.lowest_row.ensures _ (λ row answer below met. search rules)
