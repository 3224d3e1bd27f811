-- `lowest_not_kernel_form_by` looks for a statement not of kernel form.
use Rattle.std.proofs.Common.{rules}
use Rattle.check_grammar.specs.LowestLaws.{lowest_row-is}
use Rattle.check_kernel_statements.proofs.lowest_not_kernel_form_by.Goals as goal

pub returns : goal.returns
returns c = lowest_row-is _ _ _ c.lowest_row.ensures _ (λ row answer below met. search rules)
