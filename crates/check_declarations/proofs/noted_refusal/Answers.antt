-- `noted_refusal` takes the causes 18 to 20 in order; each search ends the chain or hands on.
use Rattle.check_structure.specs.RefusalLaws.{refused-at, passed-at, last}
use Rattle.check_declaration_causes.specs.Causes.{declaration_refusal}
use Rattle.check_declarations.specs.Passes.{breaks, looked_up}
use Rattle.check_declarations.proofs.noted_refusal.Goals as goal

pub lowest_breaking-own-requires : goal.lowest_breaking-own-requires
unfolding looked_up
lowest_breaking-own-requires c = (c.requires.0, c.requires.3)

pub returns-in_err-at : goal.returns-in_err-at
unfolding declaration_refusal breaks
returns-in_err-at c = refused-at _ _ _ _ _ _ c.from_residual.ensures.1 c.in_err-at.ensures c.lowest_breaking-own.ensures

pub lowest_twice-requires : goal.lowest_twice-requires
lowest_twice-requires c = (c.requires.0, c.requires.1, c.requires.2)

pub returns-in_err-at-2 : goal.returns-in_err-at-2
unfolding declaration_refusal breaks
returns-in_err-at-2 c =
    passed-at _ _ _ _ _ c.in_ok-at.ensures c.lowest_breaking-own.ensures
    (refused-at _ _ _ _ _ _ c.from_residual-in_err-at-2.ensures.1 c.in_err-at-2.ensures c.lowest_twice.ensures)

pub lowest_breaking-requires : goal.lowest_breaking-requires
unfolding looked_up
lowest_breaking-requires c = (c.requires.0, c.requires.3)

pub returns : goal.returns
unfolding declaration_refusal breaks
returns c =
    passed-at _ _ _ _ _ c.in_ok-at.ensures c.lowest_breaking-own.ensures
    (passed-at _ _ _ _ _ c.in_ok-at-2.ensures c.lowest_twice.ensures (last _ _ _ _ c.at-3.ensures c.lowest_breaking.ensures))
