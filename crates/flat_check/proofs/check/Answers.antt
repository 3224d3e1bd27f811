-- `check` takes causes 1 and 2, then those of lines.
use mathlib.Core.Path.{sym, ◌∙◌}
use borrow.Author.Tests.{not-true, not-false, eq-eqb, ne_eqb}
use Rattle.check_structure.specs.Refusal.{unless, ◌next◌}
use Rattle.flat.specs.Refusal.{refusal}
use borrow.Author.Rules.{rules}
use Rattle.flat_check.proofs.check.Goals as goal

pub returns-then-not-header_fits : goal.returns-then-not-header_fits
unfolding refusal unless ◌next◌
returns-then-not-header_fits c =
    rw (← c.header_fits.ensures, c.if-not-header_fits.true)

pub returns-then-list-ne0 : goal.returns-then-list-ne0
unfolding refusal unless ◌next◌
returns-then-list-ne0 c =
    rw (← c.header_fits.ensures, c.if-not-header_fits.false, ne_eqb _ _ c.if-list-ne0.true)

pub bounds_of-requires : goal.bounds_of-requires
bounds_of-requires c =
    sym c.header_fits.ensures ∙ c.if-not-header_fits.false

pub returns : goal.returns
unfolding refusal unless ◌next◌
returns c =
    rw (← c.header_fits.ensures, c.if-not-header_fits.false, eq-eqb _ _ c.if-list-ne0.false, ← c.bounds_of.ensures) c.line_causes.ensures
