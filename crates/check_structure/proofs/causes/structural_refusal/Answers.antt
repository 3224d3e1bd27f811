-- `structural_refusal` takes the causes 1 and 2, then the others.
use mathlib.Core.Path.{sym, ◌∙◌}
use borrow.Author.Tests.{not-true, not-false}
use Rattle.words.specs.Laws.{count_fits-facts}
use Rattle.check_structure.proofs.Marks.{blank-start}
use Rattle.check_structure.specs.Refusal.{unless, ◌next◌, structural_refusal}
use borrow.Author.Rules.{rules}
use Rattle.check_structure.proofs.causes.structural_refusal.Goals as goal

pub returns-then-not-header_fits : goal.returns-then-not-header_fits
unfolding structural_refusal unless ◌next◌
returns-then-not-header_fits c =
    rw (← c.header_fits.ensures, c.if-not-header_fits.true)

pub returns-then-not-count_fits : goal.returns-then-not-count_fits
unfolding structural_refusal unless ◌next◌
returns-then-not-count_fits c =
    rw (← c.header_fits.ensures, c.if-not-header_fits.false, ← c.count_fits.ensures, c.if-not-count_fits.true)

pub bounds_of-requires : goal.bounds_of-requires
bounds_of-requires c =
    sym c.header_fits.ensures ∙ c.if-not-header_fits.false

pub table_causes-requires : goal.table_causes-requires
table_causes-requires c =
    let fits = sym c.count_fits.ensures ∙ c.if-not-count_fits.false in
    ((count_fits-facts _ _ fits).whole, blank-start _ _ _ fits c.requires)

pub returns : goal.returns
unfolding structural_refusal unless ◌next◌
returns c =
    rw (← c.header_fits.ensures, c.if-not-header_fits.false, ← c.count_fits.ensures, c.if-not-count_fits.false, ← c.bounds_of.ensures) c.table_causes.ensures
