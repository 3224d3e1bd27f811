-- `role_sort` goes by the row's mark.
use native.Mathlib.Omega.{arith}
use borrow.Author.Tests.{eq-eqb, ne_eqb}
use Rattle.words_roles.specs.Roles.{role_sort}
use Rattle.words_roles.proofs.MarkLaws.{marks-tell}
use borrow.Author.Rules.{rules}
use Rattle.check_fields.proofs.fields.role_sort.Goals as goal

pub bounds-parameters-row : goal.bounds-parameters-row
bounds-parameters-row c = let room = c.requires.2.room in omega arith

pub returns-then-parameters-row-eq1 : goal.returns-then-parameters-row-eq1
unfolding role_sort
returns-then-parameters-row-eq1 c =
    let start = c.before.before.before.before in
    rw (marks-tell _ _ start.args.row start.requires.2 (omega arith), eq-eqb _ _ c.if-parameters-row-eq1.true) c.parameter_sort.ensures

pub returns : goal.returns
unfolding role_sort
returns c =
    let start = c.before.before.before.before in
    rw (marks-tell _ _ start.args.row start.requires.2 (omega arith), ne_eqb _ _ c.if-parameters-row-eq1.false) c.sort_at.ensures
