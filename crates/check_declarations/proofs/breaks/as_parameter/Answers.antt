-- `as_parameter` makes its two tests in order.
use native.Mathlib.Omega.{arith}
use borrow.Author.Tests.{eq-eqb, ne_eqb}
use Rattle.check_structure.specs.LinkLaws.{part-inside}
use Rattle.check_declarations.proofs.breaks.as_parameter.Goals as goal

pub link-requires : goal.link-requires
link-requires c = let n = c.requires.1 in let whole = c.requires.0.whole in (omega arith, omega arith)

pub returns-then-link-row : goal.returns-then-link-row
returns-then-link-row c = rw (← c.link.ensures, eq-eqb _ _ c.if-link-row.true)

pub link-requires-2 : goal.link-requires-2
link-requires-2 c = let s = c.before.before in let n = s.requires.1 in let whole = s.requires.0.whole in (omega arith, omega arith)

pub listed-requires : goal.listed-requires
listed-requires c =
    let s = c.before.before.before in
    (s.requires.0, part-inside _ s.requires.0 s.args.function 2 _ s.requires.1 (omega arith) c.link-2.ensures, s.requires.2)

pub returns : goal.returns
returns c = rw (← c.link.ensures, ne_eqb _ _ c.if-link-row.false, ← c.link-2.ensures) c.listed.ensures
