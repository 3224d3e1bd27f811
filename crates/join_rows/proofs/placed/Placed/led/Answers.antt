-- `led`: 0 stays absent, every other row has its place.
use mathlib.Core.Path.{refl}
use native.Mathlib.Omega.{arith}
use borrow.Author.Tests.{eq-eqb, ne_eqb}
use Rattle.join_rows.proofs.placed.Placed.led.Goals as goal

pub returns-then-to-eq0 : goal.returns-then-to-eq0
returns-then-to-eq0 c =
    rw (eq-eqb c.args.to 0 c.if-to-eq0.true) (refl, omega arith)

pub returns : goal.returns
returns c =
    rw (ne_eqb c.args.to 0 c.if-to-eq0.false) c.place.ensures
