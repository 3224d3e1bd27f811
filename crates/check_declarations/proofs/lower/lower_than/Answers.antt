-- `lower_than` compares the two rows, where there are two.
use Rattle.std.specs.Prelude.{Some}
use mathlib.Core.Path.{◌≡◌, ap}
use Prim.Native.Nat.{min}
use native.Mathlib.Omega.{arith}
use Rattle.check_declarations.specs.Lower.{lower}
use borrow.Author.Rules.{rules}
use Rattle.check_declarations.proofs.lower.lower_than.Goals as goal

pub returns-then-found-row : goal.returns-then-found-row
unfolding lower
returns-then-found-row c =
    rw c.in-Some.is (ap Some (omega arith))

pub returns-else-found-row : goal.returns-else-found-row
unfolding lower
returns-else-found-row c =
    rw c.in-Some.is (ap Some (omega arith))

pub returns-in-None : goal.returns-in-None
unfolding lower
returns-in-None c =
    rw c.in-None.is
