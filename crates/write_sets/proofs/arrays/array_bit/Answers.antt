-- `write_sets::arrays::array_bit` meets its contract.
use mathlib.Core.Path.{◌∙◌}
use native.Mathlib.Omega.{arith}
use native.Mathlib.Nat.{one-mul}
use lib.Dec.{lit<}
use lib.Pow.{shl_exact}
use Rattle.write_sets.proofs.arrays.array_bit.Goals as goal

pub returns : goal.returns
returns c = shl_exact 1 c.args.array 32 (lit< tt) (omega (arith, c.requires)) ∙ one-mul _
