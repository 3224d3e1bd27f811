-- `enough`: the product of 40,980 and 2 ^ 32 fits 64 bits.
use Prim.Native.Nat.{◌*◌, ◌≤◌}
use native.Mathlib.Nat.{mul-le-mul}
use native.Mathlib.Omega.{arith}
use borrow.Author.Rules.{rules}
use Rattle.programs.proofs.kernel.enough.Goals as goal

pub overflow_mul-steps : goal.overflow_mul-steps
overflow_mul-steps c =
    let below : c.args.count ≤ 4294967295 = omega (arith, c.ranges.count.fits) in
    let product : c.args.rows * c.args.count ≤ 40980 * 4294967295 = mul-le-mul c.requires below in
    omega arith
