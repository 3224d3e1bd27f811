-- `write_sets::bit_of` meets its contract: a variable's bit, or a declared word's.
use native.Mathlib.Omega.{arith}
use Rattle.write_sets.specs.SetLaws.{found_below, found-behind}
use Rattle.write_sets.proofs.bit_of.Goals as goal

pub returns-then-i-store : goal.returns-then-i-store
returns-then-i-store c = found_below c.args.store c.args.i (omega arith)

pub returns : goal.returns
returns c = found-behind c.args.store c.args.i (omega arith)
