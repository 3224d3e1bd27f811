-- Laws of answers: what is told of each fault is told of no other ending, and is short.
use Rattle.std.specs.Prelude.{◌≡◌, refl, ◌≤◌, length}
use Rattle.std.proofs.Common.{arith}
use Rattle.words.specs.Answers.{fault_number, fault_numbered, fault_name, ending_name}
use Rattle.words.specs.declared.FaultSort.{FaultSort}
use Rattle.words.specs.declared.FaultSort.TheVariants.{Overflow, ZeroDivisor, Index, Guard}
use Rattle.words.specs.declared.Ending.{Ending}
use Rattle.words.specs.declared.Ending.TheVariants.{Plain, Spent, Fault}

pub record Apart (sort : FaultSort) : Type 0 where
  pub no_other : 2 ≤ fault_number sort
  pub small : fault_number sort ≤ 255
  pub again : fault_numbered (fault_number sort) ≡ sort
  pub short : length (fault_name sort) ≤ 8

pub faults-apart : (sort : FaultSort) → Apart sort
unfolding fault_numbered
faults-apart Overflow = record { no_other = omega arith; small = omega arith; again = refl; short = omega arith }
faults-apart ZeroDivisor = record { no_other = omega arith; small = omega arith; again = refl; short = omega arith }
faults-apart Index = record { no_other = omega arith; small = omega arith; again = refl; short = omega arith }
faults-apart Guard = record { no_other = omega arith; small = omega arith; again = refl; short = omega arith }

pub names-short : (ending : Ending) → length (ending_name ending) ≤ 8
names-short Plain = omega arith
names-short Spent = omega arith
names-short (Fault sort) = (faults-apart sort).short
