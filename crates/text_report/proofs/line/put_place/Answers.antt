-- `put_place`: at most twenty digits.
use native.Mathlib.Omega.{arith}
use Rattle.text_report.proofs.Spacing.{place-few}
use Rattle.text_report.proofs.line.put_place.Goals as goal

pub returns-clause-upper_bound : goal.returns-clause-upper_bound
returns-clause-upper_bound c = omega (arith, c.put_count.ensures.size, place-few c.args.place (omega (arith, c.ranges.place)))
