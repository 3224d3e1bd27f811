-- `put_if`: the number, or nothing.
use native.Mathlib.Omega.{arith}
use mathlib.Core.List.{◌∷◌}
use Rattle.text_numbers.specs.Number.{digits}
use Rattle.text_numbers.specs.PutLaws.{digits-within}
use Rattle.text_report.specs.Lines.{blank}
use Rattle.command_written_lines.proofs.NumberLaws.{put-unwanted, put_wanted}
use Rattle.command_written_lines.proofs.put_if.Goals as goal

pub put_count-requires : goal.put_count-requires
put_count-requires c = c.requires

pub returns-then-wanted : goal.returns-then-wanted
returns-then-wanted c = record { put = put_wanted (blank ∷ digits c.args.number) c.if-wanted.true c.put_count.ensures; upper_bound = omega (arith, c.put_count.ensures.size, digits-within 19 c.args.number (omega (arith, c.ranges.number))) }

pub returns : goal.returns
returns c = record { put = put-unwanted (blank ∷ digits c.args.number) c.args.text.now c.if-wanted.false; upper_bound = omega arith }
