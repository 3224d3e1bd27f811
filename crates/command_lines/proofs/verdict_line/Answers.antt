-- `verdict_line`: a line for each case.
use native.Mathlib.Omega.{arith}
use Rattle.command_lines.specs.Lines.{verdict_line}
use Rattle.command_lines.proofs.verdict_line.Goals as goal

pub put_bytes-requires : goal.put_bytes-requires
put_bytes-requires c = omega (arith, c.requires)

pub refused_line-requires : goal.refused_line-requires
refused_line-requires c = c.requires

pub returns-in-Ok : goal.returns-in-Ok
unfolding verdict_line
returns-in-Ok c = rw c.in-Ok.is c.put_bytes.ensures

pub returns-in-Err : goal.returns-in-Err
unfolding verdict_line
returns-in-Err c = rw c.in-Err.is c.refused_line.ensures
