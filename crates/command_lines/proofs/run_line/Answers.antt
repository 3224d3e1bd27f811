-- `run_line`: a line for each case.
use native.Mathlib.Omega.{arith}
use Rattle.command_lines.specs.Lines.{run_line}
use Rattle.command_lines.proofs.run_line.Goals as goal

pub ended_line-requires : goal.ended_line-requires
ended_line-requires c = c.requires

pub refused_line-requires : goal.refused_line-requires
refused_line-requires c = omega (arith, c.requires)

pub returns-in-Ok : goal.returns-in-Ok
unfolding run_line
returns-in-Ok c = rw c.in-Ok.is c.ended_line.ensures

pub returns-in-Err : goal.returns-in-Err
unfolding run_line
returns-in-Err c = rw c.in-Err.is c.refused_line.ensures
