-- `lay_byte`: a byte behind none.
use native.Mathlib.Omega.{arith}
use Rattle.page_line.specs.LaidLaws.{laid_none, laid-byte}
use Rattle.page_line.proofs.bytes.lay_byte.Goals as goal

pub returns : goal.returns
returns c =
    laid-byte (laid_none c.args.text.now c.args.at (omega (arith, c.requires))) c.args.byte (omega (arith, c.requires))
