-- `waiting_row`: a number of 16 bits.
use mathlib.Core.Path.{◌∙◌}
use native.Mathlib.Omega.{arith}
use borrow.Author.Rules.{rules}
use Rattle.page_reader.proofs.waiting.waiting_row.Goals as goal

pub returns : goal.returns
returns c =
    (c.wide.ensures ∙ c.narrow_row.ensures, omega (arith, c.wide.ensures, c.narrow_row.type_inv))
