-- `open_function`, by what the line stands among.
use native.Mathlib.Omega.{arith}
use borrow.Author.Rules.{rules}
use Rattle.page_scan.proofs.blocks.open_function.Goals as goal

pub returns-in-Items : goal.returns-in-Items
returns-in-Items c = record { around_after = rw c.in-Items.is; result_bound = (omega arith, c.requires.1) }

pub returns-in-Arguments : goal.returns-in-Arguments
returns-in-Arguments c = record { around_after = rw c.in-Arguments.is; result_bound = (omega arith, c.requires.1) }

pub returns-in-Parameters : goal.returns-in-Parameters
returns-in-Parameters c = record { around_after = rw c.in-Parameters.is c.push.ensures.around_after; result_bound = c.push.ensures.result_bound }
