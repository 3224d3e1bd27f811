-- `lines_start`: behind the empty line, or at the end where there is none.
use native.Mathlib.Omega.{arith}
use Rattle.day_form.proofs.Bounds.{behind-end, behind-next}
use borrow.Author.Rules.{rules}
use Rattle.day_form.proofs.input.lines_start.Goals as goal

pub returns-then-size-input : goal.returns-then-size-input
returns-then-size-input c =
    behind-end _ _ c.if-size-input.true

pub returns : goal.returns
returns c =
    behind-next _ _ (let other = c.if-size-input.false in omega (arith, c.requires))
