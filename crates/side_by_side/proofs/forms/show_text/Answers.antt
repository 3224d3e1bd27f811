-- `show_text`: what was read fits both tables.
use mathlib.Core.Path.{sym}
use native.Mathlib.Omega.{arith}
use lib.Seq.{length-take-le}
use Rattle.text_form.proofs.SizeLaws.{read_fits}
use borrow.Author.Rules.{rules}
use Rattle.side_by_side.proofs.forms.show_text.Goals as goal
use Rattle.side_by_side.proofs.forms.show_text.Goals.{After-header-in-Ok-1, In-Ok}

pub slice_bounds-header-end : goal.slice_bounds-header-end
slice_bounds-header-end g c = omega (arith, (read_fits _ _ _ _ _ _ _ _ _ c.read_source-answer.ensures c.in-Ok.is).0, c.read_source-answer.auto.header)

pub slice_bounds-show_program-end : goal.slice_bounds-show_program-end
slice_bounds-show_program-end g c = sym (length-take-le _ _ (slice_bounds-header-end g (goal.at.slice_bounds-show_program-end g c).In-Ok))

pub slice_bounds-rows-end : goal.slice_bounds-rows-end
slice_bounds-rows-end g c = omega (arith, (read_fits _ _ _ _ _ _ _ _ _ c.read_source-answer.ensures c.in-Ok.is).1, c.read_source-answer.auto.rows)

pub slice_bounds-show_program-end-in-Ok : goal.slice_bounds-show_program-end-in-Ok
slice_bounds-show_program-end-in-Ok g c = sym (length-take-le _ _ (slice_bounds-rows-end g (goal.at.slice_bounds-show_program-end-in-Ok g c).After-header-in-Ok-1))
