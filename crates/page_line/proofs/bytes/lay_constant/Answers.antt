-- `lay_constant`: what `put_number` puts into the part from the place on.
use native.Mathlib.Omega.{arith}
use lib.ListN.{length}
use mathlib.Core.Path.{◌≡◌, sym, ap}
use lib.IntN.{ℤ}
use mir.Syntax.{w32}
use mir.Val.{to_z, of_z}
use Rattle.words.specs.Laws.{back}
use Rattle.text_numbers.specs.Number.{number_bytes}
use Rattle.page_line.specs.LaidLaws.{laid-put, laid_of, part_room}
use Rattle.page_line.proofs.bytes.lay_constant.Goals as goal
use Rattle.page_line.proofs.bytes.lay_constant.Goals.{Start}

-- what the call gets back of an i32
same : (c : Start) → to_z w32 (of_z w32 c.args.value) ≡ c.args.value
same c = back _ c.ranges.value.sfits

pub put_number-requires : goal.put_number-requires
put_number-requires c =
    rw (same (goal.at.put_number-requires c).Start) (part_room c.args.text.now c.args.at (length (number_bytes c.args.value)) c.requires)

pub overflow_add-result : goal.overflow_add-result
overflow_add-result c =
    omega (arith, ap (λ (z : ℤ). length (number_bytes z)) (same (goal.at.overflow_add-result c).Start), c.put_number.ensures.size, c.requires)

pub returns : goal.returns
returns c =
    laid_of number_bytes (sym (same (goal.at.returns c).Start)) (laid-put _ _ _ _ _ (rw (same (goal.at.returns c).Start) c.requires) c.put_number.ensures)
