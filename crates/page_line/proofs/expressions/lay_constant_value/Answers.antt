-- `lay_constant_value`: a blank, the constant, the semicolon.
use mathlib.Core.Path.{◌≡◌, sym, ap}
use lib.IntN.{ℤ}
use mir.Syntax.{w32}
use mir.Val.{to_z, of_z}
use Rattle.words.specs.Laws.{back}
use native.Mathlib.Omega.{arith}
use mathlib.Core.List.{◌∷◌, []}
use lib.ListN.{length, length-append}
use Rattle.text_numbers.specs.Number.{number_bytes}
use Rattle.page_line.specs.LaidLaws.{laid_of, laid_next}
use Rattle.page_line.proofs.expressions.lay_constant_value.Goals as goal
use Rattle.page_line.proofs.expressions.lay_constant_value.Goals.{Start}

-- what the call gets back of an i32
same : (c : Start) → to_z w32 (of_z w32 c.args.value) ≡ c.args.value
same c = back _ c.ranges.value.sfits

pub lay_constant-end-requires : goal.lay_constant-end-requires
lay_constant-end-requires c =
    omega (arith, ap (λ (z : ℤ). length (number_bytes z)) (same (goal.at.lay_constant-end-requires c).Start), length-append (number_bytes c.args.value) (59 ∷ []), c.requires)

pub lay_byte-requires : goal.lay_byte-requires
lay_byte-requires c =
    omega (arith, ap (λ (z : ℤ). length (number_bytes z)) (same (goal.at.lay_byte-requires c).Start), length-append (number_bytes c.args.value) (59 ∷ []), c.requires)

pub returns : goal.returns
returns c =
    laid_next c.lay_byte-start.ensures (laid_next (laid_of number_bytes (sym (same (goal.at.returns c).Start)) c.lay_constant-end.ensures) c.lay_byte.ensures)
