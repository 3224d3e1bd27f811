-- `lay_line_number`: blanks, and the digits behind them, five columns in all.
use mathlib.Core.Path.{sym}
use Prim.Native.Nat.{ℕ, ◌-◌}
use native.Mathlib.Omega.{arith}
use Rattle.text_numbers.specs.PutLaws.{digits-within}
use Rattle.page.specs.Page.{blanks, right_set}
use Rattle.page.proofs.Widths.{length-blanks}
use Rattle.page_line.specs.LaidLaws.{laid_of, laid_next}
use Rattle.page_line.proofs.bytes.lay_line_number.Goals as goal

pub columns-count-requires : goal.columns-count-requires
columns-count-requires c = c.requires.0

pub overflow_sub-count : goal.overflow_sub-count
overflow_sub-count c = omega (arith, digits-within 4 c.args.number (omega (arith, c.requires.0)), c.columns-count.ensures)

pub lay_blanks-start-requires : goal.lay_blanks-start-requires
lay_blanks-start-requires c = omega (arith, c.requires.1)

pub lay_digits-requires : goal.lay_digits-requires
lay_digits-requires c =
    let start = c.before.before.before.before.before.before.before in
    let count = c.columns-count in
    let laid = c.lay_blanks-start.ensures in
    omega (arith, digits-within 4 start.args.number (omega (arith, start.requires.0)), count.ensures, length-blanks (5 - count.result), laid.reached, start.requires.1)

pub returns : goal.returns
unfolding right_set
returns c = laid_next (laid_of (λ (n : ℕ). blanks (5 - n)) (sym c.columns-count.ensures) c.lay_blanks-start.ensures) c.lay_digits.ensures
