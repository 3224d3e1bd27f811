-- `print_line`: the pieces of a line, 81 bytes in all.
use native.Mathlib.Omega.{arith}
use mathlib.Core.Path.{sym}
use Prim.Native.Nat.{ℕ, ◌+◌, ◌*◌, ◌-◌}
use Rattle.page.specs.Page.{blanks}
use Rattle.page.proofs.Widths.{length-blanks}
use Rattle.page_line.specs.Contents.{line_tree}
use Rattle.page_line.specs.LaidLaws.{laid_of, laid_next}
use Rattle.page_line.specs.PrintedLaws.{number-five, line-printed}
use Rattle.page_line.proofs.whole.print_line.Goals as goal

pub lay_blanks-start-requires : goal.lay_blanks-start-requires
lay_blanks-start-requires c =
    omega (arith, number-five (c.args.done + 1) c.requires.few, c.lay_line_number-numbered.ensures.reached, c.indent_of.ensures, c.requires.room)

pub lay_content-said-requires : goal.lay_content-said-requires
lay_content-said-requires c =
    record { readable = (c.requires.readable, c.requires.inside); line_in_bounds = omega (arith, number-five (c.args.done + 1) c.requires.few, c.lay_line_number-numbered.ensures.reached, c.indent_of.ensures, length-blanks (c.indent_of.result + 1), c.lay_blanks-start.ensures.reached, c.requires.narrow, c.requires.room) }

pub overflow_sub-end : goal.overflow_sub-end
overflow_sub-end c =
    omega (arith, number-five (c.args.done + 1) c.requires.few, c.lay_line_number-numbered.ensures.reached, c.indent_of.ensures, length-blanks (c.indent_of.result + 1), c.lay_blanks-start.ensures.reached, c.lay_content-said.ensures.reached, c.requires.narrow)

pub lay_byte-requires : goal.lay_byte-requires
lay_byte-requires c =
    let end = 81 * c.args.done + 80 in
    omega (arith, number-five (c.args.done + 1) c.requires.few, c.lay_line_number-numbered.ensures.reached, c.indent_of.ensures, length-blanks (c.indent_of.result + 1), c.lay_blanks-start.ensures.reached, c.lay_content-said.ensures.reached, length-blanks (end - c.lay_content-said.result), c.lay_blanks-filled.ensures.reached, c.requires.narrow, c.requires.room)

pub returns : goal.returns
returns c =
    let start = c.before.before.before.before.before.before.before.before.before.before.before.before.before.before.before.before.before.before.before.before.before.before in
    let rest = 81 * start.args.done + 80 - c.lay_content-said.result in
    line-printed start.args.sizes start.args.done start.args.level rest _ (line_tree start.args.rows.now start.args.line) _ _ start.requires.few
    (omega (arith, number-five (start.args.done + 1) start.requires.few, c.lay_line_number-numbered.ensures.reached, c.indent_of.ensures, length-blanks (c.indent_of.result + 1), c.lay_blanks-start.ensures.reached, c.lay_content-said.ensures.reached, start.requires.narrow))
    (laid_next c.lay_line_number-numbered.ensures (laid_next (laid_of (λ (n : ℕ). blanks (n + 1)) (sym c.indent_of.ensures) c.lay_blanks-start.ensures) (laid_next c.lay_content-said.ensures (laid_next c.lay_blanks-filled.ensures c.lay_byte.ensures))))
