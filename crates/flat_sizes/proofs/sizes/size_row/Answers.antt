use native.Mathlib.Omega.{arith}
use mathlib.Core.Path.{◌∙◌, sym, ap, ◌≡◌, refl}
use Rattle.flat_kernel_rows.proofs.Rows.{number-statement}
use Rattle.flat_sizes.specs.Sizes.{next-room, row-sum, size_few, sized_row, sized-other}
use borrow.Author.Rules.{rules}
use Rattle.flat_sizes.proofs.sizes.size_row.Reads as reads
use Rattle.flat_sizes.proofs.sizes.size_row.Lts as lts
use Rattle.flat_sizes.proofs.sizes.slot_at.Reads as slot-at-reads
use Rattle.flat_sizes.proofs.sizes.statement_lines.Reads as statement-lines-reads
use Rattle.check_structure.proofs.row_number.narrow.Reads as narrow-reads
use Rattle.words.proofs.table.number_at.Reads as number-at-reads
use Rattle.flat_sizes.proofs.sizes.size_row.Goals as goal

pub returns-then-number_at-lt40 : goal.returns-then-number_at-lt40
returns-then-number_at-lt40 c =
    sized-other c.requires.0 _ _ c.requires.1 (omega arith)

pub slot_at-behind-requires : goal.slot_at-behind-requires
slot_at-behind-requires c =
    let t = number-statement c.requires.0.header _ c.requires.0.plain c.args.row c.requires.2 (omega arith) in
    omega (arith, next-room c.requires.0 c.requires.2 c.requires.1.room t, c.number_at-2.ensures)

pub statement_lines-requires : goal.statement_lines-requires
statement_lines-requires c =
    (c.requires.0, c.requires.1, c.requires.2, number-statement c.requires.0.header _ c.requires.0.plain c.args.row c.requires.2 (omega arith))

pub overflow_add-statement_lines : goal.overflow_add-statement_lines
overflow_add-statement_lines c =
    let t = number-statement c.requires.0.header _ c.requires.0.plain c.args.row c.requires.2 (omega arith) in
    omega (arith, row-sum c.requires.0 c.requires.2 c.requires.1 t _ _ _ c.statement_lines.ensures c.slot_at-behind.ensures.0 c.number_at-2.ensures, size_few c.requires.0 c.requires.2 t)

pub narrow-requires : goal.narrow-requires
narrow-requires c =
    let t = number-statement c.requires.0.header _ c.requires.0.plain c.args.row c.requires.2 (omega arith) in
    omega (arith, row-sum c.requires.0 c.requires.2 c.requires.1 t _ _ _ c.statement_lines.ensures c.slot_at-behind.ensures.0 c.number_at-2.ensures, size_few c.requires.0 c.requires.2 t)

pub returns : goal.returns
returns c =
    sized_row c.requires.0 _ c.args.row _ c.requires.1 c.requires.2 (λ t. c.narrow.ensures ∙ row-sum c.requires.0 c.requires.2 c.requires.1 t _ _ _ c.statement_lines.ensures c.slot_at-behind.ensures.0 c.number_at-2.ensures)
