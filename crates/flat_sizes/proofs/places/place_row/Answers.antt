use native.Mathlib.Omega.{arith}
use mathlib.Core.Path.{◌∙◌, sym, ap, ◌≡◌, refl}
use Rattle.words.specs.Table.{number_at}
use Rattle.flat_kernel_rows.proofs.Rows.{number-statement}
use Rattle.flat_sizes.specs.Places.{placed-here, placed-other, placed-both, labelled-other}
use borrow.Author.Rules.{rules}
use Rattle.flat_sizes.proofs.places.place_row.Reads as reads
use Rattle.flat_sizes.proofs.places.place_row.Lts as lts
use Rattle.flat_sizes.proofs.places.place_label.Reads as place-label-reads
use Rattle.flat_sizes.proofs.places.place_next.Reads as place-next-reads
use Rattle.flat_sizes.proofs.places.place_parts.Reads as place-parts-reads
use Rattle.check_structure.proofs.row_number.wide.Reads as wide-reads
use Rattle.words.proofs.table.number_at.Reads as number-at-reads
use Rattle.flat_sizes.proofs.places.place_row.Goals as goal

pub returns-then-number_at-lt40 : goal.returns-then-number_at-lt40
returns-then-number_at-lt40 c =
    (placed-other c.requires.0 c.requires.4 c.requires.2 (omega arith), labelled-other c.requires.0 c.requires.4 c.requires.3 (λ (q : number_at _ c.args.row 0 ≡ 53). omega arith))

pub place_parts-requires : goal.place_parts-requires
place_parts-requires c =
    let t = number-statement c.requires.0.header _ c.requires.0.plain c.args.row c.requires.4 (omega arith) in
    (c.requires.0, c.requires.1, c.requires.2.room, c.requires.4, t, c.wide-line.ensures ∙ placed-here c.requires.0 c.requires.4 c.requires.2 t)

pub place_next-requires : goal.place_next-requires
place_next-requires c =
    let t = number-statement c.requires.0.header _ c.requires.0.plain c.args.row c.requires.4 (omega arith) in
    (c.requires.0, c.requires.1, omega (arith, c.place_parts.ensures.keeps.same_length, c.requires.2.room), c.requires.4, t, c.wide-line.ensures ∙ placed-here c.requires.0 c.requires.4 c.requires.2 t)

pub place_label-requires : goal.place_label-requires
place_label-requires c =
    let t = number-statement c.requires.0.header _ c.requires.0.plain c.args.row c.requires.4 (omega arith) in
    (c.requires.0, c.requires.3, c.requires.4, t, c.wide-line.ensures ∙ placed-here c.requires.0 c.requires.4 c.requires.2 t)

pub returns : goal.returns
returns c =
    (placed-both c.requires.0 c.requires.4 c.requires.2 c.place_parts.ensures c.place_next.ensures, c.place_label.ensures)
