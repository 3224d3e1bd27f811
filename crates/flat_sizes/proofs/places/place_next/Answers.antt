use native.Mathlib.Omega.{arith}
use mathlib.Core.Path.{◌∙◌, sym, ap, ◌≡◌, refl}
use Rattle.flat_sizes.specs.Sizes.{next-room, own_value, line-few, size-split}
use Rattle.flat_sizes.specs.Places.{next-parts}
use borrow.Author.Rules.{rules}
use Rattle.flat_sizes.proofs.places.place_next.Reads as reads
use Rattle.flat_sizes.proofs.places.place_next.Lts as lts
use Rattle.flat_sizes.proofs.places.store_line.Reads as store-line-reads
use Rattle.flat_sizes.proofs.sizes.slot_at.Reads as slot-at-reads
use Rattle.check_structure.proofs.row_number.wide.Reads as wide-reads
use Rattle.words.proofs.table.number_at.Reads as number-at-reads
use Rattle.flat_sizes.proofs.places.place_next.Goals as goal

pub slot_at-behind-requires : goal.slot_at-behind-requires
slot_at-behind-requires c =
    omega (arith, next-room c.requires.0 c.requires.3 c.requires.1.room c.requires.4, c.number_at-next.ensures)

pub overflow_sub-wide : goal.overflow_sub-wide
overflow_sub-wide c =
    omega (arith, own_value c.requires.0 c.requires.3 c.requires.1 c.requires.4 _ _ _ c.wide.ensures c.slot_at-behind.ensures.0 c.number_at-next.ensures)

pub overflow_add-line : goal.overflow_add-line
overflow_add-line c =
    omega (arith, own_value c.requires.0 c.requires.3 c.requires.1 c.requires.4 _ _ _ c.wide.ensures c.slot_at-behind.ensures.0 c.number_at-next.ensures, line-few c.requires.0 c.requires.3 c.requires.4, size-split c.requires.0 c.requires.3 c.requires.4, c.requires.5)

pub store_line-requires : goal.store_line-requires
store_line-requires c =
    (omega (arith, next-room c.requires.0 c.requires.3 c.requires.2 c.requires.4, c.number_at-next.ensures), omega (arith, own_value c.requires.0 c.requires.3 c.requires.1 c.requires.4 _ _ _ c.wide.ensures c.slot_at-behind.ensures.0 c.number_at-next.ensures, line-few c.requires.0 c.requires.3 c.requires.4, size-split c.requires.0 c.requires.3 c.requires.4, c.requires.5))

pub returns : goal.returns
returns c =
    next-parts c.requires.0 c.requires.3 c.requires.2 c.requires.4 _ _ c.number_at-next.ensures (omega (arith, own_value c.requires.0 c.requires.3 c.requires.1 c.requires.4 _ _ _ c.wide.ensures c.slot_at-behind.ensures.0 c.number_at-next.ensures, c.requires.5)) c.store_line.ensures
