use native.Mathlib.Omega.{arith}
use mathlib.Core.Path.{◌∙◌, sym, ap, ◌≡◌, refl}
use Rattle.flat_sizes.specs.Sizes.{block_room, true-room, false-room, body-room, true-answer, false-answer, test-atom, line-few, sized-later}
use Rattle.flat_sizes.specs.Places.{block-parts, if-parts, while-parts, other-parts, if-first-at, if-second-at, while-body-at}
use borrow.Author.Rules.{rules}
use Rattle.flat_sizes.proofs.places.place_parts.Reads as reads
use Rattle.flat_sizes.proofs.places.place_parts.Lts as lts
use Rattle.flat_sizes.proofs.places.body_at.Reads as body-at-reads
use Rattle.flat_sizes.proofs.places.first_at.Reads as first-at-reads
use Rattle.flat_sizes.proofs.places.second_at.Reads as second-at-reads
use Rattle.flat_sizes.proofs.places.store_line.Reads as store-line-reads
use Rattle.flat_sizes.proofs.sizes.is_always.Reads as is-always-reads
use Rattle.flat_sizes.proofs.sizes.slot_at.Reads as slot-at-reads
use Rattle.words.proofs.table.number_at.Reads as number-at-reads
use Rattle.flat_sizes.proofs.places.place_parts.Goals as goal

pub store_line-requires : goal.store_line-requires
store_line-requires c =
    let k = sym c.number_at-kind.ensures ∙ c.if-kind-eq42.true in
    (omega (arith, block_room c.requires.0 c.requires.3 c.requires.2 k, c.number_at.ensures), omega (arith, line-few c.requires.0 c.requires.3 c.requires.4, c.requires.5))

pub returns-then-kind-eq42 : goal.returns-then-kind-eq42
returns-then-kind-eq42 c =
    let k = sym c.number_at-kind.ensures ∙ c.if-kind-eq42.true in
    block-parts c.requires.0 c.requires.3 c.requires.2 k _ _ c.number_at.ensures c.requires.5 c.store_line.ensures

pub slot_at-yes-requires : goal.slot_at-yes-requires
slot_at-yes-requires c =
    omega (arith, true-room c.requires.0 c.requires.3 c.requires.1.room (sym c.number_at-kind.ensures ∙ c.if-kind-eq43.true), c.number_at-then-kind-eq43.ensures)

pub slot_at-no-requires : goal.slot_at-no-requires
slot_at-no-requires c =
    omega (arith, false-room c.requires.0 c.requires.3 c.requires.1.room (sym c.number_at-kind.ensures ∙ c.if-kind-eq43.true), c.number_at-then-kind-eq43-2.ensures)

pub first_at-requires : goal.first_at-requires
first_at-requires c =
    (c.slot_at-yes.ensures.1, c.slot_at-no.ensures.1, omega (arith, line-few c.requires.0 c.requires.3 c.requires.4, c.requires.5))

pub store_line-requires-then-kind-eq43 : goal.store_line-requires-then-kind-eq43
store_line-requires-then-kind-eq43 c =
    let k = sym c.number_at-kind.ensures ∙ c.if-kind-eq43.true in
    (omega (arith, true-room c.requires.0 c.requires.3 c.requires.2 k, c.number_at-then-kind-eq43-3.ensures), omega (arith, if-first-at c.requires.0 c.requires.3 c.requires.1 c.requires.4 k _ _ _ _ _ _ c.number_at-then-kind-eq43.ensures c.number_at-then-kind-eq43-2.ensures c.slot_at-yes.ensures.0 c.slot_at-no.ensures.0 c.requires.5 c.first_at.ensures))

pub second_at-requires : goal.second_at-requires
second_at-requires c =
    (c.slot_at-yes.ensures.1, c.slot_at-no.ensures.1, omega (arith, line-few c.requires.0 c.requires.3 c.requires.4, c.requires.5))

pub store_line-requires-then-kind-eq43-2 : goal.store_line-requires-then-kind-eq43-2
store_line-requires-then-kind-eq43-2 c =
    let k = sym c.number_at-kind.ensures ∙ c.if-kind-eq43.true in
    (omega (arith, false-room c.requires.0 c.requires.3 c.requires.2 k, c.number_at-then-kind-eq43-4.ensures), omega (arith, if-second-at c.requires.0 c.requires.3 c.requires.1 c.requires.4 k _ _ _ _ _ _ c.number_at-then-kind-eq43.ensures c.number_at-then-kind-eq43-2.ensures c.slot_at-yes.ensures.0 c.slot_at-no.ensures.0 c.requires.5 c.second_at.ensures))

pub returns-then-kind-eq43 : goal.returns-then-kind-eq43
returns-then-kind-eq43 c =
    let k = sym c.number_at-kind.ensures ∙ c.if-kind-eq43.true in
    if-parts c.requires.0 c.requires.3 c.requires.2 k _ _ _ _ _ c.number_at-then-kind-eq43-3.ensures c.number_at-then-kind-eq43-4.ensures
    (if-first-at c.requires.0 c.requires.3 c.requires.1 c.requires.4 k _ _ _ _ _ _ c.number_at-then-kind-eq43.ensures c.number_at-then-kind-eq43-2.ensures c.slot_at-yes.ensures.0 c.slot_at-no.ensures.0 c.requires.5 c.first_at.ensures).is
    (if-second-at c.requires.0 c.requires.3 c.requires.1 c.requires.4 k _ _ _ _ _ _ c.number_at-then-kind-eq43.ensures c.number_at-then-kind-eq43-2.ensures c.slot_at-yes.ensures.0 c.slot_at-no.ensures.0 c.requires.5 c.second_at.ensures).is
    c.store_line-then-kind-eq43.ensures c.store_line-then-kind-eq43-2.ensures

pub is_always-endless-requires : goal.is_always-endless-requires
is_always-endless-requires c =
    let a = test-atom c.requires.0 c.requires.3 _ c.number_at-then-kind-eq44.ensures (sym c.number_at-kind.ensures ∙ c.if-kind-eq44.true) in
    (c.requires.0, a.0, a.1)

pub body_at-requires : goal.body_at-requires
body_at-requires c =
    omega (arith, line-few c.requires.0 c.requires.3 c.requires.4, c.requires.5)

pub store_line-requires-then-kind-eq44 : goal.store_line-requires-then-kind-eq44
store_line-requires-then-kind-eq44 c =
    let k = sym c.number_at-kind.ensures ∙ c.if-kind-eq44.true in
    (omega (arith, body-room c.requires.0 c.requires.3 c.requires.2 k, c.number_at-then-kind-eq44-2.ensures), omega (arith, while-body-at c.requires.0 c.requires.3 c.requires.4 k _ _ _ _ c.number_at-then-kind-eq44.ensures c.is_always-endless.ensures c.requires.5 c.body_at.ensures))

pub returns-then-kind-eq44 : goal.returns-then-kind-eq44
returns-then-kind-eq44 c =
    let k = sym c.number_at-kind.ensures ∙ c.if-kind-eq44.true in
    while-parts c.requires.0 c.requires.3 c.requires.2 k _ _ c.number_at-then-kind-eq44-2.ensures (while-body-at c.requires.0 c.requires.3 c.requires.4 k _ _ _ _ c.number_at-then-kind-eq44.ensures c.is_always-endless.ensures c.requires.5 c.body_at.ensures).is c.store_line-then-kind-eq44.ensures

pub returns-else-kind-eq44 : goal.returns-else-kind-eq44
returns-else-kind-eq44 c =
    other-parts c.requires.0 c.requires.3 _ _ c.number_at-kind.ensures c.if-kind-eq42.false c.if-kind-eq43.false c.if-kind-eq44.false
