use native.Mathlib.Omega.{arith}
use mathlib.Core.Path.{◌∙◌, sym, ap, ◌≡◌, refl}
use Rattle.flat_sizes.specs.Sizes.{block_room, true-room, false-room, body-room, block-answer, true-answer, false-answer, body-answer, if-answer, while-answer, test-atom, one_size, none-size}
use borrow.Author.Rules.{rules}
use Rattle.flat_sizes.proofs.sizes.statement_lines.Reads as reads
use Rattle.flat_sizes.proofs.sizes.statement_lines.Lts as lts
use Rattle.flat_sizes.proofs.sizes.if_lines.Reads as if-lines-reads
use Rattle.flat_sizes.proofs.sizes.is_always.Reads as is-always-reads
use Rattle.flat_sizes.proofs.sizes.slot_at.Reads as slot-at-reads
use Rattle.flat_sizes.proofs.sizes.while_lines.Reads as while-lines-reads
use Rattle.words.proofs.table.number_at.Reads as number-at-reads
use Rattle.flat_sizes.proofs.sizes.statement_lines.Goals as goal

pub slot_at-requires : goal.slot_at-requires
slot_at-requires c =
    omega (arith, block_room c.requires.0 c.requires.2 c.requires.1.room (sym c.number_at-kind.ensures ∙ c.if-kind-eq42.true), c.number_at.ensures)

pub returns-then-kind-eq42 : goal.returns-then-kind-eq42
returns-then-kind-eq42 c =
    c.slot_at.ensures.0 ∙ block-answer c.requires.0 c.requires.2 c.requires.1 (sym c.number_at-kind.ensures ∙ c.if-kind-eq42.true) _ c.number_at.ensures

pub slot_at-requires-then-kind-eq43 : goal.slot_at-requires-then-kind-eq43
slot_at-requires-then-kind-eq43 c =
    omega (arith, true-room c.requires.0 c.requires.2 c.requires.1.room (sym c.number_at-kind.ensures ∙ c.if-kind-eq43.true), c.number_at-then-kind-eq43.ensures)

pub slot_at-requires-then-kind-eq43-2 : goal.slot_at-requires-then-kind-eq43-2
slot_at-requires-then-kind-eq43-2 c =
    omega (arith, false-room c.requires.0 c.requires.2 c.requires.1.room (sym c.number_at-kind.ensures ∙ c.if-kind-eq43.true), c.number_at-then-kind-eq43-2.ensures)

pub if_lines-requires : goal.if_lines-requires
if_lines-requires c =
    (c.slot_at-then-kind-eq43.ensures.1, c.slot_at-then-kind-eq43-2.ensures.1)

pub returns-then-kind-eq43 : goal.returns-then-kind-eq43
returns-then-kind-eq43 c =
    let k = sym c.number_at-kind.ensures ∙ c.if-kind-eq43.true in
    c.if_lines.ensures ∙ if-answer c.requires.0 c.requires.2 c.requires.1 k _ _ (c.slot_at-then-kind-eq43.ensures.0 ∙ true-answer c.requires.0 c.requires.2 c.requires.1 k _ c.number_at-then-kind-eq43.ensures) (c.slot_at-then-kind-eq43-2.ensures.0 ∙ false-answer c.requires.0 c.requires.2 c.requires.1 k _ c.number_at-then-kind-eq43-2.ensures)

pub is_always-requires : goal.is_always-requires
is_always-requires c =
    let a = test-atom c.requires.0 c.requires.2 _ c.number_at-then-kind-eq44.ensures (sym c.number_at-kind.ensures ∙ c.if-kind-eq44.true) in
    (c.requires.0, a.0, a.1)

pub slot_at-requires-then-kind-eq44 : goal.slot_at-requires-then-kind-eq44
slot_at-requires-then-kind-eq44 c =
    omega (arith, body-room c.requires.0 c.requires.2 c.requires.1.room (sym c.number_at-kind.ensures ∙ c.if-kind-eq44.true), c.number_at-then-kind-eq44-2.ensures)

pub while_lines-requires : goal.while_lines-requires
while_lines-requires c =
    c.slot_at-then-kind-eq44.ensures.1

pub returns-then-kind-eq44 : goal.returns-then-kind-eq44
returns-then-kind-eq44 c =
    let k = sym c.number_at-kind.ensures ∙ c.if-kind-eq44.true in
    c.while_lines.ensures ∙ while-answer c.requires.0 c.requires.2 c.requires.1 k _ _ _ c.number_at-then-kind-eq44.ensures c.is_always.ensures (c.slot_at-then-kind-eq44.ensures.0 ∙ body-answer c.requires.0 c.requires.2 c.requires.1 k _ c.number_at-then-kind-eq44-2.ensures)

pub returns-then-kind-eq40 : goal.returns-then-kind-eq40
returns-then-kind-eq40 c =
    sym (none-size c.requires.0 c.requires.2 c.requires.3 40 (sym c.number_at-kind.ensures ∙ c.if-kind-eq40.true) (λ q. omega arith) (λ q. omega arith) (λ q. omega arith) (λ q. omega arith) (λ q. omega arith) (λ q. omega arith))

pub returns-then-kind-eq53 : goal.returns-then-kind-eq53
returns-then-kind-eq53 c =
    sym (none-size c.requires.0 c.requires.2 c.requires.3 53 (sym c.number_at-kind.ensures ∙ c.if-kind-eq53.true) (λ q. omega arith) (λ q. omega arith) (λ q. omega arith) (λ q. omega arith) (λ q. omega arith) (λ q. omega arith))

pub returns : goal.returns
returns c =
    sym (one_size c.requires.0 c.requires.2 c.requires.3 _ (sym c.number_at-kind.ensures) c.if-kind-eq42.false c.if-kind-eq43.false c.if-kind-eq44.false c.if-kind-eq40.false c.if-kind-eq53.false)
