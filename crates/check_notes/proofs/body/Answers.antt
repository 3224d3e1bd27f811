-- `body` makes its two tests behind what an item gets.
use mathlib.Core.Path.{ap, ◌∙◌}
use Prim.Native.Nat.{ℕ}
use borrow.Author.Tests.{eq-eqb, ne_eqb}
use Rattle.words.specs.Table.{number_at}
use borrow.Author.Rules.{rules}
use Rattle.check_notes.proofs.body.Goals as goal

pub returns-then-field-eq3 : goal.returns-then-field-eq3
returns-then-field-eq3 c = rw (c.if-owning.true, eq-eqb _ _ c.if-field-eq3.true) c.narrow.ensures

pub returns-then-owning : goal.returns-then-owning
returns-then-owning c =
    let start = c.before.before.before.before.before in
    let third = c.third.ensures ∙ ap (λ (row : ℕ). number_at start.args.rows.now row 3) c.wide.ensures in
    rw (c.if-owning.true, ne_eqb _ _ c.if-field-eq3.false, ← third) c.body_item-item.ensures

pub returns : goal.returns
returns c =
    let start = c.before.before.before.before in
    let third = c.third.ensures ∙ ap (λ (row : ℕ). number_at start.args.rows.now row 3) c.wide.ensures in
    rw (c.if-owning.false, ← third) c.body_item-item.ensures
