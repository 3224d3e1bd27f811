-- `number_before` goes back from item to item. The invariant: the search from this item on gives what the search from the row gives.
use mathlib.Core.Path.{◌≡◌, sym, ap, ◌∙◌}
use Prim.Native.Nat.{◌<◌}
use native.Mathlib.Omega.{arith}
use borrow.Author.Tests.{eq-eqb, ne_eqb}
use Rattle.words.specs.Table.{row_count}
use Rattle.check_structure.specs.NoteLaws.{above_zero}
use Rattle.words.specs.Declarations.{is_declaration}
use Rattle.check_items.specs.Items.{some_from, some_earlier}
use Rattle.check_items.proofs.EarlierLaws.{earlier-lower, earlier-inside, from-none, from-here, from_back}
use Rattle.check_declaration_causes.specs.Causes.{same_number}
use Rattle.check_declarations.proofs.breaks.number_before.Goals as goal

pub number_at-number-requires : goal.number_at-number-requires
number_at-number-requires c =
    let n = c.requires.1 in omega arith

pub offset_bounds-earlier-row : goal.offset_bounds-earlier-row
offset_bounds-earlier-row c =
    let n = c.requires.1 in let few = c.requires.0.few in omega arith

pub bounds-earlier-row : goal.bounds-earlier-row
bounds-earlier-row c =
    let n = c.requires.1 in let room = c.requires.2.room in omega arith

pub loop-item-init : goal.loop-item-init
unfolding some_earlier
loop-item-init c =
    let start = c.before.before.before.before in
    let is = c.wide-item.ensures ∙ start.requires.2.is _ start.requires.1 in
    (earlier-inside _ start.requires.0 _ _ _ start.requires.1 is, rw is)

pub returns-then-item-eq0 : goal.returns-then-item-eq0
returns-then-item-eq0 c =
    let start = c.before.before.before.before.before.before in
    sym (c.loop-item.invariant.1 ∙ from-none _ start.requires.0 _ _ _ c.if-item-eq0.true)

pub number_at-requires : goal.number_at-requires
number_at-requires c =
    let n = c.loop-item.invariant.0 in omega arith

pub returns-then-number_at-number : goal.returns-then-number_at-number
unfolding same_number
returns-then-number_at-number c =
    let start = c.before.before.before.before.before.before.before.before in
    sym (c.loop-item.invariant.1 ∙ from-here _ start.requires.0 _ _ _ c.if-item-eq0.false
    (eq-eqb _ _ (sym c.number_at.ensures ∙ c.if-number_at-number.true ∙ c.number_at-number.ensures)))

pub offset_bounds-earlier-item : goal.offset_bounds-earlier-item
offset_bounds-earlier-item c =
    let n = c.loop-item.invariant.0 in let few = c.requires.0.few in omega arith

pub bounds-earlier-item : goal.bounds-earlier-item
bounds-earlier-item c =
    let n = c.loop-item.invariant.0 in
    let room = c.requires.2.room in
    omega arith

pub loop-item-smaller : goal.loop-item-smaller
loop-item-smaller c =
    let start = c.before.before.before.before.before.before.before.before.before.before in
    let n = c.loop-item.invariant.0 in
    let is = c.wide-item-in-loop-item.ensures ∙ start.requires.2.is _ n in
    let lower = earlier-lower _ start.requires.0 (is_declaration start.args.rows.now) _ (above_zero _ c.if-item-eq0.false) n in
    omega arith

pub loop-item-preserved : goal.loop-item-preserved
unfolding same_number
loop-item-preserved c =
    let start = c.before.before.before.before.before.before.before.before.before.before in
    let n = c.loop-item.invariant.0 in
    let is = c.wide-item-in-loop-item.ensures ∙ start.requires.2.is _ n in (
      earlier-inside _ start.requires.0 _ _ _ n is,
      c.loop-item.invariant.1
          ∙ from_back _ start.requires.0 _ _ _ _ c.if-item-eq0.false n is
          (ne_eqb _ _ (λ q. c.if-number_at-number.false (c.number_at.ensures ∙ q ∙ sym c.number_at-number.ensures))),
    )
