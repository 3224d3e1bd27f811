-- `put_rows` writes one row after the other, where it is of the part.
use Rattle.std.proofs.Common.{◌≡◌, ℕ, refl, ap, ◌+◌, ◌*◌, ◌≤◌, ◌∙◌, length, arith}
use Rattle.words.specs.Word.{pick}
use Rattle.words.specs.Over.{over}
use Rattle.words.specs.OverLaws.{over_none, part as rest}
use Rattle.words.specs.Table.{row_count}
use Rattle.join.proofs.Counting.{before-parts}
use Rattle.join.specs.Join.{before, placed_rows}
use Rattle.join_rows.specs.RowLaws.{row_more, row_room}
use Rattle.join_rows.specs.Standings.{chosen_of, part, placement_of}
use Rattle.join_rows.proofs.placed.Placed.put_rows.Goals as goal
use Rattle.join_rows.proofs.placed.Placed.put_rows.Goals.{After-is_chosen-chosen}

pub loop-row-init : goal.loop-row-init
unfolding before placed_rows
loop-row-init c = (refl, over_none _)

pub is_of_definition-requires : goal.is_of_definition-requires
is_of_definition-requires c = (c.args.self.now.ready.tree, omega arith, c.args.self.now.ready.stands)

-- there is room for the row
room : (c : After-is_chosen-chosen) → (c.loop-row.at ≤ length c.loop-row.out) × (pick c.is_chosen-chosen.result 6 0 ≤ length (rest c.loop-row.at c.loop-row.out)) × (length c.loop-row.out ≡ length c.args.out.now)
room c =
    let l = c.loop-row in
    row_room (placement_of c.args.self.now.standing) c.args.definitions c.args.self.now.rows.now l.row l.at c.args.out.now l.out c.is_chosen-chosen.result (c.is_chosen-chosen.ensures ∙ ap (chosen_of c.args.definitions) c.is_of_definition.ensures) (omega arith) l.invariant.0 l.invariant.1 c.requires

pub offset_bounds-out-at : goal.offset_bounds-out-at
offset_bounds-out-at c = let r = room (goal.at.offset_bounds-out-at c).After-is_chosen-chosen in omega (arith, r.0, r.2)

pub slice_bounds-put_chosen-count : goal.slice_bounds-put_chosen-count
slice_bounds-put_chosen-count c = omega (arith, (room (goal.at.slice_bounds-put_chosen-count c).After-is_chosen-chosen).0)

pub slice_bounds-put_chosen-start : goal.slice_bounds-put_chosen-start
slice_bounds-put_chosen-start c = omega (arith, (room (goal.at.slice_bounds-put_chosen-start c).After-is_chosen-chosen).0)

pub put_chosen-at-requires : goal.put_chosen-at-requires
put_chosen-at-requires c = (omega arith, (room (goal.at.put_chosen-at-requires c).After-is_chosen-chosen).1)

pub overflow_add-at : goal.overflow_add-at
overflow_add-at c =
    let l = c.loop-row in
    let rows = c.args.self.now.rows.now in
    let m = row_more (placement_of c.args.self.now.standing) c.args.definitions rows l.row l.at _ c.args.out.now l.out _ _ (c.is_chosen-chosen.ensures ∙ ap (chosen_of c.args.definitions) c.is_of_definition.ensures) l.invariant.0 l.invariant.1 c.put_chosen-at.ensures.0 c.put_chosen-at.ensures.1 in
    omega (arith, m.1, before-parts (part c.args.definitions rows) (l.row + 1), c.args.self.now.ready.few)

pub loop-row-preserved : goal.loop-row-preserved
loop-row-preserved c =
    let l = c.loop-row in
    let m = row_more (placement_of c.args.self.now.standing) c.args.definitions c.args.self.now.rows.now l.row l.at _ c.args.out.now l.out _ _ (c.is_chosen-chosen.ensures ∙ ap (chosen_of c.args.definitions) c.is_of_definition.ensures) l.invariant.0 l.invariant.1 c.put_chosen-at.ensures.0 c.put_chosen-at.ensures.1 in
    (m.1, m.0)

pub returns : goal.returns
returns c =
    let l = c.loop-row in
    let rows = c.args.self.now.rows.now in
    let e : l.row ≡ row_count rows = omega arith in
    (l.invariant.1 ∙ ap (λ (n : ℕ). over (placed_rows (placement_of c.args.self.now.standing) (part c.args.definitions rows) rows n) c.args.out.now) e, l.invariant.0 ∙ ap (λ (n : ℕ). 6 * before (part c.args.definitions rows) n) e)
