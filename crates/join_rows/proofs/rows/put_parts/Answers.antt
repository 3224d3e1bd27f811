-- `put_parts`: the new block and four parts, each from where the one before it ends.
use Rattle.std.proofs.Common.{sym, ap, ◌∙◌, arith}
use Rattle.check_structure.specs.LinkLaws.{part-inside}
use Rattle.join.specs.Join.{front_of}
use Rattle.join_rows.specs.PartLaws.{Joining, fits1, fits2, fits3, fits4, all-written}
use Rattle.join_rows.specs.Standings.{placement_of}
use Rattle.join_rows.proofs.rows.put_parts.Goals as goal
use Rattle.join_rows.proofs.rows.put_parts.Goals.{After-front-item}

-- where both stand, and the first item of the new block
joining : (c : After-front-item) → Joining c.args.first.now.rows.now c.args.second.now.rows.now (placement_of c.args.first.now.standing) (placement_of c.args.second.now.standing) c.front-item.result c.args.out.now
joining c =
    record {
      whole_first = sym c.args.first.now.ready.tree.whole;
      whole_second = sym c.args.second.now.ready.tree.whole;
      few_first = c.args.first.now.ready.few;
      few_second = c.args.second.now.ready.few;
      of-first = c.requires.0.first_is;
      of-second = c.requires.0.second_is;
      begins = c.front-item.ensures.0 ∙ ap (front_of (placement_of c.args.first.now.standing) c.args.first.now.rows.now) c.link.ensures;
      room = c.requires.1;
    }

pub front-item-requires : goal.front-item-requires
front-item-requires c =
    let tree = c.args.first.now.ready.tree in part-inside c.args.first.now.rows.now tree 0 1 c.link.result tree.some_rows (omega arith) c.link.ensures

pub put_part-two-requires : goal.put_part-two-requires
put_part-two-requires c = fits1 (joining (goal.at.put_part-two-requires c).After-front-item) _ c.put_outer.ensures

pub put_part-three-requires : goal.put_part-three-requires
put_part-three-requires c = fits2 (joining (goal.at.put_part-three-requires c).After-front-item) _ c.put_outer.ensures _ _ c.put_part-two.ensures

pub put_part-four-requires : goal.put_part-four-requires
put_part-four-requires c = fits3 (joining (goal.at.put_part-four-requires c).After-front-item) _ c.put_outer.ensures _ _ c.put_part-two.ensures _ _ c.put_part-three.ensures

pub put_part-requires : goal.put_part-requires
put_part-requires c = fits4 (joining (goal.at.put_part-requires c).After-front-item) _ c.put_outer.ensures _ _ c.put_part-two.ensures _ _ c.put_part-three.ensures _ _ c.put_part-four.ensures

pub returns : goal.returns
returns c =
    all-written (joining (goal.at.returns c).After-front-item) _ c.put_outer.ensures _ _ c.put_part-two.ensures _ _ c.put_part-three.ensures _ _ c.put_part-four.ensures _ _ c.put_part.ensures
