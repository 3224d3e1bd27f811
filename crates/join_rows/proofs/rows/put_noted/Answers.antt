-- `put_noted`: with what is noted, both programs stand where they stand in their join.
use Rattle.std.proofs.Common.{ap, ◌∙◌, arith}
use Rattle.check_structure.specs.LinkLaws.{part-inside}
use Rattle.join.specs.Join.{front_of}
use Rattle.join_rows.specs.NotedLaws.{second-ready, first-ready, both-stand}
use Rattle.join_rows.specs.Standings.{placement_of}
use Rattle.join_rows.proofs.rows.put_noted.Goals as goal

pub second_standing-requires : goal.second_standing-requires
second_standing-requires c =
    (c.requires.0.few_first, c.requires.0.few_second, c.front_of-front_of_first.ensures.0, c.front_of-front_of_second.ensures.1)

pub invariant_of-of_second : goal.invariant_of-of_second
invariant_of-of_second c =
    let one = c.front_of-front_of_first.ensures in
    let two = c.front_of-front_of_second.ensures in
    record {
      ready = second-ready c.requires.0 c.args.first.now.noted c.args.second.now.noted c.second_standing.ensures (rw one.0 at one.3) (rw two.1 at two.2);
    }

pub front-behind-requires : goal.front-behind-requires
front-behind-requires c =
    let tree = c.requires.0.tree_second in part-inside c.args.second.now.rows.now tree 0 1 c.link.result tree.some_rows (omega arith) c.link.ensures

pub invariant_of-of_first : goal.invariant_of-of_first
invariant_of-of_first c =
    let one = c.front_of-front_of_first.ensures in
    let begins = c.front-behind.ensures.0 ∙ ap (front_of (placement_of c.second_standing.result) c.args.second.now.rows.now) c.link.ensures in
    record {
      ready = first-ready c.requires.0 c.args.first.now.noted c.args.second.now.noted c.second_standing.ensures c.front-behind.result _ begins c.front-behind.ensures.1 one.1 one.2;
    }

pub put_parts-requires : goal.put_parts-requires
put_parts-requires c =
    let one = c.front_of-front_of_first.ensures in
    let begins = c.front-behind.ensures.0 ∙ ap (front_of (placement_of c.second_standing.result) c.args.second.now.rows.now) c.link.ensures in
    (both-stand c.requires.0 c.args.first.now.noted c.args.second.now.noted c.second_standing.ensures c.front-behind.result _ begins c.front-behind.ensures.1 one.1 one.2, c.requires.1)
