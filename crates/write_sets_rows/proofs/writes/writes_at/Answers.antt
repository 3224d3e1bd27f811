-- What an expression writes: what its own row does, and what is written at its links.
use native.Mathlib.Omega.{arith}
use Rattle.write_sets_rows.proofs.WriteLaws.{link-held, part-link}
use Rattle.write_sets_rows.proofs.ReachLaws.{row-reach, reach-set}
use Rattle.write_sets_rows.proofs.writes.writes_at.Goals as goal

pub reach_at-reach-requires : goal.reach_at-reach-requires
reach_at-reach-requires c = let p = c.requires in (p.0.source, p.0.names, p.2, omega (arith, p.0.room, p.2))

pub arguments_writes-passed-requires : goal.arguments_writes-passed-requires
arguments_writes-passed-requires c = (c.requires.0, (row-reach c.requires.0 c.requires.1 c.requires.2 c.reach_at-reach.ensures).arguments)

pub set_at-requires : goal.set_at-requires
set_at-requires c = link-held c.requires.0 (row-reach c.requires.0 c.requires.1 c.requires.2 c.reach_at-reach.ensures).third

pub set_at-requires-2 : goal.set_at-requires-2
set_at-requires-2 c = link-held c.requires.0 (row-reach c.requires.0 c.requires.1 c.requires.2 c.reach_at-reach.ensures).second

pub set_at-requires-3 : goal.set_at-requires-3
set_at-requires-3 c = link-held c.requires.0 (row-reach c.requires.0 c.requires.1 c.requires.2 c.reach_at-reach.ensures).first

pub returns : goal.returns
returns c =
    let m = c.requires.0 in
    let reach = row-reach c.requires.0 c.requires.1 c.requires.2 c.reach_at-reach.ensures in
    reach-set reach (part-link m _ reach.first c.set_at-3.ensures) (part-link m _ reach.second c.set_at-2.ensures) (part-link m _ reach.third c.set_at.ensures) c.arguments_writes-passed.ensures
    c.join-third.ensures c.join-second.ensures c.join-first.ensures c.join.ensures
