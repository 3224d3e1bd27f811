-- `write_join` gives cause 10 for a shorter table, and else writes.
use mathlib.Core.Path.{sym}
use native.Mathlib.Omega.{arith}
use Rattle.join.specs.Join.{joined_rows}
use Rattle.joiner.specs.JoinerLaws.{parts-length, no_room, with-room}
use Rattle.joiner.proofs.write_join.Goals as goal

pub returns-then-words-out : goal.returns-then-words-out
returns-then-words-out c =
    let s = c.before in
    no_room (joined_rows s.args.first.now s.args.second.now) s.args.out.now (omega (arith, parts-length s.args.first.now s.args.second.now s.requires, c.if-words-out.true))

pub returns : goal.returns
returns c =
    let s = c.before.before.before.before in
    let long = parts-length s.args.first.now s.args.second.now s.requires in
    with-room (joined_rows s.args.first.now s.args.second.now) s.args.out.now _ _ (sym long) c.write_joined.ensures (omega (arith, long, c.if-words-out.false))
