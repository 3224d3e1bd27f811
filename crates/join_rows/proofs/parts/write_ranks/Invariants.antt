-- `write_ranks`: the invariant is that the rows before this one have their places (`Ranking`).
use Rattle.join_rows.specs.StandingLaws.{Ranking}
use Rattle.join_rows.proofs.parts.write_ranks.Given as goal

abbrev pub invariant-loop-row : goal.invariant-loop-row
invariant-loop-row l = Ranking l.rows l.initial.ranks l.ranks l.definitions l.row
