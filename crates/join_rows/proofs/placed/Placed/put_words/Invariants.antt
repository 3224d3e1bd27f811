-- `put_words`: the invariant is that the words before this field are written.
use Rattle.std.proofs.Common.{◌≡◌}
use Rattle.words.specs.Over.{over}
use Rattle.check_grammar.specs.Grammar.{tabulate}
use Rattle.join.specs.Join.{placed_word}
use Rattle.join_rows.specs.Standings.{placement_of}
use Rattle.join_rows.proofs.placed.Placed.put_words.Given as goal

abbrev pub invariant-loop-field : goal.invariant-loop-field
invariant-loop-field l = l.out ≡ over (tabulate (placed_word (placement_of l.self.standing) l.self.rows.now l.row) 0 l.field) l.initial.out
