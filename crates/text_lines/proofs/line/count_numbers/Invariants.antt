-- `count_numbers` passes the fields one by one; the invariant is `Counted`.
use mathlib.Core.Path.{◌≡◌}
use lib.ListN.{length}
use Rattle.text_lines.specs.Line.{fields_of}
use Rattle.text_lines.proofs.Pieces.{Counted}
use Rattle.text_lines.proofs.line.count_numbers.Given as goal

abbrev pub invariant-loop-field : goal.invariant-loop-field
invariant-loop-field l = (l.count ≡ length l.yielded) × Counted (fields_of l.line) l.count
