-- `store_numbers` passes the fields one by one; the invariant is `Stored`.
use lib.ListN.{length}
use Rattle.text_lines.specs.Line.{fields_of}
use Rattle.text_lines.proofs.Storing.{Stored}
use Rattle.text_lines.proofs.line.store_numbers.Given as goal

abbrev pub invariant-loop-count : goal.invariant-loop-count
invariant-loop-count l = Stored (fields_of l.line) (length l.yielded) l.fn.table l.table
