-- `read_words` passes the pieces one by one; the invariant is `Walked`.
use lib.ListN.{length}
use Rattle.command_request.proofs.Words.{Walked}
use Rattle.command_request.proofs.store_file.read_words.Given as goal

abbrev pub invariant-loop-piece : goal.invariant-loop-piece
invariant-loop-piece l = Walked l.text l.fn.table (length l.yielded) l.count l.table
