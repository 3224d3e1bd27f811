-- `do_line`: a copy of as many words as the store has, then `do_on_copy`.
use mathlib.Core.Path.{ap, ◌∙◌}
use native.Mathlib.Omega.{arith}
use lib.IntN.{pos}
use lib.ListN.{length, length-replicate}
use Rattle.words.specs.Laws.{zeros-part}
use borrow.Author.Rules.{rules}
use Rattle.day_run.proofs.line.do_line.Goals as goal

pub do_on_copy-requires : goal.do_on_copy-requires
do_on_copy-requires c =
    let size = length c.args.store.now in
    record { runnable = c.requires.runnable; copy_len = ap length (zeros-part size 1088 (omega (arith, c.requires.store_len_bound))) ∙ length-replicate size (pos 0) }
