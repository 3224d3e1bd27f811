-- `third` reads inside the table; the words beyond it are 0.
use lib.IntN.{pos}
use lib.ListN.{get_or-eq_default}
use Prim.Native.Nat.{◌+◌, ◌*◌}
use Rattle.words.specs.Word.{natural}
use Rattle.words.specs.Table.{word_at, number_at}
use borrow.Author.Rules.{rules}
use Rattle.check_notes.proofs.third.Goals as goal

pub returns : goal.returns
unfolding number_at word_at natural
returns c = rw (get_or-eq_default c.args.rows.now (pos 0) {n = 6 * c.args.row + 3} c.if-row-rows.false)
