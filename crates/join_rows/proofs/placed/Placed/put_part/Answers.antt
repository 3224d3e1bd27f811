-- `put_part` lends the table from the word on.
use Rattle.std.proofs.Common.{ℕ, ◌+◌, ◌*◌, ap, arith}
use Rattle.words.specs.OverLaws.{back_in}
use Rattle.words.specs.Table.{row_count}
use Rattle.join.proofs.Counting.{before-parts}
use Rattle.join.specs.Join.{before}
use Rattle.join_rows.specs.PartLaws.{rest-room}
use Rattle.join_rows.specs.Standings.{part}
use Rattle.join_rows.proofs.placed.Placed.put_part.Goals as goal

pub put_rows-requires : goal.put_rows-requires
put_rows-requires c =
    let rows = c.args.self.now.rows.now in
    rest-room c.args.at (6 * before (part c.args.definitions rows) (row_count rows)) c.args.out.now c.requires.1

pub overflow_add-result : goal.overflow_add-result
overflow_add-result c =
    let rows = c.args.self.now.rows.now in
    omega (arith, before-parts (part c.args.definitions rows) (row_count rows), c.put_rows.ensures.1, c.args.self.now.ready.few, c.requires.0)

pub returns : goal.returns
returns c = (ap (back_in c.args.at c.args.out.now) c.put_rows.ensures.0, ap (λ (n : ℕ). c.args.at + n) c.put_rows.ensures.1)
