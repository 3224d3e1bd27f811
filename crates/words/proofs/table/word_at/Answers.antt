-- `word_at` is an element of the table.
use mir.Facts.{to_z-of_z}
use Rattle.words.specs.Table.{word_at}
use Rattle.std.specs.Int.{w32}
use Rattle.words.proofs.table.word_at.Goals as goal

pub returns : goal.returns
unfolding word_at
returns c = to_z-of_z {w = w32} (record { sfits = c.result-1.given })
