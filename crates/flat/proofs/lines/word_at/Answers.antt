-- `word_at` is an element of the list.
use mir.Facts.{to_z-of_z}
use mir.Syntax.{w32}
use Rattle.flat.specs.Words.{field_at}
use Rattle.flat.proofs.lines.word_at.Goals as goal

pub returns : goal.returns
unfolding field_at
returns c =
    to_z-of_z {w = w32} (record { sfits = c.result-1.given })
