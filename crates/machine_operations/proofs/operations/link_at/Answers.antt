-- `link_at` casts a word that is not negative.
use Rattle.words.specs.Table.{word_at, number_at}
use Rattle.machine_operations.proofs.Decoding.{link-cast, link-is}
use Rattle.machine_operations.proofs.operations.link_at.Goals as goal

pub overflow_cast-result : goal.overflow_cast-result
unfolding number_at word_at
overflow_cast-result c = link-cast _ c.result-1.given c.requires.1

pub returns : goal.returns
unfolding number_at word_at
returns c = link-is _ c.result-1.given c.requires.1
