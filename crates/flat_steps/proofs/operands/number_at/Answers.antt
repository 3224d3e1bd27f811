-- `number_at` casts a word that is not negative.
use Rattle.machine_operations.proofs.Decoding.{link-cast, link-is}
use Rattle.flat.specs.Words.{field_at}
use borrow.Author.Rules.{rules}
use Rattle.flat_steps.proofs.operands.number_at.Goals as goal

pub overflow_cast-result : goal.overflow_cast-result
unfolding field_at
overflow_cast-result c = link-cast _ c.result-1.given c.requires.1

pub returns : goal.returns
unfolding field_at
returns c = link-is _ c.result-1.given c.requires.1
