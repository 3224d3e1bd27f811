-- The word where a value goes, by its use.
use mathlib.Core.Path.{refl}
use Rattle.writers_steps.specs.AtomLaws.{target-by}
use Rattle.writers_steps.proofs.atoms.target_word.Goals as goal

pub returns-in-Dropped : goal.returns-in-Dropped
returns-in-Dropped c = target-by c.args.store c.args.level c.in-Dropped.is refl c.requires.0 c.requires.1

pub returns-in-Wanted : goal.returns-in-Wanted
returns-in-Wanted c = target-by c.args.store c.args.level c.in-Wanted.is refl c.requires.0 c.requires.1

pub returns-in-Stored : goal.returns-in-Stored
returns-in-Stored c = target-by c.args.store c.args.level c.in-Stored.is refl c.requires.0 c.requires.1
