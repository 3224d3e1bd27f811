-- The atom of a value that waits.
use native.Mathlib.Omega.{arith}
use Rattle.writers_steps.specs.AtomLaws.{held-copy, held-own}
use Rattle.writers_steps.proofs.atoms.held_atom.Goals as goal

pub returns-then-copied-eq1 : goal.returns-then-copied-eq1
returns-then-copied-eq1 c = held-copy c.args.row c.args.source.now.store c.args.level (omega arith) (omega (arith, c.requires.0.small_store, c.requires.2))

pub returns : goal.returns
returns c = held-own (λ e. omega arith) c.atom_at.ensures
