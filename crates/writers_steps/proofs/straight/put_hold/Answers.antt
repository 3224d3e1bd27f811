-- The copy of a value that waits, or nothing.
use native.Mathlib.Omega.{arith}
use Rattle.language.specs.Decode.{expression_at}
use Rattle.translation.specs.Translate.{atom_of}
use Rattle.writers_rows.specs.Chain.{room-less}
use Rattle.writers_steps.specs.AtomLaws.{hold-copied, hold-nothing}
use Rattle.writers_rows.specs.LeafLaws.{recoded, nothing-wrote}
use Rattle.measures_table.specs.Parts.{called_in}
use Rattle.writers_steps.proofs.straight.put_hold.Goals as goal

pub put_copy-requires : goal.put_copy-requires
put_copy-requires c = (room-less 4 c.requires.3 (omega arith), omega (arith, c.requires.0.small_store, c.requires.2), c.atom_at-atom.ensures.fits)

pub returns-then-copied-eq1 : goal.returns-then-copied-eq1
returns-then-copied-eq1 c = recoded _ _ _ _ _ _ c.put_copy.ensures (hold-copied c.args.source.now.store c.args.at.level c.args.copied (omega arith) c.atom_at-atom.ensures)

pub returns-else-copied-eq1 : goal.returns-else-copied-eq1
returns-else-copied-eq1 c = recoded _ _ _ _ _ _ (nothing-wrote c.args.at.follows c.args.at.base _) (hold-nothing c.args.source.now.store c.args.at.level c.args.copied (atom_of (called_in c.args.source.now.rows.now) (expression_at c.args.source.now.rows.now c.args.value)) (λ e. omega arith))
