-- The place, its index held above the result, and what is done with it.
use mathlib.Core.Path.{ap, ap₂}
use Prim.Native.Nat.{ℕ, ◌+◌}
use native.Mathlib.Omega.{arith}
use Rattle.language.specs.Trees.{Place}
use Rattle.language.specs.Decode.{place_of, expression_at}
use Rattle.translation.specs.Translate.{update_code}
use Rattle.translation.specs.TranslateSize.{update_rows}
use Rattle.writers_rows.specs.Atoms.{atom_tree}
use Rattle.writers_rows.specs.Chain.{room-less}
use Rattle.writers_steps.specs.AtomLaws.{update-rows}
use Rattle.writers_rows.specs.LeafLaws.{recoded, place-taken-most}
use Rattle.measures_table.specs.Parts.{called_in}
use Rattle.writers_steps.proofs.straight.put_operation.Goals as goal

pub overflow_add-above-2 : goal.overflow_add-above-2
overflow_add-above-2 c = omega (arith, c.requires.0.level_low, c.place_taken.ensures, place-taken-most (called_in c.args.source.now.rows.now) (place_of (expression_at c.args.source.now.rows.now c.args.place)), c.requires.0.writing.small_store)

pub put_update-requires : goal.put_update-requires
put_update-requires c = (room-less _ c.requires.0.room (omega (arith, ap (λ (p : Place). update_rows p) c.kernel_place-target.ensures.is, update-rows (called_in c.args.source.now.rows.now) c.args.source.now.store (place_of (expression_at c.args.source.now.rows.now c.args.place)) (c.args.at.level + 1))), c.kernel_place-target.ensures.fits, c.requires.1, omega (arith, c.requires.0.level_low, c.requires.0.writing.small_store), omega (arith, c.requires.0.level_low, c.place_taken.ensures, place-taken-most (called_in c.args.source.now.rows.now) (place_of (expression_at c.args.source.now.rows.now c.args.place)), c.requires.0.writing.small_store))

pub returns : goal.returns
returns c = recoded _ _ _ _ _ _ c.put_update.ensures (ap₂ (λ (q : Place) (u : ℕ). update_code c.args.source.now.store c.args.operator q (atom_tree c.args.operand) c.args.at.level u) c.kernel_place-target.ensures.is (ap (λ (n : ℕ). c.args.at.level + 1 + n) c.place_taken.ensures))
