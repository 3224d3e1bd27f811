-- The place, its index held above the result, and what is done with it.
use mathlib.Core.Path.{ap, ap₂}
use Prim.Native.Nat.{ℕ, ◌+◌}
use native.Mathlib.Omega.{arith}
use Rattle.language.specs.Trees.{Place}
use Rattle.language.specs.Decode.{place_of, expression_at}
use Rattle.translation.specs.Translate.{postfix_code}
use Rattle.translation.specs.TranslateSize.{postfix_rows}
use Rattle.writers_rows.specs.Chain.{room-less}
use Rattle.writers_steps.specs.AtomLaws.{postfix-rows}
use Rattle.writers_rows.specs.LeafLaws.{recoded, place-taken-most}
use Rattle.measures_table.specs.Parts.{called_in}
use Rattle.writers_steps.proofs.straight.put_step.Goals as goal

pub overflow_add-above-2 : goal.overflow_add-above-2
overflow_add-above-2 c = omega (arith, c.requires.level_low, c.place_taken.ensures, place-taken-most (called_in c.args.source.now.rows.now) (place_of (expression_at c.args.source.now.rows.now c.args.place)), c.requires.writing.small_store)

pub put_postfix-requires : goal.put_postfix-requires
put_postfix-requires c = (room-less _ c.requires.room (omega (arith, ap (λ (p : Place). postfix_rows p c.args.usage) c.kernel_place-target.ensures.is, postfix-rows (called_in c.args.source.now.rows.now) c.args.source.now.store (place_of (expression_at c.args.source.now.rows.now c.args.place)) c.args.usage (c.args.at.level + 1))), c.kernel_place-target.ensures.fits, omega (arith, c.requires.level_low, c.requires.writing.small_store), omega (arith, c.requires.level_low, c.place_taken.ensures, place-taken-most (called_in c.args.source.now.rows.now) (place_of (expression_at c.args.source.now.rows.now c.args.place)), c.requires.writing.small_store))

pub returns : goal.returns
returns c = recoded _ _ _ _ _ _ c.put_postfix.ensures (ap₂ (λ (q : Place) (u : ℕ). postfix_code c.args.source.now.store c.args.operator q c.args.usage c.args.at.level u) c.kernel_place-target.ensures.is (ap (λ (n : ℕ). c.args.at.level + 1 + n) c.place_taken.ensures))
