-- A postfix operation, by the place: a variable's step, or an element's update.
use mathlib.Core.Path.{sym, ap, subst}
use native.Mathlib.Omega.{arith}
use Rattle.translation.specs.Translate.{postfix_code}
use Rattle.translation.specs.TranslateSize.{postfix_rows}
use Rattle.writers_rows.specs.Atoms.{place_tree, PlaceFits}
use Rattle.writers_rows.specs.Chain.{room-less}
use Rattle.writers_rows.specs.LeafLaws.{recoded}
use Rattle.writers_rows.specs.declared.KernelPlace.{KernelPlace}
use Rattle.writers_steps.proofs.straight.put_postfix.Goals as goal

pub put_variable_step-requires : goal.put_variable_step-requires
put_variable_step-requires c =
    let low = subst (λ (p : KernelPlace). PlaceFits p) c.in-Variable.is c.requires.1 in
    (room-less _ c.requires.0 (omega (arith, ap (λ (p : KernelPlace). postfix_rows (place_tree p) c.args.usage) c.in-Variable.is)), low, c.requires.2)

pub put_element_update-requires : goal.put_element_update-requires
put_element_update-requires c =
    let low = subst (λ (p : KernelPlace). PlaceFits p) c.in-Element.is c.requires.1 in
    (room-less 16 c.requires.0 (omega (arith, ap (λ (p : KernelPlace). postfix_rows (place_tree p) c.args.usage) c.in-Element.is)), low.0, low.1, tt, c.requires.2, c.requires.3)

pub returns-in-Variable : goal.returns-in-Variable
returns-in-Variable c =
    recoded _ _ _ _ _ _ c.put_variable_step.ensures (ap (λ (p : KernelPlace). postfix_code c.args.store c.args.operator (place_tree p) c.args.usage c.args.at.level c.args.above) (sym c.in-Variable.is))

pub returns-in-Element : goal.returns-in-Element
returns-in-Element c =
    recoded _ _ _ _ _ _ c.put_element_update.ensures (ap (λ (p : KernelPlace). postfix_code c.args.store c.args.operator (place_tree p) c.args.usage c.args.at.level c.args.above) (sym c.in-Element.is))
