-- An update, by the place: one assignment to a variable, or an element's update.
use mathlib.Core.Path.{sym, ap, subst}
use native.Mathlib.Omega.{arith}
use Rattle.translation.specs.Translate.{update_code}
use Rattle.translation.specs.TranslateSize.{update_rows}
use Rattle.writers_rows.specs.Atoms.{atom_tree, place_tree, PlaceFits}
use Rattle.writers_rows.specs.Chain.{room-less}
use Rattle.writers_rows.specs.LeafLaws.{recoded}
use Rattle.writers_rows.specs.declared.KernelPlace.{KernelPlace}
use Rattle.writers_steps.proofs.straight.put_update.Goals as goal

pub put_binary-requires : goal.put_binary-requires
put_binary-requires c =
    let low = subst (λ (p : KernelPlace). PlaceFits p) c.in-Variable.is c.requires.1 in
    (room-less 6 c.requires.0 (omega (arith, ap (λ (p : KernelPlace). update_rows (place_tree p)) c.in-Variable.is)), low, low, c.requires.2)

pub put_element_update-requires : goal.put_element_update-requires
put_element_update-requires c =
    let low = subst (λ (p : KernelPlace). PlaceFits p) c.in-Element.is c.requires.1 in
    (room-less 16 c.requires.0 (omega (arith, ap (λ (p : KernelPlace). update_rows (place_tree p)) c.in-Element.is)), low.0, low.1, c.requires.2, c.requires.4, c.requires.3)

pub returns-in-Variable : goal.returns-in-Variable
returns-in-Variable c =
    recoded _ _ _ _ _ _ c.put_binary.ensures (ap (λ (p : KernelPlace). update_code c.args.store c.args.operator (place_tree p) (atom_tree c.args.operand) c.args.at.level c.args.above) (sym c.in-Variable.is))

pub returns-in-Element : goal.returns-in-Element
returns-in-Element c =
    recoded _ _ _ _ _ _ c.put_element_update.ensures (ap (λ (p : KernelPlace). update_code c.args.store c.args.operator (place_tree p) (atom_tree c.args.operand) c.args.at.level c.args.above) (sym c.in-Element.is))
