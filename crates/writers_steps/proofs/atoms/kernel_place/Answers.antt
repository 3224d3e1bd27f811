-- The place at a row.
use Rattle.writers_steps.specs.AtomLaws.{place_inside, place_found}
use Rattle.writers_steps.proofs.atoms.kernel_place.Goals as goal

pub held_place-requires : goal.held_place-requires
held_place-requires c = (c.requires.0, place_inside _ c.place_at-place.ensures, c.requires.2)

pub returns : goal.returns
returns c = place_found c.place_at-place.ensures c.held_place.ensures
