-- `fill_functions` walks the definitions. The invariant: the rows of those before the row are in the room. The measure is the room left.
use mathlib.Core.Path.{refl, sym, ◌∙◌}
use native.Mathlib.Omega.{arith}
use Rattle.machine_flows.proofs.Items.{next-asks}
use Rattle.machine_flows.proofs.Definitions.{first-asks, placing-first, placing-here, placing-inside, placing-next, placing-last}
use Rattle.machine_flows.proofs.functions.fill_functions.Goals as goal

pub link_at-at-requires : goal.link_at-at-requires
link_at-at-requires c = first-asks c.requires.0.table

pub loop-k-init : goal.loop-k-init
loop-k-init c = placing-first c.requires.0 c.link_at-at.ensures c.requires.1 refl

pub bounds-room-k : goal.bounds-room-k
bounds-room-k c = placing-inside c.requires.0 c.loop-k.invariant c.loop-k-test.true refl

pub link_at-at-requires-in-loop-k : goal.link_at-at-requires-in-loop-k
link_at-at-requires-in-loop-k c = next-asks (placing-here c.requires.0 c.loop-k.invariant c.loop-k-test.true refl)

pub loop-k-preserved : goal.loop-k-preserved
loop-k-preserved c = placing-next c.requires.0 c.loop-k.invariant c.loop-k-test.true refl c.link_at-at-in-loop-k.ensures

pub shape_of-room : goal.shape_of-room
shape_of-room c = c.loop-k.invariant.size ∙ sym c.requires.1

pub returns : goal.returns
returns c = placing-last c.requires.0 c.loop-k.invariant (omega (arith, c.loop-k-test.false))
