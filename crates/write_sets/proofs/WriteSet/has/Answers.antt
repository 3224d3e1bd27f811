-- The bit where that of a name's word stands.
use mathlib.Core.Path.{ap, ◌∙◌}
use Rattle.write_sets.specs.Sets.{bit_at, member}
use Rattle.write_sets.specs.SetLaws.{place-below}
use Rattle.write_sets.specs.declared.Bit.{Bit}
use Rattle.write_sets.proofs.WriteSet.has.Goals as goal

pub has_bit-requires : goal.has_bit-requires
has_bit-requires c = place-below c.args.store c.args.i c.bit_of.ensures

pub returns : goal.returns
unfolding member
returns c = c.has_bit.ensures ∙ ap (λ (at : Bit). bit_at c.args.self at) c.bit_of.ensures
