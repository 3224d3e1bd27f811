-- One bit in one of the five words, or none.
use Rattle.write_sets.specs.SetLaws.{place-below, single-words, one-bit}
use Rattle.write_sets.proofs.WriteSet.single.Goals as goal

pub overflow_shl-bit : goal.overflow_shl-bit
overflow_shl-bit c = place-below c.args.store c.args.i c.bit_of-at.ensures

pub returns : goal.returns
returns c = single-words c.args.store c.args.i c.bit_of-at.ensures (one-bit (place-below c.args.store c.args.i c.bit_of-at.ensures)) c.bit_in.ensures c.bit_in-2.ensures c.bit_in-3.ensures c.bit_in-4.ensures c.bit_in-5.ensures
