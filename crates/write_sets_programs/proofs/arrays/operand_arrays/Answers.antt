-- What the linked expressions write.
use mathlib.Core.Path.{sym}
use Rattle.write_sets_programs.proofs.arrays.operand_arrays.Goals as goal

pub linked-requires : goal.linked-requires
linked-requires c = c.requires.second

pub linked-requires-2 : goal.linked-requires-2
linked-requires-2 c = c.requires.third

pub linked-requires-3 : goal.linked-requires-3
linked-requires-3 c = c.requires.first

pub returns : goal.returns
returns c = rw (sym c.linked.ensures, sym c.linked-2.ensures, sym c.linked-3.ensures, sym c.join_arrays-later.ensures) c.join_arrays.ensures
