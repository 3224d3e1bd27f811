-- `is_wrong_count` compares the two lists.
use native.Mathlib.Omega.{arith}
use Rattle.check_structure.specs.LinkLaws.{part-inside}
use Rattle.check_function_causes.specs.Causes.{wrong_count}
use borrow.Author.Rules.{rules}
use Rattle.check_functions.proofs.calls.is_wrong_count.Goals as goal

pub same_length-requires : goal.same_length-requires
same_length-requires c =
    (c.requires.0, part-inside _ c.requires.0 _ 2 _ c.requires.2 (omega arith) c.link-arguments.ensures, part-inside _ c.requires.0 _ 2 _ c.requires.1 (omega arith) c.link-parameters.ensures)

pub returns : goal.returns
unfolding wrong_count
returns c =
    rw (← c.link-arguments.ensures, ← c.link-parameters.ensures, ← c.same_length.ensures)
