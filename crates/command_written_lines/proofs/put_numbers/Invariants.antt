-- `put_numbers`: one number after the other; the invariant is `Listed`.
use Rattle.command_written_lines.specs.Lines.{bits_of, is_in}
use Rattle.command_written_lines.proofs.NumberLaws.{Listed}
use Rattle.command_written_lines.proofs.put_numbers.Given as goal

abbrev pub invariant-loop-i : goal.invariant-loop-i
invariant-loop-i l = Listed (is_in l.set l.arrays l.sort) (bits_of l.sort) l.i l.at l.initial.text l.text
