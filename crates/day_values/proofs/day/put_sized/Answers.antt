-- `put_sized`: a line of so many numbers has room.
use native.Mathlib.Omega.{arith}
use Rattle.day_values.proofs.Printing.{line-fits, line-size}
use borrow.Author.Rules.{rules}
use Rattle.day_values.proofs.day.put_sized.Goals as goal

pub put_line-requires : goal.put_line-requires
put_line-requires c =
    record { words_nonzero = c.requires.numbers_nonzero; words_in_bounds = line-fits c.size_of-size.ensures c.requires.numbers_nonzero c.requires.numbers_len_bound _ c.requires.line_room_in_bounds }

pub returns : goal.returns
returns c = record { put = record { size = line-size c.size_of-size.ensures c.requires.numbers_nonzero; written = c.put_line.ensures.written }; upper_bound = omega (arith, c.size_of-size.ensures.most, c.requires.numbers_len_bound) }
