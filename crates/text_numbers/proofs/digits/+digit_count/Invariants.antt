-- `digit_count` recurs on the tenth.
use Rattle.text_numbers.proofs.digits.+digit_count.Given as goal

abbrev pub decreases-digit_count : goal.decreases-digit_count
decreases-digit_count l = l.n
