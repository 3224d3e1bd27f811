-- `put_digits` recurs on the tenth, whose digits come first.
use Rattle.text_numbers.proofs.digits.+put_digits.Given as goal

abbrev pub decreases-put_digits : goal.decreases-put_digits
decreases-put_digits l = l.n
