-- `put_digits` recurs on the tenth, whose digits come first.
use mathlib.Core.Path.{sym}
use native.Mathlib.Omega.{arith}
use lib.ListN.{length-set}
use Rattle.text_numbers.specs.NumberLaws.{digits_more, length-one, length_more}
use Rattle.text_numbers.specs.PutLaws.{put_one, put_as, put_byte}
use Rattle.text_numbers.proofs.digits.+put_digits.Goals as goal

pub overflow_cast-text : goal.overflow_cast-text
overflow_cast-text t c = omega (arith, c.if-n-lt10.true)

pub overflow_add-text : goal.overflow_add-text
overflow_add-text t c = omega (arith, c.if-n-lt10.true)

pub bounds-text-0 : goal.bounds-text-0
bounds-text-0 t c = omega (arith, c.requires, length-one _ c.if-n-lt10.true)

pub shape_of-text-then-n-lt10 : goal.shape_of-text-then-n-lt10
shape_of-text-then-n-lt10 t c = simp length-set

pub returns-then-n-lt10 : goal.returns-then-n-lt10
returns-then-n-lt10 t c = put_one _ _ c.if-n-lt10.true c.requires

pub put_digits-count-requires : goal.put_digits-count-requires
put_digits-count-requires t c = (omega arith, omega (arith, c.requires, length_more _ c.if-n-lt10.false))

pub bounds-text-count : goal.bounds-text-count
bounds-text-count t c = omega (arith, c.requires, length_more _ c.if-n-lt10.false, c.put_digits-count.ensures.size, c.put_digits-count.auto)

pub overflow_add-result : goal.overflow_add-result
overflow_add-result t c = omega (arith, c.requires, length_more _ c.if-n-lt10.false, c.put_digits-count.ensures.size)

pub shape_of-text : goal.shape_of-text
shape_of-text t c = simp length-set c.put_digits-count.auto.text

pub returns : goal.returns
returns t c = put_as (sym (digits_more _ c.if-n-lt10.false)) (put_byte c.put_digits-count.ensures _ (omega (arith, c.requires, length_more _ c.if-n-lt10.false)))
