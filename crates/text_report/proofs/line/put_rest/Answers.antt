-- `put_rest`: the words, and a newline behind them.
use native.Mathlib.Omega.{arith}
use lib.ListN.{length-set}
use Rattle.text_numbers.specs.PutLaws.{put_byte}
use Rattle.text_report.proofs.line.put_rest.Goals as goal

pub put_words-end-requires : goal.put_words-end-requires
put_words-end-requires c = omega (arith, c.requires)

pub bounds-text-end : goal.bounds-text-end
bounds-text-end c = omega (arith, c.put_words-end.ensures.upper_bound, c.put_words-end.auto.text, c.requires)

pub overflow_add-result : goal.overflow_add-result
overflow_add-result c = omega (arith, c.put_words-end.ensures.upper_bound, c.requires, c.well_formed)

pub shape_of-text : goal.shape_of-text
shape_of-text c = simp length-set c.put_words-end.auto.text

pub returns : goal.returns
returns c = record { put = put_byte c.put_words-end.ensures.put 10 (omega (arith, c.put_words-end.ensures.put.size, c.put_words-end.ensures.upper_bound, c.requires)); upper_bound = omega (arith, c.put_words-end.ensures.upper_bound) }
