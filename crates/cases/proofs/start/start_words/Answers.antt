-- `start_words`: the numbers counted fit the store.
use native.Mathlib.Omega.{arith}
use Rattle.text_lines.specs.CountLaws.{counted-fits}
use Rattle.cases.proofs.start.start_words.Goals as goal

pub store_numbers-requires : goal.store_numbers-requires
store_numbers-requires c = counted-fits _ _ _ _ c.count_numbers-count.ensures c.in-Some.is (omega (arith, c.if-n-store.false))
