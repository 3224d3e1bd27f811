-- `decimal` passes the digits one by one; the invariant is `Valued`.
use Rattle.text_numbers.proofs.Decimal.{Valued}
use Rattle.text_numbers.proofs.number.decimal.Given as goal

abbrev pub invariant-loop-byte : goal.invariant-loop-byte
invariant-loop-byte l = Valued l.limit l.bytes l.value l.byte-index
