-- `columns`: a number below ten to the k has k digits.
use native.Mathlib.Omega.{arith}
use Prim.Native.Nat.{◌/◌}
use Rattle.text_numbers.specs.NumberLaws.{length-one, length_more}
use Rattle.page_line.proofs.bytes.columns.Goals as goal

pub returns-then-number-lt10 : goal.returns-then-number-lt10
returns-then-number-lt10 c =
    omega (arith, length-one c.args.number c.if-number-lt10.true)

pub returns-then-number-lt100 : goal.returns-then-number-lt100
returns-then-number-lt100 c =
    let n = c.args.number in
    omega (arith, length_more n c.if-number-lt10.false, length-one (n / 10) (omega (arith, c.if-number-lt100.true)))

pub returns-then-number-lt1000 : goal.returns-then-number-lt1000
returns-then-number-lt1000 c =
    let n = c.args.number in
    omega (arith, length_more n c.if-number-lt10.false, length_more (n / 10) (omega (arith, c.if-number-lt100.false)), length-one (n / 10 / 10) (omega (arith, c.if-number-lt1000.true)))

pub returns-then-number-lt10000 : goal.returns-then-number-lt10000
returns-then-number-lt10000 c =
    let n = c.args.number in
    omega (arith, length_more n c.if-number-lt10.false, length_more (n / 10) (omega (arith, c.if-number-lt100.false)), length_more (n / 10 / 10) (omega (arith, c.if-number-lt1000.false)), length-one (n / 10 / 10 / 10) (omega (arith, c.if-number-lt10000.true)))

pub returns : goal.returns
returns c =
    let n = c.args.number in
    omega (arith, length_more n c.if-number-lt10.false, length_more (n / 10) (omega (arith, c.if-number-lt100.false)), length_more (n / 10 / 10) (omega (arith, c.if-number-lt1000.false)), length_more (n / 10 / 10 / 10) (omega (arith, c.if-number-lt10000.false)), length-one (n / 10 / 10 / 10 / 10) (omega (arith, c.requires)))
