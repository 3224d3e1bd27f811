-- `scan`: line by line; the invariant is `Scanning`.
use mathlib.Core.Path.{◌≡◌, sym, ap, ◌∙◌}
use Prim.Native.Nat.{◌-◌}
use native.Mathlib.Omega.{arith}
use lib.ListN.{length}
use borrow.Author.Rules.{rules}
use Rattle.page_scan.proofs.Scanning.{Scanning, slice-long, scanning-start, scanning-end, wrong-line, wrong-block, scanning-next}
use Rattle.page_scan.proofs.scan.Goals as goal

pub loop-k-init : goal.loop-k-init
loop-k-init c =
    (scanning-start _ _ _ _ c.line_count-count.ensures, search rules)

pub overflow_add-number : goal.overflow_add-number
overflow_add-number c =
    omega (arith, c.loop-k-test.true, c.loop-k.invariant.0.few)

pub overflow_mul-at : goal.overflow_mul-at
overflow_mul-at c =
    omega (arith, c.loop-k-test.true, c.loop-k.invariant.0.few)

pub overflow_add-end : goal.overflow_add-end
overflow_add-end c =
    omega (arith, c.loop-k-test.true, c.loop-k.invariant.0.few)

pub overflow_cast-k : goal.overflow_cast-k
overflow_cast-k c =
    omega (arith, c.loop-k-test.true, c.loop-k.invariant.0.few)

pub overflow_add-k : goal.overflow_add-k
overflow_add-k c =
    omega (arith, c.loop-k-test.true, c.loop-k.invariant.0.few)

pub slice_bounds-line_in-end : goal.slice_bounds-line_in-end
slice_bounds-line_in-end c =
    omega (arith, c.loop-k-test.true, c.loop-k.invariant.0.whole)

pub line_in-read-requires : goal.line_in-read-requires
line_in-read-requires c =
    slice-long c.args.page.now c.loop-k.k (omega (arith, c.loop-k-test.true, c.loop-k.invariant.0.whole))

pub returns-in_default : goal.returns-in_default
returns-in_default c =
    wrong-line c.loop-k.invariant.0 c.loop-k-test.true c.line_in-read.result c.line_in-read.ensures c.in_default.is

pub pass_line-next-requires : goal.pass_line-next-requires
pass_line-next-requires c =
    (omega (arith, c.loop-k-test.true, c.loop-k.invariant.0.few, c.loop-k.invariant.0.deep), c.loop-k.invariant.1)

pub returns-in_default-next : goal.returns-in_default-next
returns-in_default-next c =
    wrong-block c.loop-k.invariant.0 c.loop-k-test.true c.line_in-read.result c.line_in-read.ensures c.in-Some.line c.in-Some.is (rw c.in_default-next.is at c.pass_line-next.ensures.around_after)

pub overflow_add-rows : goal.overflow_add-rows
overflow_add-rows c =
    omega (arith, c.rows_of-rows.ensures.upper_bound, c.loop-k.invariant.0.low, c.loop-k.invariant.0.inside, c.loop-k.invariant.0.few)

pub loop-k-smaller : goal.loop-k-smaller
loop-k-smaller c =
    omega (arith, c.loop-k-test.true)

pub loop-k-preserved : goal.loop-k-preserved
loop-k-preserved c =
    (scanning-next c.loop-k.invariant.0 c.loop-k-test.true c.line_in-read.result c.line_in-read.ensures c.in-Some.line c.in-Some.is _ _ _ _ (rw c.in-Some-next.is at c.pass_line-next.ensures.around_after) (rw c.in-Some-next.is at c.pass_line-next.ensures.result_bound.0) c.rows_of-rows.ensures.value c.rows_of-rows.ensures.upper_bound, c.pass_line-next.ensures.result_bound.1)

pub overflow_mul-k : goal.overflow_mul-k
overflow_mul-k c =
    omega (arith, c.loop-k.invariant.0.inside, c.loop-k.invariant.0.few)

pub overflow_add-k-2 : goal.overflow_add-k-2
overflow_add-k-2 c =
    omega (arith, c.loop-k.invariant.0.inside, c.loop-k.invariant.0.few)

pub returns : goal.returns
returns c =
    c.end.ensures ∙ scanning-end c.loop-k.invariant.0 c.loop-k-test.false
