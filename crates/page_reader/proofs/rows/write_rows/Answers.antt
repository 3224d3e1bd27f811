-- `write_rows`: from the last line to the first; the invariant is `Passing`.
use mathlib.Core.Path.{◌≡◌}
use Prim.Native.Nat.{◌-◌}
use native.Mathlib.Omega.{arith}
use lib.ListN.{length}
use borrow.Author.Rules.{rules}
use Rattle.page_reader.proofs.Passing.{Passing, slice-long, passing-start, passing-room, passing-end, line-inside, shallow, passing-skip, rows-left, line-fits, row_low, row_inside, line-room, passing-next}
use Rattle.page_reader.proofs.rows.write_rows.Goals as goal

pub loop-k-init : goal.loop-k-init
loop-k-init c =
    (passing-start _ _ _ _ _ _ _ c.requires c.line_count-k.ensures, search rules)

pub overflow_sub-k : goal.overflow_sub-k
overflow_sub-k c =
    omega (arith, c.loop-k-test.true)

pub overflow_mul-start : goal.overflow_mul-start
overflow_mul-start c =
    omega (arith, c.loop-k-test.true, c.loop-k.invariant.0.inside, c.loop-k.invariant.0.all)

pub overflow_add-end : goal.overflow_add-end
overflow_add-end c =
    omega (arith, c.loop-k-test.true, c.loop-k.invariant.0.inside, c.loop-k.invariant.0.all)

pub slice_bounds-statement_in-end : goal.slice_bounds-statement_in-end
slice_bounds-statement_in-end c =
    line-inside c.loop-k.invariant.0 c.loop-k-test.true

pub statement_in-read-requires : goal.statement_in-read-requires
statement_in-read-requires c =
    slice-long c.args.page.now (c.loop-k.k - 1) (line-inside c.loop-k.invariant.0 c.loop-k-test.true)

pub loop-k-smaller-in_default : goal.loop-k-smaller-in_default
loop-k-smaller-in_default c =
    omega (arith, c.loop-k-test.true)

pub loop-k-preserved-in_default : goal.loop-k-preserved-in_default
loop-k-preserved-in_default c =
    (passing-skip c.loop-k.invariant.0 c.loop-k-test.true c.statement_in-read.result c.statement_in-read.ensures c.in_default.is, c.loop-k.invariant.1)

pub overflow_sub-base : goal.overflow_sub-base
overflow_sub-base c =
    omega (arith, c.rows_of-base.ensures.value, rows-left c.loop-k.invariant.0 c.loop-k-test.true c.statement_in-read.result c.statement_in-read.ensures c.in-Some.line c.in-Some.is)

pub waiting_row-first-requires : goal.waiting_row-first-requires
waiting_row-first-requires c =
    (omega (arith, shallow c.loop-k.invariant.0 c.loop-k-test.true), c.loop-k.invariant.1)

pub waiting_row-second-requires : goal.waiting_row-second-requires
waiting_row-second-requires c =
    (omega (arith, shallow c.loop-k.invariant.0 c.loop-k-test.true), c.loop-k.invariant.1)

pub overflow_mul-at : goal.overflow_mul-at
overflow_mul-at c =
    omega (arith, row_low c.loop-k.invariant.0 c.loop-k-test.true c.statement_in-read.result c.statement_in-read.ensures c.in-Some.line c.in-Some.is c.rows_of-base.result c.rows_of-base.ensures.value)

pub offset_bounds-rows-at : goal.offset_bounds-rows-at
offset_bounds-rows-at c =
    omega (arith, row_low c.loop-k.invariant.0 c.loop-k-test.true c.statement_in-read.result c.statement_in-read.ensures c.in-Some.line c.in-Some.is c.rows_of-base.result c.rows_of-base.ensures.value)

pub slice_bounds-put_line-count : goal.slice_bounds-put_line-count
slice_bounds-put_line-count c =
    row_inside c.loop-k.invariant.0 c.loop-k-test.true c.statement_in-read.result c.statement_in-read.ensures c.in-Some.line c.in-Some.is c.rows_of-base.result c.rows_of-base.ensures.value

pub put_line-requires : goal.put_line-requires
put_line-requires c =
    (line-room c.loop-k.invariant.0 c.loop-k-test.true c.statement_in-read.result c.statement_in-read.ensures c.in-Some.line c.in-Some.is c.rows_of-base.result c.rows_of-base.ensures.value, c.loop-k.invariant.0.counted.small_sizes, c.waiting_row-first.ensures.1, c.waiting_row-second.ensures.1, line-fits c.loop-k.invariant.0 c.loop-k-test.true c.statement_in-read.result c.statement_in-read.ensures c.in-Some.line c.in-Some.is)

pub left_before-left-requires : goal.left_before-left-requires
left_before-left-requires c =
    (row_low c.loop-k.invariant.0 c.loop-k-test.true c.statement_in-read.result c.statement_in-read.ensures c.in-Some.line c.in-Some.is c.rows_of-base.result c.rows_of-base.ensures.value, shallow c.loop-k.invariant.0 c.loop-k-test.true, c.loop-k.invariant.1)

pub loop-k-smaller : goal.loop-k-smaller
loop-k-smaller c =
    omega (arith, c.loop-k-test.true)

pub loop-k-preserved : goal.loop-k-preserved
loop-k-preserved c = (
  passing-next c.loop-k.invariant.0 c.loop-k-test.true c.statement_in-read.result c.statement_in-read.ensures c.in-Some.line c.in-Some.is c.rows_of-base.result c.rows_of-base.ensures.value
      _ c.waiting_row-first.result c.waiting_row-second.result _ _ _ c.put_line.ensures c.waiting_row-first.ensures.0 c.waiting_row-second.ensures.0 c.left_before-left.ensures.waiting_after c.left_before-left.ensures.depth_bound.0,
  c.left_before-left.ensures.depth_bound.1,
)

pub put_block_row-requires : goal.put_block_row-requires
put_block_row-requires c =
    (passing-room c.loop-k.invariant.0 (omega (arith, c.loop-k-test.false)), omega arith)

pub returns : goal.returns
returns c =
    passing-end c.loop-k.invariant.0 (omega (arith, c.loop-k-test.false)) _ c.put_block_row.ensures
