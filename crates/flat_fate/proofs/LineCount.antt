-- A kernel program has fewer lines than rows.
use Rattle.std.specs.Prelude.{ℕ, zero, suc, ◌+◌, ◌≤◌, ◌<◌, Bool, true, false}
use Rattle.std.proofs.Common.{arith}
use Rattle.language.specs.Trees.{Statement, block, Items, none}
use Rattle.language.specs.Sizes.{statement_rows, items_rows}
use Rattle.translation.specs.KernelForm.{KernelStatement, kernel-empty, kernel-assign, kernel-block, kernel-if, kernel-while, kernel-goto, kernel-abort, kernel-return, KernelItems, kernel-none, kernel-then, kernel-label}
use Rattle.flat_fate.specs.Code.{operand_of, always, if_lines, while_lines, statement_lines, items_lines}

if-most : (p q : ℕ) → if_lines p q ≤ 2 + (p + q)
if-most zero zero = omega arith
if-most zero (suc q) = omega arith
if-most (suc p) zero = omega arith
if-most (suc p) (suc q) = omega arith

while-most : (b : Bool) (p : ℕ) → while_lines b p ≤ p + 2
while-most true p = omega arith
while-most false p = omega arith

mutual
  unfolding statement_lines statement_rows

  statement-few : {mayReturn : Bool} {ahead : Items} {s : Statement} → KernelStatement mayReturn ahead s → statement_lines s ≤ statement_rows s
  statement-few kernel-empty = omega arith
  statement-few (kernel-assign a) = omega arith
  statement-few (kernel-block k) = omega (arith, items-few k)
  statement-few (kernel-if {on_true = on_true} {on_false} a y n) = omega (arith, items-few y, items-few n, if-most (items_lines on_true) (items_lines on_false))
  statement-few (kernel-while {body = body} {e} a k) = omega (arith, items-few k, while-most (always (operand_of e)) (items_lines body))
  statement-few (kernel-goto b c) = omega arith
  statement-few kernel-abort = omega arith
  statement-few (kernel-return a) = omega arith

  items-few : {mayReturn : Bool} {ahead is : Items} → KernelItems mayReturn ahead is → items_lines is ≤ items_rows is
  items-few kernel-none = omega arith
  items-few (kernel-then k ks) = omega (arith, statement-few k, items-few ks)
  items-few (kernel-label b ks) = omega (arith, items-few ks)

-- So at most 40,979 lines come from a legal kernel program.
pub lines-below-rows : (contents : Items) → KernelItems false none contents → items_lines contents < statement_rows (block contents)
unfolding statement_rows
lines-below-rows contents k = omega (arith, items-few k)
