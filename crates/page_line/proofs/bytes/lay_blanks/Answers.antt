-- `lay_blanks`: one blank after the other; the invariant is that as many are laid.
use native.Mathlib.Omega.{arith}
use mathlib.Core.Path.{◌≡◌, ap}
use Rattle.page.specs.Page.{blanks}
use Rattle.page_line.specs.LaidLaws.{laid_none, laid-to, laid_as, laid-byte, laid-length}
use Rattle.page_line.specs.PrintedLaws.{blanks-more}
use Rattle.page_line.proofs.bytes.lay_blanks.Goals as goal

pub loop-i-init : goal.loop-i-init
unfolding blanks
loop-i-init c =
    (omega arith, laid-to (omega arith) (laid_none c.args.text.now c.args.at (omega (arith, c.requires))))

pub overflow_add-text : goal.overflow_add-text
overflow_add-text c =
    omega (arith, c.requires, c.loop-i-test.true)

pub bounds-text-at : goal.bounds-text-at
bounds-text-at c =
    omega (arith, c.requires, c.loop-i-test.true, laid-length c.loop-i.invariant.1)

pub overflow_add-i : goal.overflow_add-i
overflow_add-i c =
    omega (arith, c.loop-i-test.true)

pub loop-i-smaller : goal.loop-i-smaller
loop-i-smaller c =
    omega (arith, c.loop-i-test.true)

pub loop-i-preserved : goal.loop-i-preserved
loop-i-preserved c =
    (omega (arith, c.loop-i-test.true), laid-to (omega arith) (laid_as (blanks-more c.loop-i.i) (laid-byte c.loop-i.invariant.1 32 (omega (arith, c.requires, c.loop-i-test.true)))))

pub overflow_add-result : goal.overflow_add-result
overflow_add-result c =
    omega (arith, c.requires, c.loop-i.invariant.0)

pub shape_of-text : goal.shape_of-text
shape_of-text c =
    laid-length c.loop-i.invariant.1

pub returns : goal.returns
returns c =
    let e : c.loop-i.i ≡ c.args.count = omega (arith, c.loop-i.invariant.0, c.loop-i-test.false) in
    laid_as (ap blanks e) c.loop-i.invariant.1
