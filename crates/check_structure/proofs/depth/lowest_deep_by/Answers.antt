-- `lowest_deep_by` walks down from row 0; every row of a tree is below it.
use native.Mathlib.Omega.{arith}
use Rattle.check_structure.specs.DepthLaws.{depth-root}
use Rattle.check_structure.proofs.Walk.{limit-most, deep-found, deep_none}
use borrow.Author.Rules.{rules}
use Rattle.check_structure.proofs.depth.lowest_deep_by.Goals as goal

pub lowest_deep-found-requires : goal.lowest_deep-found-requires
lowest_deep-found-requires c =
    (c.requires, limit-most c.args.form _ c.depth_limit.ensures, c.requires.some_rows, omega arith, depth-root _)

pub returns-then-found-rows : goal.returns-then-found-rows
returns-then-found-rows c =
    deep-found _ c.requires _ _ (rw c.depth_limit.ensures at c.lowest_deep-found.ensures) c.if-found-rows.true

pub returns : goal.returns
returns c =
    deep_none _ c.requires _ _ (rw c.depth_limit.ensures at c.lowest_deep-found.ensures) c.if-found-rows.false
