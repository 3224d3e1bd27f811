-- `store_size` sums the variables and the lengths. Its requires bounds the sum.
use native.Mathlib.Omega.{arith}
use lib.IntN.{pos}
use lib.ListN.{get_or}
use Rattle.words.specs.Laws.{HeaderFits, leading-limits, header_fits-facts}
use Rattle.words.proofs.Signed.{natural-again}
use Rattle.words.proofs.Lengths.{size_is}
use Rattle.words.proofs.layout.store_size.Goals as goal
use Rattle.words.proofs.layout.store_size.Goals.{Start}

fits : (s : Start) → HeaderFits s.args.form s.args.header.now
fits s = header_fits-facts s.args.form s.args.header.now s.requires

pub offset_bounds-header-first : goal.offset_bounds-header-first
offset_bounds-header-first c = omega (arith, leading-limits c.args.form)

pub slice_bounds-sum_of-count : goal.slice_bounds-sum_of-count
slice_bounds-sum_of-count c = omega (arith, (fits (goal.at.slice_bounds-sum_of-count c).Start).least)

pub slice_bounds-sum_of-start : goal.slice_bounds-sum_of-start
slice_bounds-sum_of-start c = slice_bounds-sum_of-count c

pub sum_of-total-requires : goal.sum_of-total-requires
sum_of-total-requires c =
    let s = c.before.before in
    let f = c.leading-first in
    omega (arith, size_is s.args.form s.args.header.now f.result f.ensures, (fits (goal.at.sum_of-total-requires c).Start).small_store)

pub bounds-header-0 : goal.bounds-header-0
bounds-header-0 c =
    let s = c.before.before.before in
    omega (arith, leading-limits s.args.form, (fits (goal.at.bounds-header-0 c).Start).least)

pub returns : goal.returns
returns c =
    let s = c.before.before.before.before.before in
    let f = c.leading-first in
    let variables = natural-again (get_or s.args.header.now 0 (pos 0)) _ c.natural-arg-1.given c.natural.ensures in
    omega (arith, c.sum_of-total.ensures, size_is s.args.form s.args.header.now f.result f.ensures)

pub overflow_add-result : goal.overflow_add-result
overflow_add-result c = omega (arith, returns c, (fits (goal.at.overflow_add-result c).Start).small_store)
