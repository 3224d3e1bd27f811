-- `header_fits` makes the tests of its definition in order.
use mathlib.Core.Path.{◌≡◌}
use native.Mathlib.Omega.{arith}
use lib.IntN.{pos}
use lib.ListN.{get_or}
use borrow.Author.Tests.{le-leb, lt-leb}
use Rattle.words.specs.Word.{natural}
use Rattle.words.specs.Layout.{layout_of, store_size, header_fits}
use Rattle.words.specs.Laws.{leading-limits}
use Rattle.words.proofs.Signed.{natural-again}
use Rattle.words.proofs.Lengths.{part}
use Rattle.words.proofs.layout.header_fits.Goals as goal
use Rattle.words.proofs.layout.header_fits.Goals.{After-natural-variables}

variables : (c : After-natural-variables) → c.natural-variables.result ≡ natural (get_or c.args.header.now 0 (pos 0))
variables c = natural-again _ _ c.natural-arg-1.given c.natural-variables.ensures

pub returns-then-n-first : goal.returns-then-n-first
unfolding header_fits
returns-then-n-first c = rw (← c.leading-first.ensures, lt-leb _ _ c.if-n-first.true)

pub returns-then-n-first-2 : goal.returns-then-n-first-2
unfolding header_fits
returns-then-n-first-2 c =
    let p = c.before in
    rw (← p.leading-first.ensures, le-leb _ _ p.if-n-first.false, lt-leb _ _ c.if-n-first-2.true)

pub bounds-header-0 : goal.bounds-header-0
bounds-header-0 c = omega (arith, leading-limits c.args.form)

pub returns-then-variables-gt256 : goal.returns-then-variables-gt256
unfolding header_fits layout_of
returns-then-variables-gt256 c =
    let two = c.before.before.before in
    let one = two.before in
    rw (← one.leading-first.ensures, le-leb _ _ one.if-n-first.false, le-leb _ _ two.if-n-first-2.false, ← variables (goal.at.returns-then-variables-gt256 c).After-natural-variables, lt-leb _ _ c.if-variables-gt256.true)

pub returns-then-declared-gt64 : goal.returns-then-declared-gt64
unfolding header_fits layout_of
returns-then-declared-gt64 c =
    let three = c.before.before in
    let two = three.before.before.before in
    let one = two.before in
    rw (← one.leading-first.ensures, le-leb _ _ one.if-n-first.false, le-leb _ _ two.if-n-first-2.false, ← variables (goal.at.returns-then-declared-gt64 c).After-natural-variables, le-leb _ _ three.if-variables-gt256.false, ← c.declared.ensures, lt-leb _ _ c.if-declared-gt64.true)

pub returns-then-temporaries-gt8192 : goal.returns-then-temporaries-gt8192
unfolding header_fits layout_of
returns-then-temporaries-gt8192 c =
    let four = c.before.before in
    let three = four.before.before in
    let two = three.before.before.before in
    let one = two.before in
    rw (← one.leading-first.ensures, le-leb _ _ one.if-n-first.false, le-leb _ _ two.if-n-first-2.false, ← variables (goal.at.returns-then-temporaries-gt8192 c).After-natural-variables, le-leb _ _ three.if-variables-gt256.false, ← four.declared.ensures, le-leb _ _ four.if-declared-gt64.false, ← c.temporaries.ensures, lt-leb _ _ c.if-temporaries-gt8192.true)

pub returns : goal.returns
unfolding header_fits layout_of store_size
returns c =
    let five = c.before.before in
    let four = five.before.before in
    let three = four.before.before in
    let two = three.before.before.before in
    let one = two.before in
    let s = one.before.before in
    rw (← one.leading-first.ensures, le-leb _ _ one.if-n-first.false, le-leb _ _ two.if-n-first-2.false, ← variables (goal.at.returns c).After-natural-variables, le-leb _ _ three.if-variables-gt256.false, ← four.declared.ensures, le-leb _ _ four.if-declared-gt64.false, ← five.temporaries.ensures, le-leb _ _ five.if-temporaries-gt8192.false)
    (rw (part s.args.header.now one.leading-first.result) at c.lengths_fit.ensures)
