-- `put_if`: four shapes, by which branch has lines.
use Prim.Native.Nat.{◌+◌, ◌*◌, ◌≤◌}
use native.Mathlib.Omega.{arith}
use lib.ListN.{length}
use Rattle.language.specs.Decode.{expression_at}
use Rattle.flat_fate.specs.Code.{operand_of}
use Rattle.flat_sizes.specs.Numbers.{lines-second, lines-first, lines-both}
use Rattle.flat_lines.specs.Puts.{if-neither, if-second, if-first, if-both}
use borrow.Author.Rules.{rules}
use Rattle.flat_lines.proofs.tests.put_if.Reads as reads
use Rattle.flat_lines.proofs.tests.put_if.Lts as lts
use Rattle.flat_lines.proofs.lines.put_jump.Reads as put-jump-reads
use Rattle.flat_lines.proofs.lines.put_test.Reads as put-test-reads
use Rattle.flat_lines.proofs.tests.put_if.Goals as goal

pub returns-then-no-eq0 : goal.returns-then-no-eq0
returns-then-no-eq0 c =
    let s = c.args in
    if-neither (operand_of (expression_at s.rows.now s.test)) s.out.now s.yes s.no s.line c.if-yes-eq0.true c.if-no-eq0.true

pub overflow_add-no : goal.overflow_add-no
overflow_add-no c =
    omega (arith, c.requires.4, lines-second _ _ c.if-yes-eq0.true c.if-no-eq0.false)

pub overflow_add-line : goal.overflow_add-line
overflow_add-line c =
    omega (arith, c.requires.4, lines-second _ _ c.if-yes-eq0.true c.if-no-eq0.false)

pub put_test-requires : goal.put_test-requires
put_test-requires c =
    let s = c.args in
    let size = lines-second _ _ c.if-yes-eq0.true c.if-no-eq0.false in
    let room : 5 * s.line + 5 ≤ length s.out.now = omega (arith, c.requires.3, size) in
    (c.requires.0, c.requires.1, c.requires.2, room, omega arith, omega (arith, c.requires.4, size), omega (arith, c.requires.4, size))

pub returns-then-yes-eq0 : goal.returns-then-yes-eq0
returns-then-yes-eq0 c =
    let s = c.args in
    if-second (operand_of (expression_at s.rows.now s.test)) s.out.now _ s.yes s.no s.line c.if-yes-eq0.true c.if-no-eq0.false c.put_test.ensures

pub overflow_add-yes : goal.overflow_add-yes
overflow_add-yes c =
    omega (arith, c.requires.4, lines-first _ _ c.if-yes-eq0.false c.if-no-eq0-2.true)

pub overflow_add-line-then-no-eq0-2 : goal.overflow_add-line-then-no-eq0-2
overflow_add-line-then-no-eq0-2 c =
    omega (arith, c.requires.4, lines-first _ _ c.if-yes-eq0.false c.if-no-eq0-2.true)

pub put_test-requires-then-no-eq0-2 : goal.put_test-requires-then-no-eq0-2
put_test-requires-then-no-eq0-2 c =
    let s = c.args in
    let size = lines-first _ _ c.if-yes-eq0.false c.if-no-eq0-2.true in
    let room : 5 * s.line + 5 ≤ length s.out.now = omega (arith, c.requires.3, size) in
    (c.requires.0, c.requires.1, c.requires.2, room, omega arith, omega (arith, c.requires.4, size), omega (arith, c.requires.4, size))

pub returns-then-no-eq0-2 : goal.returns-then-no-eq0-2
returns-then-no-eq0-2 c =
    let s = c.args in
    if-first (operand_of (expression_at s.rows.now s.test)) s.out.now _ s.yes s.no s.line c.if-yes-eq0.false c.if-no-eq0-2.true c.put_test-then-no-eq0-2.ensures

pub overflow_add-yes-2 : goal.overflow_add-yes-2
overflow_add-yes-2 c =
    omega (arith, c.requires.4, lines-both _ _ c.if-yes-eq0.false c.if-no-eq0-2.false)

pub overflow_add-line-2 : goal.overflow_add-line-2
overflow_add-line-2 c =
    omega (arith, c.requires.4, lines-both _ _ c.if-yes-eq0.false c.if-no-eq0-2.false)

pub put_test-requires-2 : goal.put_test-requires-2
put_test-requires-2 c =
    let s = c.args in
    let size = lines-both _ _ c.if-yes-eq0.false c.if-no-eq0-2.false in
    let room : 5 * s.line + 5 ≤ length s.out.now = omega (arith, c.requires.3, size) in
    (c.requires.0, c.requires.1, c.requires.2, room, omega arith, omega (arith, c.requires.4, size), omega (arith, c.requires.4, size))

pub overflow_add-line-4 : goal.overflow_add-line-4
overflow_add-line-4 c =
    omega (arith, c.requires.4, lines-both _ _ c.if-yes-eq0.false c.if-no-eq0-2.false)

pub overflow_add-yes-3 : goal.overflow_add-yes-3
overflow_add-yes-3 c =
    omega (arith, c.requires.4, lines-both _ _ c.if-yes-eq0.false c.if-no-eq0-2.false)

pub overflow_add-yes-4 : goal.overflow_add-yes-4
overflow_add-yes-4 c =
    omega (arith, c.requires.4, lines-both _ _ c.if-yes-eq0.false c.if-no-eq0-2.false)

pub overflow_add-line-5 : goal.overflow_add-line-5
overflow_add-line-5 c =
    omega (arith, c.requires.4, lines-both _ _ c.if-yes-eq0.false c.if-no-eq0-2.false)

pub put_jump-requires : goal.put_jump-requires
put_jump-requires c =
    let s = c.args in
    let size = lines-both _ _ c.if-yes-eq0.false c.if-no-eq0-2.false in
    let room : 5 * (s.line + 1 + s.yes) + 5 ≤ length c.put_test-2.new.out = omega (arith, c.requires.3, size, c.put_test-2.auto.out) in
    (room, omega (arith, c.requires.4, size), omega (arith, c.requires.4, size))

pub returns : goal.returns
returns c =
    let s = c.args in
    if-both (operand_of (expression_at s.rows.now s.test)) s.out.now _ _ s.yes s.no s.line c.if-yes-eq0.false c.if-no-eq0-2.false c.put_test-2.ensures c.put_jump.ensures
