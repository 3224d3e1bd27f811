-- `put_while`: two shapes, by whether the test always holds.
use mathlib.Core.Path.{◌≡◌, sym, ◌∙◌}
use mathlib.Core.Bool.{true, false}
use Prim.Native.Nat.{◌+◌, ◌*◌, ◌≤◌}
use native.Mathlib.Omega.{arith}
use lib.ListN.{length}
use Rattle.language.specs.Decode.{expression_at}
use Rattle.flat_fate.specs.Code.{operand_of, always}
use Rattle.flat_sizes.specs.Numbers.{lines-endless, lines-tested}
use Rattle.flat_lines.specs.Puts.{while-endless, while-tested}
use borrow.Author.Rules.{rules}
use Rattle.flat_lines.proofs.tests.put_while.Reads as reads
use Rattle.flat_lines.proofs.tests.put_while.Lts as lts
use Rattle.flat_lines.proofs.lines.put_jump.Reads as put-jump-reads
use Rattle.flat_lines.proofs.lines.put_test.Reads as put-test-reads
use Rattle.flat_sizes.proofs.sizes.is_always.Reads as is-always-reads
use Rattle.flat_lines.proofs.tests.put_while.Goals as goal

pub overflow_add-line : goal.overflow_add-line
overflow_add-line c =
    omega (arith, c.requires.4, lines-endless _ c.args.body (sym c.is_always.ensures ∙ c.if-is_always.true))

pub put_jump-requires : goal.put_jump-requires
put_jump-requires c =
    let s = c.args in
    let size = lines-endless _ s.body (sym c.is_always.ensures ∙ c.if-is_always.true) in
    let room : 5 * (s.line + s.body) + 5 ≤ length s.out.now = omega (arith, c.requires.3, size) in
    (room, omega (arith, c.requires.4, size), omega (arith, c.requires.4, size))

pub returns-then-is_always : goal.returns-then-is_always
returns-then-is_always c =
    let s = c.args in
    while-endless (operand_of (expression_at s.rows.now s.test)) s.out.now _ _ s.body s.line (sym c.is_always.ensures ∙ c.if-is_always.true) c.put_jump.ensures

pub overflow_add-body : goal.overflow_add-body
overflow_add-body c =
    omega (arith, c.requires.4, lines-tested _ c.args.body (sym c.is_always.ensures ∙ c.if-is_always.false))

pub overflow_add-line-2 : goal.overflow_add-line-2
overflow_add-line-2 c =
    omega (arith, c.requires.4, lines-tested _ c.args.body (sym c.is_always.ensures ∙ c.if-is_always.false))

pub put_test-requires : goal.put_test-requires
put_test-requires c =
    let s = c.args in
    let size = lines-tested _ s.body (sym c.is_always.ensures ∙ c.if-is_always.false) in
    let room : 5 * s.line + 5 ≤ length s.out.now = omega (arith, c.requires.3, size) in
    (c.requires.0, c.requires.1, c.requires.2, room, omega arith, omega (arith, c.requires.4, size), omega (arith, c.requires.4, size))

pub overflow_add-line-4 : goal.overflow_add-line-4
overflow_add-line-4 c =
    omega (arith, c.requires.4, lines-tested _ c.args.body (sym c.is_always.ensures ∙ c.if-is_always.false))

pub put_jump-requires-2 : goal.put_jump-requires-2
put_jump-requires-2 c =
    let s = c.args in
    let size = lines-tested _ s.body (sym c.is_always.ensures ∙ c.if-is_always.false) in
    let room : 5 * (s.line + 1 + s.body) + 5 ≤ length c.put_test.new.out = omega (arith, c.requires.3, size, c.put_test.auto.out) in
    (room, omega (arith, c.requires.4, size), omega (arith, c.requires.4, size))

pub returns : goal.returns
returns c =
    let s = c.args in
    while-tested (operand_of (expression_at s.rows.now s.test)) s.out.now _ _ _ s.body s.line (sym c.is_always.ensures ∙ c.if-is_always.false) c.put_test.ensures c.put_jump-2.ensures
