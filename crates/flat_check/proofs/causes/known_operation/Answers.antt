-- `known_operation` makes the tests of its definition in order.
use mathlib.Core.Path.{sym, ◌∙◌}
use borrow.Author.Tests.{le-ltb, lt-ltb}
use Rattle.flat.specs.Refusal.{known_operation}
use Rattle.flat_check.proofs.Tests.{no_kind, known_is}
use borrow.Author.Rules.{rules}
use Rattle.flat_check.proofs.causes.known_operation.Goals as goal

pub returns-then-operation-ge256 : goal.returns-then-operation-ge256
unfolding known_operation
returns-then-operation-ge256 c =
    rw (le-ltb _ _ c.if-operation-ge256.true)

pub returns-in_default : goal.returns-in_default
returns-in_default c =
    no_kind _ _ c.operation_kind.ensures (sym c.in_default.is ∙ c.shape_of.ensures)

pub returns-then-constant_fits : goal.returns-then-constant_fits
returns-then-constant_fits c =
    rw (known_is _ _ c.operation_kind.ensures c.in-Some.shape (sym c.in-Some.is ∙ c.shape_of.ensures), lt-ltb _ _ c.if-operation-ge256.false, ← c.left_constant.ensures, ← c.constant_fits.ensures, c.if-constant_fits.true, ← c.right_constant.ensures) c.constant_fits-then-constant_fits.ensures

pub returns-else-constant_fits : goal.returns-else-constant_fits
returns-else-constant_fits c =
    rw (known_is _ _ c.operation_kind.ensures c.in-Some.shape (sym c.in-Some.is ∙ c.shape_of.ensures), lt-ltb _ _ c.if-operation-ge256.false, ← c.left_constant.ensures, ← c.constant_fits.ensures, c.if-constant_fits.false)
