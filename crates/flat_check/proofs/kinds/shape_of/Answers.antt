-- `shape_of` goes by the kinds of the table.
use mathlib.Core.Path.{sym, ap, ◌∙◌, refl}
use native.Mathlib.Omega.{arith}
use Rattle.std.specs.Prelude.{Some}
use Rattle.flat.specs.Refusal.{shape_of}
use Rattle.flat.proofs.Accepts.{operator-shape}
use Rattle.flat_check.proofs.Table.{copied, tested, no-kind}
use Rattle.flat_check.proofs.kinds.shape_of.Goals as goal

pub returns-in-1 : goal.returns-in-1
returns-in-1 c = ap Some c.shape.ensures ∙ sym (copied _ c.in-1.is)

pub returns-in-3 : goal.returns-in-3
unfolding shape_of
returns-in-3 c = rw c.in-3.is (ap Some c.shape-in-3.ensures)

pub returns-in-6-to-16 : goal.returns-in-6-to-16
returns-in-6-to-16 c = ap Some c.shape-in-6-to-16.ensures ∙ sym (operator-shape c.args.kind (omega arith) (omega arith))

pub returns-in-21 : goal.returns-in-21
unfolding shape_of
returns-in-21 c = rw c.in-21.is (ap Some c.shape-in-21.ensures)

pub returns-in-43 : goal.returns-in-43
returns-in-43 c = ap Some c.shape-in-43.ensures ∙ sym (tested c.args.kind (omega arith) (omega arith))

pub returns-in-52 : goal.returns-in-52
unfolding shape_of
returns-in-52 c = rw c.in-52.is (ap Some c.shape-in-52.ensures)

pub returns-in-57 : goal.returns-in-57
unfolding shape_of
returns-in-57 c = rw c.in-57.is (ap Some c.shape-in-57.ensures)

pub returns-in_default : goal.returns-in_default
returns-in_default c = no-kind c.args.kind c.in_default.in_default-own.rest (λ a b. omega arith) (λ a b. omega arith)

pub returns-in_default-2 : goal.returns-in_default-2
returns-in_default-2 c = no-kind c.args.kind c.in_default.in_default-own.rest (λ a b. omega arith) (λ a b. omega arith)

pub returns-in_default-3 : goal.returns-in_default-3
returns-in_default-3 c = no-kind c.args.kind c.in_default.in_default-own.rest (λ a b. omega arith) (λ a b. omega arith)
