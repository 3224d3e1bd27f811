-- `operator_of` is the order of the operators.
use mathlib.Core.Path.{◌≡◌, sym, ap}
use Prim.Native.Nat.{ℕ, ◌≤◌}
use native.Mathlib.Omega.{arith}
use lib.Dec.{eqb}
use lib.ListN.{get_or-eq_default}
use borrow.Author.Tests.{eqb-true, eqb-false}
use Rattle.words.specs.Kinds.{operators, operator_of}
use Rattle.words.specs.KindLaws.{passed}
use Rattle.words.specs.Laws.{by_cases}
use Rattle.words.specs.declared.Operator.TheVariants.{NotEqual}
use Rattle.words_kinds.proofs.operator_of.Goals as goal

-- the last operator, and what stands for one beyond it
last : (position : ℕ) → 10 ≤ position → NotEqual ≡ operator_of position
unfolding operator_of operators
last position h =
    by_cases (eqb position 10) (λ e. rw (eqb-true position 10 e))
    (λ e. sym (get_or-eq_default operators NotEqual (let beyond : 11 ≤ position = omega (arith, eqb-false position 10 e) in beyond)))

pub returns-in-0 : goal.returns-in-0
unfolding operator_of operators
returns-in-0 c = ap operator_of (sym c.in-0.is)

pub returns-in-1 : goal.returns-in-1
unfolding operator_of operators
returns-in-1 c = ap operator_of (sym c.in-1.is)

pub returns-in-2 : goal.returns-in-2
unfolding operator_of operators
returns-in-2 c = ap operator_of (sym c.in-2.is)

pub returns-in-3 : goal.returns-in-3
unfolding operator_of operators
returns-in-3 c = ap operator_of (sym c.in-3.is)

pub returns-in-4 : goal.returns-in-4
unfolding operator_of operators
returns-in-4 c = ap operator_of (sym c.in-4.is)

pub returns-in-5 : goal.returns-in-5
unfolding operator_of operators
returns-in-5 c = ap operator_of (sym c.in-5.is)

pub returns-in-6 : goal.returns-in-6
unfolding operator_of operators
returns-in-6 c = ap operator_of (sym c.in-6.is)

pub returns-in-7 : goal.returns-in-7
unfolding operator_of operators
returns-in-7 c = ap operator_of (sym c.in-7.is)

pub returns-in-8 : goal.returns-in-8
unfolding operator_of operators
returns-in-8 c = ap operator_of (sym c.in-8.is)

pub returns-in-9 : goal.returns-in-9
unfolding operator_of operators
returns-in-9 c = ap operator_of (sym c.in-9.is)

pub returns-in_default : goal.returns-in_default
unfolding operator_of operators
returns-in_default c = last c.args.position ((passed 0 10 c.args.position _ c.in_default.in_default-own.rest).1 (omega arith))
