-- `outcome` hands the operands on to the function of the kind's operator, or tests them.
use Rattle.std.specs.Prelude.{Ok}
use mathlib.Core.Path.{◌≡◌, refl, ap, ◌∙◌}
use mathlib.Core.Bool.{not}
use Prim.Native.Nat.{ℕ, ◌-◌, ◌≤◌}
use native.Mathlib.Omega.{arith}
use lib.Dec.{leb}
use borrow.Author.Rules.{rules}
use borrow.Author.Tests.{leb-true}
use Rattle.arithmetic.specs.Arithmetic.{bit, apply}
use Rattle.words.specs.Kinds.{operators, operator_of}
use Rattle.words.specs.Laws.{both}
use Rattle.words.specs.declared.Operator.{Operator}
use Rattle.words.specs.declared.Operator.TheVariants.{Add, Subtract, Multiply, Divide, Remainder, Less, Greater, LessOrEqual, GreaterOrEqual, Equal, NotEqual}
use Rattle.arithmetic.proofs.Results.{handed-on, compared, equal-bits}
use Rattle.flat_steps.proofs.lines.outcome.Goals as goal

-- the operator of a kind that is a number
operator-is : (kind k : ℕ) (o : Operator) → kind ≡ k → operator_of (k - 6) ≡ o → operator_of (kind - 6) ≡ o
operator-is kind k o e t = ap (λ (n : ℕ). operator_of (n - 6)) e ∙ t

-- the kind that no test took
past-remainder : (kind : ℕ) → 6 ≤ kind → (kind ≡ 6 → ⊥) → (kind ≡ 7 → ⊥) → (kind ≡ 8 → ⊥) → (kind ≡ 9 → ⊥) → (kind ≡ 10 → ⊥) → 11 ≤ kind
past-remainder kind h a b c d e = omega arith

last-operator : (kind : ℕ) → 11 ≤ kind → kind ≤ 16 → (kind ≡ 11 → ⊥) → (kind ≡ 12 → ⊥) → (kind ≡ 13 → ⊥) → (kind ≡ 14 → ⊥) → (kind ≡ 15 → ⊥) → kind ≡ 16
last-operator kind h k a b c d e = omega arith

pub returns-in-6 : goal.returns-in-6
unfolding operator_of operators
returns-in-6 c = let s = c.before.before in c.add.ensures ∙ handed-on s.ranges.left s.ranges.right (operator-is s.args.kind 6 Add c.in-6.is refl)

pub returns-in-7 : goal.returns-in-7
unfolding operator_of operators
returns-in-7 c = let s = c.before.before in c.subtract.ensures ∙ handed-on s.ranges.left s.ranges.right (operator-is s.args.kind 7 Subtract c.in-7.is refl)

pub returns-in-8 : goal.returns-in-8
unfolding operator_of operators
returns-in-8 c = let s = c.before.before in c.multiply.ensures ∙ handed-on s.ranges.left s.ranges.right (operator-is s.args.kind 8 Multiply c.in-8.is refl)

pub returns-in-9 : goal.returns-in-9
unfolding operator_of operators
returns-in-9 c = let s = c.before.before in c.divide.ensures ∙ handed-on s.ranges.left s.ranges.right (operator-is s.args.kind 9 Divide c.in-9.is refl)

pub returns-in-10 : goal.returns-in-10
unfolding operator_of operators
returns-in-10 c = let s = c.before.before in c.remainder.ensures ∙ handed-on s.ranges.left s.ranges.right (operator-is s.args.kind 10 Remainder c.in-10.is refl)

pub returns-in-11 : goal.returns-in-11
unfolding apply operator_of operators
returns-in-11 c = let s = c.before.before in compared s.ranges.left s.ranges.right _ (operator-is s.args.kind 11 Less c.in-11.is refl) c.bit.ensures refl

pub returns-in-12 : goal.returns-in-12
unfolding apply operator_of operators
returns-in-12 c = let s = c.before.before in compared s.ranges.left s.ranges.right _ (operator-is s.args.kind 12 Greater c.in-12.is refl) c.bit-in-12.ensures refl

pub returns-in-13 : goal.returns-in-13
unfolding apply operator_of operators
returns-in-13 c = let s = c.before.before in compared s.ranges.left s.ranges.right _ (operator-is s.args.kind 13 LessOrEqual c.in-13.is refl) c.bit-in-13.ensures refl

pub returns-in-14 : goal.returns-in-14
unfolding apply operator_of operators
returns-in-14 c = let s = c.before.before in compared s.ranges.left s.ranges.right _ (operator-is s.args.kind 14 GreaterOrEqual c.in-14.is refl) c.bit-in-14.ensures refl

pub returns-in-15 : goal.returns-in-15
unfolding apply operator_of operators
returns-in-15 c = let s = c.before.before in compared s.ranges.left s.ranges.right _ (operator-is s.args.kind 15 Equal c.in-15.is refl) c.bit-in-15.ensures (ap (λ b. Ok (bit b)) (equal-bits s.ranges.left s.ranges.right))

pub returns-in_default : goal.returns-in_default
unfolding apply operator_of operators
returns-in_default c =
    let s = c.before.before in
    let kind = s.args.kind in
    let least = leb-true 6 kind (both (leb 6 kind) (leb kind 16) s.requires).0 in
    let most = leb-true kind 16 (both (leb 6 kind) (leb kind 16) s.requires).1 in
    let past = past-remainder kind least c.in_default.in_default-own.rest.0.0.0.0.0.0.0.0.0.1 c.in_default.in_default-own.rest.0.0.0.0.0.0.0.0.1 c.in_default.in_default-own.rest.0.0.0.0.0.0.0.1 c.in_default.in_default-own.rest.0.0.0.0.0.0.1 c.in_default.in_default-own.rest.0.0.0.0.0.1 in
    let last = last-operator kind past most c.in_default.in_default-own.rest.0.0.0.0.1 c.in_default.in_default-own.rest.0.0.0.1 c.in_default.in_default-own.rest.0.0.1 c.in_default.in_default-own.rest.0.1 c.in_default.in_default-own.rest.1 in
    compared s.ranges.left s.ranges.right _ (operator-is kind 16 NotEqual last refl) c.bit-in_default.ensures (ap (λ b. Ok (bit (not b))) (equal-bits s.ranges.left s.ranges.right))
