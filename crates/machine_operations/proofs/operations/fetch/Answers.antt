-- `fetch` reads the word at the position, or hands the stop on.
use mathlib.Core.Path.{refl, sym, ap, ◌∙◌}
use native.Mathlib.Omega.{arith}
use lib.IntN.{ℤ, pos}
use lib.ListN.{get_or}
use Rattle.machine_operations.specs.Answers.{operand_of, position_of}
use Rattle.machine_operations.proofs.Decoding.{handed-is, wide_fits, answered-wide}
use Rattle.machine_operations.proofs.Operands.{found, lost}
use Rattle.machine_operations.proofs.operations.fetch.Goals as goal

pub returns-in_default : goal.returns-in_default
returns-in_default c n =
    let start = c.before.before in
    let past-position = c.position in
    lost start.args.answer n start.args.store.now start.ranges.answer.sfits refl past-position.result past-position.ensures _ c.in_default.is

pub offset_bounds-store-at : goal.offset_bounds-store-at
offset_bounds-store-at c =
    let start = c.before.before in
    let past-position = c.position in
    omega (arith, start.requires.0, start.requires.1 c.in-Some.at (ap (λ (z : ℤ). position_of (operand_of z)) (sym (handed-is start.args.answer start.ranges.answer.sfits)) ∙ sym past-position.ensures ∙ c.in-Some.is))

pub bounds-store-at : goal.bounds-store-at
bounds-store-at c =
    let start = c.before.before in
    let past-position = c.position in
    start.requires.1 c.in-Some.at (ap (λ (z : ℤ). position_of (operand_of z)) (sym (handed-is start.args.answer start.ranges.answer.sfits)) ∙ sym past-position.ensures ∙ c.in-Some.is)

pub overflow_cast-result : goal.overflow_cast-result
overflow_cast-result c =
    let start = c.before.before.before in
    wide_fits (get_or start.args.store.now c.in-Some.at (pos 0)) c.result-1.given

pub returns : goal.returns
returns c n =
    let start = c.before.before.before in
    let past-position = c.position in
    answered-wide (get_or start.args.store.now c.in-Some.at (pos 0)) c.result-1.given n start.args.store.now
    ∙ sym (found start.args.answer n start.args.store.now start.ranges.answer.sfits refl past-position.result past-position.ensures _ c.in-Some.at c.in-Some.is)
