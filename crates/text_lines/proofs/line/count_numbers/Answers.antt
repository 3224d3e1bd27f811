-- `count_numbers` passes the fields one by one; the invariant is `Counted`.
use mathlib.Core.Path.{◌≡◌, refl, sym, ap, ◌∙◌}
use Prim.Native.Nat.{◌<◌}
use native.Mathlib.Omega.{arith}
use lib.Dec.{eqb}
use lib.ListN.{length, get_or}
use borrow.Author.Rules.{rules}
use Rattle.std.proofs.lemmas.Iterator.Splits.{YieldsList-from_slice_split}
use Rattle.std.proofs.lemmas.Iterator.Consumers.{YieldsList-turn, YieldsList-end}
use Rattle.std.proofs.lemmas.List.{length_push}
use Rattle.text_lines.specs.Line.{fields_of}
use Rattle.text_lines.specs.LineLaws.{fields-few}
use Rattle.text_lines.specs.Reader.{number_count}
use Rattle.text_lines.proofs.Pieces.{counted_start, counted_next, counted-bad, counted-says, next-field, fields_split}
use Rattle.text_lines.proofs.line.count_numbers.Goals as goal
use Rattle.text_lines.proofs.line.count_numbers.Goals.{In-Some}

pub loop-field-init : goal.loop-field-init
loop-field-init c = (refl, counted_start _)

-- the field that this turn has
turn : (c : In-Some) → (c.loop-field.count < length (fields_of c.args.line.now)) × (c.in-Some.field.now ≡ get_or (fields_of c.args.line.now) c.loop-field.count c.in-Some.field.now)
turn c =
    let parts = YieldsList-from_slice_split _ (λ byte. eqb byte 9) c.args.line.now (cc) (cc) (cc) (λ x b q k. search rules) in
    next-field c.args.line.now _ _ _ c.loop-field.invariant.0 (YieldsList-turn parts c.loop-field.yielded _ c.loop-field.yielded_by _ _ c.in-Some.field c.in-Some.is c.next.ensures.steps)

pub returns-in_err-number : goal.returns-in_err-number
returns-in_err-number c =
    let bad = counted-bad c.loop-field.invariant.1 _ (turn (goal.at.returns-in_err-number c).In-Some) (sym c.number.ensures ∙ c.in_err-number.was) in
    c.from_residual.ensures ∙ sym (ap number_count bad)

pub overflow_add-count : goal.overflow_add-count
overflow_add-count c = omega (arith, turn (goal.at.overflow_add-count c).In-Some, fields-few c.args.line.now)

pub loop-field-preserved : goal.loop-field-preserved
loop-field-preserved c =
    let next = counted_next c.loop-field.invariant.1 _ (turn (goal.at.loop-field-preserved c).In-Some) _ (sym c.number.ensures ∙ c.in_ok-number.was) in
    (omega (arith, c.loop-field.invariant.0, length_push c.loop-field.yielded c.in-Some.field), next)

pub returns : goal.returns
returns c =
    let parts = YieldsList-from_slice_split _ (λ byte. eqb byte 9) c.args.line.now (cc) (cc) (cc) (λ x b q k. search rules) in
    let all = YieldsList-end parts c.loop-field.yielded _ c.loop-field.yielded_by _ _ c.in-None.is c.next.ensures.steps in
    counted-says c.loop-field.invariant.1 (c.loop-field.invariant.0 ∙ all.1 ∙ ap length (fields_split c.args.line.now))
