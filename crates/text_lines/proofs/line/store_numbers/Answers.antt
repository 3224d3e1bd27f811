-- `store_numbers` passes the fields one by one; the invariant is `Stored`.
use mathlib.Core.Path.{◌≡◌, sym, ap, ◌∙◌}
use mathlib.Core.List.{[], ◌∷◌, ◌++◌}
use Prim.Native.Nat.{ℕ, ◌+◌, ◌<◌}
use lib.Dec.{eqb}
use lib.ListN.{length, get_or}
use borrow.Author.Rules.{rules}
use Rattle.std.proofs.lemmas.Iterator.Splits.{YieldsList-from_slice_split}
use Rattle.std.proofs.lemmas.Iterator.Consumers.{YieldsList-turn, YieldsList-end, YieldsList-from_enumerate}
use Rattle.std.proofs.lemmas.List.{length_push}
use Rattle.std.proofs.lemmas.List.FromFn.{length-enumerate_from}
use Rattle.text_lines.specs.Line.{fields_of}
use Rattle.text_lines.proofs.Storing.{Stored, stored-start, stored-end, stored-never, stored-room, stored_next}
use Rattle.text_lines.proofs.Pieces.{numbered-field, fields_split}
use Rattle.text_lines.proofs.line.store_numbers.Goals as goal
use Rattle.text_lines.proofs.line.store_numbers.Goals.{In-Some}

pub loop-count-init : goal.loop-count-init
loop-count-init c = stored-start _ _ c.requires

-- the field that this turn has, and its number
turn : (c : In-Some) → (c.in-Some.count ≡ length c.loop-count.yielded) × ((c.in-Some.count < length (fields_of c.args.line.now)) × (c.in-Some.field.now ≡ get_or (fields_of c.args.line.now) c.in-Some.count c.in-Some.field.now))
turn c =
    let parts = YieldsList-from_slice_split _ (λ byte. eqb byte 9) c.args.line.now (cc) (cc) (cc) (λ x b q k. search rules) in
    let numbered = YieldsList-from_enumerate parts (cc) in
    numbered-field c.args.line.now _ _ _ (YieldsList-turn numbered c.loop-count.yielded _ c.loop-count.yielded_by _ _ (c.in-Some.count, c.in-Some.field) c.in-Some.is c.next.ensures.steps)

stored : (c : In-Some) → Stored (fields_of c.args.line.now) c.in-Some.count c.args.table.now c.loop-count.table
stored c = rw (turn c).0 c.loop-count.invariant

pub shape_of-table-in_default : goal.shape_of-table-in_default
shape_of-table-in_default c = stored-never (stored (goal.at.shape_of-table-in_default c).In-Some) _ (turn (goal.at.shape_of-table-in_default c).In-Some).1 (sym c.number.ensures ∙ c.in_default.is)

pub returns-in_default : goal.returns-in_default
returns-in_default c = stored-never (stored (goal.at.returns-in_default c).In-Some) _ (turn (goal.at.returns-in_default c).In-Some).1 (sym c.number.ensures ∙ c.in_default.is)

pub bounds-table-count : goal.bounds-table-count
bounds-table-count c = stored-room (stored (goal.at.bounds-table-count c).In-Some) _ (turn (goal.at.bounds-table-count c).In-Some).1 _ (sym c.number.ensures ∙ c.in-Some-number.is)

pub loop-count-preserved : goal.loop-count-preserved
loop-count-preserved c =
    let now = (goal.at.loop-count-preserved c).In-Some in
    let e : length (c.loop-count.yielded ++ ((c.in-Some.count, c.in-Some.field) ∷ [])) ≡ c.in-Some.count + 1 = length_push c.loop-count.yielded (c.in-Some.count, c.in-Some.field) ∙ ap (λ (n : ℕ). n + 1) (sym (turn now).0) in
    rw e (stored_next (stored now) _ (turn now).1 _ (sym c.number.ensures ∙ c.in-Some-number.is))

pub returns : goal.returns
returns c =
    let parts = YieldsList-from_slice_split _ (λ byte. eqb byte 9) c.args.line.now (cc) (cc) (cc) (λ x b q k. search rules) in
    let numbered = YieldsList-from_enumerate parts (cc) in
    let all = YieldsList-end numbered c.loop-count.yielded _ c.loop-count.yielded_by _ _ c.in-None.is c.next.ensures.steps in
    stored-end c.loop-count.invariant (all.1 ∙ length-enumerate_from 0 _ ∙ ap length (fields_split c.args.line.now))
