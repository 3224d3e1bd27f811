-- `read_words` passes the pieces one by one; the invariant is `Walked`.
use mathlib.Core.Path.{◌≡◌, sym, ◌∙◌}
use Prim.Native.Nat.{◌<◌}
use native.Mathlib.Omega.{arith}
use lib.ListN.{length, get_or}
use borrow.Author.Rules.{rules}
use borrow.Author.Tests.{eqb-true, eqb-false}
use Rattle.std.specs.List.{slice_split}
use Rattle.std.proofs.lemmas.Iterator.Splits.{YieldsList-from_slice_split}
use Rattle.std.proofs.lemmas.Iterator.Consumers.{YieldsList-turn, YieldsList-end}
use Rattle.std.proofs.lemmas.List.{length_push}
use Rattle.command_request.specs.StoreFile.{is_parting}
use Rattle.command_request.proofs.Words.{walked_start, walked_end, walked-empty, count-inside, walked-bad, walked_next}
use Rattle.command_request.proofs.store_file.read_words.Goals as goal
use Rattle.command_request.proofs.store_file.read_words.Goals.{In-Some, Else-is_empty}

pub loop-piece-init : goal.loop-piece-init
loop-piece-init c = walked_start _ _ c.requires

-- the piece that this turn has
turn : (c : In-Some) → (length c.loop-piece.yielded < length (slice_split is_parting c.args.text.now)) × (c.in-Some.piece.now ≡ get_or (slice_split is_parting c.args.text.now) (length c.loop-piece.yielded) c.in-Some.piece.now)
turn c =
    let parts = YieldsList-from_slice_split _ is_parting c.args.text.now (cc) (cc) (cc) (λ x b q k. search rules) in
    YieldsList-turn parts c.loop-piece.yielded _ c.loop-piece.yielded_by _ _ c.in-Some.piece c.in-Some.is c.next.ensures.steps

pub loop-piece-preserved-then-is_empty : goal.loop-piece-preserved-then-is_empty
loop-piece-preserved-then-is_empty c =
    rw (length_push c.loop-piece.yielded c.in-Some.piece) (walked-empty c.loop-piece.invariant _ (turn (goal.at.loop-piece-preserved-then-is_empty c).In-Some) (eqb-true _ _ (sym c.is_empty.ensures ∙ c.if-is_empty.true)))

-- a piece that has a byte
filled : (c : Else-is_empty) → 0 < length c.in-Some.piece.now
filled c = omega (arith, eqb-false _ _ (sym c.is_empty.ensures ∙ c.if-is_empty.false))

pub returns-in_default : goal.returns-in_default
returns-in_default c = walked-bad c.loop-piece.invariant _ (turn (goal.at.returns-in_default c).In-Some) (filled (goal.at.returns-in_default c).Else-is_empty) (sym c.number.ensures ∙ c.in_default.is)

pub bounds-table-count : goal.bounds-table-count
bounds-table-count c = count-inside c.loop-piece.invariant _ (turn (goal.at.bounds-table-count c).In-Some) (filled (goal.at.bounds-table-count c).Else-is_empty)

pub loop-piece-preserved : goal.loop-piece-preserved
loop-piece-preserved c =
    rw (length_push c.loop-piece.yielded c.in-Some.piece)
    (walked_next c.loop-piece.invariant _ (turn (goal.at.loop-piece-preserved c).In-Some) (filled (goal.at.loop-piece-preserved c).Else-is_empty) _ (sym c.number.ensures ∙ c.in-Some-number.is))

pub returns : goal.returns
returns c =
    let parts = YieldsList-from_slice_split _ is_parting c.args.text.now (cc) (cc) (cc) (λ x b q k. search rules) in
    let all = YieldsList-end parts c.loop-piece.yielded _ c.loop-piece.yielded_by _ _ c.in-None.is c.next.ensures.steps in
    walked_end c.loop-piece.invariant all.1
