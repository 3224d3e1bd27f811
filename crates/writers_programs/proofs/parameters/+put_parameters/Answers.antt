-- The parameters' rows: the first one's, and then those behind it.
use mathlib.Core.Path.{refl, ap, ◌∙◌}
use mathlib.Core.Bool.{Bool}
use native.Mathlib.Omega.{arith}
use Prim.Native.Nat.{◌-◌, ℕ, ◌+◌}
use lib.IntN.{pos}
use lib.ListN.{length}
use Rattle.words.specs.Word.{pick}
use Rattle.language.specs.Decode.{parameter_list_at}
use Rattle.language_emission.specs.Emission.{row_of}
use Rattle.writers_rows.specs.Chain.{PutWords, put-room}
use Rattle.writers_rows.proofs.Words.{pick-most}
use Rattle.writers_calls.specs.Ranks.{rank, rank_falls}
use Rattle.writers.proofs.ListLaws.{optional-inside}
use Rattle.writers_programs.proofs.ParameterLaws.{parameter-some, counted_is, parameters-none, parameters-done}
use Rattle.writers_programs.proofs.parameters.+put_parameters.Goals as goal

pub returns-then-count-eq0 : goal.returns-then-count-eq0
returns-then-count-eq0 t c =
    let args = c.args in
    parameters-none (parameter_list_at args.rows.now args.parameter) args.base args.out.now (omega (arith, c.requires.count_is, c.if-count-eq0.true))

pub put_row-requires : goal.put_row-requires
put_row-requires t c =
    let asks = c.requires in
    let found = counted_is asks.source c.args.parameter asks.inside (omega (arith, asks.count_is, c.if-count-eq0.false)) in
    let low = pick-most c.more.result (c.args.base + 1) in
    (omega (arith, asks.room.inside, c.if-count-eq0.false), omega arith, omega (arith, c.number_at-word.ensures, found.low), omega arith, omega arith, omega (arith, c.behind.ensures, low, asks.room.low))

pub put_parameters-requires : goal.put_parameters-requires
put_parameters-requires t c =
    let args = c.args in
    let rows = args.rows.now in
    let asks = c.requires in
    let found = counted_is asks.source args.parameter asks.inside (omega (arith, asks.count_is, c.if-count-eq0.false)) in
    let some = parameter-some asks.source args.parameter (omega (arith, asks.count_is, c.if-count-eq0.false)) in
    let next = c.number_at.ensures in
    let row : PutWords (row_of 58 (pos c.number_at-word.result) 0 0 0 c.behind.result) 1 args.out.now c.put_row.new.out = record { table = c.put_row.ensures; size = refl } in (
      omega (arith, c.decreases, ap (rank rows) next, rank_falls rows args.parameter _ some asks.inside (λ h. (found.behind h).later)),
      record {
        source = asks.source;
        inside = omega (arith, next, optional-inside rows args.parameter _ asks.inside found.behind);
        count_is = omega (arith, asks.count_is, c.if-count-eq0.false, ap (λ words. length words) found.is, ap (λ (n : ℕ). length (parameter_list_at rows n)) next);
        room = put-room _ row asks.room (omega (arith, c.if-count-eq0.false));
      },
    )

pub returns : goal.returns
returns t c =
    let args = c.args in
    let asks = c.requires in
    let found = counted_is asks.source args.parameter asks.inside (omega (arith, asks.count_is, c.if-count-eq0.false)) in
    let link = c.behind.ensures ∙ ap (λ (b : Bool). pick b (args.base + 1) 0) c.more.ensures in
    parameters-done args.rows.now args.parameter args.base (args.count - 1) args.out.now found c.number_at-word.ensures c.number_at.ensures (omega (arith, asks.count_is, c.if-count-eq0.false)) link c.put_row.ensures c.put_parameters.ensures
