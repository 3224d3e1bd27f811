-- `run_source`: a store of S+D zeros, then `run_source_on`.
use mathlib.Core.Path.{ap, ◌∙◌}
use Prim.Native.Nat.{◌≤◌}
use native.Mathlib.Omega.{arith}
use Rattle.words.specs.Layout.{zeros}
use Rattle.words.specs.Laws.{zeros-part}
use Rattle.text_rules.specs.Rules.{IsAccepted, store_room}
use Rattle.text_rules.specs.RuleLaws.{rule-store}
use lib.IntN.{pos}
use lib.ListN.{length-replicate}
use Rattle.trial.proofs.runs.run_source.Goals as goal
use Rattle.trial.proofs.runs.run_source.Goals.{After-store_words-size}

few : (c : After-store_words-size) → c.store_words-size.result ≤ store_room
few c =
    let f = c.requires.fits in
    let allowed : IsAccepted c.args.header.now c.args.rows.now = record { header-fits = f.header-fits; few_words = f.few_words; few_rows = f.few_rows; checked = c.requires.rows_value } in
    omega (arith, c.store_words-size.ensures, rule-store allowed)

pub slice_bounds-store-end : goal.slice_bounds-store-end
slice_bounds-store-end c = omega (arith, few (goal.at.slice_bounds-store-end c).After-store_words-size, length-replicate 1088 (pos 0))

pub run_source_on-requires : goal.run_source_on-requires
run_source_on-requires c = record { fits = c.requires.fits; accepted = c.requires.rows_value; starts = zeros-part c.store_words-size.result 1088 (few (goal.at.run_source_on-requires c).After-store_words-size) ∙ ap zeros c.store_words-size.ensures }
