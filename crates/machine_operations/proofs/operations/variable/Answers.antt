-- `variable` reads the word of the store that its row names.
use mathlib.Core.Path.{sym, ◌∙◌}
use native.Mathlib.Omega.{arith}
use lib.IntN.{pos}
use lib.ListN.{get_or}
use Rattle.machine_operations.proofs.Decoding.{wide_fits, answered-wide}
use Rattle.machine_operations.proofs.Rows.{variable-inside, field-inside, variable-row}
use Rattle.machine_operations.proofs.operations.variable.Goals as goal

pub link_at-at-requires : goal.link_at-at-requires
link_at-at-requires c =
    let here = c.requires in
    (field-inside here.ready 1 (omega arith), omega (arith, variable-inside here, here.ready.setting.few_words))

pub offset_bounds-store-at : goal.offset_bounds-store-at
offset_bounds-store-at c =
    let here = c.requires in
    omega (arith, variable-inside here, here.ready.setting.few_words)

pub bounds-store-at : goal.bounds-store-at
bounds-store-at c =
    let here = c.requires in
    omega (arith, variable-inside here)

pub overflow_cast-result : goal.overflow_cast-result
overflow_cast-result c =
    let start = c.before.before.before in
    wide_fits (get_or start.args.store.now c.link_at-at.result (pos 0)) c.result-1.given

pub returns : goal.returns
returns c n =
    let start = c.before.before.before in
    answered-wide (get_or start.args.store.now c.link_at-at.result (pos 0)) c.result-1.given n _
    ∙ sym (variable-row start.requires c.link_at-at.ensures n start.args.store.now)
