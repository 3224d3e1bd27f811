-- `store_parameter` reads the number of the parameter's word and stores there.
use mathlib.Core.Path.{ap, ◌∙◌}
use Prim.Native.Nat.{ℕ}
use native.Mathlib.Omega.{arith}
use lib.IntN.{ℤ}
use lib.ListN.{set}
use Rattle.words.specs.Laws.{back}
use Rattle.machine_flows.proofs.calls.store_parameter.Goals as goal

pub link_at-word-requires : goal.link_at-word-requires
link_at-word-requires c =
    let here = c.requires in
    (omega (arith, here.table.sound.whole, here.table.below), omega (arith, here.inside, here.few_words))

pub offset_bounds-store-word : goal.offset_bounds-store-word
offset_bounds-store-word c = omega (arith, c.link_at-word.ensures, c.requires.inside, c.requires.few_words)

pub bounds-store-word : goal.bounds-store-word
bounds-store-word c = omega (arith, c.link_at-word.ensures, c.requires.inside)

pub returns : goal.returns
returns c =
    ap (λ (v : ℤ). set c.args.store.now c.link_at-word.result v) (back c.args.value c.ranges.value.sfits)
    ∙ ap (λ (i : ℕ). set c.args.store.now i c.args.value) c.link_at-word.ensures
