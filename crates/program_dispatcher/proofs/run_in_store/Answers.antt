-- `run_in_store`: the store holds the words and zeros; after the run its first words are the dispatcher's view.
use mathlib.Core.Path.{refl, ◌∙◌}
use native.Mathlib.Omega.{arith}
use lib.ListN.{length}
use Rattle.program_dispatcher.specs.DispatcherLaws.{zeros-long, words-fit, started, taken_back}
use Rattle.program_dispatcher.proofs.run_in_store.Goals as goal

pub put-requires : goal.put-requires
put-requires c = words-fit c.args.header.now c.args.rows.now c.args.budget c.args.words.now c.requires.words_len c.args.store.now c.requires.store_value

pub run_kernel-run-requires : goal.run_kernel-run-requires
run_kernel-run-requires c = record { rows_value = c.requires.rows_value; store_len = c.put.auto.out ∙ zeros-long c.args.header.now c.args.rows.now c.args.budget c.args.words.now c.requires.words_len c.args.store.now c.requires.store_value }

pub slice_bounds-put-end : goal.slice_bounds-put-end
slice_bounds-put-end c =
    let fit = words-fit c.args.header.now c.args.rows.now c.args.budget c.args.words.now c.requires.words_len c.args.store.now c.requires.store_value in
    omega (arith, c.run_kernel-run.auto.store, c.put.auto.out, fit)

pub returns : goal.returns
returns c =
    let start = started c.args.header.now c.args.rows.now c.args.budget c.args.words.now c.requires.words_len c.args.store.now _ c.requires.store_value c.put.ensures in
    taken_back c.args.header.now c.args.rows.now c.args.budget c.args.words.now c.requires.words_len c.run_kernel-run.result _ _ _ (length c.args.words.now) start c.run_kernel-run.ensures refl c.put-2.ensures
