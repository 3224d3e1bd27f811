-- `run_shown` gives cause 11 for another number of words, and else the dispatcher's view of the run.
use mathlib.Core.Path.{◌≡◌, ap}
use native.Mathlib.Omega.{arith}
use borrow.Author.Tests.{eq-eqb, ne_eqb}
use lib.ListN.{length}
use Rattle.words.specs.Layout.{layout_of, store_size}
use Rattle.words.specs.declared.Form.TheVariants.{Kernel}
use Rattle.program_runs.proofs.AcceptedLaws.{accepted-header}
use Rattle.program_dispatcher.specs.DispatcherRuns.{shown}
use Rattle.program_dispatcher.proofs.run_shown.Goals as goal

pub store_size-requires : goal.store_size-requires
store_size-requires c = accepted-header Kernel c.args.header.now c.args.rows.now c.requires

pub returns-then-words-store_size : goal.returns-then-words-store_size
returns-then-words-store_size c =
    rw (ne_eqb (length c.args.words.now) (store_size (layout_of Kernel c.args.header.now)) (λ e. omega (arith, c.if-words-store_size.true, c.store_size.ensures, e)))

pub run_on_words-requires : goal.run_on_words-requires
run_on_words-requires c = record { rows_value = c.requires; words_len = omega (arith, c.if-words-store_size.false, c.store_size.ensures) }

pub returns : goal.returns
returns c =
    let same : length c.args.words.now ≡ store_size (layout_of Kernel c.args.header.now) = omega (arith, c.if-words-store_size.false, c.store_size.ensures) in
    rw (eq-eqb (length c.args.words.now) (store_size (layout_of Kernel c.args.header.now)) same) (ap shown c.run_on_words.ensures)
