-- `run_on_store` gives cause 11 for a store of another size, and else the run.
use mathlib.Core.Path.{◌≡◌, ap}
use native.Mathlib.Omega.{arith}
use borrow.Author.Rules.{rules}
use borrow.Author.Tests.{eq-eqb, ne_eqb}
use lib.ListN.{length}
use Rattle.words.specs.Layout.{store_words}
use Rattle.program_runs.specs.Runs.{ran}
use Rattle.program_runs.proofs.AcceptedLaws.{accepted-header}
use Rattle.program_runs.proofs.run_on_store.Goals as goal

pub store_words-requires : goal.store_words-requires
store_words-requires c = accepted-header c.args.form c.args.header.now c.args.rows.now c.requires

pub returns-then-store-store_words : goal.returns-then-store-store_words
returns-then-store-store_words c =
    rw (ne_eqb (length c.args.store.now) (store_words c.args.form c.args.header.now c.args.rows.now) (λ e. omega (arith, c.if-store-store_words.true, c.store_words.ensures, e)))

pub run_accepted-requires : goal.run_accepted-requires
run_accepted-requires c = record { rows_value = c.requires; store_len = omega (arith, c.if-store-store_words.false, c.store_words.ensures) }

pub returns : goal.returns
returns c =
    let same : length c.args.store.now ≡ store_words c.args.form c.args.header.now c.args.rows.now = omega (arith, c.if-store-store_words.false, c.store_words.ensures) in
    rw (eq-eqb (length c.args.store.now) (store_words c.args.form c.args.header.now c.args.rows.now) same) (ap ran c.run_accepted.ensures)
