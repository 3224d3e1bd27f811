-- `run_on_store` gives cause 11 for a store of another size, and else the run.
use Rattle.flat.proofs.Accepts.{accepted-legal}
use Rattle.flat.specs.Results.{flat_ran}
use Rattle.words.specs.Layout.{header_store}
use Rattle.words.specs.declared.Form.TheVariants.{Kernel}
use borrow.Author.Rules.{rules}
use borrow.Author.Tests.{eq-eqb, ne_eqb}
use lib.ListN.{length}
use mathlib.Core.Path.{◌≡◌, ap}
use native.Mathlib.Omega.{arith}
use Rattle.flat_machine.proofs.whole.run_on_store.Goals as goal

pub header_store-requires : goal.header_store-requires
header_store-requires c = (accepted-legal _ _ c.requires).header-fits

pub returns-then-store-header_store : goal.returns-then-store-header_store
returns-then-store-header_store c = rw (ne_eqb (length c.args.store.now) (header_store Kernel c.args.header.now) (λ e. omega (arith, c.if-store-header_store.true, c.header_store.ensures, e)))

pub run_accepted-requires : goal.run_accepted-requires
run_accepted-requires c = record { list_value = c.requires; store_len = omega (arith, c.if-store-header_store.false, c.header_store.ensures) }

pub returns : goal.returns
returns c = let same : length c.args.store.now ≡ header_store Kernel c.args.header.now = omega (arith, c.if-store-header_store.false, c.header_store.ensures) in rw (eq-eqb (length c.args.store.now) (header_store Kernel c.args.header.now) same) (ap flat_ran c.run_accepted.ensures)
