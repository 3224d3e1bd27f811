-- `run_accepted` lends room for the bounds.
use Rattle.flat.proofs.Accepts.{accepted-legal}
use Rattle.flat_machine.proofs.Start.{startable, whole_run}
use Rattle.words.proofs.Signed.{natural-again}
use Rattle.words.specs.Laws.{header_fits-facts}
use Rattle.words.specs.declared.Form.TheVariants.{Kernel}
use borrow.Author.Rules.{rules}
use lib.ListN.{length}
use lib.Seq.{length-take-le}
use mathlib.Core.Path.{sym, ◌∙◌}
use native.Mathlib.Omega.{arith}
use Rattle.flat_machine.proofs.whole.run_accepted.Goals as goal

pub overflow_sub-n : goal.overflow_sub-n
overflow_sub-n c = omega (arith, c.leading-first.ensures, (header_fits-facts Kernel c.args.header.now (accepted-legal _ _ c.requires.list_value).header-fits).least)

pub overflow_add-n : goal.overflow_add-n
overflow_add-n c = omega (arith, (header_fits-facts Kernel c.args.header.now (accepted-legal _ _ c.requires.list_value).header-fits).most)

pub offset_bounds-header-first : goal.offset_bounds-header-first
offset_bounds-header-first c = omega (arith, c.leading-first.ensures)

pub slice_bounds-start-count : goal.slice_bounds-start-count
slice_bounds-start-count c = overflow_sub-n c

pub slice_bounds-start-start : goal.slice_bounds-start-start
slice_bounds-start-start c = overflow_sub-n c

pub bounds-header-0 : goal.bounds-header-0
bounds-header-0 c = omega (arith, (header_fits-facts Kernel c.args.header.now (accepted-legal _ _ c.requires.list_value).header-fits).least)

pub slice_bounds-bounds-end : goal.slice_bounds-bounds-end
slice_bounds-bounds-end c = omega (arith, c.leading-first.ensures, (header_fits-facts Kernel c.args.header.now (accepted-legal _ _ c.requires.list_value).header-fits).most)

pub slice_bounds-start-end-2 : goal.slice_bounds-start-end-2
slice_bounds-start-end-2 c = sym (length-take-le _ _ (slice_bounds-bounds-end c.before))

pub start-requires : goal.start-requires
start-requires c = startable c.args.header.now c.args.list.now (accepted-legal _ _ c.requires.list_value) (length c.args.store.now) c.requires.store_len c.leading-first.result c.leading-first.ensures c.natural.result (natural-again _ _ c.natural-arg-1.given c.natural.ensures) _ (length-take-le _ _ (slice_bounds-bounds-end c.before.before))

pub returns : goal.returns
returns c = c.start.ensures ∙ whole_run c.args.header.now c.args.list.now (accepted-legal _ _ c.requires.list_value) (length c.args.store.now) c.requires.store_len c.leading-first.result c.leading-first.ensures c.natural.result (natural-again _ _ c.natural-arg-1.given c.natural.ensures) c.args.budget c.args.store.now
