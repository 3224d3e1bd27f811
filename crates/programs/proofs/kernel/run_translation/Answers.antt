-- `run_translation`: an accepted kernel program has at most 16,448 words of store, the first S among them, and 40,980 rows.
use mathlib.Core.Path.{sym}
use native.Mathlib.Omega.{arith}
use lib.Seq.{length-take-le}
use Rattle.words.specs.StoreLaws.{kernel-store, size-least}
use Rattle.words.specs.declared.Form.TheVariants.{Kernel}
use Rattle.program_runs.proofs.AcceptedLaws.{accepted-header, accepted-rows}
use Rattle.program_runs.proofs.AcceptedLaws.{kernel_words}
use Rattle.words.specs.Laws.{header_fits-facts}
use borrow.Author.Rules.{rules}
use Rattle.programs.proofs.kernel.run_translation.Goals as goal
use Rattle.programs.proofs.kernel.run_translation.Goals.{After-store-1, After-store_size-shown}

pub header_store-words-requires : goal.header_store-words-requires
header_store-words-requires g c = accepted-header Kernel c.args.header.now c.args.rows.now c.requires

pub store_size-shown-requires : goal.store_size-shown-requires
store_size-shown-requires g c = accepted-header Kernel c.args.header.now c.args.rows.now c.requires

pub slice_bounds-store-end : goal.slice_bounds-store-end
slice_bounds-store-end g c = omega (arith, c.header_store-words.ensures, kernel_words c.args.header.now c.args.rows.now c.requires)

pub slice_bounds-run_from-end : goal.slice_bounds-run_from-end
slice_bounds-run_from-end g c = sym (length-take-le _ _ (slice_bounds-store-end g (goal.at.slice_bounds-run_from-end g c).After-store_size-shown))

pub enough-requires : goal.enough-requires
enough-requires g c = accepted-rows Kernel c.args.header.now c.args.rows.now c.requires

pub run_from-requires : goal.run_from-requires
run_from-requires g c =
    let few = (header_fits-facts Kernel c.args.header.now (accepted-header Kernel c.args.header.now c.args.rows.now c.requires)).small_store in
    let inside = size-least Kernel c.args.header.now c.args.rows.now in
    let whole = kernel-store c.args.header.now c.args.rows.now in
    (omega (arith, c.store_size-shown.ensures, few), omega (arith, c.store_size-shown.ensures, c.header_store-words.ensures, inside, whole, slice_bounds-run_from-end g (goal.at.run_from-requires g c).After-store-1))
