-- `run_on_words`: a store of as many zeros as the header asks, then `run_in_store`.
use mathlib.Core.Path.{ap, ◌∙◌}
use native.Mathlib.Omega.{arith}
use Rattle.words.specs.Layout.{zeros}
use Rattle.words.specs.Laws.{zeros-part}
use Rattle.words.specs.declared.Form.TheVariants.{Kernel}
use Rattle.program_runs.proofs.AcceptedLaws.{accepted-header, kernel_words}
use Rattle.program_dispatcher.proofs.run_on_words.Goals as goal

pub header_store-size-requires : goal.header_store-size-requires
header_store-size-requires c = accepted-header Kernel c.args.header.now c.args.rows.now c.requires.rows_value

pub slice_bounds-store-end : goal.slice_bounds-store-end
slice_bounds-store-end c = omega (arith, c.header_store-size.ensures, kernel_words c.args.header.now c.args.rows.now c.requires.rows_value)

pub run_in_store-requires : goal.run_in_store-requires
run_in_store-requires c =
    let call = c.header_store-size in
    let most = kernel_words c.args.header.now c.args.rows.now c.requires.rows_value in
    record { rows_value = c.requires.rows_value; words_len = c.requires.words_len; store_value = zeros-part call.result 16448 (omega (arith, call.ensures, most)) ∙ ap zeros call.ensures }
