-- `run_kernel`: a store of as many zeros as the header asks, then `run_kernel_on`.
use mathlib.Core.Path.{ap, ◌∙◌}
use native.Mathlib.Omega.{arith}
use Rattle.words.specs.declared.Form.TheVariants.{Kernel}
use Rattle.program_runs.proofs.AcceptedLaws.{accepted-header}
use Rattle.words.specs.Layout.{zeros}
use Rattle.words.specs.Laws.{zeros-part}
use Rattle.trial.proofs.runs.run_kernel.Goals as goal

pub store_words-size-requires : goal.store_words-size-requires
store_words-size-requires c = accepted-header Kernel c.args.header.now c.args.rows.now c.requires.accepted

pub run_kernel_on-requires : goal.run_kernel_on-requires
run_kernel_on-requires c = record { fits = c.requires; starts = zeros-part c.store_words-size.result 1600 (omega (arith, c.store_words-size.ensures, c.requires.few_words)) ∙ ap zeros c.store_words-size.ensures }
