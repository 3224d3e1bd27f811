-- `run_kernel_on`: the program is accepted and the store has its words, so the run is made; then its line.
use native.Mathlib.Omega.{arith}
use Rattle.words.specs.declared.Form.TheVariants.{Kernel}
use Rattle.text_numbers.specs.PutLaws.{put_as}
use Rattle.trial.proofs.Started.{started-length, run-made, second-line}
use Rattle.trial.proofs.runs.run_kernel_on.Goals as goal

pub run_accepted-answer-requires : goal.run_accepted-answer-requires
run_accepted-answer-requires c =
    let s = c.before.before in
    record { rows_value = s.requires.fits.accepted; store_len = started-length Kernel s.args.header.now s.args.rows.now s.args.store.now s.requires.starts }

pub slice_bounds-kernel_line-end : goal.slice_bounds-kernel_line-end
slice_bounds-kernel_line-end c =
    let s = c.before.before.before.before.before in
    omega (arith, c.run_accepted-answer.auto.store, started-length Kernel s.args.header.now s.args.rows.now s.args.store.now s.requires.starts, s.requires.fits.inside)

pub returns : goal.returns
returns c =
    let s = c.before.before.before.before.before.before.before.before.before.before in
    let made = run-made Kernel s.args.header.now s.args.rows.now s.args.store.now s.requires.starts _ _ c.run_accepted-answer.ensures in
    put_as (second-line made s.args.words) c.kernel_line.ensures
