-- `run_translation`: the tables have room, so the translation is made; then `run_kernel` on what it wrote.
use mathlib.Core.Path.{refl}
use native.Mathlib.Omega.{arith}
use Rattle.words.specs.declared.Form.TheVariants.{Source}
use Rattle.text_numbers.specs.PutLaws.{put_as}
use Rattle.program_runs.proofs.AcceptedLaws.{accepted-header}
use Rattle.translator.proofs.TranslationLaws.{translation-made}
use Rattle.trial.proofs.Translated.{read_fits, read-output, translated-accepted}
use Rattle.trial.proofs.runs.run_translation.Goals as goal

pub store_size-words-requires : goal.store_size-words-requires
store_size-words-requires c = accepted-header Source c.args.header.now c.args.rows.now c.requires.accepted

pub slice_bounds-run_kernel-end : goal.slice_bounds-run_kernel-end
slice_bounds-run_kernel-end c =
    let made = translation-made _ _ _ _ _ _ _ _ (rw c.in-Ok.is at c.translate_accepted-answer.ensures.kernel_rows_after) in
    omega (arith, c.translate_accepted-answer.auto.kernel_header, made.header_room)

pub slice_bounds-run_kernel-end-in-Ok : goal.slice_bounds-run_kernel-end-in-Ok
slice_bounds-run_kernel-end-in-Ok c =
    let made = translation-made _ _ _ _ _ _ _ _ (rw c.in-Ok.is at c.translate_accepted-answer.ensures.kernel_rows_after) in
    omega (arith, c.translate_accepted-answer.auto.kernel_rows, made.rows_room)

pub run_kernel-requires : goal.run_kernel-requires
run_kernel-requires c =
    let made = translation-made _ _ _ _ _ _ _ _ (rw c.in-Ok.is at c.translate_accepted-answer.ensures.kernel_rows_after) in
    read_fits c.requires c.translate_accepted-answer.ensures.has_kernel_form _ _ _ made.header-written made.rows_written c.store_size-words.ensures

pub returns-in-Ok : goal.returns-in-Ok
returns-in-Ok c =
    let made = translation-made _ _ _ _ _ _ _ _ (rw c.in-Ok.is at c.translate_accepted-answer.ensures.kernel_rows_after) in
    put_as (read-output c.requires c.translate_accepted-answer.ensures.has_kernel_form _ _ _ made.header-written made.rows_written c.store_size-words.ensures) c.run_kernel.ensures

pub returns-in-Err : goal.returns-in-Err
returns-in-Err c = translated-accepted c.requires c.translate_accepted-answer.ensures.has_kernel_form _ _ refl refl _ _ _ (rw c.in-Err.is at c.translate_accepted-answer.ensures.kernel_rows_after)
