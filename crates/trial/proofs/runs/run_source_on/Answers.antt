-- `run_source_on`: the run's line, with the first S words of its store, and behind it the translation's.
use mathlib.Core.Path.{refl}
use native.Mathlib.Omega.{arith}
use Rattle.words.specs.declared.Form.TheVariants.{Source}
use Rattle.text_numbers.specs.PutLaws.{put_as, put_next}
use Rattle.text_report.proofs.Spacing.{far-inside, far-total}
use Rattle.trial.proofs.Started.{started-length, run-made, both_lines, first_inside, first-room, first-put, first-translates}
use Rattle.trial.proofs.runs.run_source_on.Goals as goal

pub run_accepted-answer-requires : goal.run_accepted-answer-requires
run_accepted-answer-requires c =
    let s = c.before.before in
    record { rows_value = s.requires.accepted; store_len = started-length Source s.args.header.now s.args.rows.now s.args.store.now s.requires.starts }

pub store_size-words-requires : goal.store_size-words-requires
store_size-words-requires c = c.requires.fits.header-fits

pub accepted_count-written-requires : goal.accepted_count-written-requires
accepted_count-written-requires c = c.requires.accepted

pub slice_bounds-source_line-end : goal.slice_bounds-source_line-end
slice_bounds-source_line-end c = first_inside c.requires c.run_accepted-answer.new.store c.run_accepted-answer.auto.store c.store_size-words.ensures

pub source_line-end-requires : goal.source_line-end-requires
source_line-end-requires c = first-room c.requires c.run_accepted-answer.new.store c.run_accepted-answer.auto.store c.store_size-words.ensures

pub slice_bounds-run_translation-count : goal.slice_bounds-run_translation-count
slice_bounds-run_translation-count c = far-inside (first-put c.requires c.run_accepted-answer.new.store c.run_accepted-answer.auto.store c.store_size-words.ensures c.source_line-end.ensures.put c.source_line-end.ensures.upper_bound refl)

pub slice_bounds-run_translation-start : goal.slice_bounds-run_translation-start
slice_bounds-run_translation-start c = omega (arith, far-inside (first-put c.requires c.run_accepted-answer.new.store c.run_accepted-answer.auto.store c.store_size-words.ensures c.source_line-end.ensures.put c.source_line-end.ensures.upper_bound refl))

pub run_translation-requires : goal.run_translation-requires
run_translation-requires c =
    first-translates c.requires c.run_accepted-answer.new.store c.run_accepted-answer.auto.store c.store_size-words.ensures c.source_line-end.ensures.put c.source_line-end.ensures.upper_bound refl

pub overflow_add-result : goal.overflow_add-result
overflow_add-result c =
    omega (arith, far-total (first-put c.requires c.run_accepted-answer.new.store c.run_accepted-answer.auto.store c.store_size-words.ensures c.source_line-end.ensures.put c.source_line-end.ensures.upper_bound refl) c.run_translation.ensures c.run_translation.auto.output, c.well_formed)

pub returns : goal.returns
returns c =
    let s = c.before.before.before.before.before.before.before.before.before.before.before.before.before.before.before.before in
    let made = run-made Source s.args.header.now s.args.rows.now s.args.store.now s.requires.starts _ _ c.run_accepted-answer.ensures in
    put_as (both_lines made c.store_size-words.ensures c.accepted_count-written.ensures) (put_next c.source_line-end.ensures.put _ _ _ c.run_translation.ensures)
