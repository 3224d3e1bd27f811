-- `answer_accepted`: an accepted program has at most 8,256 words of store.
use mathlib.Core.Path.{sym}
use native.Mathlib.Omega.{arith}
use lib.Seq.{length-take-le}
use Rattle.words.specs.declared.Form.TheVariants.{Source}
use Rattle.program_runs.proofs.AcceptedLaws.{accepted-header}
use Rattle.program_runs.proofs.AcceptedLaws.{source_words}
use borrow.Author.Rules.{rules}
use Rattle.programs.proofs.source.answer_accepted.Goals as goal
use Rattle.programs.proofs.source.answer_accepted.Goals.{After-shown_of-shown, After-start-3-1, After-store-1}

pub store_words-requires : goal.store_words-requires
store_words-requires g c = accepted-header Source c.args.header.now c.args.rows.now c.requires

pub start_size-n-requires : goal.start_size-n-requires
start_size-n-requires g c = omega (arith, c.store_words.ensures, source_words c.args.header.now c.args.rows.now c.requires)

pub store_size-requires : goal.store_size-requires
store_size-requires g c = accepted-header Source c.args.header.now c.args.rows.now c.requires

pub slice_bounds-start-end : goal.slice_bounds-start-end
slice_bounds-start-end g c = search rules

pub slice_bounds-answer_run-end : goal.slice_bounds-answer_run-end
slice_bounds-answer_run-end g c = sym (length-take-le _ _ (slice_bounds-start-end g (goal.at.slice_bounds-answer_run-end g c).After-shown_of-shown))

pub slice_bounds-store-end : goal.slice_bounds-store-end
slice_bounds-store-end g c = search rules

pub slice_bounds-answer_run-end-2 : goal.slice_bounds-answer_run-end-2
slice_bounds-answer_run-end-2 g c = sym (length-take-le _ _ (slice_bounds-store-end g (goal.at.slice_bounds-answer_run-end-2 g c).After-start-3-1))

pub answer_run-requires : goal.answer_run-requires
answer_run-requires g c =
    let n = slice_bounds-answer_run-end-2 g (goal.at.answer_run-requires g c).After-store-1 in
    (omega (arith, n, c.shown_of-shown.ensures, c.start_size-n.ensures), omega (arith, n, c.shown_of-shown.ensures))
