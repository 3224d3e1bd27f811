-- `run_in` lends room for the bounds and the rows of the functions, and reads the ending and the count off what `start` answers and leaves.
use mathlib.Core.Path.{sym, ap, ◌∙◌}
use native.Mathlib.Omega.{arith}
use Prim.Native.Nat.{ℕ, ◌+◌, ◌-◌}
use lib.ListN.{length}
use lib.Seq.{length-take-le}
use Rattle.words.specs.Laws.{leading-limits, header_fits-facts}
use Rattle.words.specs.declared.Ending.{Ending}
use Rattle.words.proofs.Signed.{natural-again}
use Rattle.language.specs.Program.{table_program, run_table_under, run_table}
use Rattle.machine_operations.proofs.Decoding.{handed-is}
use Rattle.machine.specs.Whole.{ending_of_answer}
use Rattle.machine_flows.proofs.Answers.{ran-least}
use Rattle.machine.proofs.Bounds.{startable, whole-program}
use Rattle.machine.proofs.Endings.{run-finished}
use Rattle.machine.proofs.whole.run_in.Goals as goal
use Rattle.machine.proofs.whole.run_in.Goals.{After-natural}

pub overflow_sub-n : goal.overflow_sub-n
overflow_sub-n c =
    omega (arith, c.leading-first.ensures, (header_fits-facts c.args.form c.args.header.now c.requires.runs.fits).least)

pub offset_bounds-header-first : goal.offset_bounds-header-first
offset_bounds-header-first c =
    omega (arith, c.leading-first.ensures, leading-limits c.args.form)

pub slice_bounds-start-count : goal.slice_bounds-start-count
slice_bounds-start-count c = overflow_sub-n c

pub slice_bounds-start-start : goal.slice_bounds-start-start
slice_bounds-start-start c = overflow_sub-n c

pub bounds-header-0 : goal.bounds-header-0
bounds-header-0 c =
    omega (arith, (header_fits-facts c.args.form c.args.header.now c.requires.runs.fits).least, leading-limits c.args.form)

pub slice_bounds-start-end-2 : goal.slice_bounds-start-end-2
slice_bounds-start-end-2 c =
    omega (arith, c.leading-first.ensures, (header_fits-facts c.args.form c.args.header.now c.requires.runs.fits).most, c.requires.enough)

pub slice_bounds-start-end-3 : goal.slice_bounds-start-end-3
slice_bounds-start-end-3 c = sym (length-take-le _ _ (slice_bounds-start-end-2 (goal.at.slice_bounds-start-end-3 c).After-natural))

pub start-answer-requires : goal.start-answer-requires
start-answer-requires c =
    startable c.requires.runs c.leading-first.result c.leading-first.ensures c.natural.result (natural-again _ _ c.natural-arg-1.given c.natural.ensures) _
    (length-take-le _ _ (slice_bounds-start-end-2 (goal.at.start-answer-requires c).After-natural) ∙ ap (λ (k : ℕ). length c.args.header.now - c.leading-first.result + 1 + k) c.requires.counted)

pub overflow_sub-count : goal.overflow_sub-count
overflow_sub-count c =
    omega (arith, ran-least c.start-answer.result c.start-answer.new.left c.start-answer.new.store c.args.budget c.args.store.now _ c.start-answer.ensures)

pub returns : goal.returns
unfolding run_table run_table_under
returns c =
    let given = c.start-answer.ensures ∙ whole-program c.requires.runs c.leading-first.result c.leading-first.ensures c.natural.result (natural-again _ _ c.natural-arg-1.given c.natural.ensures) c.args.budget c.args.store.now in
    let left = c.start-answer.new.left in
    let store = c.start-answer.new.store in
    ap (λ (e : Ending). record { ending = e; count = c.args.budget - left; store = store }) (c.ending_of.ensures ∙ ap ending_of_answer (handed-is c.start-answer.result c.start-answer.type_inv))
    ∙ run-finished c.args.budget (table_program c.args.form c.args.header.now c.args.rows.now) c.args.store.now c.start-answer.result left store given
