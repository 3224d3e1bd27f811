-- `preview_on_copy`: the run on a copy is the run on the store, and the words that differ are those of the store and of the copy after it.
use mathlib.Core.Path.{sym, ap, ◌∙◌}
use Prim.Native.Nat.{ℕ}
use native.Mathlib.Omega.{arith}
use Rattle.words.specs.StoreLaws.{size-least}
use Rattle.words.specs.declared.Form.TheVariants.{Source}
use Rattle.language_programs.specs.Program.{source_size, run_program}
use Rattle.program_runs.proofs.AcceptedLaws.{accepted-header}
use Rattle.program_previews.specs.Previews.{differences}
use Rattle.program_previews.proofs.PreviewLaws.{foretold}
use Rattle.program_previews.proofs.preview_on_copy.Goals as goal

pub put-requires : goal.put-requires
put-requires c = omega (arith, c.requires.store_len, c.requires.copy_len)

pub run_accepted-run-requires : goal.run_accepted-run-requires
run_accepted-run-requires c = record { rows_value = c.requires.rows_value; store_len = c.put.auto.out ∙ c.requires.copy_len }

pub store_size-size-requires : goal.store_size-size-requires
store_size-size-requires c = accepted-header Source c.args.header.now c.args.rows.now c.requires.rows_value

pub count_differences-requires : goal.count_differences-requires
count_differences-requires c =
    let size = c.store_size-size.ensures in
    let least = size-least Source c.args.header.now c.args.rows.now in
    (omega (arith, size, least, c.requires.store_len), omega (arith, size, least, c.run_accepted-run.auto.store, c.put.auto.out, c.requires.copy_len))

pub shape_of-copy : goal.shape_of-copy
shape_of-copy c = c.run_accepted-run.auto.store ∙ c.put.auto.out

pub returns : goal.returns
returns c =
    foretold (run_program Source c.args.header.now c.args.rows.now c.args.budget) c.run_accepted-run.result c.args.store.now c.args.copy.now _ _ (source_size c.args.header.now) c.count_differences.result
    (c.requires.store_len ∙ sym c.requires.copy_len) c.put.ensures c.run_accepted-run.ensures
    (c.count_differences.ensures ∙ ap (λ (n : ℕ). differences n c.args.store.now c.run_accepted-run.new.store) c.store_size-size.ensures)
