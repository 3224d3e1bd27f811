-- `preview_accepted` gives cause 11 for a store of another size, cause 15 for a shorter scratch, and else the preview of the run.
use Rattle.std.specs.Prelude.{Ok}
use mathlib.Core.Path.{ap, ◌∙◌}
use mathlib.Core.List.{◌++◌}
use Prim.Native.Nat.{ℕ}
use native.Mathlib.Omega.{arith}
use lib.ListN.{drop}
use lib.Seq.{length-take-le, length_front}
use Rattle.words.specs.declared.Form.TheVariants.{Source}
use Rattle.program_runs.proofs.AcceptedLaws.{accepted-header}
use Rattle.program_previews.specs.Previews.{answer_and_words}
use Rattle.program_previews.proofs.PreviewLaws.{store-refused, scratch-refused, run-told}
use Rattle.program_previews.proofs.preview_accepted.Goals as goal
use Rattle.program_previews.proofs.preview_accepted.Goals.{Else-scratch-words}

pub store_words-words-requires : goal.store_words-words-requires
store_words-words-requires c = accepted-header Source c.args.header.now c.args.rows.now c.requires

pub returns-then-store-words : goal.returns-then-store-words
returns-then-store-words c =
    store-refused c.args.header.now c.args.rows.now c.args.budget c.args.store.now c.args.scratch.now (λ e. omega (arith, c.if-store-words.true, c.store_words-words.ensures, e))

pub returns-then-scratch-words : goal.returns-then-scratch-words
returns-then-scratch-words c =
    let size = c.store_words-words.ensures in
    scratch-refused c.args.header.now c.args.rows.now c.args.budget c.args.store.now c.args.scratch.now (omega (arith, c.if-store-words.false, size)) (omega (arith, c.if-scratch-words.true, size))

pub preview_on_copy-requires : goal.preview_on_copy-requires
preview_on_copy-requires c =
    let size = c.store_words-words.ensures in
    record { rows_value = c.requires; store_len = omega (arith, c.if-store-words.false, size); copy_len = length-take-le _ _ (omega (arith, c.if-scratch-words.false)) ∙ size }

pub shape_of-scratch : goal.shape_of-scratch
shape_of-scratch c = length_front c.args.scratch.now c.preview_on_copy.new.copy c.store_words-words.result c.preview_on_copy.auto.copy

pub returns : goal.returns
returns c =
    let call = c.preview_on_copy in
    let size = c.store_words-words.ensures in
    ap (λ (n : ℕ). answer_and_words (Ok call.result) c.args.store.now (call.new.copy ++ drop n c.args.scratch.now)) size
    ∙ run-told c.args.header.now c.args.rows.now c.args.budget c.args.store.now c.args.scratch.now (omega (arith, c.if-store-words.false, size)) (omega (arith, c.if-scratch-words.false, size)) call.result _ call.ensures
