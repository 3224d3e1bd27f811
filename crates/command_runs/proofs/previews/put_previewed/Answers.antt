-- `put_previewed`: the preview, and its lines, which have room.
use mathlib.Core.Path.{ap, ◌∙◌}
use Prim.Native.Nat.{ℕ}
use native.Mathlib.Omega.{arith}
use Rattle.text_numbers.specs.PutLaws.{put_as}
use Rattle.command_preview_lines.specs.Changes.{preview_lines}
use Rattle.command_runs.specs.Tasks.{result_lines}
use Rattle.command_runs.proofs.Shown.{showable}
use borrow.Author.Rules.{rules}
use Rattle.command_runs.proofs.previews.put_previewed.Goals as goal

pub preview_lines-requires : goal.preview_lines-requires
preview_lines-requires c =
    let size = c.store_size-size in
    let told = c.preview-verdict in
    showable told.result c.args.header.now c.args.rows.now c.args.budget c.args.store.now c.args.scratch.now told.new.scratch size.ensures told.ensures (omega (arith, told.auto.scratch, c.requires.scratch_len_bound)) c.requires.output_room_in_bounds

pub returns : goal.returns
returns c =
    let told = c.preview-verdict in
    let size = c.store_size-size in
    put_as (ap (λ (n : ℕ). preview_lines told.result n c.args.store.now told.new.scratch) size.ensures ∙ ap (result_lines c.args.header.now) told.ensures) c.preview_lines.ensures
