-- The lines of a preview have room.
use Rattle.std.specs.Prelude.{Err, Ok, Result}
use Rattle.words.specs.Refusals.{NumberedRefusal}
use Rattle.program_previews.specs.declared.PreviewAnswer.{PreviewAnswer}
use mathlib.Core.Path.{◌≡◌, sym, ap}
use mathlib.Core.List.{List}
use Prim.Native.Nat.{ℕ, ◌≤◌}
use native.Mathlib.Omega.{arith}
use lib.IntN.{ℤ}
use lib.ListN.{length}
use Rattle.words.specs.StoreLaws.{size-least}
use Rattle.words.specs.declared.Form.TheVariants.{Source}
use Rattle.language_programs.specs.Program.{source_size}
use Rattle.program_previews.specs.Previews.{PreviewResult, answer_and_words, preview_result}
use Rattle.program_previews.proofs.PreviewLaws.{run-as-previewed}
use Rattle.command_preview_lines.specs.Changes.{Showable}
use Rattle.command_text.specs.Texts.{most_store, output_room}

-- The lines of a preview have room: it is refused, or S is no more than the words of the scratch, which has at most 16,448.
pub showable : (verdict : Result PreviewAnswer NumberedRefusal) (header rows : List ℤ) (budget : ℕ) (store scratch left : List ℤ) {size : ℕ} → size ≡ source_size header → answer_and_words verdict store left ≡ preview_result header rows budget store scratch
    → length left ≤ most_store → {room : ℕ} → output_room ≤ room → Showable verdict size store left room
showable (Ok preview) header rows budget store scratch left is e h o =
    let told = run-as-previewed header rows budget store scratch preview (sym (ap (λ (result : PreviewResult). result.answer) e)) in
    let long : length left ≡ length (preview_result header rows budget store scratch).scratch = ap (λ (result : PreviewResult). length result.scratch) e in
    let least = size-least Source header rows in
    (omega (arith, is, least, told.store-size), omega (arith, is, least, told.scratch_room, long), omega (arith, is, least, told.scratch_room, long, h, o))
showable (Err refusal) header rows budget store scratch left is e h o = omega (arith, o)
