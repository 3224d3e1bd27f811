-- `put_preview`: a scratch of as many zeros as the program's store has words, then the preview.
use mathlib.Core.Path.{ap, ◌∙◌}
use mathlib.Core.List.{List}
use Prim.Native.Nat.{◌≤◌}
use native.Mathlib.Omega.{arith}
use lib.IntN.{ℤ, pos}
use lib.ListN.{length, length-replicate}
use Rattle.words.specs.Layout.{zeros}
use Rattle.words.specs.Laws.{zeros-part}
use Rattle.text_numbers.specs.PutLaws.{put_as}
use Rattle.program_previews.specs.Previews.{preview_result}
use Rattle.command_runs.specs.Tasks.{result_lines}
use borrow.Author.Rules.{rules}
use Rattle.command_runs.proofs.previews.put_preview.Goals as goal

pub store_words-words-requires : goal.store_words-words-requires
store_words-words-requires c = c.requires.header_value

pub slice_bounds-scratch-end : goal.slice_bounds-scratch-end
slice_bounds-scratch-end c = omega (arith, c.store_words-words.ensures, c.requires.rows_bound, length-replicate 16448 (pos 0))

pub put_previewed-requires : goal.put_previewed-requires
put_previewed-requires c =
    let words = c.store_words-words.result in
    let inside : words ≤ 16448 = omega (arith, c.store_words-words.ensures, c.requires.rows_bound) in
    record { header_value = c.requires.header_value; scratch_len_bound = omega (arith, ap length (zeros-part words 16448 inside), length-replicate words (pos 0), inside); output_room_in_bounds = c.requires.output_room_in_bounds }

pub returns : goal.returns
returns c =
    let words = c.store_words-words in
    let inside : words.result ≤ 16448 = omega (arith, words.ensures, c.requires.rows_bound) in
    put_as (ap (λ (scratch : List ℤ). result_lines c.args.header.now (preview_result c.args.header.now c.args.rows.now c.args.budget c.args.store.now scratch)) (zeros-part words.result 16448 inside ∙ ap zeros words.ensures)) c.put_previewed.ensures
