-- `start_stored`: the number of a malformed word, or the run or preview from the words.
use native.Mathlib.Omega.{arith}
use mathlib.Core.Path.{sym, ap, ◌∙◌}
use lib.IntN.{pos}
use lib.ListN.{length-replicate}
use Rattle.text_numbers.specs.PutLaws.{put_as}
use Rattle.command_runs.specs.Tasks.{task_output, stored_output}
use Rattle.command_runs.proofs.Starts.{part_room, stored-inside, stored-words}
use borrow.Author.Rules.{rules}
use Rattle.command_runs.proofs.tasks.start_stored.Goals as goal

pub read_words-read-requires : goal.read_words-read-requires
read_words-read-requires c = omega (arith, c.requires.stored_len_bound, length-replicate 98688 (pos 0))

pub malformed_line-requires : goal.malformed_line-requires
malformed_line-requires c = omega (arith, c.requires.output_room_in_bounds)

pub slice_bounds-store-end : goal.slice_bounds-store-end
slice_bounds-store-end c = stored-inside (rw c.in-Ok.is at c.read_words-read.ensures) c.read_words-read.auto.table

pub start_text-requires : goal.start_text-requires
start_text-requires c = record { roomy = c.requires.roomy; store_in_bounds = part_room _ _ (stored-inside (rw c.in-Ok.is at c.read_words-read.ensures) c.read_words-read.auto.table) (omega (arith, c.read_words-read.auto.table, length-replicate 98688 (pos 0))) c.requires.output_room_in_bounds; output_room_in_bounds = c.requires.output_room_in_bounds }

pub returns-in-Err : goal.returns-in-Err
unfolding stored_output
returns-in-Err c = put_as (sym (ap (stored_output c.args.task c.args.budget c.args.text.now) (rw c.in-Err.is at c.read_words-read.ensures))) c.malformed_line.ensures

pub returns-in-Ok : goal.returns-in-Ok
unfolding stored_output
returns-in-Ok c = let s = rw c.in-Ok.is at c.read_words-read.ensures in put_as (ap (task_output c.args.task c.args.budget c.args.text.now) (stored-words s) ∙ sym (ap (stored_output c.args.task c.args.budget c.args.text.now) s.is)) c.start_text.ensures
