-- `put_zeros_task`: a store of as many zeros as the task starts from, then the task.
use native.Mathlib.Omega.{arith}
use mathlib.Core.Path.{ap, ◌∙◌}
use mathlib.Core.List.{List}
use Prim.Native.Nat.{◌≤◌}
use lib.IntN.{ℤ, pos}
use lib.ListN.{length-replicate}
use Rattle.words.specs.Layout.{zeros}
use Rattle.words.specs.Laws.{zeros-part}
use Rattle.text_numbers.specs.PutLaws.{put_as}
use Rattle.command_runs.specs.Tasks.{task_lines}
use Rattle.command_runs.proofs.Starts.{start-most, part_room}
use borrow.Author.Rules.{rules}
use Rattle.command_runs.proofs.tasks.put_zeros_task.Goals as goal
use Rattle.command_runs.proofs.tasks.put_zeros_task.Goals.{After-start_words-count}

few : (c : After-start_words-count) → c.start_words-count.result ≤ 16448
few c = omega (arith, c.start_words-count.ensures, start-most c.args.task c.args.header.now c.args.rows.now c.requires.header_value c.requires.rows_bound)

pub slice_bounds-store-end : goal.slice_bounds-store-end
slice_bounds-store-end c = omega (arith, few c, length-replicate 16448 (pos 0))

pub put_task-requires : goal.put_task-requires
put_task-requires c =
    let room = part_room c.start_words-count.result (zeros 16448) (omega (arith, few (goal.at.put_task-requires c).After-start_words-count, length-replicate 16448 (pos 0))) (omega (arith, length-replicate 16448 (pos 0))) c.requires.output_room_in_bounds in
    record { header_value = c.requires.header_value; rows_bound = c.requires.rows_bound; store_in_bounds = room; output_room_in_bounds = c.requires.output_room_in_bounds }

pub returns : goal.returns
returns c =
    put_as (ap (λ (store : List ℤ). task_lines c.args.task c.args.budget store c.args.header.now c.args.rows.now) (zeros-part c.start_words-count.result 16448 (few (goal.at.returns c).After-start_words-count) ∙ ap zeros c.start_words-count.ensures)) c.put_task.ensures
