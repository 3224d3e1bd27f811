-- `answer_request`: everything that is put at the start of `out` is in it.
use mathlib.Core.Path.{sym}
use lib.Seq.{length-take-le}
use Rattle.text_numbers.specs.PutLaws.{put-fits, put-inside}
use Rattle.command_cases.proofs.answer_request.Goals as goal

pub slice_bounds-write_all-end : goal.slice_bounds-write_all-end
slice_bounds-write_all-end g c = put-inside c.inputs_answer-bytes.ensures (put-fits c.inputs_answer-bytes.ensures c.inputs_answer-bytes.auto.out)

pub slice_bounds-write_all-end-2 : goal.slice_bounds-write_all-end-2
slice_bounds-write_all-end-2 g c = sym (length-take-le _ _ (put-inside c.inputs_answer-bytes.ensures (put-fits c.inputs_answer-bytes.ensures c.inputs_answer-bytes.auto.out)))
