-- `put_ending_name` puts the bytes of the ending's word.
use mathlib.Core.Path.{ap, ◌∙◌}
use native.Mathlib.Omega.{arith}
use lib.ListN.{length}
use Rattle.words.specs.AnswerLaws.{names-short}
use Rattle.text_numbers.specs.PutLaws.{put_as}
use Rattle.text_report.proofs.field.put_ending_name.Goals as goal

pub put_bytes-requires : goal.put_bytes-requires
put_bytes-requires c = omega (arith, ap length (c.as_bytes.ensures.value ∙ c.ending_name.ensures), names-short c.args.ending, c.requires)

pub returns : goal.returns
returns c = put_as (c.as_bytes.ensures.value ∙ c.ending_name.ensures) c.put_bytes.ensures
