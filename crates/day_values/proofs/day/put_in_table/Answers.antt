-- `put_in_table`: three numbers and the variables, one behind the other.
use mathlib.Core.Path.{◌∙◌, refl, ap}
use Rattle.text_lines.specs.Line.{line_bytes}
use Rattle.text_numbers.specs.PutLaws.{put_as}
use Rattle.day_values.proofs.Printing.{as-words, table-line}
use borrow.Author.Rules.{rules}
use Rattle.day_values.proofs.day.put_in_table.Goals as goal

pub returns : goal.returns
returns c =
    let s = c.args in
    record { put = put_as (ap line_bytes (table-line _ _ _ _ _ _ _ c.put.ensures c.put-2.ensures _ refl ∙ as-words s.value s.plain s.other s.variables.now c.ranges.value.sfits c.requires.plain_bound)) c.put_sized.ensures.put; upper_bound = c.put_sized.ensures.upper_bound }
