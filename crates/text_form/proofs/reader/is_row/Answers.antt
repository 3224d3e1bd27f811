-- `is_row`: as many numbers as a row has words.
use mathlib.Core.Path.{◌∙◌}
use Rattle.text_form.proofs.Rows.{row-counted}
use Rattle.text_form.proofs.reader.is_row.Goals as goal

pub returns : goal.returns
returns c = c.eq.ensures ∙ row-counted _ _ _ c.count_numbers.ensures
