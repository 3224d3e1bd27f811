-- `lay_lettered`: a letter, and digits behind it.
use Rattle.page_line.specs.LaidLaws.{laid_next}
use Rattle.page_line.proofs.bytes.lay_lettered.Goals as goal

pub returns : goal.returns
returns c =
    laid_next c.lay_byte-lettered.ensures c.lay_digits.ensures
