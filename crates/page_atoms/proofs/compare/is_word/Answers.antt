-- `is_word`: the bytes are equal one by one.
use mathlib.Core.Path.{◌∙◌}
use Rattle.page_atoms.proofs.Comparing.{word-is}
use Rattle.page_atoms.proofs.compare.is_word.Goals as goal

pub returns : goal.returns
returns c = c.eq.ensures ∙ word-is c.args.text.now c.args.word.now
