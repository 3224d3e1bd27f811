-- `size_of` adds the sizes up; the invariant is `Summed`.
use Rattle.text_lines.proofs.Sizing.{Summed}
use Rattle.text_lines.proofs.writer.size_of.Given as goal

abbrev pub invariant-loop-word : goal.invariant-loop-word
invariant-loop-word l = Summed l.words l.size l.word-index
