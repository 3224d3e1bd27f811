-- `put_words` puts one word after the other; the invariant is `Worded`.
use Rattle.text_report.proofs.Spacing.{Worded}
use Rattle.text_report.proofs.field.put_words.Given as goal

abbrev pub invariant-loop-word : goal.invariant-loop-word
invariant-loop-word l = Worded l.words l.word-index l.at l.initial.text l.text
