-- `put_line` recurs on the numbers behind the first.
use lib.ListN.{length}
use Rattle.text_lines.proofs.writer.+put_line.Given as goal

abbrev pub decreases-put_line : goal.decreases-put_line
decreases-put_line l = length l.words.now
