-- `put_resolved` writes one word after the other; what stands in the table are the resolved words so far, over what it held.
use Rattle.std.proofs.Common.{◌≡◌}
use Rattle.words.specs.Over.{over}
use Rattle.names.specs.Names.{table_of, resolved_word}
use Rattle.names_resolver.proofs.store_words.ScannedRows.put_resolved.Given as goal

abbrev pub invariant-loop-word : goal.invariant-loop-word
invariant-loop-word l = l.out ≡ over (table_of (resolved_word l.self.store l.self.rows.now) l.word) l.initial.out
