-- The ones in the words are as many as the variables and declared words.
use borrow.Author.Rules.{rules}
use Rattle.words.specs.declared.Form.TheVariants.{Source}
use Rattle.language_programs.specs.Program.{resolved_rows}
use Rattle.write_sets_programs.proofs.UnionLaws.{written_count}
use Rattle.write_sets_entry.proofs.accepted_count.Goals as goal

pub returns : goal.returns
returns c =
    written_count (resolved_rows Source c.args.header.now c.args.rows.now) c.accepted_writes.ensures.variables c.count.ensures
