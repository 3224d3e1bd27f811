-- The number, or 0.
use Rattle.write_sets_entry.proofs.ToldLaws.{accepted-of, count-accepted, count-refused}
use borrow.Author.Rules.{rules}
use Rattle.write_sets_entry.proofs.count_of.Goals as goal

pub accepted_count-requires : goal.accepted_count-requires
accepted_count-requires c = accepted-of c.args.header.now c.args.rows.now c.check-verdict.ensures c.in-Ok.is

pub returns-in-Ok : goal.returns-in-Ok
returns-in-Ok c = count-accepted c.args.header.now c.args.rows.now c.check-verdict.ensures c.in-Ok.is c.accepted_count.ensures

pub returns-in-Err : goal.returns-in-Err
returns-in-Err c = count-refused c.args.header.now c.args.rows.now c.check-verdict.ensures _ c.in-Err.is
