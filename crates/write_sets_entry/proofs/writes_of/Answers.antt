-- The sets, or the refusal.
use Rattle.write_sets_entry.proofs.ToldLaws.{accepted-of, told-sets, told-refused}
use borrow.Author.Rules.{rules}
use Rattle.write_sets_entry.proofs.writes_of.Goals as goal

pub accepted_writes-requires : goal.accepted_writes-requires
accepted_writes-requires c = accepted-of c.args.header.now c.args.rows.now c.check-verdict.ensures c.in-Ok.is

pub returns-in-Ok : goal.returns-in-Ok
returns-in-Ok c = told-sets c.args.header.now c.args.rows.now c.check-verdict.ensures c.in-Ok.is c.accepted_writes.ensures

pub returns-in-Err : goal.returns-in-Err
returns-in-Err c = told-refused c.args.header.now c.args.rows.now c.check-verdict.ensures _ c.in-Err.is
