-- `join` hands a refusal on, or what was written; either way the words that stand in the table are as promised.
use Rattle.std.proofs.Common.{sym}
use Rattle.joiner.specs.JoinerLaws.{before-ten-parts, join-handed, join_written, writes-join}
use Rattle.joiner.proofs.join.Goals as goal

pub write_join-requires : goal.write_join-requires
write_join-requires c =
    before-ten-parts c.args.header.now c.args.rows.now c.args.second_header.now c.args.second_rows.now c.args.out_rows.now (sym c.in_ok-join_refusal.ensures)

pub returns : goal.returns
returns c =
    let e = join_written c.args.header.now c.args.rows.now c.args.second_header.now c.args.second_rows.now c.args.out_rows.now c.write_join.result _ (sym c.in_ok-join_refusal.ensures) c.write_join.ensures in
    record { out_rows_after = e; writes_join = writes-join c.args.header.now c.args.rows.now c.args.second_header.now c.args.second_rows.now c.args.out_rows.now _ _ e }

pub returns-in_err-join_refusal : goal.returns-in_err-join_refusal
returns-in_err-join_refusal c =
    let e = join-handed c.args.header.now c.args.rows.now c.args.second_header.now c.args.second_rows.now c.args.out_rows.now _ _ c.from_residual.ensures.1 (sym c.in_err-join_refusal.ensures) in
    record { out_rows_after = e; writes_join = writes-join c.args.header.now c.args.rows.now c.args.second_header.now c.args.second_rows.now c.args.out_rows.now _ _ e }
