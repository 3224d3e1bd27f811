-- `flatten` hands the check's refusal on, or the answer for an accepted program.
use mathlib.Core.Path.{sym, ◌∙◌}
use borrow.Author.Rules.{rules}
use Rattle.check_plain.specs.Accepts.{accepted-plain}
use Rattle.flattener.proofs.FlatteningLaws.{refused-first, accepted-next, written-form}
use Rattle.flattener.proofs.flatten.Goals as goal

pub flatten_accepted-requires : goal.flatten_accepted-requires
flatten_accepted-requires c =
    let s = c.args in
    record { header = s.header.now; plain = accepted-plain s.header.now s.rows.now (sym c.check-verdict.ensures ∙ c.in-Ok.is) }

pub returns-in-Ok : goal.returns-in-Ok
returns-in-Ok c =
    let s = c.args in
    let e = sym c.check-verdict.ensures ∙ c.in-Ok.is in
    let written = c.flatten_accepted.ensures in
    record { out_after = accepted-next s.header.now s.rows.now s.out.now _ e written; writes_list = written-form s.header.now s.rows.now s.out.now e _ _ written }

pub returns-in-Err : goal.returns-in-Err
returns-in-Err c =
    let s = c.args in
    record { out_after = refused-first s.header.now s.rows.now s.out.now _ (sym c.check-verdict.ensures ∙ c.in-Err.is); writes_list = tt }
