-- The set that a link leads to.
use mathlib.Core.Path.{sym, ◌∙◌}
use native.Mathlib.Omega.{arith}
use Rattle.std.proofs.lemmas.List.{get_or_default}
use Rattle.write_sets_rows.proofs.WriteLaws.{set-some}
use Rattle.write_sets_rows.proofs.table.set_at.Goals as goal

pub returns : goal.returns
returns c = let there = c.requires (omega (arith, c.if-link-eq0.false)) in get_or_default _ _ _ _ there ∙ sym (set-some _ c.args.link (omega (arith, c.if-link-eq0.false)))
