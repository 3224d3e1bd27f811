-- `part_link`: field a of row 0 leads behind the definitions, every other link along.
use mathlib.Core.Path.{sym, ◌∙◌}
use native.Mathlib.Omega.{arith}
use Rattle.check_structure.specs.LinkLaws.{part-inside}
use Rattle.join_rows.specs.RowLaws.{part-first, part-other}
use Rattle.join_rows.specs.Standings.{placement_of}
use Rattle.join_rows.proofs.placed.Placed.part_link.Goals as goal

pub returns-then-is_first : goal.returns-then-is_first
returns-then-is_first c =
    (c.led.ensures.0 ∙ part-first (placement_of c.args.self.now.standing) c.args.self.now.rows.now c.args.row c.args.field _ c.requires.1 (sym c.is_first.ensures ∙ c.if-is_first.true) c.args.self.now.ready.item_is, c.led.ensures.1)

pub led-requires-2 : goal.led-requires-2
led-requires-2 c =
    (part-inside c.args.self.now.rows.now c.args.self.now.ready.tree c.args.row c.args.field _ c.requires.0 (omega (arith, c.requires.1)) c.link-to.ensures)

pub returns : goal.returns
returns c =
    (c.led-2.ensures.0 ∙ part-other (placement_of c.args.self.now.standing) c.args.self.now.rows.now c.args.row c.args.field _ c.requires.1 (sym c.is_first.ensures ∙ c.if-is_first.false) c.link-to.ensures, c.led-2.ensures.1)
