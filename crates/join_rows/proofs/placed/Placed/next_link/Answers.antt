-- `next_link`: that of a definition, of row 0, and of every other row.
use mathlib.Core.Path.{sym, ◌∙◌}
use native.Mathlib.Omega.{arith}
use Rattle.check_structure.specs.LinkLaws.{part-inside}
use Rattle.join_rows.specs.RowLaws.{next-definition, next-root, next-other}
use Rattle.join_rows.specs.Standings.{placement_of}
use Rattle.join_rows.proofs.placed.Placed.next_link.Goals as goal

pub front-requires : goal.front-requires
front-requires c =
    (part-inside c.args.self.now.rows.now c.args.self.now.ready.tree c.args.row 5 _ c.requires (omega arith) c.link-to.ensures)

pub returns-then-is_definition : goal.returns-then-is_definition
returns-then-is_definition c =
    (c.front.ensures.0 ∙ next-definition (placement_of c.args.self.now.standing) c.args.self.now.rows.now c.args.row _ (sym c.is_definition.ensures ∙ c.if-is_definition.true) c.link-to.ensures, c.front.ensures.1)

pub returns-then-row-eq0 : goal.returns-then-row-eq0
returns-then-row-eq0 c =
    (next-root (placement_of c.args.self.now.standing) c.args.self.now.rows.now c.args.row (sym c.is_definition.ensures ∙ c.if-is_definition.false) c.if-row-eq0.true, c.args.self.now.ready.small.4)

pub led-requires : goal.led-requires
led-requires c =
    (part-inside c.args.self.now.rows.now c.args.self.now.ready.tree c.args.row 5 _ c.requires (omega arith) c.link-to.ensures)

pub returns : goal.returns
returns c =
    (c.led.ensures.0 ∙ next-other (placement_of c.args.self.now.standing) c.args.self.now.rows.now c.args.row _ (sym c.is_definition.ensures ∙ c.if-is_definition.false) c.if-row-eq0.false c.link-to.ensures, c.led.ensures.1)
