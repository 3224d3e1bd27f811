-- `front`: a definition has its place, another item is what stands behind the definitions.
use mathlib.Core.Path.{sym, ◌∙◌}
use Rattle.join.proofs.Placements.{front-definition, front-behind}
use Rattle.join_rows.specs.Standings.{placement_of}
use Rattle.join_rows.proofs.placed.Placed.front.Goals as goal

pub returns-then-is_definition : goal.returns-then-is_definition
returns-then-is_definition c =
    (c.place.ensures.0 ∙ sym (front-definition (placement_of c.args.self.now.standing) c.args.self.now.rows.now c.args.item (sym c.is_definition.ensures ∙ c.if-is_definition.true)), c.place.ensures.1)

pub returns : goal.returns
returns c =
    (sym (front-behind (placement_of c.args.self.now.standing) c.args.self.now.rows.now c.args.item (sym c.is_definition.ensures ∙ c.if-is_definition.false)), c.args.self.now.ready.small.3)
