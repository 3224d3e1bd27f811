-- `place`: a row's place in its part, behind where the part begins.
use mathlib.Core.Path.{sym, ◌∙◌}
use native.Mathlib.Omega.{arith}
use Rattle.join_rows.specs.RowLaws.{rank_most, place-definition, place_other}
use Rattle.join_rows.specs.Standings.{placement_of}
use Rattle.join_rows.proofs.placed.Placed.place.Goals as goal

pub overflow_add-result : goal.overflow_add-result
overflow_add-result c =
    omega (arith, c.wide-rank.ensures ∙ c.args.self.now.ready.ranked.is _ c.requires, rank_most c.args.self.now.rows.now c.args.row, c.args.self.now.ready.few, c.requires, c.args.self.now.ready.small.0)

pub returns-then-is_of_definition : goal.returns-then-is_of_definition
returns-then-is_of_definition c = (
  place-definition (placement_of c.args.self.now.standing) c.args.self.now.rows.now c.args.row _ (c.wide-rank.ensures ∙ c.args.self.now.ready.ranked.is _ c.requires) (sym c.is_of_definition.ensures ∙ c.if-is_of_definition.true),
  omega (arith, c.wide-rank.ensures ∙ c.args.self.now.ready.ranked.is _ c.requires, rank_most c.args.self.now.rows.now c.args.row, c.args.self.now.ready.few, c.requires, c.args.self.now.ready.small.0),
)

pub overflow_add-result-2 : goal.overflow_add-result-2
overflow_add-result-2 c =
    omega (arith, c.wide-rank.ensures ∙ c.args.self.now.ready.ranked.is _ c.requires, rank_most c.args.self.now.rows.now c.args.row, c.args.self.now.ready.few, c.requires, c.args.self.now.ready.small.1)

pub returns : goal.returns
returns c = (
  place_other (placement_of c.args.self.now.standing) c.args.self.now.rows.now c.args.row _ (c.wide-rank.ensures ∙ c.args.self.now.ready.ranked.is _ c.requires) (sym c.is_of_definition.ensures ∙ c.if-is_of_definition.false),
  omega (arith, c.wide-rank.ensures ∙ c.args.self.now.ready.ranked.is _ c.requires, rank_most c.args.self.now.rows.now c.args.row, c.args.self.now.ready.few, c.requires, c.args.self.now.ready.small.1),
)
