-- The same while the expression at a link is worked out.
use native.Mathlib.Omega.{arith}
use Rattle.write_sets_rows.proofs.WriteLaws.{part-set}
use Rattle.measures_expressions.proofs.copies.copied_over.Goals as goal

pub set_at-requires : goal.set_at-requires
set_at-requires c = λ h. omega (arith, c.requires.sets.0.room, c.requires.sets.2)

pub copied_against-requires : goal.copied_against-requires
copied_against-requires c = (c.requires.sets.0.source, c.requires.sets.0.names, c.requires.sets.1, c.requires.rows_in_bounds.0, c.requires.rows_in_bounds.1)

pub returns : goal.returns
returns c = c.copied_against.ensures.is _ (part-set c.args.meanwhile c.requires.sets.0 c.requires.sets.2 c.set_at.ensures)
