-- How a branch of a conditional ends, by whether its value takes a temporary.
use native.Mathlib.Omega.{arith}
use Rattle.language.specs.Decode.{expression_at}
use Rattle.translation.specs.Translate.{atom_of}
use Rattle.measures_table.specs.MeasureLaws.{whole-asks}
use Rattle.measures_table.specs.Parts.{called_in}
use Rattle.writers_expressions.proofs.Choices.{end_stays, end_copy}
use Rattle.writers_expressions.proofs.branches.end_at.Goals as goal

pub taken_at-requires : goal.taken_at-requires
taken_at-requires c = whole-asks c.requires.0 c.requires.1

pub returns-then-taken_at-eq1 : goal.returns-then-taken_at-eq1
returns-then-taken_at-eq1 c = end_stays (atom_of (called_in c.args.source.now.rows.now) (expression_at c.args.source.now.rows.now c.args.row)) c.taken_at.ensures (omega arith)

pub returns : goal.returns
returns c = end_copy (atom_of (called_in c.args.source.now.rows.now) (expression_at c.args.source.now.rows.now c.args.row)) c.taken_at.ensures (λ e. omega arith)
