-- The temporaries of a value, by whether it is copied.
use native.Mathlib.Omega.{arith}
use Rattle.language.specs.Decode.{expression_at}
use Rattle.translation.specs.Translate.{atom_of}
use Rattle.measures_table.specs.Parts.{called_in}
use Rattle.measures_table.specs.MeasureLaws.{whole-asks}
use Rattle.writers_calls.specs.ArgumentLaws.{copy-taken, own-taken}
use Rattle.writers_calls.proofs.arguments.held_taken.Goals as goal

pub returns-then-copied-eq1 : goal.returns-then-copied-eq1
returns-then-copied-eq1 c =
    let args = c.args in
    copy-taken args.copied (atom_of (called_in args.source.now.rows.now) (expression_at args.source.now.rows.now args.row)) (omega arith)

pub taken_at-requires : goal.taken_at-requires
taken_at-requires c = whole-asks c.requires.0 c.requires.1

pub returns : goal.returns
returns c =
    let args = c.args in
    own-taken args.copied (atom_of (called_in args.source.now.rows.now) (expression_at args.source.now.rows.now args.row)) (λ e. omega arith) c.taken_at.ensures
