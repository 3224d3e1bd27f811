-- The measures of the list of row 0.
use mathlib.Core.Path.{subst}
use Rattle.language.specs.Trees.{Items}
use Rattle.measures_table.specs.Parts.{called_in}
use Rattle.measures_table.specs.Measures.{ProgramMeasured}
use Rattle.measures.proofs.ProgramLaws.{contents-at, program-inside}
use Rattle.measures.proofs.program.measured_program.Goals as goal

pub program_measures-requires : goal.program_measures-requires
program_measures-requires c = (c.requires, program-inside c.requires.source c.number_at.result c.number_at.ensures)

pub returns : goal.returns
returns c =
    let rows = c.args.rows.now in
    subst (λ (is : Items). ProgramMeasured (called_in rows) is c.program_measures.result) (contents-at rows c.number_at.ensures) c.program_measures.ensures
