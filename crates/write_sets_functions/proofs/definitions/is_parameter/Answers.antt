-- Whether a link leads to a parameter.
use native.Mathlib.Omega.{arith}
use Rattle.write_sets_functions.proofs.DefinitionLaws.{parameter-some}
use Rattle.write_sets_functions.proofs.definitions.is_parameter.Goals as goal

pub returns : goal.returns
returns c = parameter-some c.args.rows.now c.args.link (omega (arith, c.if-link-eq0.false)) c.is_declaration.ensures
