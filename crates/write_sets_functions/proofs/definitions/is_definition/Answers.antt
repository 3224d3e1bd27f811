-- Whether a link leads to a definition.
use mathlib.Core.Path.{ap, ◌∙◌}
use native.Mathlib.Omega.{arith}
use Rattle.write_sets_functions.specs.Definitions.{is_definition}
use Rattle.write_sets_functions.proofs.DefinitionLaws.{defines-some}
use Rattle.write_sets_functions.proofs.definitions.is_definition.Goals as goal

pub returns : goal.returns
returns c = defines-some c.args.rows.now c.args.link (omega (arith, c.if-link-eq0.false)) (c.is_kind.ensures ∙ ap is_definition c.kind_at.ensures)
