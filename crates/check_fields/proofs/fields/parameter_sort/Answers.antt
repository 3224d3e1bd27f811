-- `parameter_sort` reads the array of a parameter's fields.
use Rattle.words.specs.Kinds.{parameter_fields}
use Rattle.words_roles.specs.Roles.{parameter_sort}
use borrow.Author.Rules.{rules}
use mathlib.Core.Path.{refl}
use Rattle.check_fields.proofs.fields.parameter_sort.Goals as goal

pub returns : goal.returns
unfolding parameter_sort parameter_fields
returns c = refl
