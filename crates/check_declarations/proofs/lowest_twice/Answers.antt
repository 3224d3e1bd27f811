-- `lowest_twice` takes the lower of what its two searches found.
use Rattle.std.specs.Prelude.{Option, ℕ}
use mathlib.Core.Path.{◌≡◌, sym, ◌∙◌}
use mathlib.Core.List.{List}
use lib.IntN.{ℤ}
use Rattle.words.specs.Search.{lowest_row}
use Rattle.check_parameter_causes.specs.Parameters.{declared_as_parameter}
use Rattle.check_declaration_causes.specs.Causes.{declared_before, declared_twice}
use Rattle.check_declarations.specs.Lower.{lower}
use Rattle.check_declarations.specs.LowerLaws.{lowest_row-either}
use Rattle.check_declarations.specs.Passes.{breaks, looked_up}
use borrow.Author.Rules.{rules}
use Rattle.check_declarations.proofs.lowest_twice.Goals as goal

twice_found : (rows : List ℤ) (one two found : Option ℕ) → one ≡ lowest_row rows (declared_before rows) → two ≡ lowest_row rows (declared_as_parameter rows) → found ≡ lower one two → found ≡ lowest_row rows (declared_twice rows)
unfolding declared_twice
twice_found rows one two found e f h = h ∙ rw (e, f) (sym (lowest_row-either rows (declared_before rows) (declared_as_parameter rows)))

pub lowest_breaking-before-requires : goal.lowest_breaking-before-requires
unfolding looked_up
lowest_breaking-before-requires c = (c.requires.0, c.requires.1)

pub lowest_breaking-parameter-requires : goal.lowest_breaking-parameter-requires
unfolding looked_up
lowest_breaking-parameter-requires c = (c.requires.0, c.requires.2)

pub returns : goal.returns
unfolding breaks
returns c = twice_found _ _ _ _ c.lowest_breaking-before.ensures c.lowest_breaking-parameter.ensures c.lower_of.ensures
