-- `put_element`: its index and its value are atoms.
use mathlib.Core.Path.{ap₂}
use Rattle.language.specs.Trees.{assign, element, express, none, ◌then◌}
use Rattle.writers_rows.specs.LeafLaws.{recoded}
use borrow.Author.Rules.{rules}
use Rattle.page_rows.proofs.assignments.put_element.Goals as goal

pub returns : goal.returns
returns c =
    recoded _ _ _ _ _ _ c.put_store.ensures (ap₂ (λ x y. express (assign (element c.args.array x) y) then none) c.kernel_atom.ensures.0 c.kernel_atom-2.ensures.0)
