-- `put_value`, by the sort of the value: each is one of the kernel's assignments.
use mathlib.Core.Path.{sym, ap, ap₂, ◌∙◌}
use native.Mathlib.Omega.{arith}
use Rattle.language.specs.Trees.{read, minus, binary, assign, variable, element, express, none, ◌then◌}
use Rattle.writers_rows.specs.LeafLaws.{recoded}
use Rattle.page_words.specs.Trees.{value_tree}
use Rattle.page_rows.proofs.Steps.{value_room, value-fit}
use borrow.Author.Rules.{rules}
use Rattle.page_rows.proofs.assignments.put_value.Goals as goal

pub kernel_atom-requires : goal.kernel_atom-requires
kernel_atom-requires c =
    (c.requires.1, value-fit _ _ c.in-Single.is c.requires.3)

pub put_copy-requires : goal.put_copy-requires
put_copy-requires c =
    (value_room _ _ c.in-Single.is _ _ c.requires.0, c.requires.2, c.kernel_atom.ensures.1)

pub kernel_atom-requires-in-Element : goal.kernel_atom-requires-in-Element
kernel_atom-requires-in-Element c =
    (c.requires.1, (value-fit _ _ c.in-Element.is c.requires.3).1)

pub put_fetch-requires : goal.put_fetch-requires
put_fetch-requires c =
    let fits = value-fit _ _ c.in-Element.is c.requires.3 in
    (value_room _ _ c.in-Element.is _ _ c.requires.0, c.requires.2, omega (arith, fits.0), c.kernel_atom-in-Element.ensures.1)

pub kernel_atom-requires-in-Minus : goal.kernel_atom-requires-in-Minus
kernel_atom-requires-in-Minus c =
    (c.requires.1, value-fit _ _ c.in-Minus.is c.requires.3)

pub put_minus-requires : goal.put_minus-requires
put_minus-requires c =
    (value_room _ _ c.in-Minus.is _ _ c.requires.0, c.requires.2, c.kernel_atom-in-Minus.ensures.1)

pub kernel_atom-requires-in-Binary : goal.kernel_atom-requires-in-Binary
kernel_atom-requires-in-Binary c =
    (c.requires.1, (value-fit _ _ c.in-Binary.is c.requires.3).0)

pub kernel_atom-requires-in-Binary-2 : goal.kernel_atom-requires-in-Binary-2
kernel_atom-requires-in-Binary-2 c =
    (c.requires.1, (value-fit _ _ c.in-Binary.is c.requires.3).1)

pub put_binary-requires : goal.put_binary-requires
put_binary-requires c =
    (value_room _ _ c.in-Binary.is _ _ c.requires.0, c.requires.2, c.kernel_atom-in-Binary.ensures.1, c.kernel_atom-in-Binary-2.ensures.1)

pub put_called-requires : goal.put_called-requires
put_called-requires c =
    (value_room _ _ c.in-Call.is _ _ c.requires.0, c.requires.2, omega (arith, value-fit _ _ c.in-Call.is c.requires.3))

pub returns-in-Single : goal.returns-in-Single
returns-in-Single c =
    recoded _ _ _ _ _ _ c.put_copy.ensures
    (ap (λ x. express (assign (variable c.args.number) x) then none) c.kernel_atom.ensures.0 ∙ ap (λ v. express (assign (variable c.args.number) (value_tree c.args.sizes v)) then none) (sym c.in-Single.is))

pub returns-in-Element : goal.returns-in-Element
returns-in-Element c =
    recoded _ _ _ _ _ _ c.put_fetch.ensures
    (ap (λ x. express (assign (variable c.args.number) (read (element c.in-Element.array x))) then none) c.kernel_atom-in-Element.ensures.0 ∙ ap (λ v. express (assign (variable c.args.number) (value_tree c.args.sizes v)) then none) (sym c.in-Element.is))

pub returns-in-Minus : goal.returns-in-Minus
returns-in-Minus c =
    recoded _ _ _ _ _ _ c.put_minus.ensures
    (ap (λ x. express (assign (variable c.args.number) (minus x)) then none) c.kernel_atom-in-Minus.ensures.0 ∙ ap (λ v. express (assign (variable c.args.number) (value_tree c.args.sizes v)) then none) (sym c.in-Minus.is))

pub returns-in-Binary : goal.returns-in-Binary
returns-in-Binary c =
    recoded _ _ _ _ _ _ c.put_binary.ensures
    (ap₂ (λ x y. express (assign (variable c.args.number) (binary c.in-Binary.operator x y)) then none) c.kernel_atom-in-Binary.ensures.0 c.kernel_atom-in-Binary-2.ensures.0 ∙ ap (λ v. express (assign (variable c.args.number) (value_tree c.args.sizes v)) then none) (sym c.in-Binary.is))

pub returns-in-Call : goal.returns-in-Call
returns-in-Call c =
    recoded _ _ _ _ _ _ c.put_called.ensures (ap (λ v. express (assign (variable c.args.number) (value_tree c.args.sizes v)) then none) (sym c.in-Call.is))
