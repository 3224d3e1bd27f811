-- An element into its target; nothing for a variable.
use mathlib.Core.Path.{sym, ap, ap₂, subst, ◌∙◌}
use Prim.Native.Nat.{ℕ, ◌*◌}
use native.Mathlib.Omega.{arith}
use Rattle.language.specs.Trees.{Expression, read, assign, variable, element, express, none, ◌then◌}
use Rattle.translation.specs.Translate.{read_code}
use Rattle.translation.specs.TranslateSize.{index_rows}
use Rattle.language_shapes.specs.Shapes.{place_tree}
use Rattle.language_shapes.specs.declared.PlaceShape.{PlaceShape}
use Rattle.writers_steps.specs.Asks.{PlaceInside}
use Rattle.writers_rows.specs.Chain.{room-less}
use Rattle.writers_steps.specs.AtomLaws.{place-index}
use Rattle.writers_rows.specs.LeafLaws.{recoded, nothing-wrote}
use Rattle.measures_table.specs.Parts.{called_in}
use Rattle.writers_steps.proofs.straight.put_read.Goals as goal

pub atom_at-atom-requires : goal.atom_at-atom-requires
atom_at-atom-requires c = (c.requires.writing, place-index _ c.requires.place_inside c.in-Element.is, omega (arith, c.requires.level_low))

pub put_fetch-requires : goal.put_fetch-requires
put_fetch-requires c =
    let inside = subst (λ (p : PlaceShape). PlaceInside c.args.source.now.rows.now p) c.in-Element.is c.requires.place_inside in
    let size = ap (λ (p : PlaceShape). 5 * index_rows (place_tree c.args.source.now.rows.now p)) c.in-Element.is in
    (room-less 5 c.requires.room (omega (arith, size)), c.target_word-number.ensures.fits, omega (arith, inside.0), c.atom_at-atom.ensures.fits)

pub returns-in-Variable : goal.returns-in-Variable
returns-in-Variable c =
    let args = c.args in
    recoded _ _ _ _ _ _ (nothing-wrote args.at.follows args.at.base _)
    (ap (λ (p : PlaceShape). read_code (called_in args.source.now.rows.now) args.source.now.store (place_tree args.source.now.rows.now p) args.usage args.at.level) (sym c.in-Variable.is))

pub returns-in-Element : goal.returns-in-Element
returns-in-Element c =
    let args = c.args in
    recoded _ _ _ _ _ _ c.put_fetch.ensures
    (ap₂ (λ (n : ℕ) (x : Expression). express (assign (variable n) (read (element c.in-Element.array x))) then none) c.target_word-number.ensures.is c.atom_at-atom.ensures.is
    ∙ ap (λ (p : PlaceShape). read_code (called_in args.source.now.rows.now) args.source.now.store (place_tree args.source.now.rows.now p) args.usage args.at.level) (sym c.in-Element.is))
