-- A value into a variable: nothing where it went straight there, else its atom.
use mathlib.Core.Path.{sym, ap, ◌∙◌}
use native.Mathlib.Omega.{arith}
use Rattle.language.specs.Trees.{variable}
use Rattle.language.specs.Decode.{expression_at}
use Rattle.translation.specs.TranslateSize.{store_rows}
use Rattle.writers_rows.specs.Chain.{room-less}
use Rattle.writers_steps.specs.AtomLaws.{stored-straight, stored-copy}
use Rattle.writers_rows.specs.LeafLaws.{recoded, nothing-wrote}
use Rattle.measures_table.specs.Parts.{called_in}
use Rattle.writers_steps.proofs.straight.put_variable.Goals as goal

pub returns-then-direct_at : goal.returns-then-direct_at
returns-then-direct_at c =
    let args = c.args in
    recoded _ _ _ _ _ _ (nothing-wrote args.at.follows args.at.base _)
    (stored-straight (called_in args.source.now.rows.now) args.source.now.store args.number (expression_at args.source.now.rows.now args.value) args.usage args.at.level (sym c.direct_at.ensures ∙ c.if-direct_at.true))

pub put_copy-requires : goal.put_copy-requires
put_copy-requires c =
    let all = ap (store_rows (variable c.args.number)) (sym c.direct_at.ensures ∙ c.if-direct_at.false) in
    (room-less 4 c.requires.room (omega (arith, all)), omega (arith, c.requires.low), c.atom_at-atom.ensures.fits)

pub returns : goal.returns
returns c =
    let args = c.args in
    recoded _ _ _ _ _ _ c.put_copy.ensures
    (stored-copy (called_in args.source.now.rows.now) args.source.now.store args.number (expression_at args.source.now.rows.now args.value) args.usage args.at.level (sym c.direct_at.ensures ∙ c.if-direct_at.false) c.atom_at-atom.ensures.is)
