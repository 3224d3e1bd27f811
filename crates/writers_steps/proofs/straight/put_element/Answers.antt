-- A value that waited into an element: its atom, and that of the index above it.
use native.Mathlib.Omega.{arith}
use Rattle.language.specs.Trees.{element}
use Rattle.language.specs.Writes.{index_writes}
use Rattle.language.specs.Decode.{expression_at}
use Rattle.translation.specs.Translate.{atom_of}
use Rattle.translation.proofs.TranslateBounds.{taken_most}
use Rattle.translation.proofs.HeldCode.{copied-most}
use Rattle.measures_table.specs.MeasureLaws.{whole-asks}
use Rattle.writers_steps.specs.AtomLaws.{held-is, above-held, stored-element}
use Rattle.writers_rows.specs.LeafLaws.{recoded}
use Rattle.measures_table.specs.Parts.{called_in}
use Rattle.writers_steps.proofs.straight.put_element.Goals as goal

pub taken_at-requires : goal.taken_at-requires
taken_at-requires c = whole-asks c.requires.writing.measured c.requires.value_inside

pub overflow_add-above : goal.overflow_add-above
overflow_add-above c = omega (arith, c.requires.level_low, c.taken_at.ensures, taken_most (atom_of (called_in c.args.source.now.rows.now) (expression_at c.args.source.now.rows.now c.args.value)), c.requires.copies_are, copied-most (atom_of (called_in c.args.source.now.rows.now) (expression_at c.args.source.now.rows.now c.args.value)) (index_writes (called_in c.args.source.now.rows.now) (element c.args.array (expression_at c.args.source.now.rows.now c.args.index))))

pub overflow_add-above-2 : goal.overflow_add-above-2
overflow_add-above-2 c = omega (arith, c.requires.level_low, c.taken_at.ensures, taken_most (atom_of (called_in c.args.source.now.rows.now) (expression_at c.args.source.now.rows.now c.args.value)), c.requires.copies_are, copied-most (atom_of (called_in c.args.source.now.rows.now) (expression_at c.args.source.now.rows.now c.args.value)) (index_writes (called_in c.args.source.now.rows.now) (element c.args.array (expression_at c.args.source.now.rows.now c.args.index))))

pub atom_at-index_atom-requires : goal.atom_at-index_atom-requires
atom_at-index_atom-requires c = (c.requires.writing, c.requires.index_inside, omega (arith, c.requires.level_low, c.taken_at.ensures, taken_most (atom_of (called_in c.args.source.now.rows.now) (expression_at c.args.source.now.rows.now c.args.value)), c.requires.copies_are, copied-most (atom_of (called_in c.args.source.now.rows.now) (expression_at c.args.source.now.rows.now c.args.value)) (index_writes (called_in c.args.source.now.rows.now) (element c.args.array (expression_at c.args.source.now.rows.now c.args.index)))))

pub returns : goal.returns
returns c =
    let args = c.args in
    let index = expression_at args.source.now.rows.now args.index in
    let value = expression_at args.source.now.rows.now args.value in
    let W = index_writes (called_in args.source.now.rows.now) (element args.array index) in
    let copies = c.requires.copies_are in
    recoded _ _ _ _ _ _ c.put_store.ensures
    (stored-element (called_in args.source.now.rows.now) args.source.now.store args.array index value args.usage args.at.level _ (above-held args.at.level (atom_of (called_in args.source.now.rows.now) value) W c.taken_at.ensures copies) c.atom_at-index_atom.ensures.is (held-is W copies c.held_atom-value_atom.ensures))
