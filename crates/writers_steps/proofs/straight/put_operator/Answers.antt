-- The operation of a binary operator: the right operand's atom, and the left one's above it.
use mathlib.Core.Path.{ap, ap₂, ◌∙◌}
use Prim.Native.Nat.{ℕ}
use native.Mathlib.Omega.{arith}
use Rattle.language.specs.Trees.{Expression, binary, assign, variable, express, none, ◌then◌}
use Rattle.language.specs.Decode.{expression_at}
use Rattle.translation.specs.Translate.{atom_of, atom}
use Rattle.translation.proofs.TranslateBounds.{taken_most}
use Rattle.measures_table.specs.MeasureLaws.{whole-asks}
use Rattle.writers_rows.specs.LeafLaws.{recoded}
use Rattle.language.specs.Writes.{writes}
use Rattle.translation.proofs.HeldCode.{copied-most}
use Rattle.writers_steps.specs.AtomLaws.{held-is, above-held}
use Rattle.measures_table.specs.Parts.{called_in}
use Rattle.writers_steps.proofs.straight.put_operator.Goals as goal

pub taken_at-requires : goal.taken_at-requires
taken_at-requires c = whole-asks c.requires.writing.measured c.requires.right_inside

pub overflow_add-above : goal.overflow_add-above
overflow_add-above c = omega (arith, c.requires.level_low, c.taken_at.ensures, taken_most (atom_of (called_in c.args.source.now.rows.now) (expression_at c.args.source.now.rows.now c.args.right)), c.requires.copies_are, copied-most (atom_of (called_in c.args.source.now.rows.now) (expression_at c.args.source.now.rows.now c.args.right)) (writes (called_in c.args.source.now.rows.now) (expression_at c.args.source.now.rows.now c.args.left)))

pub overflow_add-above-2 : goal.overflow_add-above-2
overflow_add-above-2 c = omega (arith, c.requires.level_low, c.taken_at.ensures, taken_most (atom_of (called_in c.args.source.now.rows.now) (expression_at c.args.source.now.rows.now c.args.right)), c.requires.copies_are, copied-most (atom_of (called_in c.args.source.now.rows.now) (expression_at c.args.source.now.rows.now c.args.right)) (writes (called_in c.args.source.now.rows.now) (expression_at c.args.source.now.rows.now c.args.left)))

pub atom_at-left_atom-requires : goal.atom_at-left_atom-requires
atom_at-left_atom-requires c = (c.requires.writing, c.requires.left_inside, omega (arith, c.requires.level_low, c.taken_at.ensures, taken_most (atom_of (called_in c.args.source.now.rows.now) (expression_at c.args.source.now.rows.now c.args.right)), c.requires.copies_are, copied-most (atom_of (called_in c.args.source.now.rows.now) (expression_at c.args.source.now.rows.now c.args.right)) (writes (called_in c.args.source.now.rows.now) (expression_at c.args.source.now.rows.now c.args.left))))

pub returns : goal.returns
returns c =
    let args = c.args in
    let left = expression_at args.source.now.rows.now args.left in
    let right = expression_at args.source.now.rows.now args.right in
    let copies = c.requires.copies_are in
    let value = ap₂ (binary args.operator)
    (c.atom_at-left_atom.ensures.is ∙ ap (λ (n : ℕ). atom args.source.now.store n (atom_of (called_in args.source.now.rows.now) left)) (above-held args.at.level (atom_of (called_in args.source.now.rows.now) right) (writes (called_in args.source.now.rows.now) left) c.taken_at.ensures copies))
    (held-is (writes (called_in args.source.now.rows.now) left) copies c.held_atom-right_atom.ensures) in
    recoded _ _ _ _ _ _ c.put_binary.ensures (ap₂ (λ (n : ℕ) (x : Expression). express (assign (variable n) x) then none) c.target_word-number.ensures.is value)
