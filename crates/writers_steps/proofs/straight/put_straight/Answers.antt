-- What an expression does with its operands' values, by the shape.
use mathlib.Core.Path.{sym, ap, ap₂, ◌∙◌}
use Prim.Native.Nat.{ℕ, ◌+◌}
use native.Mathlib.Omega.{arith}
use lib.IntN.{pos}
use Rattle.words.specs.declared.Operator.TheVariants.{Equal}
use Rattle.language.specs.Trees.{Expression, constant, minus, binary, assign, variable, express, none, ◌then◌}
use Rattle.language.specs.Decode.{place_of, expression_at}
use Rattle.translation.specs.Uses.{direct}
use Rattle.translation.specs.Translate.{atom_of, place_taken, kernel_place, update_code}
use Rattle.language_shapes.specs.ShapeLaws.{expressed}
use Rattle.language_shapes.specs.declared.ExpressionShape.TheVariants.{Operation}
use Rattle.writers_rows.specs.Straight.{straight_code}
use Rattle.writers_rows.specs.Chain.{room-less}
use Rattle.writers_steps.specs.AtomLaws.{held-is, onward-inside, room-by-shape, choice_none}
use Rattle.writers_rows.specs.LeafLaws.{recoded, nothing-wrote}
use Rattle.language.specs.Writes.{index_writes}
use Rattle.measures_table.specs.Parts.{called_in, first_copied}
use Rattle.measures_table.specs.MeasureLaws.{landed-copied}
use Rattle.measures_expressions.proofs.PassedLaws.{called-otherwise}
use Rattle.writers_steps.proofs.straight.put_straight.Goals as goal

pub put_read-requires : goal.put_read-requires
put_read-requires c =
    let shape = expressed c.expression_at-shape.ensures c.in-Read.is in
    record {
      writing = c.requires.0;
      place_inside = onward-inside c.args.source.now.rows.now c.args.row c.in-Read.place shape.onward;
      use_fits = c.requires.1.use_fits;
      level_low = omega (arith, c.requires.1.level_low, c.requires.1.inside, c.requires.0.measured.source.few_rows, c.requires.0.small_store);
      room = room-less _ (room-by-shape c.args.usage shape c.requires.1.room) (omega arith);
    }

pub atom_at-atom-requires : goal.atom_at-atom-requires
atom_at-atom-requires c =
    let shape = expressed (expressed c.expression_at-shape.ensures c.in-Operation.is) (ap Operation c.in-Minus.is) in
    (c.requires.0, shape.onward.inside, omega (arith, c.requires.1.level_low, c.requires.1.inside, c.requires.0.measured.source.few_rows, c.requires.0.small_store))

pub put_minus-requires : goal.put_minus-requires
put_minus-requires c =
    let shape = expressed (expressed c.expression_at-shape.ensures c.in-Operation.is) (ap Operation c.in-Minus.is) in
    (room-by-shape c.args.usage shape c.requires.1.room, c.target_word-number.ensures.fits, c.atom_at-atom.ensures.fits)

pub atom_at-atom-requires-in-Not : goal.atom_at-atom-requires-in-Not
atom_at-atom-requires-in-Not c =
    let shape = expressed (expressed c.expression_at-shape.ensures c.in-Operation.is) (ap Operation c.in-Not.is) in
    (c.requires.0, shape.onward.inside, omega (arith, c.requires.1.level_low, c.requires.1.inside, c.requires.0.measured.source.few_rows, c.requires.0.small_store))

pub put_binary-requires : goal.put_binary-requires
put_binary-requires c =
    let shape = expressed (expressed c.expression_at-shape.ensures c.in-Operation.is) (ap Operation c.in-Not.is) in
    (room-by-shape c.args.usage shape c.requires.1.room, c.target_word-number.ensures.fits, c.atom_at-atom-in-Not.ensures.fits, tt)

pub put_operator-requires : goal.put_operator-requires
put_operator-requires c =
    let shape = expressed (expressed c.expression_at-shape.ensures c.in-Operation.is) (ap Operation c.in-Binary.is) in
    record {
      writing = c.requires.0;
      left_inside = shape.onward.0.inside;
      right_inside = shape.onward.1.inside;
      copies_are = c.operand_copied-copied.ensures ∙ ap (first_copied (called_in c.args.source.now.rows.now)) shape.is;
      use_fits = c.requires.1.use_fits;
      level_low = omega (arith, c.requires.1.level_low, c.requires.1.inside, c.requires.0.measured.source.few_rows, c.requires.0.small_store);
      room = room-less _ (room-by-shape c.args.usage shape c.requires.1.room) (omega arith);
    }

pub put_assignment-requires : goal.put_assignment-requires
put_assignment-requires c =
    let shape = expressed (expressed c.expression_at-shape.ensures c.in-Operation.is) (ap Operation c.in-Assign.is) in
    record {
      writing = c.requires.0;
      place_inside = shape.onward.0.inside;
      value_inside = shape.onward.1.inside;
      copies_are = c.operand_copied-copied.ensures ∙ ap (first_copied (called_in c.args.source.now.rows.now)) shape.is;
      level_low = omega (arith, c.requires.1.level_low, c.requires.1.inside, c.requires.0.measured.source.few_rows, c.requires.0.small_store);
      room = room-less _ (room-by-shape c.args.usage shape c.requires.1.room) (omega (arith, landed-copied (called_in c.args.source.now.rows.now) (place_of (expression_at c.args.source.now.rows.now c.in-Assign.place)) (direct (expression_at c.args.source.now.rows.now c.in-Assign.value)) (atom_of (called_in c.args.source.now.rows.now) (expression_at c.args.source.now.rows.now c.in-Assign.value))));
    }

pub held_atom-atom-requires : goal.held_atom-atom-requires
held_atom-atom-requires c =
    let shape = expressed (expressed c.expression_at-shape.ensures c.in-Operation.is) (ap Operation c.in-Compound.is) in
    (c.requires.0, shape.onward.1.inside, omega (arith, c.requires.1.level_low, c.requires.1.inside, c.requires.0.measured.source.few_rows, c.requires.0.small_store))

pub put_operation-requires : goal.put_operation-requires
put_operation-requires c =
    let shape = expressed (expressed c.expression_at-shape.ensures c.in-Operation.is) (ap Operation c.in-Compound.is) in
    (record { writing = c.requires.0; place_inside = shape.onward.0.inside; level_low = omega (arith, c.requires.1.level_low, c.requires.1.inside, c.requires.0.measured.source.few_rows, c.requires.0.small_store); room = room-less _ (room-by-shape c.args.usage shape c.requires.1.room) (omega arith) }, c.held_atom-atom.ensures.fits)

pub put_operation-requires-in-Prefix : goal.put_operation-requires-in-Prefix
put_operation-requires-in-Prefix c =
    let shape = expressed (expressed c.expression_at-shape.ensures c.in-Operation.is) (ap Operation c.in-Prefix.is) in
    (record { writing = c.requires.0; place_inside = shape.onward.inside; level_low = omega (arith, c.requires.1.level_low, c.requires.1.inside, c.requires.0.measured.source.few_rows, c.requires.0.small_store); room = room-less _ (room-by-shape c.args.usage shape c.requires.1.room) (omega arith) }, tt)

pub put_step-requires : goal.put_step-requires
put_step-requires c =
    let shape = expressed (expressed c.expression_at-shape.ensures c.in-Operation.is) (ap Operation c.in-Postfix.is) in
    record { writing = c.requires.0; place_inside = shape.onward.inside; level_low = omega (arith, c.requires.1.level_low, c.requires.1.inside, c.requires.0.measured.source.few_rows, c.requires.0.small_store); room = room-less _ (room-by-shape c.args.usage shape c.requires.1.room) (omega arith) }

pub returns-in-Number : goal.returns-in-Number
returns-in-Number c =
    let shape = expressed c.expression_at-shape.ensures c.in-Number.is in
    recoded _ _ _ _ _ _ (nothing-wrote c.args.at.follows c.args.at.base _) (ap (λ (e : Expression). straight_code (called_in c.args.source.now.rows.now) c.args.source.now.store e c.args.usage c.args.at.level) (sym shape.is))

pub returns-in-Read : goal.returns-in-Read
returns-in-Read c =
    let shape = expressed c.expression_at-shape.ensures c.in-Read.is in
    recoded _ _ _ _ _ _ c.put_read.ensures (ap (λ (e : Expression). straight_code (called_in c.args.source.now.rows.now) c.args.source.now.store e c.args.usage c.args.at.level) (sym shape.is))

pub returns-in-Minus : goal.returns-in-Minus
returns-in-Minus c =
    let shape = expressed (expressed c.expression_at-shape.ensures c.in-Operation.is) (ap Operation c.in-Minus.is) in
    recoded _ _ _ _ _ _ c.put_minus.ensures
    (ap₂ (λ (n : ℕ) (x : Expression). express (assign (variable n) (minus x)) then none) c.target_word-number.ensures.is c.atom_at-atom.ensures.is ∙ ap (λ (e : Expression). straight_code (called_in c.args.source.now.rows.now) c.args.source.now.store e c.args.usage c.args.at.level) (sym shape.is))

pub returns-in-Not : goal.returns-in-Not
returns-in-Not c =
    let shape = expressed (expressed c.expression_at-shape.ensures c.in-Operation.is) (ap Operation c.in-Not.is) in
    recoded _ _ _ _ _ _ c.put_binary.ensures
    (ap₂ (λ (n : ℕ) (x : Expression). express (assign (variable n) (binary Equal x (constant (pos 0)))) then none) c.target_word-number.ensures.is c.atom_at-atom-in-Not.ensures.is ∙ ap (λ (e : Expression). straight_code (called_in c.args.source.now.rows.now) c.args.source.now.store e c.args.usage c.args.at.level) (sym shape.is))

pub returns-in-Binary : goal.returns-in-Binary
returns-in-Binary c =
    let shape = expressed (expressed c.expression_at-shape.ensures c.in-Operation.is) (ap Operation c.in-Binary.is) in
    recoded _ _ _ _ _ _ c.put_operator.ensures (ap (λ (e : Expression). straight_code (called_in c.args.source.now.rows.now) c.args.source.now.store e c.args.usage c.args.at.level) (sym shape.is))

pub returns-in-Comma : goal.returns-in-Comma
returns-in-Comma c =
    let shape = expressed (expressed c.expression_at-shape.ensures c.in-Operation.is) (ap Operation c.in-Comma.is) in
    recoded _ _ _ _ _ _ (nothing-wrote c.args.at.follows c.args.at.base _) (ap (λ (e : Expression). straight_code (called_in c.args.source.now.rows.now) c.args.source.now.store e c.args.usage c.args.at.level) (sym shape.is))

pub returns-in-Assign : goal.returns-in-Assign
returns-in-Assign c =
    let shape = expressed (expressed c.expression_at-shape.ensures c.in-Operation.is) (ap Operation c.in-Assign.is) in
    recoded _ _ _ _ _ _ c.put_assignment.ensures (ap (λ (e : Expression). straight_code (called_in c.args.source.now.rows.now) c.args.source.now.store e c.args.usage c.args.at.level) (sym shape.is))

pub returns-in-Compound : goal.returns-in-Compound
returns-in-Compound c =
    let shape = expressed (expressed c.expression_at-shape.ensures c.in-Operation.is) (ap Operation c.in-Compound.is) in
    let args = c.args in
    let place = place_of (expression_at args.source.now.rows.now c.in-Compound.place) in
    let copies = c.operand_copied-copied.ensures ∙ ap (first_copied (called_in args.source.now.rows.now)) shape.is in
    recoded _ _ _ _ _ _ c.put_operation.ensures
    (ap (λ (x : Expression). update_code args.source.now.store c.in-Compound.operator (kernel_place (called_in args.source.now.rows.now) args.source.now.store place (args.at.level + 1)) x args.at.level (args.at.level + 1 + place_taken (called_in args.source.now.rows.now) place))
    (held-is (index_writes (called_in args.source.now.rows.now) place) copies c.held_atom-atom.ensures) ∙ ap (λ (e : Expression). straight_code (called_in args.source.now.rows.now) c.args.source.now.store e c.args.usage c.args.at.level) (sym shape.is))

pub returns-in-Prefix : goal.returns-in-Prefix
returns-in-Prefix c =
    let shape = expressed (expressed c.expression_at-shape.ensures c.in-Operation.is) (ap Operation c.in-Prefix.is) in
    recoded _ _ _ _ _ _ c.put_operation-in-Prefix.ensures (ap (λ (e : Expression). straight_code (called_in c.args.source.now.rows.now) c.args.source.now.store e c.args.usage c.args.at.level) (sym shape.is))

pub returns-in-Postfix : goal.returns-in-Postfix
returns-in-Postfix c =
    let shape = expressed (expressed c.expression_at-shape.ensures c.in-Operation.is) (ap Operation c.in-Postfix.is) in
    recoded _ _ _ _ _ _ c.put_step.ensures (ap (λ (e : Expression). straight_code (called_in c.args.source.now.rows.now) c.args.source.now.store e c.args.usage c.args.at.level) (sym shape.is))

pub returns-in-Choice : goal.returns-in-Choice
returns-in-Choice c = recoded _ _ _ _ _ _ (nothing-wrote c.args.at.follows c.args.at.base _) (choice_none c.args.source.now.store c.args.usage c.args.at.level (expressed c.expression_at-shape.ensures c.in-Choice.is))

pub returns-in-Call : goal.returns-in-Call
returns-in-Call c =
    absurd (called-otherwise (expressed c.expression_at-shape.ensures c.in-Call.is) c.requires.1.no_call)
