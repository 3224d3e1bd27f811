-- What an expression's code ends with, by its shape: each arm is the law of that shape, from the shape that was found and its atoms.
use mathlib.Core.Path.{refl, ap}
use native.Mathlib.Omega.{arith}
use Rattle.language_shapes.specs.ShapeLaws.{expressed}
use Rattle.language_shapes.specs.declared.ExpressionShape.TheVariants as expression
use Rattle.measures_expressions.proofs.PassedLaws.{called-otherwise}
use Rattle.writers_expressions.proofs.Choices.{RowAsked, straight, straight-operation, and-choice, or-choice, conditional-choice}
use Rattle.writers_expressions.proofs.branches.choice_at.Goals as goal
use Rattle.writers_expressions.proofs.branches.choice_at.Goals.{Start}

at-start : (c : Start) →
    let args = c.args in
    RowAsked args.source.now.store args.source.now.rows.now args.source.now.table.now args.row args.level
at-start c = record { writing = c.requires.0; inside = c.requires.1; level_low = c.requires.2 }

pub atom_at-test-requires : goal.atom_at-test-requires
atom_at-test-requires c =
    let asked = at-start (goal.at.atom_at-test-requires c).Start in
    let shape = expressed (expressed c.expression_at-shape.ensures c.in-Choice.is) (ap expression.Choice c.in-And.is) in
    (asked.writing, shape.onward.0.inside, omega (arith, asked.level_low))

pub atom_at-requires : goal.atom_at-requires
atom_at-requires c =
    let asked = at-start (goal.at.atom_at-requires c).Start in
    let shape = expressed (expressed c.expression_at-shape.ensures c.in-Choice.is) (ap expression.Choice c.in-And.is) in
    (asked.writing, shape.onward.1.inside, omega (arith, asked.level_low))

pub atom_at-test-requires-in-Or : goal.atom_at-test-requires-in-Or
atom_at-test-requires-in-Or c =
    let asked = at-start (goal.at.atom_at-test-requires-in-Or c).Start in
    let shape = expressed (expressed c.expression_at-shape.ensures c.in-Choice.is) (ap expression.Choice c.in-Or.is) in
    (asked.writing, shape.onward.0.inside, omega (arith, asked.level_low))

pub atom_at-requires-in-Or : goal.atom_at-requires-in-Or
atom_at-requires-in-Or c =
    let asked = at-start (goal.at.atom_at-requires-in-Or c).Start in
    let shape = expressed (expressed c.expression_at-shape.ensures c.in-Choice.is) (ap expression.Choice c.in-Or.is) in
    (asked.writing, shape.onward.1.inside, omega (arith, asked.level_low))

pub atom_at-test-requires-in-Conditional : goal.atom_at-test-requires-in-Conditional
atom_at-test-requires-in-Conditional c =
    let asked = at-start (goal.at.atom_at-test-requires-in-Conditional c).Start in
    let shape = expressed (expressed c.expression_at-shape.ensures c.in-Choice.is) (ap expression.Choice c.in-Conditional.is) in
    (asked.writing, shape.onward.0.inside, omega (arith, asked.level_low))

pub end_at-requires : goal.end_at-requires
end_at-requires c =
    let asked = at-start (goal.at.end_at-requires c).Start in
    let shape = expressed (expressed c.expression_at-shape.ensures c.in-Choice.is) (ap expression.Choice c.in-Conditional.is) in
    (asked.writing.measured, shape.onward.1.inside)

pub atom_at-requires-in-Conditional : goal.atom_at-requires-in-Conditional
atom_at-requires-in-Conditional c =
    let asked = at-start (goal.at.atom_at-requires-in-Conditional c).Start in
    let shape = expressed (expressed c.expression_at-shape.ensures c.in-Choice.is) (ap expression.Choice c.in-Conditional.is) in
    (asked.writing, shape.onward.1.inside, omega (arith, asked.level_low))

pub end_at-requires-in-Conditional : goal.end_at-requires-in-Conditional
end_at-requires-in-Conditional c =
    let asked = at-start (goal.at.end_at-requires-in-Conditional c).Start in
    let shape = expressed (expressed c.expression_at-shape.ensures c.in-Choice.is) (ap expression.Choice c.in-Conditional.is) in
    (asked.writing.measured, shape.onward.2.inside)

pub atom_at-requires-in-Conditional-2 : goal.atom_at-requires-in-Conditional-2
atom_at-requires-in-Conditional-2 c =
    let asked = at-start (goal.at.atom_at-requires-in-Conditional-2 c).Start in
    let shape = expressed (expressed c.expression_at-shape.ensures c.in-Choice.is) (ap expression.Choice c.in-Conditional.is) in
    (asked.writing, shape.onward.2.inside, omega (arith, asked.level_low))

pub returns-in-Number : goal.returns-in-Number
returns-in-Number c = straight _ _ _ _ (expressed c.expression_at-shape.ensures c.in-Number.is) (λ u. refl)

pub returns-in-Read : goal.returns-in-Read
returns-in-Read c = straight _ _ _ _ (expressed c.expression_at-shape.ensures c.in-Read.is) (λ u. refl)

pub returns-in-Operation : goal.returns-in-Operation
returns-in-Operation c = straight-operation _ _ _ _ (expressed c.expression_at-shape.ensures c.in-Operation.is)

pub returns-in-And : goal.returns-in-And
returns-in-And c =
    let asked = at-start (goal.at.returns-in-And c).Start in
    let shape = expressed (expressed c.expression_at-shape.ensures c.in-Choice.is) (ap expression.Choice c.in-And.is) in
    and-choice _ _ _ _ asked shape c.atom_at-test.ensures c.atom_at.ensures c.number_branch.ensures

pub returns-in-Or : goal.returns-in-Or
returns-in-Or c =
    let asked = at-start (goal.at.returns-in-Or c).Start in
    let shape = expressed (expressed c.expression_at-shape.ensures c.in-Choice.is) (ap expression.Choice c.in-Or.is) in
    or-choice _ _ _ _ asked shape c.atom_at-test-in-Or.ensures c.atom_at-in-Or.ensures c.number_branch-in-Or.ensures

pub returns-in-Conditional : goal.returns-in-Conditional
returns-in-Conditional c =
    let asked = at-start (goal.at.returns-in-Conditional c).Start in
    let shape = expressed (expressed c.expression_at-shape.ensures c.in-Choice.is) (ap expression.Choice c.in-Conditional.is) in
    conditional-choice _ _ _ _ asked shape c.atom_at-test-in-Conditional.ensures c.end_at.ensures c.atom_at-in-Conditional.ensures c.end_at-in-Conditional.ensures c.atom_at-in-Conditional-2.ensures

pub returns-in-Call : goal.returns-in-Call
returns-in-Call c = absurd (called-otherwise (expressed c.expression_at-shape.ensures c.in-Call.is) c.requires.3)
