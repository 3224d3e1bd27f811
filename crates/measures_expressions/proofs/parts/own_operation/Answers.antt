-- What an operation's own row brings, kind by kind.
use mathlib.Core.Path.{ap}
use native.Mathlib.Omega.{arith}
use Rattle.language.specs.Decode.{place_of, expression_at}
use Rattle.translation.specs.Translate.{atom_of}
use Rattle.translation.proofs.TranslateBounds.{index-most, taken_most}
use Rattle.language_shapes.specs.ShapeLaws.{optional, expressed}
use Rattle.language_shapes.specs.declared.ExpressionShape.TheVariants.{Operation}
use Rattle.measures_table.specs.MeasureLaws.{link-asks, slot-asks, measured-less, first-copied-most}
use Rattle.measures_expressions.proofs.OwnLaws.{own-minus, own-not, own-binary, own-comma, own-compound, own-prefix}
use Rattle.measures_table.specs.Parts.{called_in}
use Rattle.measures_expressions.proofs.parts.own_operation.Goals as goal

pub taken_at-requires : goal.taken_at-requires
taken_at-requires c =
    link-asks c.requires.0 (expressed c.requires.2 (ap Operation c.in-Binary.is)).onward.1

pub overflow_add-above : goal.overflow_add-above
overflow_add-above c =
    omega (arith, c.requires.3, first-copied-most (called_in c.args.rows.now) (expression_at c.args.rows.now c.args.row), c.taken_at.ensures, taken_most (atom_of (called_in c.args.rows.now) (expression_at c.args.rows.now c.in-Binary.b)))

pub overflow_mul-copied : goal.overflow_mul-copied
overflow_mul-copied c =
    omega (arith, c.requires.3, first-copied-most (called_in c.args.rows.now) (expression_at c.args.rows.now c.args.row))

pub overflow_add-copied : goal.overflow_add-copied
overflow_add-copied c =
    omega (arith, c.requires.3, first-copied-most (called_in c.args.rows.now) (expression_at c.args.rows.now c.args.row))

pub own_comma-requires : goal.own_comma-requires
own_comma-requires c =
    slot-asks c.requires.0 (optional (expressed c.requires.2 (ap Operation c.in-Comma.is)).onward.1)

pub own_assign-requires : goal.own_assign-requires
own_assign-requires c =
    (c.requires.0, c.requires.1, (expressed c.requires.2 (ap Operation c.in-Assign.is)), c.requires.3)

pub place_own-p-requires : goal.place_own-p-requires
place_own-p-requires c =
    let place = (expressed c.requires.2 (ap Operation c.in-Compound.is)).onward.0 in (measured-less _ c.requires.0 (omega (arith, place.later)), place.inside)

pub overflow_mul-own_rows : goal.overflow_mul-own_rows
overflow_mul-own_rows c =
    omega (arith, c.place_own-p.ensures.rows_are, index-most (place_of (expression_at c.args.rows.now c.in-Compound.place)))

pub overflow_add-own_rows : goal.overflow_add-own_rows
overflow_add-own_rows c =
    omega (arith, c.place_own-p.ensures.rows_are, index-most (place_of (expression_at c.args.rows.now c.in-Compound.place)))

pub overflow_mul-own_rows-in-Compound : goal.overflow_mul-own_rows-in-Compound
overflow_mul-own_rows-in-Compound c =
    omega (arith, c.requires.3, first-copied-most (called_in c.args.rows.now) (expression_at c.args.rows.now c.args.row))

pub overflow_add-own_rows-in-Compound : goal.overflow_add-own_rows-in-Compound
overflow_add-own_rows-in-Compound c =
    omega (arith, c.requires.3, first-copied-most (called_in c.args.rows.now) (expression_at c.args.rows.now c.args.row), c.place_own-p.ensures.rows_are, index-most (place_of (expression_at c.args.rows.now c.in-Compound.place)))

pub place_own-p-requires-in-Prefix : goal.place_own-p-requires-in-Prefix
place_own-p-requires-in-Prefix c =
    let place = (expressed c.requires.2 (ap Operation c.in-Prefix.is)).onward in (measured-less _ c.requires.0 (omega (arith, place.later)), place.inside)

pub overflow_mul-p : goal.overflow_mul-p
overflow_mul-p c =
    omega (arith, c.place_own-p-in-Prefix.ensures.rows_are, index-most (place_of (expression_at c.args.rows.now c.in-Prefix.place)))

pub overflow_add-p : goal.overflow_add-p
overflow_add-p c =
    omega (arith, c.place_own-p-in-Prefix.ensures.rows_are, index-most (place_of (expression_at c.args.rows.now c.in-Prefix.place)))

pub own_postfix-requires : goal.own_postfix-requires
own_postfix-requires c =
    let f = (expressed c.requires.2 (ap Operation c.in-Postfix.is)) in (c.requires.0, c.requires.1, record { operator = c.in-Postfix.field-0; is = f.is; onward = f.onward })

pub returns-in-Minus : goal.returns-in-Minus
returns-in-Minus c =
    own-minus c.requires.1 (expressed c.requires.2 (ap Operation c.in-Minus.is)) c.result.ensures

pub returns-in-Not : goal.returns-in-Not
returns-in-Not c =
    own-not c.requires.1 (expressed c.requires.2 (ap Operation c.in-Not.is)) c.result-in-Not.ensures

pub returns-in-Binary : goal.returns-in-Binary
returns-in-Binary c =
    own-binary c.requires.1 (expressed c.requires.2 (ap Operation c.in-Binary.is)) c.taken_at.ensures c.requires.3 c.result-in-Binary.ensures

pub returns-in-Comma : goal.returns-in-Comma
returns-in-Comma c =
    own-comma c.requires.0 (expressed c.requires.2 (ap Operation c.in-Comma.is)) c.own_comma.ensures

pub returns-in-Compound : goal.returns-in-Compound
returns-in-Compound c =
    own-compound c.requires.1 (expressed c.requires.2 (ap Operation c.in-Compound.is)) c.place_own-p.ensures c.requires.3 c.own.ensures

pub returns-in-Prefix : goal.returns-in-Prefix
returns-in-Prefix c =
    own-prefix c.requires.1 (expressed c.requires.2 (ap Operation c.in-Prefix.is)) c.place_own-p-in-Prefix.ensures c.own-in-Prefix.ensures
