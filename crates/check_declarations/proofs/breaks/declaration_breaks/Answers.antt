-- `declaration_breaks` makes the cause's own test, with what it looks up.
use mathlib.Core.Path.{◌∙◌}
use Prim.Native.Nat.{◌<◌}
use native.Mathlib.Omega.{arith}
use Rattle.check_parameter_causes.specs.Parameters.{declared_as_parameter}
use Rattle.check_declaration_causes.specs.Causes.{outside_block, names_itself, declared_before, one_too_many}
use Rattle.check_declarations.specs.Passes.{breaks, looked_up}
use Rattle.check_structure.specs.LinkLaws.{part-inside}
use Rattle.check_declarations.specs.BodyNotes.{body_inside}
use borrow.Author.Rules.{rules}
use Rattle.check_declarations.proofs.breaks.declaration_breaks.Goals as goal

pub outside_block-requires : goal.outside_block-requires
outside_block-requires c =
    let s = c.before.before in
    let n = s.requires.1 in
    let whole = s.requires.0.whole in
    let room = s.requires.3.room in
    (omega arith, omega arith)

pub named_from-requires : goal.named_from-requires
named_from-requires c =
    let start = c.before.before.before.before in
    (start.requires.0, part-inside _ start.requires.0 _ 2 _ start.requires.1 (omega arith) c.link.ensures)

pub number_before-requires : goal.number_before-requires
unfolding looked_up
number_before-requires c =
    let start = c.before.before in
    (start.requires.0, start.requires.1, rw c.in-DeclaredBefore.is at start.requires.3)

pub as_parameter-requires : goal.as_parameter-requires
unfolding looked_up
as_parameter-requires c =
    let start = c.before.before.before.before in
    let is = c.wide.ensures ∙ (rw c.in-DeclaredAsParameter.is at (start.requires.3.is start.args.row start.requires.1)) in
    (start.requires.0, omega (arith, is, body_inside start.args.rows.now start.requires.0 start.args.row start.requires.1), start.requires.1)

pub returns-in-OutsideBlock : goal.returns-in-OutsideBlock
unfolding breaks outside_block looked_up
returns-in-OutsideBlock c =
    let start = c.before.before.before in
    let is = rw c.in-OutsideBlock.is at (start.requires.3.is _ start.requires.1) in
    rw (c.in-OutsideBlock.is, start.requires.2, ← is) c.outside_block.ensures

pub returns-in-NamesItself : goal.returns-in-NamesItself
unfolding breaks names_itself
returns-in-NamesItself c =
    let start = c.before.before.before.before.before in
    rw (c.in-NamesItself.is, start.requires.2, ← c.number_at.ensures, ← c.link.ensures) c.named_from.ensures

pub returns-in-DeclaredBefore : goal.returns-in-DeclaredBefore
unfolding breaks declared_before
returns-in-DeclaredBefore c =
    let start = c.before.before.before in
    rw (c.in-DeclaredBefore.is, start.requires.2) c.number_before.ensures

pub returns-in-DeclaredAsParameter : goal.returns-in-DeclaredAsParameter
unfolding breaks declared_as_parameter looked_up
returns-in-DeclaredAsParameter c =
    let start = c.before.before.before.before.before in
    let is = c.wide.ensures ∙ (rw c.in-DeclaredAsParameter.is at (start.requires.3.is start.args.row start.requires.1)) in
    rw (c.in-DeclaredAsParameter.is, start.requires.2, ← is) c.as_parameter.ensures

pub returns-in-OneTooMany : goal.returns-in-OneTooMany
unfolding breaks one_too_many looked_up
returns-in-OneTooMany c =
    let start = c.before.before.before.before in
    let is = rw c.in-OneTooMany.is at (start.requires.3.is _ start.requires.1) in
    rw (c.in-OneTooMany.is, start.requires.2, ← is, c.wide-in-OneTooMany.ensures)
