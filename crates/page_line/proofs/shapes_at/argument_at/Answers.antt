-- `argument_at`: the link 0 leads to no argument.
use mathlib.Core.Path.{refl}
use Rattle.page_line.specs.ReadsLaws.{argument-none, argument-read, no-argument-at, some-argument-at}
use Rattle.page_line.proofs.shapes_at.argument_at.Goals as goal

pub returns-then-link-eq0 : goal.returns-then-link-eq0
returns-then-link-eq0 c =
    (argument-none c.requires.0 c.requires.1 c.if-link-eq0.true refl, no-argument-at _ _ c.if-link-eq0.true)

pub returns : goal.returns
returns c =
    (argument-read c.requires.0 c.requires.1 c.if-link-eq0.false c.shape_at.ensures c.argument_of.ensures, some-argument-at _ _ c.if-link-eq0.false c.shape_at.ensures c.argument_of.ensures)
