-- `lay_called`: by whether the link leads to an argument.
use mathlib.Core.Path.{ap}
use Rattle.page_line.specs.Contents.{called_bytes}
use Rattle.page_line.specs.LaidLaws.{laid_of, laid-nothing}
use Rattle.page_line.specs.ReadsLaws.{argument-as}
use Rattle.page_line.proofs.expressions.lay_called.Goals as goal

pub lay_alone-requires : goal.lay_alone-requires
lay_alone-requires c =
    let r = argument-as c.argument_at-first.ensures.0 c.in-None.is in
    rw r.is at c.requires.arguments_in_bounds

pub returns-in-Some : goal.returns-in-Some
returns-in-Some c =
    let r = argument-as c.argument_at-first.ensures.0 c.in-Some.is in
    laid-nothing _ _ _ (ap (called_bytes c.args.number) r.is) c.requires.arguments_in_bounds

pub returns-in-None : goal.returns-in-None
returns-in-None c =
    let r = argument-as c.argument_at-first.ensures.0 c.in-None.is in
    laid_of (called_bytes c.args.number) r.is c.lay_alone.ensures
