-- `lay_name`: by the three sorts of names.
use mathlib.Core.Path.{sym}
use Rattle.page_line.specs.LaidLaws.{laid_as}
use Rattle.page_line.specs.ContentLaws.{name_variable, name-declared, name_temporary}
use Rattle.page_line.proofs.bytes.lay_name.Goals as goal

pub lay_lettered-requires : goal.lay_lettered-requires
lay_lettered-requires c =
    rw (name_variable c.args.sizes _ c.if-number-sizes.true) at c.requires

pub returns-then-number-sizes : goal.returns-then-number-sizes
returns-then-number-sizes c =
    laid_as (sym (name_variable c.args.sizes _ c.if-number-sizes.true)) c.lay_lettered.ensures

pub lay_lettered-requires-then-behind-sizes : goal.lay_lettered-requires-then-behind-sizes
lay_lettered-requires-then-behind-sizes c =
    rw (name-declared c.args.sizes _ c.if-number-sizes.false c.if-behind-sizes.true) at c.requires

pub returns-then-behind-sizes : goal.returns-then-behind-sizes
returns-then-behind-sizes c =
    laid_as (sym (name-declared c.args.sizes _ c.if-number-sizes.false c.if-behind-sizes.true)) c.lay_lettered-then-behind-sizes.ensures

pub lay_lettered-requires-2 : goal.lay_lettered-requires-2
lay_lettered-requires-2 c =
    rw (name_temporary c.args.sizes _ c.if-number-sizes.false c.if-behind-sizes.false) at c.requires

pub returns : goal.returns
returns c =
    laid_as (sym (name_temporary c.args.sizes _ c.if-number-sizes.false c.if-behind-sizes.false)) c.lay_lettered-2.ensures
