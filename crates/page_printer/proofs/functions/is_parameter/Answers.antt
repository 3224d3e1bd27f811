-- `is_parameter`: the link 0 leads to no parameter.
use native.Mathlib.Omega.{arith}
use Rattle.page_line.specs.ReadsLaws.{row-words}
use Rattle.page_printer.specs.FunctionLaws.{parameter-flag, no-parameter-flag}
use borrow.Author.Rules.{rules}
use Rattle.page_printer.proofs.functions.is_parameter.Goals as goal

pub returns-then-link-eq0 : goal.returns-then-link-eq0
returns-then-link-eq0 c =
    no-parameter-flag c.args.rows.now c.args.link c.if-link-eq0.true

pub is_declaration-requires : goal.is_declaration-requires
is_declaration-requires c =
    omega (arith, row-words c.requires.0 c.requires.1)

pub returns : goal.returns
returns c =
    parameter-flag c.args.rows.now c.args.link c.if-link-eq0.false c.is_declaration.ensures
