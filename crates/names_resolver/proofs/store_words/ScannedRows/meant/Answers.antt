-- `meant` takes what is declared around the row, and where that is nothing a parameter of its function.
use Rattle.std.proofs.Common.{ℕ, sym, ap, ◌∙◌, arith}
use Rattle.names.specs.Names.{parameter_at}
use Rattle.names_resolver.specs.ScanLaws.{around-is, around-inside}
use Rattle.names_resolver.specs.MeantLaws.{meant-around, meant-parameter}
use Rattle.names_resolver.proofs.store_words.ScannedRows.meant.Goals as goal

pub returns-then-declaration-ne0 : goal.returns-then-declaration-ne0
returns-then-declaration-ne0 c = sym (meant-around _ _ _ _ c.declared-declaration.ensures c.if-declaration-ne0.true)

pub parameter_named-requires : goal.parameter_named-requires
parameter_named-requires c = omega (arith, c.wide.ensures, around-inside c.args.self.now.scanned c.args.row c.requires)

pub returns : goal.returns
returns c =
    let rows = c.args.self.now.rows.now in
    c.parameter_named.ensures
    ∙ ap (λ (definition : ℕ). parameter_at rows definition c.args.number) (c.wide.ensures ∙ around-is c.args.self.now.scanned c.args.row c.requires)
    ∙ sym (meant-parameter rows c.args.row c.args.number _ c.declared-declaration.ensures c.if-declaration-ne0.false)
