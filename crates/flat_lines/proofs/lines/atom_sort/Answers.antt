-- `atom_sort`: an atom whose kind is not 1 is a variable.
use mathlib.Core.Path.{sym, ◌∙◌}
use native.Mathlib.Omega.{arith}
use Rattle.flat_rows.specs.Operations.{constant-sort, variable-sort}
use borrow.Author.Rules.{rules}
use Rattle.flat_lines.proofs.lines.atom_sort.Reads as reads
use Rattle.flat_lines.proofs.lines.atom_sort.Lts as lts
use Rattle.words.proofs.table.number_at.Reads as number-at-reads
use Rattle.flat_lines.proofs.lines.atom_sort.Goals as goal

pub returns-then-number_at-eq1 : goal.returns-then-number_at-eq1
returns-then-number_at-eq1 c =
    (constant-sort c.requires.0 _ c.requires.1 c.requires.2 (sym c.number_at.ensures ∙ c.if-number_at-eq1.true), omega arith)

pub returns : goal.returns
returns c =
    (variable-sort c.requires.0 _ c.requires.1 c.requires.2 (λ q. c.if-number_at-eq1.false (c.number_at.ensures ∙ q)), omega arith)
