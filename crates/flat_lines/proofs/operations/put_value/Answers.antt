-- `put_value`: what fits a variable is one of four, told by the number of its kind.
use mathlib.Core.Path.{◌∙◌, sym}
use native.Mathlib.Omega.{arith}
use Rattle.flat_lines.specs.Values.{copied, fetched, negated, operated}
use borrow.Author.Rules.{rules}
use Rattle.flat_lines.proofs.operations.put_value.Reads as reads
use Rattle.flat_lines.proofs.operations.put_value.Lts as lts
use Rattle.flat_lines.proofs.operations.put_binary.Reads as put-binary-reads
use Rattle.flat_lines.proofs.operations.put_copy.Reads as put-copy-reads
use Rattle.flat_lines.proofs.operations.put_fetch.Reads as put-fetch-reads
use Rattle.flat_lines.proofs.operations.put_minus.Reads as put-minus-reads
use Rattle.words.proofs.table.number_at.Reads as number-at-reads
use Rattle.flat_lines.proofs.operations.put_value.Goals as goal

pub put_copy-requires : goal.put_copy-requires
put_copy-requires c =
    (c.requires.0, copied c.requires.0.table _ c.requires.1 (omega (arith, c.number_at-kind.ensures, c.if-kind-lt3.true)))

pub put_fetch-requires : goal.put_fetch-requires
put_fetch-requires c =
    let k = sym c.number_at-kind.ensures ∙ c.if-kind-eq3.true in
    (c.requires.0, k, fetched c.requires.0.table _ c.requires.1 k)

pub put_minus-requires : goal.put_minus-requires
put_minus-requires c =
    let k = sym c.number_at-kind.ensures ∙ c.if-kind-eq4.true in
    (c.requires.0, k, negated c.requires.0.table _ c.requires.1 k)

pub put_binary-requires : goal.put_binary-requires
put_binary-requires c =
    let o = operated c.requires.0.table _ c.requires.1 (omega (arith, c.number_at-kind.ensures, c.if-kind-lt3.false)) (λ q. c.if-kind-eq3.false (c.number_at-kind.ensures ∙ q)) (λ q. c.if-kind-eq4.false (c.number_at-kind.ensures ∙ q)) in
    (c.requires.0, o.least, o.most, o.left, o.right)
