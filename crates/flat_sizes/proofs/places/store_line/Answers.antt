use native.Mathlib.Omega.{arith}
use mathlib.Core.Path.{◌∙◌, sym, ap, ◌≡◌, refl}
use borrow.Author.Tests.{ne_eqb}
use borrow.Author.Rules.{rules}
use Rattle.flat_sizes.proofs.places.store_line.Reads as reads
use Rattle.flat_sizes.proofs.places.store_line.Lts as lts
use Rattle.check_structure.proofs.row_number.narrow.Reads as narrow-reads
use Rattle.flat_sizes.proofs.places.store_line.Goals as goal

pub returns-then-link-eq0 : goal.returns-then-link-eq0
returns-then-link-eq0 c =
    rw c.if-link-eq0.true

pub returns : goal.returns
returns c =
    rw (ne_eqb _ _ c.if-link-eq0.false, ← c.narrow.ensures)
