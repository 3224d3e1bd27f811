use native.Mathlib.Omega.{arith}
use mathlib.Core.Path.{◌∙◌, sym, ◌≡◌, refl}
use borrow.Author.Tests.{ne_eqb}
use borrow.Author.Rules.{rules}
use Rattle.flat_sizes.proofs.sizes.slot_at.Reads as reads
use Rattle.flat_sizes.proofs.sizes.slot_at.Lts as lts
use Rattle.check_structure.proofs.row_number.wide.Reads as wide-reads
use Rattle.flat_sizes.proofs.sizes.slot_at.Goals as goal

pub returns-then-link-eq0 : goal.returns-then-link-eq0
returns-then-link-eq0 c =
    (rw c.if-link-eq0.true, omega arith)

pub returns : goal.returns
returns c =
    (rw (ne_eqb _ _ c.if-link-eq0.false) c.wide.ensures, omega (arith, c.wide.ensures, c.shared_slice_known-2-1.given c.args.link))
