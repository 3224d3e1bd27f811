-- `put_bytes` copies byte by byte; the invariant is `Copied`.
use mathlib.Core.Path.{◌≡◌, refl}
use native.Mathlib.Omega.{arith}
use lib.ListN.{length}
use Rattle.text_numbers.specs.Writer.{Put}
use Rattle.text_report.proofs.Copying.{copied-start, copied-length, copied_next, copied-end}
use Rattle.text_report.proofs.field.put_bytes.Goals as goal

pub loop-i-init : goal.loop-i-init
loop-i-init c = (refl, copied-start _ _ c.requires)

pub bounds-text-i : goal.bounds-text-i
bounds-text-i c = omega (arith, c.loop-i.invariant.1.room, copied-length c.loop-i.invariant.1)

pub loop-i-preserved : goal.loop-i-preserved
loop-i-preserved c = (refl, copied_next c.loop-i.invariant.1 (omega arith))

pub shape_of-text : goal.shape_of-text
shape_of-text c = copied-length c.loop-i.invariant.1

pub returns : goal.returns
returns c =
    let e : c.loop-i.i ≡ length c.args.bytes.now = omega arith in
    let put : Put c.args.bytes.now c.args.text.now c.loop-i.i c.loop-i.text = copied-end c.loop-i.invariant.1 (omega arith) in
    rw e at put
