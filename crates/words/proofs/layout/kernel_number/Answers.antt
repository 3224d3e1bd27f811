-- `kernel_number` is the word at its place in a kernel's header.
use mathlib.Core.Path.{◌≡◌, sym, ap, ◌∙◌}
use native.Mathlib.Omega.{arith}
use Rattle.words.specs.Word.{natural}
use Rattle.words.specs.Layout.{leading, kernel_number}
use Rattle.words.specs.Laws.{back}
use Rattle.words.specs.declared.Form.{Form}
use Rattle.words.proofs.layout.kernel_number.Goals as goal

pub offset_bounds-header-place : goal.offset_bounds-header-place
offset_bounds-header-place c = omega (arith, c.requires.1)

pub bounds-header-place : goal.bounds-header-place
bounds-header-place c = let kernel : leading c.args.form ≡ 3 = ap leading c.in-Kernel.is in omega (arith, c.requires.0, c.requires.1)

pub returns-in-Kernel : goal.returns-in-Kernel
returns-in-Kernel c = c.natural.ensures ∙ ap natural (back _ c.natural-arg-1.given) ∙ sym (ap (λ (form : Form). kernel_number form c.args.header.now c.args.place) c.in-Kernel.is)
