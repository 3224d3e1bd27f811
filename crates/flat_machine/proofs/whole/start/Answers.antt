-- `start` writes the bounds, and runs the lines with them.
use Prim.Native.Nat.{ℕ}
use Rattle.machine_operations.specs.Bounds.{layout_from}
use Rattle.flat.specs.Lines.{run_from}
use Rattle.flat.specs.Words.{lines_of}
use borrow.Author.Rules.{rules}
use mathlib.Core.List.{List}
use mathlib.Core.Path.{ap, ◌∙◌}
use Rattle.flat_machine.proofs.whole.start.Goals as goal

pub fill_bounds-requires : goal.fill_bounds-requires
fill_bounds-requires c = (c.requires.room, c.requires.few)

pub run_lines-requires : goal.run_lines-requires
run_lines-requires c = rw c.fill_bounds.ensures c.requires.setting

pub returns : goal.returns
returns c = c.run_lines.ensures ∙ ap (λ (b : List ℕ). run_from (layout_from b) (lines_of c.args.list.now) c.args.budget 0 0 c.args.store.now) c.fill_bounds.ensures
