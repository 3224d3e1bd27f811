-- `free_place` goes down by the bits of the row's key. The invariant: the marks that the row repeats stand below the node; the measure
-- falls because a child stands behind its node.
use mathlib.Core.Path.{sym, ap, ◌∙◌}
use Prim.Native.Nat.{◌-◌}
use native.Mathlib.Omega.{arith}
use lib.Signed.{mag}
use Rattle.words.specs.Laws.{back}
use Rattle.check_marks.specs.MarkTree.{key_at}
use Rattle.check_marks.specs.MarkTreeLaws.{Searched, searched-start, searched-equal, searched-free, searched-on, node-lower, child-nearer}
use Rattle.check_marks.proofs.mark_tree.free_place.Given as goal

abbrev pub invariant-loop-root : goal.invariant-loop-root
invariant-loop-root l =
    Searched l.rows l.children l.root l.row l.node l.key

abbrev pub decreases-loop-root : goal.decreases-loop-root
decreases-loop-root l =
    l.row - l.node
