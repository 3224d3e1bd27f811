-- The tests of a switch: the loop keeps `Progress`, so that what is written is the tests of the items passed.
use Rattle.writers.proofs.ListLaws.{Progress, above}
use mathlib.Core.Bool.{true}
use Prim.Native.Nat.{◌*◌}
use Rattle.language.specs.Decode.{list_at}
use Rattle.translation.specs.Translate.{case_tests, items_labels}
use Rattle.translation.specs.TranslateSize.{cases}
use Rattle.writers_rows.specs.Atoms.{atom_tree}
use Rattle.writers.proofs.switches.write_cases.Given as goal

abbrev pub invariant-loop-item : goal.invariant-loop-item
invariant-loop-item l = Progress (list_at l.source.rows.now) items_labels true (case_tests l.source.store (atom_tree l.x) l.level) (λ is. 11 * cases is) l.source.rows.now l.list l.label l.base l.initial.out l.out l.item l.target l.n

abbrev pub decreases-loop-item : goal.decreases-loop-item
decreases-loop-item l = above l.source.rows.now l.item
