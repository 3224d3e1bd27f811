-- The walk for a number. Its measure is the rows from this one on, none where there is no row; the fields' loop tries one after the other.
use mathlib.Core.Path.{◌≡◌, sym, ap, ◌∙◌}
use Prim.Native.Nat.{◌-◌, ◌≤◌, ℕ, ◌<◌}
use native.Mathlib.Omega.{arith}
use Rattle.words.specs.Links.{link as link_of}
use Rattle.words.specs.SearchLaws.{Tried, tried-start, tried-on, tried-hit, tried-end}
use Rattle.check_structure.specs.NoteLaws.{above_zero}
use Rattle.check_declaration_causes.specs.Causes.{named_from}
use Rattle.check_declaration_causes.proofs.InitialLaws.{named_none, named_step}
use Rattle.check_structure.specs.LinkLaws.{part-inside}
use Rattle.check_declarations.specs.WalkLaws.{left, part_falls, below-only}
use Rattle.check_declarations.proofs.initial.+named_from.Given as goal

abbrev pub decreases-named_from : goal.decreases-named_from
decreases-named_from l =
    left l.rows.now l.row

abbrev pub invariant-loop-field : goal.invariant-loop-field
invariant-loop-field l =
    Tried (λ (f : ℕ). named_from l.rows l.number (link_of l.rows l.row f)) 6 l.field
