-- `mark_label` marks the label's list with the label.
use mathlib.Core.Path.{◌≡◌, ◌∙◌}
use Prim.Native.Nat.{◌<◌}
use native.Mathlib.Omega.{arith}
use borrow.Author.Rules.{rules}
use Rattle.words.specs.Table.{row_count}
use Rattle.check_labels.proofs.ListLaws.{first-most}
use Rattle.check_labels.specs.Passes.{note_at}
use Rattle.check_labels.specs.declared.LabelNote.TheVariants.{First}
use Rattle.check_labels.proofs.Marking.{marked-set, marked-none}
use borrow.Author.Rules.{rules}
use Rattle.check_labels.proofs.labels.mark_label.Goals as goal
use Rattle.check_labels.proofs.labels.mark_label.Goals.{After-wide-first}

first_is : (c : After-wide-first) → c.wide-first.result ≡ note_at First c.args.rows.now c.args.row
first_is c = let s = c.before.before.before.before.before.before in c.wide-first.ensures ∙ s.requires.2.is _ s.requires.1

first_below : (c : After-wide-first) → c.wide-first.result < row_count c.args.rows.now
first_below c = let s = c.before.before.before.before.before.before in let e = first_is c in let most = first-most _ s.requires.0 _ s.requires.1 in omega arith

pub is_label-requires : goal.is_label-requires
is_label-requires c = let s = c.before.before in s.requires.0.whole

pub bounds-firsts-row : goal.bounds-firsts-row
bounds-firsts-row c = let s = c.before.before.before.before.before in let room = s.requires.2.room in omega arith

pub narrow-requires : goal.narrow-requires
narrow-requires c = let s = c.before.before.before.before.before.before in let few = s.requires.0.few in omega arith

pub offset_bounds-marks-first : goal.offset_bounds-marks-first
offset_bounds-marks-first c = let first = first_below (goal.at.offset_bounds-marks-first c).After-wide-first in let s = c.before.before.before.before.before.before.before in let few = s.requires.0.few in record { fits = omega arith }

pub bounds-marks-first : goal.bounds-marks-first
bounds-marks-first c = let first = first_below (goal.at.bounds-marks-first c).After-wide-first in let s = c.before.before.before.before.before.before.before in let room = s.requires.3.labels.room in omega arith

pub returns-then-is_label : goal.returns-then-is_label
returns-then-is_label c =
    let s = c.before.before.before.before.before.before.before in
    rw c.narrow.ensures (marked-set _ _ _ s.requires.0 _ _ _ s.requires.1 (first_is (goal.at.returns-then-is_label c).After-wide-first) c.is_label.ensures c.if-is_label.true s.requires.3)

pub returns-else-is_label : goal.returns-else-is_label
returns-else-is_label c = let s = c.before.before.before.before in marked-none _ _ _ _ _ c.is_label.ensures c.if-is_label.false s.requires.3
