-- `is_behind` asks the mark of the row's list.
use mathlib.Core.Path.{◌≡◌, ap, ◌∙◌}
use Prim.Native.Nat.{◌<◌}
use native.Mathlib.Omega.{arith}
use borrow.Author.Rules.{rules}
use lib.ListN.{get_or}
use Rattle.words.specs.Table.{row_count}
use Rattle.check_labels.proofs.ListLaws.{first-most}
use Rattle.check_labels.specs.Passes.{note_at}
use Rattle.check_labels.specs.declared.LabelNote.TheVariants.{First}
use Rattle.check_labels.proofs.Marking.{mark-some, mark-none}
use borrow.Author.Rules.{rules}
use Rattle.check_labels.proofs.labels.is_behind.Goals as goal
use Rattle.check_labels.proofs.labels.is_behind.Goals.{After-wide-first, After-wide-mark}

first_is : (c : After-wide-first) → c.wide-first.result ≡ note_at First c.args.rows.now c.args.row
first_is c = let s = c.before.before.before.before in c.wide-first.ensures ∙ s.requires.2.is _ s.requires.1

first_below : (c : After-wide-first) → c.wide-first.result < row_count c.args.rows.now
first_below c = let s = c.before.before.before.before in let e = first_is c in let most = first-most _ s.requires.0 _ s.requires.1 in omega arith

mark-is : (c : After-wide-mark) → c.wide-mark.result ≡ get_or c.args.marks.now (note_at First c.args.rows.now c.args.row) 0
mark-is c = c.wide-mark.ensures ∙ ap (λ first. get_or c.args.marks.now first 0) (first_is (goal.at.After-wide-mark c).After-wide-first)

pub offset_bounds-firsts-row : goal.offset_bounds-firsts-row
offset_bounds-firsts-row c = let s = c.before.before in let few = s.requires.0.few in record { fits = omega arith }

pub bounds-firsts-row : goal.bounds-firsts-row
bounds-firsts-row c = let s = c.before.before.before in let room = s.requires.2.room in omega arith

pub offset_bounds-marks-first : goal.offset_bounds-marks-first
offset_bounds-marks-first c = let first = first_below (c) in let s = c.before.before.before.before in let few = s.requires.0.few in record { fits = omega arith }

pub bounds-marks-first : goal.bounds-marks-first
bounds-marks-first c = let first = first_below (goal.at.bounds-marks-first c).After-wide-first in let s = c.before.before.before.before.before in let room = s.requires.3.labels.room in omega arith

pub is_label-requires : goal.is_label-requires
is_label-requires c = let s = c.before.before.before.before.before.before.before in s.requires.0.whole

pub returns-then-row-mark : goal.returns-then-row-mark
returns-then-row-mark c = let s = c.before.before.before.before.before.before.before.before in mark-some _ _ _ s.requires.0 _ _ s.requires.1 s.requires.3 (mark-is (goal.at.returns-then-row-mark c).After-wide-mark) _ c.if-row-mark.true c.is_label.ensures

pub returns : goal.returns
returns c = let s = c.before.before.before.before.before.before.before in mark-none _ _ _ s.requires.0 _ _ s.requires.1 s.requires.3 (mark-is (goal.at.returns c).After-wide-mark) c.if-row-mark.false
