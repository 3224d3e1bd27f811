-- `row_causes` takes what the pass found where it is 3 or 4, and else the causes 5 and 6.
use mathlib.Core.Path.{◌∙◌, sym}
use native.Mathlib.Omega.{arith}
use Rattle.check_structure.specs.CauseLaws.{pass-verdict}
use Rattle.check_structure.proofs.Marks.{marked_start}
use borrow.Author.Rules.{rules}
use Rattle.check_structure.proofs.causes.row_causes.Goals as goal

pub returns-then-comes_first : goal.returns-then-comes_first
returns-then-comes_first c =
    (pass-verdict _ _ _ _ c.lowest_cause-found.ensures).0 (sym c.comes_first.ensures ∙ c.if-comes_first.true)

pub later_causes-requires : goal.later_causes-requires
later_causes-requires c =
    (c.requires.0, marked_start _ _ _ (let room = c.requires.1.room in let same = c.lowest_cause-found.auto.marks in omega arith) c.unmark.ensures)

pub returns : goal.returns
returns c =
    c.later_causes.ensures ∙ (pass-verdict _ _ _ _ c.lowest_cause-found.ensures).1 (sym c.comes_first.ensures ∙ c.if-comes_first.false)
