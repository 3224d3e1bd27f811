-- `hand` goes by the field, then by the sort of note.
use mathlib.Core.Path.{◌∙◌}
use Rattle.check_labels.proofs.Handed.{handed-next, handed-first, handed-owner}
use borrow.Author.Rules.{rules}
use Rattle.check_labels.proofs.notes.hand.Goals as goal

pub returns-then-field-eq5 : goal.returns-then-field-eq5
returns-then-field-eq5 c = handed-next _ _ _ _ _ c.if-field-eq5.true

pub returns-in-First : goal.returns-in-First
returns-in-First c = c.link.ensures ∙ handed-first _ _ _ _ _ c.in-First.is c.if-field-eq5.false

pub returns-in-Owner : goal.returns-in-Owner
returns-in-Owner c = handed-owner _ _ _ _ _ c.in-Owner.is c.if-field-eq5.false
