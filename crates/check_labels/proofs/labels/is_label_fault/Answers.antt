-- `is_label_fault` is true of a label that was seen, and of a goto whose label is not ahead.
use mathlib.Core.Path.{sym, ◌∙◌}
use native.Mathlib.Omega.{arith}
use Rattle.check_labels.proofs.Faults.{fault-label, fault-goto}
use Rattle.check_labels.proofs.labels.is_label_fault.Goals as goal

pub number_at-requires : goal.number_at-requires
number_at-requires c = let s = c.before.before.before in let whole = s.requires.0.tree.whole in let inside = s.requires.2.inside in omega arith

pub returns-then-number_at-eq53 : goal.returns-then-number_at-eq53
returns-then-number_at-eq53 c = let s = c.before.before.before.before.before in s.requires.3 ∙ fault-label _ _ _ s.requires.2 (sym c.number_at.ensures ∙ c.if-number_at-eq53.true)

pub is_ahead-requires : goal.is_ahead-requires
is_ahead-requires c = let s = c.before.before.before.before.before in (s.requires.0, s.requires.1, s.requires.2.inside)

pub returns : goal.returns
returns c = let s = c.before.before.before.before.before.before in rw c.is_ahead.ensures (fault-goto _ _ _ s.requires.2 (λ k. c.if-number_at-eq53.false (c.number_at.ensures ∙ k)))
