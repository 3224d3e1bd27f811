-- `is_framed`: the lengths first, so that the two do not meet; then the start, then the end.
use mathlib.Core.Path.{sym, ◌∙◌}
use native.Mathlib.Omega.{arith}
use lib.ListN.{length-drop}
use Rattle.page_words.proofs.Parts.{framed-short, framed-begins, framed-ends}
use Rattle.page_atoms.proofs.Comparing.{prefix-is, suffix-is}
use Rattle.page_atoms.proofs.compare.is_framed.Goals as goal

pub returns-then-text-before : goal.returns-then-text-before
returns-then-text-before c =
    framed-short c.args.before.now c.args.behind.now c.args.text.now c.if-text-before.true

pub returns-then-starts_with : goal.returns-then-starts_with
returns-then-starts_with c =
    c.ends_with.ensures.value ∙ suffix-is c.args.behind.now _ (simp length-drop (omega (arith, c.if-text-before.false)))
    ∙ framed-ends c.args.before.now c.args.behind.now c.args.text.now c.if-text-before.false (sym (c.starts_with.ensures.value ∙ prefix-is c.args.before.now c.args.text.now) ∙ c.if-starts_with.true)

pub returns-else-starts_with : goal.returns-else-starts_with
returns-else-starts_with c =
    c.if-starts_with.false ∙ framed-begins c.args.before.now c.args.behind.now c.args.text.now c.if-text-before.false (sym (c.starts_with.ensures.value ∙ prefix-is c.args.before.now c.args.text.now) ∙ c.if-starts_with.false)
