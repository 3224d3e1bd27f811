-- `element`: what stands between the letter and the last bracket is read, where both are there.
use mathlib.Core.Path.{sym, ◌∙◌}
use mathlib.Core.List.{[], ◌∷◌}
use native.Mathlib.Omega.{arith}
use Rattle.page_words.specs.Reads.{element_read}
use Rattle.page_words.specs.CompareLaws.{framed-long}
use Rattle.page_atoms.proofs.atoms.element.Goals as goal

pub returns-then-not-is_framed : goal.returns-then-not-is_framed
unfolding element_read
returns-then-not-is_framed c =
    rw (sym c.is_framed.ensures ∙ c.if-not-is_framed.true)

pub overflow_sub-end : goal.overflow_sub-end
overflow_sub-end c =
    omega (arith, framed-long (97 ∷ []) (93 ∷ []) c.args.word.now (sym c.is_framed.ensures ∙ c.if-not-is_framed.false))

pub slice_bounds-element_in-count : goal.slice_bounds-element_in-count
slice_bounds-element_in-count c =
    omega (arith, framed-long (97 ∷ []) (93 ∷ []) c.args.word.now (sym c.is_framed.ensures ∙ c.if-not-is_framed.false))

pub slice_bounds-element_in-start : goal.slice_bounds-element_in-start
slice_bounds-element_in-start c =
    omega (arith, framed-long (97 ∷ []) (93 ∷ []) c.args.word.now (sym c.is_framed.ensures ∙ c.if-not-is_framed.false))

pub returns : goal.returns
unfolding element_read
returns c =
    rw (sym c.is_framed.ensures ∙ c.if-not-is_framed.false) c.element_in.ensures
