-- `assignment_of`: a call by what stands around its number, or the rest without its equals sign and semicolon is the value.
use mathlib.Core.Path.{sym, ap, ap₂, ◌∙◌}
use mathlib.Core.List.{[], ◌∷◌}
use native.Mathlib.Omega.{arith}
use Rattle.page_words.specs.Reads.{name_of, call_of, assignment_of}
use Rattle.page_words.specs.CompareLaws.{framed-long}
use Rattle.page_statements.proofs.lines.assignment_of.Goals as goal

pub overflow_sub-last : goal.overflow_sub-last
overflow_sub-last c =
    omega (arith, framed-long (32 ∷ 61 ∷ 32 ∷ 102 ∷ []) (40 ∷ []) c.args.rest.now (sym c.is_framed.ensures ∙ c.if-is_framed.true))

pub slice_bounds-number_below-count : goal.slice_bounds-number_below-count
slice_bounds-number_below-count c =
    omega (arith, framed-long (32 ∷ 61 ∷ 32 ∷ 102 ∷ []) (40 ∷ []) c.args.rest.now (sym c.is_framed.ensures ∙ c.if-is_framed.true))

pub slice_bounds-number_below-start : goal.slice_bounds-number_below-start
slice_bounds-number_below-start c =
    omega (arith, framed-long (32 ∷ 61 ∷ 32 ∷ 102 ∷ []) (40 ∷ []) c.args.rest.now (sym c.is_framed.ensures ∙ c.if-is_framed.true))

pub returns-then-is_framed : goal.returns-then-is_framed
unfolding assignment_of
returns-then-is_framed c =
    rw (sym c.is_framed.ensures ∙ c.if-is_framed.true) (c.call_of.ensures ∙ ap₂ call_of (c.name_of.ensures ∙ ap name_of c.atom.ensures) c.number_below-called.ensures)

pub returns-then-not-is_framed : goal.returns-then-not-is_framed
unfolding assignment_of
returns-then-not-is_framed c =
    rw (sym c.is_framed.ensures ∙ c.if-is_framed.false, sym c.is_framed-2.ensures ∙ c.if-not-is_framed.true)

pub overflow_sub-last-2 : goal.overflow_sub-last-2
overflow_sub-last-2 c =
    omega (arith, framed-long (32 ∷ 61 ∷ 32 ∷ []) (59 ∷ []) c.args.rest.now (sym c.is_framed-2.ensures ∙ c.if-not-is_framed.false))

pub slice_bounds-value-count : goal.slice_bounds-value-count
slice_bounds-value-count c =
    omega (arith, framed-long (32 ∷ 61 ∷ 32 ∷ []) (59 ∷ []) c.args.rest.now (sym c.is_framed-2.ensures ∙ c.if-not-is_framed.false))

pub slice_bounds-value-start : goal.slice_bounds-value-start
slice_bounds-value-start c =
    omega (arith, framed-long (32 ∷ 61 ∷ 32 ∷ []) (59 ∷ []) c.args.rest.now (sym c.is_framed-2.ensures ∙ c.if-not-is_framed.false))

pub returns : goal.returns
unfolding assignment_of
returns c =
    rw (sym c.is_framed.ensures ∙ c.if-is_framed.false, sym c.is_framed-2.ensures ∙ c.if-not-is_framed.false) (c.assigned_of.ensures ∙ rw (c.element.ensures, c.name_of-2.ensures, c.atom-2.ensures, c.value-assigned.ensures))
