-- `single`: a call by what stands around its number, or else an element or an atom.
use mathlib.Core.Path.{sym, ap, ap₂, ◌∙◌}
use mathlib.Core.List.{[], ◌∷◌}
use native.Mathlib.Omega.{arith}
use Rattle.page_words.specs.Reads.{single_of, called_of, single_read}
use Rattle.page_words.specs.CompareLaws.{framed-long}
use Rattle.page_words.specs.declared.Value.TheVariants.{Call}
use Rattle.page_atoms.proofs.Mapped.{mapped}
use borrow.Author.Rules.{rules}
use Rattle.page_statements.proofs.values.single.Goals as goal

pub overflow_sub-last : goal.overflow_sub-last
overflow_sub-last c =
    omega (arith, framed-long (102 ∷ []) (40 ∷ 41 ∷ []) c.args.text.now (sym c.is_framed.ensures ∙ c.if-is_framed.true))

pub slice_bounds-number_below-count : goal.slice_bounds-number_below-count
slice_bounds-number_below-count c =
    omega (arith, framed-long (102 ∷ []) (40 ∷ 41 ∷ []) c.args.text.now (sym c.is_framed.ensures ∙ c.if-is_framed.true))

pub slice_bounds-number_below-start : goal.slice_bounds-number_below-start
slice_bounds-number_below-start c =
    omega (arith, framed-long (102 ∷ []) (40 ∷ 41 ∷ []) c.args.text.now (sym c.is_framed.ensures ∙ c.if-is_framed.true))

pub returns-then-is_framed : goal.returns-then-is_framed
unfolding single_read
returns-then-is_framed c =
    rw (sym c.is_framed.ensures ∙ c.if-is_framed.true) (mapped Call c.number_below.result c.map.result _ c.map.ensures.cases (λ x y k. search rules) ∙ ap called_of c.number_below.ensures)

pub returns : goal.returns
unfolding single_read
returns c =
    rw (sym c.is_framed.ensures ∙ c.if-is_framed.false) (c.single_of.ensures ∙ ap₂ single_of c.element.ensures c.atom.ensures)
