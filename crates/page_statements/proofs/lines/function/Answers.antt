-- `function`: a return and the first line of a definition, by what stands around their atom or number.
use mathlib.Core.Path.{sym, ap, ◌∙◌}
use mathlib.Core.List.{[], ◌∷◌}
use native.Mathlib.Omega.{arith}
use Rattle.page_words.specs.Reads.{return_of, function_of, parameters_of, function_read}
use Rattle.page_words.specs.CompareLaws.{framed-long}
use Rattle.page_words.specs.declared.LineContent.TheVariants.{Return, OpensFunction, OpensParameters}
use Rattle.page_atoms.proofs.Mapped.{mapped}
use borrow.Author.Rules.{rules}
use Rattle.page_statements.proofs.lines.function.Goals as goal

pub overflow_sub-last : goal.overflow_sub-last
overflow_sub-last c =
    omega (arith, framed-long (114 ∷ 101 ∷ 116 ∷ 117 ∷ 114 ∷ 110 ∷ 32 ∷ []) (59 ∷ []) c.args.text.now (sym c.is_framed.ensures ∙ c.if-is_framed.true))

pub slice_bounds-atom-count : goal.slice_bounds-atom-count
slice_bounds-atom-count c =
    omega (arith, framed-long (114 ∷ 101 ∷ 116 ∷ 117 ∷ 114 ∷ 110 ∷ 32 ∷ []) (59 ∷ []) c.args.text.now (sym c.is_framed.ensures ∙ c.if-is_framed.true))

pub slice_bounds-atom-start : goal.slice_bounds-atom-start
slice_bounds-atom-start c =
    omega (arith, framed-long (114 ∷ 101 ∷ 116 ∷ 117 ∷ 114 ∷ 110 ∷ 32 ∷ []) (59 ∷ []) c.args.text.now (sym c.is_framed.ensures ∙ c.if-is_framed.true))

pub returns-then-is_framed : goal.returns-then-is_framed
unfolding function_read
returns-then-is_framed c =
    rw (sym c.is_framed.ensures ∙ c.if-is_framed.true) (mapped Return c.atom.result c.map.result _ c.map.ensures.cases (λ x y k. search rules) ∙ ap return_of c.atom.ensures)

pub overflow_sub-last-then-is_framed-2 : goal.overflow_sub-last-then-is_framed-2
overflow_sub-last-then-is_framed-2 c =
    omega (arith, framed-long (105 ∷ 110 ∷ 116 ∷ 32 ∷ 102 ∷ []) (40 ∷ 41 ∷ 32 ∷ 123 ∷ []) c.args.text.now (sym c.is_framed-2.ensures ∙ c.if-is_framed-2.true))

pub slice_bounds-number_below-count : goal.slice_bounds-number_below-count
slice_bounds-number_below-count c =
    omega (arith, framed-long (105 ∷ 110 ∷ 116 ∷ 32 ∷ 102 ∷ []) (40 ∷ 41 ∷ 32 ∷ 123 ∷ []) c.args.text.now (sym c.is_framed-2.ensures ∙ c.if-is_framed-2.true))

pub slice_bounds-number_below-start : goal.slice_bounds-number_below-start
slice_bounds-number_below-start c =
    omega (arith, framed-long (105 ∷ 110 ∷ 116 ∷ 32 ∷ 102 ∷ []) (40 ∷ 41 ∷ 32 ∷ 123 ∷ []) c.args.text.now (sym c.is_framed-2.ensures ∙ c.if-is_framed-2.true))

pub returns-then-is_framed-2 : goal.returns-then-is_framed-2
unfolding function_read
returns-then-is_framed-2 c =
    rw (sym c.is_framed.ensures ∙ c.if-is_framed.false, sym c.is_framed-2.ensures ∙ c.if-is_framed-2.true) (mapped OpensFunction c.number_below.result c.map-then-is_framed-2.result _ c.map-then-is_framed-2.ensures.cases (λ x y k. search rules) ∙ ap function_of c.number_below.ensures)

pub overflow_sub-last-then-is_framed-3 : goal.overflow_sub-last-then-is_framed-3
overflow_sub-last-then-is_framed-3 c =
    omega (arith, framed-long (105 ∷ 110 ∷ 116 ∷ 32 ∷ 102 ∷ []) (40 ∷ []) c.args.text.now (sym c.is_framed-3.ensures ∙ c.if-is_framed-3.true))

pub slice_bounds-number_below-count-then-is_framed-3 : goal.slice_bounds-number_below-count-then-is_framed-3
slice_bounds-number_below-count-then-is_framed-3 c =
    omega (arith, framed-long (105 ∷ 110 ∷ 116 ∷ 32 ∷ 102 ∷ []) (40 ∷ []) c.args.text.now (sym c.is_framed-3.ensures ∙ c.if-is_framed-3.true))

pub slice_bounds-number_below-start-then-is_framed-3 : goal.slice_bounds-number_below-start-then-is_framed-3
slice_bounds-number_below-start-then-is_framed-3 c =
    omega (arith, framed-long (105 ∷ 110 ∷ 116 ∷ 32 ∷ 102 ∷ []) (40 ∷ []) c.args.text.now (sym c.is_framed-3.ensures ∙ c.if-is_framed-3.true))

pub returns-then-is_framed-3 : goal.returns-then-is_framed-3
unfolding function_read
returns-then-is_framed-3 c =
    rw (sym c.is_framed.ensures ∙ c.if-is_framed.false, sym c.is_framed-2.ensures ∙ c.if-is_framed-2.false, sym c.is_framed-3.ensures ∙ c.if-is_framed-3.true) (mapped OpensParameters c.number_below-then-is_framed-3.result c.map-then-is_framed-3.result _ c.map-then-is_framed-3.ensures.cases (λ x y k. search rules) ∙ ap parameters_of c.number_below-then-is_framed-3.ensures)

pub returns : goal.returns
unfolding function_read
returns c =
    rw (sym c.is_framed.ensures ∙ c.if-is_framed.false, sym c.is_framed-2.ensures ∙ c.if-is_framed-2.false, sym c.is_framed-3.ensures ∙ c.if-is_framed-3.false) c.parameter.ensures
