-- `argument`: arguments by what stands behind their atoms.
use mathlib.Core.Path.{sym, ap, ◌∙◌}
use mathlib.Core.List.{[], ◌∷◌}
use native.Mathlib.Omega.{arith}
use Rattle.page_words.specs.Reads.{argument_of, last_argument_of, argument_read}
use Rattle.page_words.specs.CompareLaws.{framed-long}
use Rattle.page_words.specs.declared.LineContent.TheVariants.{Argument, LastArgument}
use Rattle.page_atoms.proofs.Mapped.{mapped}
use borrow.Author.Rules.{rules}
use Rattle.page_statements.proofs.lines.argument.Goals as goal

pub overflow_sub-last : goal.overflow_sub-last
overflow_sub-last c =
    omega (arith, framed-long ([]) (44 ∷ []) c.args.text.now (sym c.is_framed.ensures ∙ c.if-is_framed.true))

pub slice_bounds-atom-count : goal.slice_bounds-atom-count
slice_bounds-atom-count c =
    omega (arith, framed-long ([]) (44 ∷ []) c.args.text.now (sym c.is_framed.ensures ∙ c.if-is_framed.true))

pub slice_bounds-atom-start : goal.slice_bounds-atom-start
slice_bounds-atom-start c =
    omega (arith, framed-long ([]) (44 ∷ []) c.args.text.now (sym c.is_framed.ensures ∙ c.if-is_framed.true))

pub returns-then-is_framed : goal.returns-then-is_framed
unfolding argument_read
returns-then-is_framed c =
    rw (sym c.is_framed.ensures ∙ c.if-is_framed.true) (mapped Argument c.atom.result c.map.result _ c.map.ensures.cases (λ x y k. search rules) ∙ ap argument_of c.atom.ensures)

pub overflow_sub-last-then-is_framed-2 : goal.overflow_sub-last-then-is_framed-2
overflow_sub-last-then-is_framed-2 c =
    omega (arith, framed-long ([]) (41 ∷ 59 ∷ []) c.args.text.now (sym c.is_framed-2.ensures ∙ c.if-is_framed-2.true))

pub slice_bounds-atom-count-then-is_framed-2 : goal.slice_bounds-atom-count-then-is_framed-2
slice_bounds-atom-count-then-is_framed-2 c =
    omega (arith, framed-long ([]) (41 ∷ 59 ∷ []) c.args.text.now (sym c.is_framed-2.ensures ∙ c.if-is_framed-2.true))

pub slice_bounds-atom-start-then-is_framed-2 : goal.slice_bounds-atom-start-then-is_framed-2
slice_bounds-atom-start-then-is_framed-2 c =
    omega (arith, framed-long ([]) (41 ∷ 59 ∷ []) c.args.text.now (sym c.is_framed-2.ensures ∙ c.if-is_framed-2.true))

pub returns-then-is_framed-2 : goal.returns-then-is_framed-2
unfolding argument_read
returns-then-is_framed-2 c =
    rw (sym c.is_framed.ensures ∙ c.if-is_framed.false, sym c.is_framed-2.ensures ∙ c.if-is_framed-2.true) (mapped LastArgument c.atom-then-is_framed-2.result c.map-then-is_framed-2.result _ c.map-then-is_framed-2.ensures.cases (λ x y k. search rules) ∙ ap last_argument_of c.atom-then-is_framed-2.ensures)

pub returns : goal.returns
unfolding argument_read
returns c =
    rw (sym c.is_framed.ensures ∙ c.if-is_framed.false, sym c.is_framed-2.ensures ∙ c.if-is_framed-2.false)
