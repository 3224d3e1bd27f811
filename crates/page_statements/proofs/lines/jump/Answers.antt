-- `jump`: goto and label by what stands around their numbers.
use mathlib.Core.Path.{sym, ap, ◌∙◌}
use mathlib.Core.List.{[], ◌∷◌}
use native.Mathlib.Omega.{arith}
use Rattle.page_words.specs.Reads.{goto_of, label_of, jump_read}
use Rattle.page_words.specs.CompareLaws.{framed-long}
use Rattle.page_words.specs.declared.LineContent.TheVariants.{Goto, Label}
use Rattle.page_atoms.proofs.Mapped.{mapped}
use borrow.Author.Rules.{rules}
use Rattle.page_statements.proofs.lines.jump.Goals as goal

pub overflow_sub-last : goal.overflow_sub-last
overflow_sub-last c =
    omega (arith, framed-long (103 ∷ 111 ∷ 116 ∷ 111 ∷ 32 ∷ 76 ∷ []) (59 ∷ []) c.args.text.now (sym c.is_framed.ensures ∙ c.if-is_framed.true))

pub slice_bounds-number_below-count : goal.slice_bounds-number_below-count
slice_bounds-number_below-count c =
    omega (arith, framed-long (103 ∷ 111 ∷ 116 ∷ 111 ∷ 32 ∷ 76 ∷ []) (59 ∷ []) c.args.text.now (sym c.is_framed.ensures ∙ c.if-is_framed.true))

pub slice_bounds-number_below-start : goal.slice_bounds-number_below-start
slice_bounds-number_below-start c =
    omega (arith, framed-long (103 ∷ 111 ∷ 116 ∷ 111 ∷ 32 ∷ 76 ∷ []) (59 ∷ []) c.args.text.now (sym c.is_framed.ensures ∙ c.if-is_framed.true))

pub returns-then-is_framed : goal.returns-then-is_framed
unfolding jump_read
returns-then-is_framed c =
    rw (sym c.is_framed.ensures ∙ c.if-is_framed.true) (mapped Goto c.number_below.result c.map.result _ c.map.ensures.cases (λ x y k. search rules) ∙ ap goto_of c.number_below.ensures)

pub overflow_sub-last-then-is_framed-2 : goal.overflow_sub-last-then-is_framed-2
overflow_sub-last-then-is_framed-2 c =
    omega (arith, framed-long (76 ∷ []) (58 ∷ 59 ∷ []) c.args.text.now (sym c.is_framed-2.ensures ∙ c.if-is_framed-2.true))

pub slice_bounds-number_below-count-then-is_framed-2 : goal.slice_bounds-number_below-count-then-is_framed-2
slice_bounds-number_below-count-then-is_framed-2 c =
    omega (arith, framed-long (76 ∷ []) (58 ∷ 59 ∷ []) c.args.text.now (sym c.is_framed-2.ensures ∙ c.if-is_framed-2.true))

pub slice_bounds-number_below-start-then-is_framed-2 : goal.slice_bounds-number_below-start-then-is_framed-2
slice_bounds-number_below-start-then-is_framed-2 c =
    omega (arith, framed-long (76 ∷ []) (58 ∷ 59 ∷ []) c.args.text.now (sym c.is_framed-2.ensures ∙ c.if-is_framed-2.true))

pub returns-then-is_framed-2 : goal.returns-then-is_framed-2
unfolding jump_read
returns-then-is_framed-2 c =
    rw (sym c.is_framed.ensures ∙ c.if-is_framed.false, sym c.is_framed-2.ensures ∙ c.if-is_framed-2.true) (mapped Label c.number_below-then-is_framed-2.result c.map-then-is_framed-2.result _ c.map-then-is_framed-2.ensures.cases (λ x y k. search rules) ∙ ap label_of c.number_below-then-is_framed-2.ensures)

pub returns : goal.returns
unfolding jump_read
returns c =
    rw (sym c.is_framed.ensures ∙ c.if-is_framed.false, sym c.is_framed-2.ensures ∙ c.if-is_framed-2.false) c.function.ensures
