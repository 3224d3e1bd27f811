-- Lists and items are counted: by the laws of counts. The measure is twice the lines, and one more for a list.
use mathlib.Core.Path.{◌≡◌, refl, sym, ap, ◌∙◌}
use Prim.Native.Nat.{◌+◌, ◌*◌, ℕ, ◌<◌}
use native.Mathlib.Omega.{arith}
use borrow.Author.Rules.{rules}
use lib.ListN.{length}
use Rattle.words.specs.Table.{row_count}
use Rattle.language.specs.Decode.{list_at}
use Rattle.page.specs.Lines.{items_lines, statement_lines}
use Rattle.page_line.specs.ReadsLaws.{row-words}
use Rattle.page_printer.specs.declared.Outline.{Outline}
use Rattle.page_printer.specs.Outlines.{outline_at, outlined}
use Rattle.page_printer.specs.OutlineLaws.{next_inside, next-later}
use Rattle.page_printer.specs.CountLaws.{ahead, ahead-falls, told-inside, list_count, enclosed-count, split-count, called-count, defined-count, block-sized}
use Rattle.page_printer.proofs.sizes.+count_items.Goals as goal

pub count_item-outline_at-outline-requires : goal.count_item-outline_at-outline-requires
count_item-outline_at-outline-requires t c =
    (c.requires.readable, c.requires.inside)

pub count_item-block_list-list-requires : goal.count_item-block_list-list-requires
count_item-block_list-list-requires t c =
    let p = c.requires in
    row-words p.readable (told-inside p.readable p.inside (sym c.outline_at-outline.ensures ∙ c.in-Enclosed.is)).1

pub count_item-count_list-requires : goal.count_item-count_list-requires
count_item-count_list-requires t c =
    let p = c.requires in
    let e = sym c.outline_at-outline.ensures ∙ c.in-Enclosed.is in
    let n = enclosed-count p.readable p.inside _ _ c.block_list-list.result e c.block_list-list.ensures in
    (omega (arith, n, c.decreases), block-sized p.readable p.inside _ c.block_list-list.result (told-inside p.readable p.inside e).1 c.block_list-list.ensures (omega (arith, n, p.few)))

pub count_item-overflow_add-result : goal.count_item-overflow_add-result
count_item-overflow_add-result t c =
    let p = c.requires in
    omega (arith, enclosed-count p.readable p.inside _ _ c.block_list-list.result (sym c.outline_at-outline.ensures ∙ c.in-Enclosed.is) c.block_list-list.ensures, c.count_list.ensures, p.few)

pub count_item-block_list-one-requires : goal.count_item-block_list-one-requires
count_item-block_list-one-requires t c =
    let p = c.requires in
    row-words p.readable (told-inside p.readable p.inside (sym c.outline_at-outline.ensures ∙ c.in-Split.is)).1

pub count_item-block_list-other-requires : goal.count_item-block_list-other-requires
count_item-block_list-other-requires t c =
    let p = c.requires in
    row-words p.readable (told-inside p.readable p.inside (sym c.outline_at-outline.ensures ∙ c.in-Split.is)).2

pub count_item-count_list-lines-requires : goal.count_item-count_list-lines-requires
count_item-count_list-lines-requires t c =
    let p = c.requires in
    let e = sym c.outline_at-outline.ensures ∙ c.in-Split.is in
    let n = split-count p.readable p.inside _ _ _ c.block_list-one.result c.block_list-other.result e c.block_list-one.ensures c.block_list-other.ensures in
    (omega (arith, n, c.decreases), block-sized p.readable p.inside _ c.block_list-one.result (told-inside p.readable p.inside e).1 c.block_list-one.ensures (omega (arith, n, p.few)))

pub count_item-count_list-requires-in-Split : goal.count_item-count_list-requires-in-Split
count_item-count_list-requires-in-Split t c =
    let p = c.requires in
    let e = sym c.outline_at-outline.ensures ∙ c.in-Split.is in
    let n = split-count p.readable p.inside _ _ _ c.block_list-one.result c.block_list-other.result e c.block_list-one.ensures c.block_list-other.ensures in
    (omega (arith, n, c.decreases), block-sized p.readable p.inside _ c.block_list-other.result (told-inside p.readable p.inside e).2 c.block_list-other.ensures (omega (arith, n, p.few)))

pub count_item-overflow_add-result-in-Split : goal.count_item-overflow_add-result-in-Split
count_item-overflow_add-result-in-Split t c =
    let p = c.requires in
    omega (arith, split-count p.readable p.inside _ _ _ c.block_list-one.result c.block_list-other.result (sym c.outline_at-outline.ensures ∙ c.in-Split.is) c.block_list-one.ensures c.block_list-other.ensures, c.count_list-lines.ensures, c.count_list-in-Split.ensures, p.few)

pub count_item-overflow_add-result-in-Split-2 : goal.count_item-overflow_add-result-in-Split-2
count_item-overflow_add-result-in-Split-2 t c =
    let p = c.requires in
    omega (arith, split-count p.readable p.inside _ _ _ c.block_list-one.result c.block_list-other.result (sym c.outline_at-outline.ensures ∙ c.in-Split.is) c.block_list-one.ensures c.block_list-other.ensures, c.count_list-lines.ensures, c.count_list-in-Split.ensures, p.few)

pub count_item-count_arguments-requires : goal.count_item-count_arguments-requires
count_item-count_arguments-requires t c =
    let p = c.requires in
    let e = sym c.outline_at-outline.ensures ∙ c.in-Called.is in
    (p.readable, (told-inside p.readable p.inside e).2, omega (arith, called-count p.readable p.inside _ _ _ e, p.few))

pub count_item-overflow_add-result-in-Called : goal.count_item-overflow_add-result-in-Called
count_item-overflow_add-result-in-Called t c =
    let p = c.requires in
    omega (arith, called-count p.readable p.inside _ _ _ (sym c.outline_at-outline.ensures ∙ c.in-Called.is), c.count_arguments.ensures, p.few)

pub count_item-count_parameters-opened-requires : goal.count_item-count_parameters-opened-requires
count_item-count_parameters-opened-requires t c =
    let p = c.requires in
    let e = sym c.outline_at-outline.ensures ∙ c.in-Defined.is in
    let inside = told-inside p.readable p.inside e in
    (p.readable, inside.0, omega (arith, defined-count p.readable p.inside _ _ _ _ e refl, p.few))

pub count_item-overflow_add-opened : goal.count_item-overflow_add-opened
count_item-overflow_add-opened t c =
    let p = c.requires in
    let e = sym c.outline_at-outline.ensures ∙ c.in-Defined.is in
    omega (arith, defined-count p.readable p.inside _ _ _ _ e refl, c.count_parameters-opened.ensures, p.few)

pub count_item-block_list-list-requires-in-Defined : goal.count_item-block_list-list-requires-in-Defined
count_item-block_list-list-requires-in-Defined t c =
    let p = c.requires in
    let e = sym c.outline_at-outline.ensures ∙ c.in-Defined.is in
    row-words p.readable (told-inside p.readable p.inside e).1

pub count_item-count_list-requires-in-Defined : goal.count_item-count_list-requires-in-Defined
count_item-count_list-requires-in-Defined t c =
    let p = c.requires in
    let e = sym c.outline_at-outline.ensures ∙ c.in-Defined.is in
    let n = defined-count p.readable p.inside _ _ _ c.block_list-list-in-Defined.result e c.block_list-list-in-Defined.ensures in
    (omega (arith, n, c.decreases), block-sized p.readable p.inside _ c.block_list-list-in-Defined.result (told-inside p.readable p.inside e).1 c.block_list-list-in-Defined.ensures (omega (arith, n, p.few)))

pub count_item-overflow_add-result-in-Defined : goal.count_item-overflow_add-result-in-Defined
count_item-overflow_add-result-in-Defined t c =
    let p = c.requires in
    let e = sym c.outline_at-outline.ensures ∙ c.in-Defined.is in
    let n = defined-count p.readable p.inside _ _ _ c.block_list-list-in-Defined.result e c.block_list-list-in-Defined.ensures in
    omega (arith, n, c.count_parameters-opened.ensures, c.count_list-in-Defined.ensures, p.few)

pub count_item-overflow_add-result-in-Defined-2 : goal.count_item-overflow_add-result-in-Defined-2
count_item-overflow_add-result-in-Defined-2 t c =
    let p = c.requires in
    let e = sym c.outline_at-outline.ensures ∙ c.in-Defined.is in
    let n = defined-count p.readable p.inside _ _ _ c.block_list-list-in-Defined.result e c.block_list-list-in-Defined.ensures in
    omega (arith, n, c.count_parameters-opened.ensures, c.count_list-in-Defined.ensures, p.few)

pub count_item-returns-in-Single : goal.count_item-returns-in-Single
count_item-returns-in-Single t c =
    sym (ap (λ (o : Outline). length (outlined c.args.rows.now 0 o)) (sym c.outline_at-outline.ensures ∙ c.in-Single.is))

pub count_item-returns-in-Enclosed : goal.count_item-returns-in-Enclosed
count_item-returns-in-Enclosed t c =
    let p = c.requires in
    omega (arith, enclosed-count p.readable p.inside _ _ c.block_list-list.result (sym c.outline_at-outline.ensures ∙ c.in-Enclosed.is) c.block_list-list.ensures, c.count_list.ensures)

pub count_item-returns-in-Split : goal.count_item-returns-in-Split
count_item-returns-in-Split t c =
    let p = c.requires in
    omega (arith, split-count p.readable p.inside _ _ _ c.block_list-one.result c.block_list-other.result (sym c.outline_at-outline.ensures ∙ c.in-Split.is) c.block_list-one.ensures c.block_list-other.ensures, c.count_list-lines.ensures, c.count_list-in-Split.ensures)

pub count_item-returns-in-Called : goal.count_item-returns-in-Called
count_item-returns-in-Called t c =
    let p = c.requires in
    omega (arith, called-count p.readable p.inside _ _ _ (sym c.outline_at-outline.ensures ∙ c.in-Called.is), c.count_arguments.ensures)

pub count_item-returns-in-Defined : goal.count_item-returns-in-Defined
count_item-returns-in-Defined t c =
    let p = c.requires in
    let e = sym c.outline_at-outline.ensures ∙ c.in-Defined.is in
    let n = defined-count p.readable p.inside _ _ _ c.block_list-list-in-Defined.result e c.block_list-list-in-Defined.ensures in
    omega (arith, n, c.count_parameters-opened.ensures, c.count_list-in-Defined.ensures)

pub count_item-returns-in-Nothing : goal.count_item-returns-in-Nothing
count_item-returns-in-Nothing t c =
    sym (ap (λ (o : Outline). length (outlined c.args.rows.now 0 o)) (sym c.outline_at-outline.ensures ∙ c.in-Nothing.is))

pub count_list-loop-row-init : goal.count_list-loop-row-init
count_list-loop-row-init t c =
    (omega arith, c.requires.inside)

pub count_list-count_item-lines-requires : goal.count_list-count_item-lines-requires
count_list-count_item-lines-requires t c =
    let p = c.requires in
    let n = list_count p.readable c.loop-row.invariant.1 _ c.loop-row-test.true refl in
    (omega (arith, n, c.loop-row.invariant.0, c.decreases), record { readable = p.readable; inside = c.loop-row.invariant.1; few = omega (arith, n, c.loop-row.invariant.0, p.few) })

pub count_list-overflow_add-lines : goal.count_list-overflow_add-lines
count_list-overflow_add-lines t c =
    let p = c.requires in
    omega (arith, list_count p.readable c.loop-row.invariant.1 _ c.loop-row-test.true refl, c.loop-row.invariant.0, c.count_item-lines.ensures, p.few)

pub count_list-number_at-row-requires : goal.count_list-number_at-row-requires
count_list-number_at-row-requires t c =
    row-words c.requires.readable c.loop-row.invariant.1

pub count_list-loop-row-smaller : goal.count_list-loop-row-smaller
count_list-loop-row-smaller t c =
    let p = c.requires in
    ahead-falls (row_count c.args.rows.now) c.loop-row.row c.number_at-row.result c.loop-row-test.true c.loop-row.invariant.1 (rw c.number_at-row.ensures (next-later p.readable c.loop-row.invariant.1))

pub count_list-loop-row-preserved : goal.count_list-loop-row-preserved
count_list-loop-row-preserved t c =
    let p = c.requires in
    (omega (arith, list_count p.readable c.loop-row.invariant.1 c.number_at-row.result c.loop-row-test.true c.number_at-row.ensures, c.loop-row.invariant.0, c.count_item-lines.ensures), rw c.number_at-row.ensures (next_inside p.readable c.loop-row.invariant.1))

pub count_list-returns : goal.count_list-returns
unfolding statement_lines
count_list-returns t c =
    let e = ap (λ r. length (items_lines 0 (list_at c.args.rows.now r))) c.loop-row-test.false in
    omega (arith, e, c.loop-row.invariant.0)
