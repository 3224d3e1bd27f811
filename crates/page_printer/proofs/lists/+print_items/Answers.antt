-- Lists and items are printed: what each prints is the lines of its definition, behind those that are done. The measure is three times the lines
-- that are left to print, and a little more for a function that calls before it prints. The loop's invariant is `Walked`.
use mathlib.Core.Path.{◌≡◌, refl, sym, ap, subst, ◌∙◌}
use mathlib.Core.List.{List, [], ◌∷◌, ◌++◌}
use Prim.Native.Nat.{◌+◌, ◌*◌, ℕ, ◌<◌}
use native.Mathlib.Omega.{arith}
use borrow.Author.Rules.{rules}
use lib.ListN.{length, length-append}
use Rattle.words.specs.Table.{row_count}
use Rattle.language.specs.Decode.{expression_at, argument_list_at, parameter_list_at, statement_at, list_at}
use Rattle.page.specs.Lines.{Indented, indented, closes, argument_lines, definition_lines, branch_lines, items_lines}
use Rattle.page_line.specs.declared.LineAt.TheVariants.{Turns, Closes}
use Rattle.page_line.specs.Contents.{line_tree}
use Rattle.page_line.specs.Printed.{Printed}
use Rattle.page_line.specs.PrintedLaws.{printed-none, printed-next}
use Rattle.page_line.specs.ReadsLaws.{row-words}
use Rattle.page_printer.specs.declared.Outline.{Outline}
use Rattle.page_printer.specs.Outlines.{outline_at, enclosed, outlined}
use Rattle.page_printer.specs.Ready.{Ready}
use Rattle.page_printer.specs.Levels.{definition-count}
use Rattle.page_printer.specs.ReadyLaws.{ready-first, ready-behind, ready-deeper, ready-inner, ready-line}
use Rattle.page_printer.specs.OutlineLaws.{block_inside, next-later}
use Rattle.page_printer.specs.CountLaws.{ahead, ahead-falls, told-inside}
use Rattle.page_printer.specs.Walks.{Walked, walked_start, walked-length, walked-ready, walked-few, walked_next, walked_end, printed-of, ready_of, printed-as, block-list-lines}
use Rattle.page_printer.proofs.lists.+print_items.Goals as goal

pub print_enclosed-print_line-opened-requires : goal.print_enclosed-print_line-opened-requires
print_enclosed-print_line-opened-requires t c =
    let s = c in
    ready-line s.args.line (ready-first (indented s.args.level (line_tree s.args.rows.now s.args.line) ∷ []) (branch_lines (s.args.level + 1) (statement_at s.args.rows.now s.args.block)) s.requires.0) s.requires.1

pub print_enclosed-block_list-list-requires : goal.print_enclosed-block_list-list-requires
print_enclosed-block_list-list-requires t c =
    row-words c.requires.0.readable c.requires.2

pub print_enclosed-overflow_add-level : goal.print_enclosed-overflow_add-level
print_enclosed-overflow_add-level t c =
    omega (arith, c.requires.0.shallow)

pub print_enclosed-print_list-requires : goal.print_enclosed-print_list-requires
print_enclosed-print_list-requires t c =
    let s = c in
    let r = s.requires.0 in
    let inner = branch_lines (s.args.level + 1) (statement_at s.args.rows.now s.args.block) in
    let e = block-list-lines r.readable (s.args.level + 1) s.args.block c.block_list-list.result s.requires.2 c.block_list-list.ensures in
    let ready = ready-deeper (indented s.args.level (line_tree s.args.rows.now s.args.line)) inner r c.print_line-opened.ensures in
    (omega (arith, ap length e, s.decreases), (rw e at ready, rw c.block_list-list.ensures (block_inside r.readable s.requires.2)))

pub print_enclosed-returns : goal.print_enclosed-returns
print_enclosed-returns t c =
    let s = c in
    let e = block-list-lines s.requires.0.readable (s.args.level + 1) s.args.block c.block_list-list.result s.requires.2 c.block_list-list.ensures in
    rw e (printed-next c.print_line-opened.ensures c.print_list.ensures)

pub print_item-outline_at-outline-requires : goal.print_item-outline_at-outline-requires
print_item-outline_at-outline-requires t c =
    (c.requires.0.readable, c.requires.1)

pub print_item-print_line-requires : goal.print_item-print_line-requires
print_item-print_line-requires t c =
    let s = c in
    let e = sym c.outline_at-outline.ensures ∙ c.in-Single.is in
    ready-line c.in-Single.line (ready_of s.args.level s.args.row e s.requires.0) (told-inside s.requires.0.readable s.requires.1 e)

pub print_item-print_enclosed-inside-requires : goal.print_item-print_enclosed-inside-requires
print_item-print_enclosed-inside-requires t c =
    let s = c in
    let line = c.in-Enclosed.line in
    let block = c.in-Enclosed.block in
    let e = sym c.outline_at-outline.ensures ∙ c.in-Enclosed.is in
    let ready = ready_of s.args.level s.args.row e s.requires.0 in
    let first = enclosed s.args.rows.now s.args.level line block in
    let last = indented s.args.level closes ∷ [] in
    let inside = told-inside s.requires.0.readable s.requires.1 e in
    (omega (arith, s.decreases, ap (λ (o : Outline). length (outlined s.args.rows.now s.args.level o)) e, length-append first last), (ready-first first last ready, inside.0, inside.1))

pub print_item-print_line-requires-in-Enclosed : goal.print_item-print_line-requires-in-Enclosed
print_item-print_line-requires-in-Enclosed t c =
    let s = c in
    let line = c.in-Enclosed.line in
    let block = c.in-Enclosed.block in
    let e = sym c.outline_at-outline.ensures ∙ c.in-Enclosed.is in
    let ready = ready_of s.args.level s.args.row e s.requires.0 in
    ready-line Closes (ready-behind (enclosed s.args.rows.now s.args.level line block) (indented s.args.level closes ∷ []) ready c.print_enclosed-inside.ensures) tt

pub print_item-print_enclosed-turn-requires : goal.print_item-print_enclosed-turn-requires
print_item-print_enclosed-turn-requires t c =
    let s = c in
    let line = c.in-Split.line in
    let e = sym c.outline_at-outline.ensures ∙ c.in-Split.is in
    let ready = ready_of s.args.level s.args.row e s.requires.0 in
    let first = enclosed s.args.rows.now s.args.level line c.in-Split.first in
    let second = enclosed s.args.rows.now s.args.level Turns c.in-Split.second in
    let last = indented s.args.level closes ∷ [] in
    let inside = told-inside s.requires.0.readable s.requires.1 e in
    (omega (arith, s.decreases, ap (λ (o : Outline). length (outlined s.args.rows.now s.args.level o)) e, length-append first (second ++ last), length-append second last), (ready-first first (second ++ last) ready, inside.0, inside.1))

pub print_item-print_enclosed-inside-requires-in-Split : goal.print_item-print_enclosed-inside-requires-in-Split
print_item-print_enclosed-inside-requires-in-Split t c =
    let s = c in
    let line = c.in-Split.line in
    let e = sym c.outline_at-outline.ensures ∙ c.in-Split.is in
    let ready = ready_of s.args.level s.args.row e s.requires.0 in
    let first = enclosed s.args.rows.now s.args.level line c.in-Split.first in
    let second = enclosed s.args.rows.now s.args.level Turns c.in-Split.second in
    let last = indented s.args.level closes ∷ [] in
    let inside = told-inside s.requires.0.readable s.requires.1 e in
    (omega (arith, s.decreases, ap (λ (o : Outline). length (outlined s.args.rows.now s.args.level o)) e, length-append first (second ++ last), length-append second last), (ready-first second last (ready-behind first (second ++ last) ready c.print_enclosed-turn.ensures), tt, inside.2))

pub print_item-print_line-requires-in-Split : goal.print_item-print_line-requires-in-Split
print_item-print_line-requires-in-Split t c =
    let s = c in
    let line = c.in-Split.line in
    let e = sym c.outline_at-outline.ensures ∙ c.in-Split.is in
    let ready = ready_of s.args.level s.args.row e s.requires.0 in
    let first = enclosed s.args.rows.now s.args.level line c.in-Split.first in
    let second = enclosed s.args.rows.now s.args.level Turns c.in-Split.second in
    let last = indented s.args.level closes ∷ [] in
    ready-line Closes (ready-behind second last (ready-behind first (second ++ last) ready c.print_enclosed-turn.ensures) c.print_enclosed-inside-in-Split.ensures) tt

pub print_item-print_line-opened-requires : goal.print_item-print_line-opened-requires
print_item-print_line-opened-requires t c =
    let s = c in
    let line = c.in-Called.line in
    let e = sym c.outline_at-outline.ensures ∙ c.in-Called.is in
    let ready = ready_of s.args.level s.args.row e s.requires.0 in
    let rest = argument_lines s.args.level (expression_at s.args.rows.now c.in-Called.first) (argument_list_at s.args.rows.now c.in-Called.link) in
    ready-line line (ready-first (indented s.args.level (line_tree s.args.rows.now line) ∷ []) rest ready) (told-inside s.requires.0.readable s.requires.1 e).0

pub print_item-print_arguments-requires : goal.print_item-print_arguments-requires
print_item-print_arguments-requires t c =
    let s = c in
    let line = c.in-Called.line in
    let e = sym c.outline_at-outline.ensures ∙ c.in-Called.is in
    let ready = ready_of s.args.level s.args.row e s.requires.0 in
    let rest = argument_lines s.args.level (expression_at s.args.rows.now c.in-Called.first) (argument_list_at s.args.rows.now c.in-Called.link) in
    let inside = told-inside s.requires.0.readable s.requires.1 e in
    (ready-behind (indented s.args.level (line_tree s.args.rows.now line) ∷ []) rest ready c.print_line-opened.ensures, inside.1, inside.2)

pub print_item-print_definition-opened-requires : goal.print_item-print_definition-opened-requires
print_item-print_definition-opened-requires t c =
    let s = c in
    let e = sym c.outline_at-outline.ensures ∙ c.in-Defined.is in
    let ready = ready_of s.args.level s.args.row e s.requires.0 in
    let body = c.in-Defined.body in
    let first = definition_lines s.args.level c.in-Defined.number (parameter_list_at s.args.rows.now c.in-Defined.parameters) in
    let inner = branch_lines (s.args.level + 1) (statement_at s.args.rows.now body) in
    let last = indented s.args.level closes ∷ [] in
    let inside = told-inside s.requires.0.readable s.requires.1 e in
    (ready-first first (inner ++ last) ready, inside.0)

pub print_item-block_list-list-requires : goal.print_item-block_list-list-requires
print_item-block_list-list-requires t c =
    let s = c in
    let e = sym c.outline_at-outline.ensures ∙ c.in-Defined.is in
    row-words s.requires.0.readable (told-inside s.requires.0.readable s.requires.1 e).1

pub print_item-overflow_add-level : goal.print_item-overflow_add-level
print_item-overflow_add-level t c =
    omega (arith, c.requires.0.shallow)

pub print_item-print_list-inside-requires : goal.print_item-print_list-inside-requires
print_item-print_list-inside-requires t c =
    let s = c in
    let e = sym c.outline_at-outline.ensures ∙ c.in-Defined.is in
    let ready = ready_of s.args.level s.args.row e s.requires.0 in
    let body = c.in-Defined.body in
    let first = definition_lines s.args.level c.in-Defined.number (parameter_list_at s.args.rows.now c.in-Defined.parameters) in
    let inner = branch_lines (s.args.level + 1) (statement_at s.args.rows.now body) in
    let last = indented s.args.level closes ∷ [] in
    let inside = told-inside s.requires.0.readable s.requires.1 e in
    let lines = block-list-lines s.requires.0.readable (s.args.level + 1) body c.block_list-list.result inside.1 c.block_list-list.ensures in
    (omega (arith, s.decreases, ap (λ (o : Outline). length (outlined s.args.rows.now s.args.level o)) e, length-append first (inner ++ last), length-append inner last, definition-count s.args.level c.in-Defined.number (parameter_list_at s.args.rows.now c.in-Defined.parameters), ap length lines), (rw lines at (ready-inner first inner last ready (omega (arith, definition-count s.args.level c.in-Defined.number (parameter_list_at s.args.rows.now c.in-Defined.parameters))) c.print_definition-opened.ensures), rw c.block_list-list.ensures (block_inside s.requires.0.readable inside.1)))

pub print_item-print_line-requires-in-Defined : goal.print_item-print_line-requires-in-Defined
print_item-print_line-requires-in-Defined t c =
    let s = c in
    let e = sym c.outline_at-outline.ensures ∙ c.in-Defined.is in
    let ready = ready_of s.args.level s.args.row e s.requires.0 in
    let body = c.in-Defined.body in
    let first = definition_lines s.args.level c.in-Defined.number (parameter_list_at s.args.rows.now c.in-Defined.parameters) in
    let inner = branch_lines (s.args.level + 1) (statement_at s.args.rows.now body) in
    let last = indented s.args.level closes ∷ [] in
    let inside = told-inside s.requires.0.readable s.requires.1 e in
    let lines = block-list-lines s.requires.0.readable (s.args.level + 1) body c.block_list-list.result inside.1 c.block_list-list.ensures in
    ready-line Closes (ready-behind inner last (ready-behind first (inner ++ last) ready c.print_definition-opened.ensures) (printed-as lines c.print_list-inside.ensures)) tt

pub print_item-returns-in-Single : goal.print_item-returns-in-Single
print_item-returns-in-Single t c =
    printed-of c.args.rows.now c.args.level c.args.row (sym c.outline_at-outline.ensures ∙ c.in-Single.is) c.print_line.ensures

pub print_item-returns-in-Enclosed : goal.print_item-returns-in-Enclosed
print_item-returns-in-Enclosed t c =
    printed-of c.args.rows.now c.args.level c.args.row (sym c.outline_at-outline.ensures ∙ c.in-Enclosed.is) (printed-next c.print_enclosed-inside.ensures c.print_line-in-Enclosed.ensures)

pub print_item-returns-in-Split : goal.print_item-returns-in-Split
print_item-returns-in-Split t c =
    printed-of c.args.rows.now c.args.level c.args.row (sym c.outline_at-outline.ensures ∙ c.in-Split.is) (printed-next c.print_enclosed-turn.ensures (printed-next c.print_enclosed-inside-in-Split.ensures c.print_line-in-Split.ensures))

pub print_item-returns-in-Called : goal.print_item-returns-in-Called
print_item-returns-in-Called t c =
    printed-of c.args.rows.now c.args.level c.args.row (sym c.outline_at-outline.ensures ∙ c.in-Called.is) (printed-next c.print_line-opened.ensures c.print_arguments.ensures)

pub print_item-returns-in-Defined : goal.print_item-returns-in-Defined
print_item-returns-in-Defined t c =
    let s = c in
    let e = sym c.outline_at-outline.ensures ∙ c.in-Defined.is in
    let ready = ready_of s.args.level s.args.row e s.requires.0 in
    let body = c.in-Defined.body in
    let first = definition_lines s.args.level c.in-Defined.number (parameter_list_at s.args.rows.now c.in-Defined.parameters) in
    let inner = branch_lines (s.args.level + 1) (statement_at s.args.rows.now body) in
    let last = indented s.args.level closes ∷ [] in
    let inside = told-inside s.requires.0.readable s.requires.1 e in
    let lines = block-list-lines s.requires.0.readable (s.args.level + 1) body c.block_list-list.result inside.1 c.block_list-list.ensures in
    printed-of s.args.rows.now s.args.level s.args.row e (printed-next c.print_definition-opened.ensures (printed-next (printed-as lines c.print_list-inside.ensures) c.print_line-in-Defined.ensures))

pub print_item-returns-in-Nothing : goal.print_item-returns-in-Nothing
print_item-returns-in-Nothing t c =
    printed-of c.args.rows.now c.args.level c.args.row (sym c.outline_at-outline.ensures ∙ c.in-Nothing.is) (printed-none c.args.page.now c.args.done (omega (arith, c.requires.0.room)))

pub print_list-loop-row-init : goal.print_list-loop-row-init
print_list-loop-row-init t c =
    let s = c in
    walked_start s.args.sizes s.args.rows.now s.args.level s.args.done s.args.first s.args.page.now (omega (arith, s.requires.0.room)) s.requires.1

pub print_list-print_item-lines-requires : goal.print_list-print_item-lines-requires
print_list-print_item-lines-requires t c =
    let s = c in
    let w = c.loop-row.invariant in
    (omega (arith, walked-few w s.requires.0 c.loop-row-test.true, s.decreases), (walked-ready w s.requires.0 c.loop-row-test.true, w.inside))

pub print_list-number_at-row-requires : goal.print_list-number_at-row-requires
print_list-number_at-row-requires t c =
    row-words c.requires.0.readable c.loop-row.invariant.inside

pub print_list-loop-row-smaller : goal.print_list-loop-row-smaller
print_list-loop-row-smaller t c =
    let s = c in
    let w = c.loop-row.invariant in
    ahead-falls (row_count s.args.rows.now) c.loop-row.row c.number_at-row.result c.loop-row-test.true w.inside (rw c.number_at-row.ensures (next-later s.requires.0.readable w.inside))

pub print_list-loop-row-preserved : goal.print_list-loop-row-preserved
print_list-loop-row-preserved t c =
    let s = c in
    walked_next c.loop-row.invariant s.requires.0 c.loop-row-test.true _ _ _ c.number_at-row.ensures c.print_item-lines.ensures

pub print_list-shape_of-page : goal.print_list-shape_of-page
print_list-shape_of-page t c =
    walked-length c.loop-row.invariant

pub print_list-returns : goal.print_list-returns
print_list-returns t c =
    walked_end c.loop-row.invariant c.loop-row-test.false
