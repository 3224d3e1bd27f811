-- `print_accepted`: the lines are counted; where the page has room for them, they are printed.
use mathlib.Core.Path.{◌≡◌, ap, ◌∙◌}
use Prim.Native.Nat.{ℕ, ◌*◌, ◌≤◌, ◌<◌}
use native.Mathlib.Omega.{arith}
use borrow.Author.Rules.{rules}
use lib.ListN.{length}
use Rattle.language.specs.Decode.{list_at}
use Rattle.page.specs.Lines.{items_lines}
use Rattle.page_printer.specs.Outlines.{block_list}
use Rattle.page_printer.specs.PageLaws.{table-row, table-sized, table-ready, short-page, whole-page, whole-reads, refused-reads}
use Rattle.page_printer.proofs.pages.print_accepted.Goals as goal
use Rattle.page_printer.proofs.pages.print_accepted.Goals.{After-count_list-size}

pub block_list-first-requires : goal.block_list-first-requires
block_list-first-requires c =
    let s = c.before.before in
    omega (arith, table-row s.args.header.now s.args.rows.now s.requires c.pass_words.ensures.fits)

pub count_list-size-requires : goal.count_list-size-requires
count_list-size-requires c =
    let s = c.before.before.before in
    rw c.block_list-first.ensures (table-sized s.args.header.now s.args.rows.now s.requires c.pass_words.ensures.fits)

-- as many lines as the table has
counted : (c : After-count_list-size) → c.count_list-size.result ≡ length (items_lines 0 (list_at c.args.rows.now (block_list c.args.rows.now 0)))
counted c =
    c.count_list-size.ensures
    ∙ ap (λ (r : ℕ). length (items_lines 0 (list_at c.args.rows.now r))) c.block_list-first.ensures

pub overflow_mul-size : goal.overflow_mul-size
overflow_mul-size c =
    let s = c.before.before.before.before in
    omega (arith, counted c, (table-sized s.args.header.now s.args.rows.now s.requires c.pass_words.ensures.fits).few)

pub returns-then-page-size : goal.returns-then-page-size
returns-then-page-size c =
    let s = c.before.before.before.before.before in record { writes = short-page s.args.header.now s.args.rows.now s.requires c.pass_words.ensures.fits s.args.page.now (omega (arith, counted (goal.at.returns-then-page-size c).After-count_list-size, c.if-page-size.true)); page_reads = refused-reads s.args.header.now s.args.rows.now (record { number = 10; place = 0 }) s.args.page.now }

pub sizes_of-sizes-requires : goal.sizes_of-sizes-requires
sizes_of-sizes-requires c = c.requires.header-fits

pub print_list-requires : goal.print_list-requires
print_list-requires c =
    let s = c.before.before.before.before.before.before.before in
    rw (c.sizes_of-sizes.ensures, c.block_list-first.ensures)
    (table-ready s.args.header.now s.args.rows.now s.requires c.pass_words.ensures.fits s.args.page.now (omega (arith, counted (goal.at.print_list-requires c).After-count_list-size, c.if-page-size.false)))

pub returns : goal.returns
returns c =
    let s = c.before.before.before.before.before.before.before.before.before.before in
    let n = counted (goal.at.returns c).After-count_list-size in
    let known = c.pass_words.ensures.fits in
    let printed = rw (c.sizes_of-sizes.ensures, c.block_list-first.ensures) at c.print_list.ensures in
    rw n (record {
      writes = whole-page s.args.header.now s.args.rows.now s.requires known s.args.page.now _ _ (omega (arith, n, c.if-page-size.false)) printed;
      page_reads = whole-reads s.args.header.now s.args.rows.now s.requires known s.args.page.now _ _ printed;
    })
