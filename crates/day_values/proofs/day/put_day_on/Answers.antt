-- `put_day_on`: the value is stored once, the lines are done, and their line has the first V words of the store.
use mathlib.Core.Path.{◌≡◌, ◌∙◌}
use Prim.Native.Nat.{◌-◌}
use native.Mathlib.Omega.{arith}
use lib.Seq.{length-take-le}
use lib.ListN.{length}
use Rattle.words.specs.Layout.{store_words}
use Rattle.words.specs.Laws.{back, header_fits-facts}
use Rattle.words.proofs.Signed.{natural-again}
use Rattle.words.specs.declared.Form.TheVariants.{Source}
use Rattle.text_lines.specs.Line.{lines_of}
use Rattle.text_numbers.specs.PutLaws.{put_as}
use Rattle.day_values.proofs.Printing.{variables_inside, variables-are, zeros-length, value-stored, day-counted, day-line}
use borrow.Author.Rules.{rules}
use Rattle.day_values.proofs.day.put_day_on.Goals as goal

pub do_lines-tally-requires : goal.do_lines-tally-requires
do_lines-tally-requires c =
    let fits = c.requires.fits in
    let size = c.store_at.auto.store ∙ zeros-length _ _ c.requires.store_value in
    record { runnable = fits.runnable _ size; store_len_bound = omega (arith, size, fits.few_words) }

pub bounds-header-0 : goal.bounds-header-0
bounds-header-0 c =
    omega (arith, (header_fits-facts Source _ c.requires.fits.header-fits).least)

pub slice_bounds-put_numbers-end : goal.slice_bounds-put_numbers-end
slice_bounds-put_numbers-end c =
    let size : length c.do_lines-tally.new.store ≡ store_words Source c.args.header.now c.args.rows.now = c.do_lines-tally.auto.store ∙ c.store_at.auto.store ∙ zeros-length _ _ c.requires.store_value in
    let variables = variables-are c.args.header.now c.natural-variables.result (natural-again _ _ c.natural-arg-1.given c.natural-variables.ensures) in
    omega (arith, size, variables, (variables_inside c.requires.fits).0)

pub put_numbers-requires : goal.put_numbers-requires
put_numbers-requires c =
    let size : length c.do_lines-tally.new.store ≡ store_words Source c.args.header.now c.args.rows.now = c.do_lines-tally.auto.store ∙ c.store_at.auto.store ∙ zeros-length _ _ c.requires.store_value in
    let variables = variables-are c.args.header.now c.natural-variables.result (natural-again _ _ c.natural-arg-1.given c.natural-variables.ensures) in
    let inside = variables_inside c.requires.fits in
    let taken = length-take-le (c.natural-variables.result - 0) c.do_lines-tally.new.store (omega (arith, size, variables, inside.0)) in
    record { plain_bound = day-counted _ _ (lines_of c.args.text.now) c.store_at.new.store _ _ c.do_lines-tally.ensures c.requires.fits.few_days; variables_len_bound = omega (arith, taken, variables, inside.1); line_room_in_bounds = c.requires.line_room_in_bounds }

pub returns : goal.returns
returns c =
    let start = value-stored _ _ (store_words Source c.args.header.now c.args.rows.now) c.args.variable c.args.value c.requires.store_value c.store_at.ensures c.ranges.value.sfits in
    let variables = variables-are _ _ (natural-again _ _ c.natural-arg-1.given c.natural-variables.ensures) in
    let printed = rw (back _ c.ranges.value.sfits) at c.put_numbers.ensures in
    record { put = put_as (day-line _ _ (lines_of c.args.text.now) c.store_at.new.store _ _ c.do_lines-tally.ensures c.args.variable _ c.args.value start variables) printed.put; upper_bound = printed.upper_bound }
