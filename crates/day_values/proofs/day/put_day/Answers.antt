-- `put_day`: a store of as many zeros as the rule's has words, then `put_day_on`.
use mathlib.Core.Path.{ap, ◌∙◌}
use native.Mathlib.Omega.{arith}
use Rattle.words.specs.Laws.{back, zeros-part}
use Rattle.words.specs.Layout.{zeros}
use borrow.Author.Rules.{rules}
use Rattle.day_values.proofs.day.put_day.Goals as goal

pub slice_bounds-store-end : goal.slice_bounds-store-end
slice_bounds-store-end c =
    omega (arith, c.store_words-size.ensures, c.requires.fits.few_words)

pub put_day_on-requires : goal.put_day_on-requires
put_day_on-requires c = record { fits = c.requires.fits; store_value = zeros-part c.store_words-size.result 1088 (omega (arith, c.store_words-size.ensures, c.requires.fits.few_words)) ∙ ap zeros c.store_words-size.ensures; line_room_in_bounds = c.requires.line_room_in_bounds }

pub returns : goal.returns
returns c =
    rw (back _ c.ranges.value.sfits) at c.put_day_on.ensures
