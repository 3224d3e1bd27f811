-- `lay_stored`: the place, the equals sign, the value.
use native.Mathlib.Omega.{arith}
use mathlib.Core.Path.{◌≡◌, ap}
use mathlib.Core.List.{◌∷◌}
use Prim.Native.Nat.{◌+◌, ◌≤◌}
use lib.ListN.{length, length-append}
use Rattle.language.specs.Trees.{assign}
use Rattle.language.specs.Decode.{expression_at, place_of}
use Rattle.page.specs.Page.{place_word, ended, value_words, assignment_words, parted}
use Rattle.page_line.specs.Contents.{led}
use Rattle.page_line.specs.LaidLaws.{laid_as, laid_of, laid_next}
use Rattle.page_line.specs.ContentLaws.{stored_bytes}
use Rattle.page_line.proofs.expressions.lay_stored.Goals as goal
use Rattle.page_line.proofs.expressions.lay_stored.Goals.{Start}

sizes : (c : Start)
    → length (parted (assignment_words c.args.sizes (assign (place_of (expression_at c.args.rows.now c.args.place)) (expression_at c.args.rows.now c.args.value))))
    ≡ length (place_word c.args.sizes (place_of (expression_at c.args.rows.now c.args.place))) + 2 + length (led (ended (value_words c.args.sizes (expression_at c.args.rows.now c.args.value))))
sizes c =
    let place = place_of (expression_at c.args.rows.now c.args.place) in
    let value = expression_at c.args.rows.now c.args.value in
    omega (arith, ap length (stored_bytes c.args.sizes place value), length-append (place_word c.args.sizes place) (32 ∷ 61 ∷ led (ended (value_words c.args.sizes value))))

pub lay_read-named-requires : goal.lay_read-named-requires
lay_read-named-requires c =
    let room : c.args.at + length (place_word c.args.sizes (place_of (expression_at c.args.rows.now c.args.place))) ≤ length c.args.text.now = omega (arith, sizes (goal.at.lay_read-named-requires c).Start, c.requires.value_in_bounds) in
    record { readable = (c.requires.readable.0, c.place_at.ensures.inside); place_in_bounds = rw c.place_at.ensures.is at room }

pub lay_bytes-equals-requires : goal.lay_bytes-equals-requires
lay_bytes-equals-requires c =
    omega (arith, sizes (goal.at.lay_bytes-equals-requires c).Start, c.requires.value_in_bounds, ap (λ p. length (place_word c.args.sizes p)) c.place_at.ensures.is)

pub lay_value-requires : goal.lay_value-requires
lay_value-requires c =
    record { readable = (c.requires.readable.0, c.requires.readable.2); row_in_bounds = omega (arith, sizes (goal.at.lay_value-requires c).Start, c.requires.value_in_bounds, ap (λ p. length (place_word c.args.sizes p)) c.place_at.ensures.is) }

pub returns : goal.returns
returns c =
    laid_as (stored_bytes c.args.sizes (place_of (expression_at c.args.rows.now c.args.place)) (expression_at c.args.rows.now c.args.value))
    (laid_next (laid_of (place_word c.args.sizes) c.place_at.ensures.is c.lay_read-named.ensures) (laid_next c.lay_bytes-equals.ensures c.lay_value.ensures))
