-- `lay_call`: the place, the equals sign, the function.
use native.Mathlib.Omega.{arith}
use mathlib.Core.Path.{◌≡◌, ap}
use mathlib.Core.List.{◌∷◌, [], ◌++◌}
use Prim.Native.Nat.{◌+◌, ◌≤◌}
use lib.ListN.{length, length-append}
use Rattle.language.specs.Decode.{expression_at, place_of}
use Rattle.page.specs.Page.{function_word, place_word}
use Rattle.page_line.specs.Contents.{call_bytes}
use Rattle.page_line.specs.LaidLaws.{laid_of, laid_next}
use Rattle.page_line.proofs.functions.lay_call.Goals as goal
use Rattle.page_line.proofs.functions.lay_call.Goals.{Start}

sizes : (c : Start)
    → length (call_bytes c.args.sizes (place_of (expression_at c.args.rows.now c.args.place)) c.args.number)
    ≡ length (place_word c.args.sizes (place_of (expression_at c.args.rows.now c.args.place))) + 4 + length (function_word c.args.number)
sizes c =
    let place = place_word c.args.sizes (place_of (expression_at c.args.rows.now c.args.place)) in
    let word = function_word c.args.number in
    omega (arith, length-append place ((32 ∷ 61 ∷ 32 ∷ []) ++ (word ++ (40 ∷ []))), length-append word (40 ∷ []))

pub lay_read-named-requires : goal.lay_read-named-requires
lay_read-named-requires c =
    let room : c.args.at + length (place_word c.args.sizes (place_of (expression_at c.args.rows.now c.args.place))) ≤ length c.args.text.now = omega (arith, sizes (goal.at.lay_read-named-requires c).Start, c.requires.number_in_bounds) in
    record { readable = (c.requires.readable.0, c.place_at.ensures.inside); place_in_bounds = rw c.place_at.ensures.is at room }

pub lay_bytes-equals-requires : goal.lay_bytes-equals-requires
lay_bytes-equals-requires c =
    omega (arith, sizes (goal.at.lay_bytes-equals-requires c).Start, c.requires.number_in_bounds, ap (λ p. length (place_word c.args.sizes p)) c.place_at.ensures.is)

pub lay_lettered-called-requires : goal.lay_lettered-called-requires
lay_lettered-called-requires c =
    omega (arith, sizes (goal.at.lay_lettered-called-requires c).Start, c.requires.number_in_bounds, ap (λ p. length (place_word c.args.sizes p)) c.place_at.ensures.is)

pub lay_byte-requires : goal.lay_byte-requires
lay_byte-requires c =
    omega (arith, sizes (goal.at.lay_byte-requires c).Start, c.requires.number_in_bounds, ap (λ p. length (place_word c.args.sizes p)) c.place_at.ensures.is)

pub returns : goal.returns
returns c =
    laid_next (laid_of (place_word c.args.sizes) c.place_at.ensures.is c.lay_read-named.ensures) (laid_next c.lay_bytes-equals.ensures (laid_next c.lay_lettered-called.ensures c.lay_byte.ensures))
