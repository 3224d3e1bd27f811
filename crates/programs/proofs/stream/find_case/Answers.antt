-- `find_case`: the fields of a line end within it, and the line within the input.
use mathlib.Core.Path.{◌≡◌, sym}
use mathlib.Core.List.{List}
use Prim.Native.Nat.{ℕ, ◌+◌, ◌≤◌, ◌<◌}
use native.Mathlib.Nat.{le_of_lt}
use native.Mathlib.Omega.{arith}
use lib.ListN.{length, take, drop}
use lib.Seq.{length-take-le}
use Rattle.text_lines.specs.Reader.{piece_end}
use Rattle.text_lines.proofs.Pieces.{piece_of}
use borrow.Author.Rules.{rules}
use Rattle.programs.proofs.stream.find_case.Goals as goal

-- A line that ends within the input, and a field that ends before the line does: the next field ends within the line.
second-inside : (input : List ℕ) (line first second : ℕ) → line < length input → first < line
    → second ≡ first + 1 + piece_end 9 (drop (first + 1) (take line input)) → second ≤ line
second-inside input line first second h k e =
    let size : length (take line input) ≡ line = length-take-le line input (omega arith) in
    let inside = (piece_of 9 (take line input) (first + 1) second (omega arith) e).inside in
    omega arith

pub slice_bounds-piece_end-end : goal.slice_bounds-piece_end-end
slice_bounds-piece_end-end c = sym (length-take-le _ _ (le_of_lt c.if-line-input.false))

pub slice_bounds-piece_end-end-2 : goal.slice_bounds-piece_end-end-2
slice_bounds-piece_end-end-2 c = sym (length-take-le _ _ (le_of_lt c.if-line-input.false))

pub piece_end-second-requires : goal.piece_end-second-requires
piece_end-second-requires c = omega (arith, slice_bounds-piece_end-end-2 c, c.if-first-line.false)

pub slice_bounds-natural_of-end : goal.slice_bounds-natural_of-end
slice_bounds-natural_of-end c = sym (length-take-le _ _ (omega (arith, c.if-first-line.false, c.if-line-input.false)))

pub slice_bounds-natural_of-end-2 : goal.slice_bounds-natural_of-end-2
slice_bounds-natural_of-end-2 c = omega (arith, second-inside _ _ _ _ c.if-line-input.false c.if-first-line.false c.piece_end-second.ensures, c.if-line-input.false)

pub case_of-requires : goal.case_of-requires
case_of-requires c = (second-inside _ _ _ _ c.if-line-input.false c.if-first-line.false c.piece_end-second.ensures, c.if-line-input.false)
