-- `lay_binary`: piece by piece.
use native.Mathlib.Omega.{arith}
use mathlib.Core.Path.{◌≡◌}
use mathlib.Core.List.{◌∷◌, [], ◌++◌}
use Prim.Native.Nat.{◌+◌}
use lib.ListN.{length, length-append}
use Rattle.language.specs.Decode.{expression_at}
use Rattle.language.specs.Trees.{binary}
use Rattle.page.specs.Page.{atom_word, operator_word, ended, value_words, parted}
use Rattle.page_line.specs.Contents.{led}
use Rattle.page_line.specs.LaidLaws.{laid_as, laid_next}
use Rattle.page_line.specs.ContentLaws.{binary-bytes}
use Rattle.page_line.proofs.expressions.lay_binary.Goals as goal
use Rattle.page_line.proofs.expressions.lay_binary.Goals.{Start}

sizes : (c : Start)
    → length (led (ended (value_words c.args.sizes (binary c.args.operator (expression_at c.args.rows.now c.args.left) (expression_at c.args.rows.now c.args.right)))))
    ≡ length (atom_word c.args.sizes (expression_at c.args.rows.now c.args.left)) + length (operator_word c.args.operator) + length (atom_word c.args.sizes (expression_at c.args.rows.now c.args.right)) + 4
unfolding ended parted
sizes c =
    let left = atom_word c.args.sizes (expression_at c.args.rows.now c.args.left) in
    let right = atom_word c.args.sizes (expression_at c.args.rows.now c.args.right) in
    let word = operator_word c.args.operator in
    omega (arith, length-append left (32 ∷ (word ++ (32 ∷ (right ++ (59 ∷ []))))), length-append word (32 ∷ (right ++ (59 ∷ []))), length-append right (59 ∷ []))

pub lay_byte-start-requires : goal.lay_byte-start-requires
lay_byte-start-requires c =
    omega (arith, sizes (goal.at.lay_byte-start-requires c).Start, c.requires.right_in_bounds)

pub lay_atom-first-requires : goal.lay_atom-first-requires
lay_atom-first-requires c =
    record { readable = (c.requires.readable.0, c.requires.readable.1); row_in_bounds = omega (arith, sizes (goal.at.lay_atom-first-requires c).Start, c.requires.right_in_bounds) }

pub lay_byte-parted-requires : goal.lay_byte-parted-requires
lay_byte-parted-requires c =
    omega (arith, sizes (goal.at.lay_byte-parted-requires c).Start, c.requires.right_in_bounds)

pub lay_operator-operated-requires : goal.lay_operator-operated-requires
lay_operator-operated-requires c =
    omega (arith, sizes (goal.at.lay_operator-operated-requires c).Start, c.requires.right_in_bounds)

pub lay_byte-behind-requires : goal.lay_byte-behind-requires
lay_byte-behind-requires c =
    omega (arith, sizes (goal.at.lay_byte-behind-requires c).Start, c.requires.right_in_bounds)

pub lay_atom-second-requires : goal.lay_atom-second-requires
lay_atom-second-requires c =
    record { readable = (c.requires.readable.0, c.requires.readable.2); row_in_bounds = omega (arith, sizes (goal.at.lay_atom-second-requires c).Start, c.requires.right_in_bounds) }

pub lay_byte-requires : goal.lay_byte-requires
lay_byte-requires c =
    omega (arith, sizes (goal.at.lay_byte-requires c).Start, c.requires.right_in_bounds)

pub returns : goal.returns
returns c =
    laid_as (binary-bytes c.args.sizes c.args.operator (expression_at c.args.rows.now c.args.left) (expression_at c.args.rows.now c.args.right))
    (laid_next c.lay_byte-start.ensures (laid_next c.lay_atom-first.ensures (laid_next c.lay_byte-parted.ensures (laid_next c.lay_operator-operated.ensures (laid_next c.lay_byte-behind.ensures (laid_next c.lay_atom-second.ensures c.lay_byte.ensures))))))
