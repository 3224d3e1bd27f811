-- Laws of sizes: a line has as many rows as are counted for it, six words each; only the two innermost rows that wait stand in them.
use Rattle.std.specs.Prelude.{◌≡◌, Bool, ℕ, ◌+◌, ◌*◌, ℤ, pos, length, get_or}
use Rattle.std.proofs.Math.Path.{refl}
use Rattle.std.proofs.Common.{◌∙◌, arith}
use mathlib.Core.List.{List, [], ◌∷◌, ◌++◌}
use Rattle.std.proofs.Math.ListN.{length-append}
use Rattle.language.specs.Sizes.{expression_rows, items_rows}
use Rattle.language_emission.specs.Emission.{row_of, emit_expression}
use Rattle.language_emission.specs.EmissionLaws.{length-items}
use Rattle.page.specs.declared.Sizes.{Sizes}
use Rattle.page_words.specs.Trees.{atom_tree}
use Rattle.page_words.specs.declared.PageAtom.{PageAtom}
use Rattle.page_words.specs.declared.PageAtom.TheVariants.{Constant, Variable, Declared, Temporary}
use Rattle.page_words.specs.declared.LineContent.{LineContent}
use Rattle.page_words.specs.declared.LineContent.TheVariants.{Empty, Abort, Goto, Label, Store, Put, Opens, While, If, Turns, Closes, Return, OpensCall, Argument, LastArgument, OpensFunction, OpensParameters, Parameter, LastParameter}
use Rattle.page_blocks.specs.Scans.{line_rows}
use Rattle.page_blocks.specs.LinesFit.{lines_rows}
use Rattle.page_blocks.proofs.RowLaws.{atom-rows, value-rows}
use Rattle.page_rows.specs.Rows.{Left, line_item, block_row, line_table, left_by, lines_table, page_table}

module _ (sizes : Sizes) where
  -- The rows of a line by the two innermost rows that wait.
  pub by_two : (line : LineContent) (base : ℕ) (follows : Bool) (waiting : List ℕ)
      → line_table sizes line base (record { follows = follows; waiting = get_or waiting 0 0 ∷ get_or waiting 1 0 ∷ [] }) ≡ line_table sizes line base (record { follows = follows; waiting = waiting })
  by_two Empty base follows waiting = refl
  by_two Abort base follows waiting = refl
  by_two (Goto l) base follows waiting = refl
  by_two (Label l) base follows waiting = refl
  by_two (Store a v) base follows waiting = refl
  by_two (Put array index a) base follows waiting = refl
  by_two Opens base follows waiting = refl
  by_two (While a) base follows waiting = refl
  by_two (If a) base follows waiting = refl
  by_two Turns base follows waiting = refl
  by_two Closes base follows waiting = refl
  by_two (Return a) base follows waiting = refl
  by_two (OpensCall a f) base follows waiting = refl
  by_two (Argument a) base follows waiting = refl
  by_two (LastArgument a) base follows waiting = refl
  by_two (OpensFunction f) base follows waiting = refl
  by_two (OpensParameters f) base follows waiting = refl
  by_two (Parameter n) base follows waiting = refl
  by_two (LastParameter n) base follows waiting = refl

  -- An atom between a row and a block's row.
  opening-size : (kind c next : ℕ) (base : ℕ) (follows : Bool) (a : PageAtom)
      → length ((row_of kind (pos (base + 1)) (base + 2) c 0 next ++ emit_expression (atom_tree sizes a) (base + 1)) ++ block_row (base + 2) follows 0) ≡ 18
  unfolding emit_expression
  opening-size kind c next base follows (Constant v) = refl
  opening-size kind c next base follows (Variable n) = refl
  opening-size kind c next base follows (Declared n) = refl
  opening-size kind c next base follows (Temporary n) = refl

  argument-size : (next base : ℕ) (a : PageAtom) → length (row_of 32 (pos (base + 1)) 0 0 0 next ++ emit_expression (atom_tree sizes a) (base + 1)) ≡ 12
  unfolding emit_expression
  argument-size next base (Constant v) = refl
  argument-size next base (Variable n) = refl
  argument-size next base (Declared n) = refl
  argument-size next base (Temporary n) = refl

  pub length-line : (line : LineContent) (base : ℕ) (left : Left) → length (line_table sizes line base left) ≡ 6 * line_rows line
  unfolding items_rows expression_rows emit_expression
  length-line Empty base left = length-items left.follows (line_item sizes Empty) base
  length-line Abort base left = length-items left.follows (line_item sizes Abort) base
  length-line (Goto l) base left = length-items left.follows (line_item sizes (Goto l)) base
  length-line (Label l) base left = length-items left.follows (line_item sizes (Label l)) base
  length-line (Store (Constant c) v) base left = length-items left.follows (line_item sizes (Store (Constant c) v)) base ∙ omega (arith, value-rows sizes v)
  length-line (Store (Variable n) v) base left = length-items left.follows (line_item sizes (Store (Variable n) v)) base ∙ omega (arith, value-rows sizes v)
  length-line (Store (Declared n) v) base left = length-items left.follows (line_item sizes (Store (Declared n) v)) base ∙ omega (arith, value-rows sizes v)
  length-line (Store (Temporary n) v) base left = length-items left.follows (line_item sizes (Store (Temporary n) v)) base ∙ omega (arith, value-rows sizes v)
  length-line (Put array index a) base left = length-items left.follows (line_item sizes (Put array index a)) base ∙ omega (arith, atom-rows sizes index, atom-rows sizes a)
  length-line Opens base left = refl
  length-line (While a) base left = opening-size 44 0 (get_or left.waiting 0 0) base left.follows a
  length-line (If a) base left = opening-size 43 (get_or left.waiting 0 0) (get_or left.waiting 1 0) base left.follows a
  length-line Turns base left = refl
  length-line Closes base left = refl
  length-line (Return a) base left = length-items left.follows (line_item sizes (Return a)) base ∙ omega (arith, atom-rows sizes a)
  length-line (OpensCall (Constant c) f) base left = refl
  length-line (OpensCall (Variable n) f) base left = refl
  length-line (OpensCall (Declared n) f) base left = refl
  length-line (OpensCall (Temporary n) f) base left = refl
  length-line (Argument a) base left = argument-size (base + 2) base a
  length-line (LastArgument a) base left = argument-size 0 base a
  length-line (OpensFunction f) base left = refl
  length-line (OpensParameters f) base left = refl
  length-line (Parameter n) base left = refl
  length-line (LastParameter n) base left = refl

  length-lines : (lines : List LineContent) (base : ℕ) → length (lines_table sizes lines base) ≡ 6 * lines_rows lines
  unfolding lines_table
  length-lines [] base = refl
  length-lines (line ∷ lines) base =
      length-append (line_table sizes line base (left_by lines (base + line_rows line))) (lines_table sizes lines (base + line_rows line))
      ∙ omega (arith, length-line line base (left_by lines (base + line_rows line)), length-lines lines (base + line_rows line))

  pub length-page : (lines : List LineContent) → length (page_table sizes lines) ≡ 6 * (1 + lines_rows lines)
  unfolding page_table
  length-page lines = omega (arith, length-lines lines 1)
