-- Laws of rows: the rows of all lines, put one behind the other, are those of the program that the lines are read as. Each law follows the lines
-- from the last to the first, as page/Lines reads them.
use Rattle.std.specs.Prelude.{◌≡◌, ℕ, ◌+◌, ℤ, pos, Some}
use Rattle.std.proofs.Math.Path.{refl, ap}
use Rattle.std.proofs.Common.{◌∙◌, arith}
use Rattle.std.proofs.Math.Bool.{false}
use mathlib.Core.List.{List, [], ◌∷◌, ◌++◌, append-nil}
use Rattle.text_numbers.specs.NumberLaws.{not_some}
use Rattle.language.specs.Trees.{Items, none as no_item, ◌⧺◌, block, while, if_else}
use Rattle.language.specs.Sizes.{expression_rows, statement_rows, items_rows}
use Rattle.language_emission.specs.Emission.{row_of, emit_expression, emit_statement, emit_items, emit}
use Rattle.page.specs.declared.Sizes.{Sizes}
use Rattle.page.specs.Lines.{outermost, closed, Reading, reading, passing, taking, malformed, read_line, read_before, whole, read_lines}
use Rattle.page.specs.Lines.{turned as else_waiting}
use Rattle.page.specs.Page.{first_temporary}
use Rattle.page_words.specs.Trees.{atom_tree, line_tree}
use Rattle.page_words.specs.declared.PageAtom.TheVariants.{Constant, Variable, Declared, Temporary}
use Rattle.page_words.specs.declared.LineContent.{LineContent}
use Rattle.page_words.specs.declared.LineContent.TheVariants.{Empty, Abort, Goto, Label, Store, Put, Opens, While, If, Turns, Closes, Return, OpensCall, Argument, LastArgument, OpensFunction, OpensParameters, Parameter, LastParameter}
use Rattle.page_blocks.specs.Blocks.{trees}
use Rattle.page_blocks.specs.Scans.{line_rows}
use Rattle.page_blocks.proofs.RowLaws.{atom-rows, value-rows}
use Rattle.page_rows.specs.Rows.{Left, left_before, line_item, block_row, line_table, left_by, lines_table, page_table}
use Rattle.page.proofs.LinesLaws.{before-items, before-arguments, before-parameters, before-block, before-branches}
use Rattle.page_rows.proofs.ReadRows.{waiting_rows, waiting_table, Read, item-read, opened-read, branched-read, block_words, while-words, if-words, closed-read, turned-read}
use Rattle.page_rows.proofs.FunctionRows.{last-passed, more-passed, call-read, function-read, last_taken, more-taken, definition-read}

module _ (sizes : Sizes) where
  module _ (base : ℕ) (left : Left) (table : List ℤ) where
    -- A line before what these rows are.
    abbrev Onto : LineContent → Reading → Reading → Type 0
    Onto line r read = Read r (base + line_rows line) left table → Read read base (left_before line base left) (line_table sizes line base left ++ table)

    wrong : (line : LineContent) (r : Reading) → Onto line r malformed
    unfolding Read
    wrong line r h = tt

    line-read : (line : LineContent) (r : Reading) → Onto line r (read_line (line_tree sizes line) r)
    unfolding Read statement_rows expression_rows ◌⧺◌
    line-read Empty = before-items (Onto Empty) (wrong Empty) _ (λ is waiting h. item-read (line_item sizes Empty) is waiting base 1 left table refl refl refl h)
    line-read Abort = before-items (Onto Abort) (wrong Abort) _ (λ is waiting h. item-read (line_item sizes Abort) is waiting base 1 left table refl refl refl h)
    line-read (Goto l) = before-items (Onto (Goto l)) (wrong (Goto l)) _ (λ is waiting h. item-read (line_item sizes (Goto l)) is waiting base 1 left table refl refl refl h)
    line-read (Label l) = before-items (Onto (Label l)) (wrong (Label l)) _ (λ is waiting h. item-read (line_item sizes (Label l)) is waiting base 1 left table refl refl refl h)
    line-read (Store (Constant c) v) =
        before-items (Onto (Store (Constant c) v)) (wrong (Store (Constant c) v)) _
        (λ is waiting h. item-read (line_item sizes (Store (Constant c) v)) is waiting base (line_rows (Store (Constant c) v)) left table (omega (arith, value-rows sizes v)) refl (omega (arith, value-rows sizes v)) h)
    line-read (Store (Variable n) v) =
        before-items (Onto (Store (Variable n) v)) (wrong (Store (Variable n) v)) _
        (λ is waiting h. item-read (line_item sizes (Store (Variable n) v)) is waiting base (line_rows (Store (Variable n) v)) left table (omega (arith, value-rows sizes v)) refl (omega (arith, value-rows sizes v)) h)
    line-read (Store (Declared n) v) =
        before-items (Onto (Store (Declared n) v)) (wrong (Store (Declared n) v)) _
        (λ is waiting h. item-read (line_item sizes (Store (Declared n) v)) is waiting base (line_rows (Store (Declared n) v)) left table (omega (arith, value-rows sizes v)) refl (omega (arith, value-rows sizes v)) h)
    line-read (Store (Temporary n) v) =
        before-items (Onto (Store (Temporary n) v)) (wrong (Store (Temporary n) v)) _
        (λ is waiting h. item-read (line_item sizes (Store (Temporary n) v)) is waiting base (line_rows (Store (Temporary n) v)) left table (omega (arith, value-rows sizes v)) refl (omega (arith, value-rows sizes v)) h)
    line-read (Put array index a) =
        before-items (Onto (Put array index a)) (wrong (Put array index a)) _
        (λ is waiting h. item-read (line_item sizes (Put array index a)) is waiting base 5 left table (omega (arith, atom-rows sizes index, atom-rows sizes a)) refl (omega (arith, atom-rows sizes index, atom-rows sizes a)) h)
    line-read Opens =
        before-block (Onto Opens) (wrong Opens) _
        (λ is later waiting h. opened-read (block is) is later waiting base 1 left table (block_row base left.follows) refl (block_words is base left.follows h.follows) h)
    line-read (While a) =
        before-block (Onto (While a)) (wrong (While a)) _
        (λ is later waiting h.
        opened-read (while (atom_tree sizes a) (block is)) is later waiting base 3 left table
        (λ next. (row_of 44 (pos (base + 1)) (base + 2) 0 0 next ++ emit_expression (atom_tree sizes a) (base + 1)) ++ block_row (base + 2) left.follows 0) (omega (arith, atom-rows sizes a))
        (while-words (atom_tree sizes a) (atom-rows sizes a) is base left.follows h.follows) h)
    line-read (If a) =
        before-branches (Onto (If a)) (wrong (If a)) (atom_tree sizes a)
        (λ is on_false later waiting h.
        branched-read (if_else (atom_tree sizes a) (block is) (block on_false)) is on_false later waiting base 3 left table
        (λ second next. (row_of 43 (pos (base + 1)) (base + 2) second 0 next ++ emit_expression (atom_tree sizes a) (base + 1)) ++ block_row (base + 2) left.follows 0) (omega (arith, atom-rows sizes a))
        (if-words (atom_tree sizes a) (atom-rows sizes a) is base left.follows h.follows on_false) h)
    line-read Turns = before-items (Onto Turns) (wrong Turns) _ (λ is waiting h. turned-read is waiting base left table h)
    line-read Closes = before-items (Onto Closes) (wrong Closes) _ (λ is waiting h. closed-read is waiting base left table h)
    line-read (Return a) =
        before-items (Onto (Return a)) (wrong (Return a)) _
        (λ is waiting h. item-read (line_item sizes (Return a)) is waiting base 2 left table (omega (arith, atom-rows sizes a)) refl (omega (arith, atom-rows sizes a)) h)
    line-read (LastArgument a) = before-items (Onto (LastArgument a)) (wrong (LastArgument a)) _ (λ is waiting h. last-passed (atom_tree sizes a) (atom-rows sizes a) is waiting base left table h)
    line-read (Argument a) =
        before-arguments (Onto (Argument a)) (wrong (Argument a)) _ (λ e arguments is waiting h. more-passed (atom_tree sizes a) (atom-rows sizes a) is waiting base left table e arguments h)
    line-read (OpensCall (Constant c) f) = before-arguments (Onto (OpensCall (Constant c) f)) (wrong (OpensCall (Constant c) f)) _ (λ e arguments is waiting h. call-read 0 f e arguments is waiting base left table h)
    line-read (OpensCall (Variable n) f) = before-arguments (Onto (OpensCall (Variable n) f)) (wrong (OpensCall (Variable n) f)) _ (λ e arguments is waiting h. call-read n f e arguments is waiting base left table h)
    line-read (OpensCall (Declared n) f) = before-arguments (Onto (OpensCall (Declared n) f)) (wrong (OpensCall (Declared n) f)) _ (λ e arguments is waiting h. call-read (sizes.store + n) f e arguments is waiting base left table h)
    line-read (OpensCall (Temporary n) f) = before-arguments (Onto (OpensCall (Temporary n) f)) (wrong (OpensCall (Temporary n) f)) _ (λ e arguments is waiting h. call-read (first_temporary sizes + n) f e arguments is waiting base left table h)
    line-read (OpensFunction f) = before-block (Onto (OpensFunction f)) (wrong (OpensFunction f)) _ (λ is later waiting h. function-read f is later waiting base left table h)
    line-read (LastParameter n) = before-block (Onto (LastParameter n)) (wrong (LastParameter n)) _ (λ is later waiting h. last_taken (sizes.store + n) is later waiting base left table h)
    line-read (Parameter n) =
        before-parameters (Onto (Parameter n)) (wrong (Parameter n)) _ (λ word words body later waiting h. more-taken (sizes.store + n) word words body later waiting base left table h)
    line-read (OpensParameters f) =
        before-parameters (Onto (OpensParameters f)) (wrong (OpensParameters f)) _ (λ word words body later waiting h. definition-read f word words body later waiting base left table h)

  lines-read : (lines : List LineContent) (base : ℕ) → Read (read_before (trees sizes lines) (reading no_item outermost)) base (left_by lines base) (lines_table sizes lines base)
  unfolding Read read_before left_by lines_table waiting_rows waiting_table emit_items items_rows
  lines-read [] base = record { follows = refl; rows = refl; words = refl }
  lines-read (line ∷ lines) base =
      line-read base (left_by lines (base + line_rows line)) (lines_table sizes lines (base + line_rows line)) line (read_before (trees sizes lines) (reading no_item outermost)) (lines-read lines (base + line_rows line))

  -- The rows of the lines are those of the program that they are read as.
  pub table-of-page : (lines : List LineContent) (items : Items) → read_lines (trees sizes lines) ≡ Some items → page_table sizes lines ≡ emit (block items)
  unfolding read_lines Read page_table emit waiting_table
  table-of-page lines items e = from (read_before (trees sizes lines) (reading no_item outermost)) (lines-read lines 1) e
    where
      from : (r : Reading) → Read r 1 (left_by lines 1) (lines_table sizes lines 1) → whole r ≡ Some items → block_row 0 (left_by lines 1).follows 0 ++ lines_table sizes lines 1 ≡ emit_statement (block items) 0 0
      from malformed h q = not_some q
      from (passing e arguments is waiting) h q = not_some q
      from (taking word words body later waiting) h q = not_some q
      from (reading is outermost) h q =
          let same : is ≡ items = cc in
          ap (λ (l : List ℤ). block_row 0 (left_by lines 1).follows 0 ++ l) (h.words ∙ append-nil (emit_items false is 1)) ∙ block_words is 0 (left_by lines 1).follows h.follows 0 ∙ ap (λ (x : Items). emit_statement (block x) 0 0) same
      from (reading is (closed later waiting)) h q = not_some q
      from (reading is (else_waiting on_false waiting)) h q = not_some q
