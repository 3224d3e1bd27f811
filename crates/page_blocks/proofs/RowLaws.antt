-- Rows: the rows counted line by line are those of the program that the lines are read as.
use Rattle.std.specs.Prelude.{◌≡◌, true, false, ℕ, ◌+◌, length, None, Some}
use Rattle.std.proofs.Math.Path.{refl, ap}
use Rattle.std.proofs.Common.{sym, ◌∙◌}
use mathlib.Core.List.{List, [], ◌∷◌}
use native.Mathlib.Omega.{arith}
use Rattle.text_numbers.specs.NumberLaws.{not_some}
use Rattle.language.specs.Trees.{◌also◌, Items, none as no_item, ◌then◌, ◌here◌, define, block}
use Rattle.language.specs.Sizes.{expression_rows, place_rows, arguments_rows, statement_rows, items_rows}
use Rattle.page.specs.declared.Sizes.{Sizes}
use Rattle.page.specs.Lines.{Waiting, outermost, closed, Reading, reading, passing, taking, malformed, read_line, read_before, whole, read_lines, turned as else_waiting}
use Rattle.page.proofs.LinesLaws.{before-items, before-arguments, before-parameters, before-block, before-branches}
use Rattle.page_words.specs.Trees.{atom_tree, value_tree, line_tree}
use Rattle.page_words.specs.declared.PageAtom.{PageAtom}
use Rattle.page_words.specs.declared.PageAtom.TheVariants.{Constant, Variable, Declared, Temporary}
use Rattle.page_words.specs.declared.Value.{Value}
use Rattle.page_words.specs.declared.Value.TheVariants.{Single, Element, Minus, Binary, Call}
use Rattle.page_words.specs.declared.LineContent.{LineContent}
use Rattle.page_words.specs.declared.LineContent.TheVariants.{Empty, Abort, Goto, Label, Store, Put, Opens, While, If, Turns, Closes, Return, OpensCall, Argument, LastArgument, OpensFunction, OpensParameters, Parameter, LastParameter}
use Rattle.page_blocks.specs.Blocks.{trees}
use Rattle.page_blocks.specs.Scans.{value_rows, line_rows}
use Rattle.page_blocks.specs.LinesFit.{lines_rows}

module _ (sizes : Sizes) where
  pub atom-rows : (a : PageAtom) → expression_rows (atom_tree sizes a) ≡ 1
  unfolding expression_rows
  atom-rows (Constant v) = refl
  atom-rows (Variable n) = refl
  atom-rows (Declared n) = refl
  atom-rows (Temporary n) = refl

  pub value-rows : (v : Value) → expression_rows (value_tree sizes v) ≡ value_rows v
  unfolding expression_rows
  value-rows (Single a) = atom-rows a
  value-rows (Element array index) = omega (arith, atom-rows index)
  value-rows (Minus a) = omega (arith, atom-rows a)
  value-rows (Binary o a b) = omega (arith, atom-rows a, atom-rows b)
  value-rows (Call f) = refl

-- The rows of the lists that wait: the block of an else has its row at the line that turns.
unfoldable waiting_rows : Waiting → ℕ
waiting_rows outermost = 0
waiting_rows (closed later waiting) = items_rows later + waiting_rows waiting
waiting_rows (else_waiting on_false waiting) = 1 + items_rows on_false + waiting_rows waiting

-- What was read so far has these rows.
unfoldable Rowed : Reading → ℕ → Type 0
Rowed malformed rows = Unit
Rowed (reading is waiting) rows = items_rows is + waiting_rows waiting ≡ rows
Rowed (passing e arguments is waiting) rows = arguments_rows (e also arguments) + items_rows is + waiting_rows waiting ≡ rows
-- the row of a function's block stands with its last parameter
Rowed (taking word words body later waiting) rows = length words + 2 + items_rows body + items_rows later + waiting_rows waiting ≡ rows

module _ (sizes : Sizes) where
  -- So many rows more.
  abbrev More : ℕ → Reading → Reading → Type 0
  More n r read = (rows : ℕ) → Rowed r rows → Rowed read (n + rows)

  wrong : (n : ℕ) (r : Reading) → More n r malformed
  unfolding Rowed
  wrong n r rows h = tt

  line-rows : (line : LineContent) (r : Reading) → More (line_rows line) r (read_line (line_tree sizes line) r)
  unfolding Rowed waiting_rows statement_rows expression_rows
  line-rows Empty = before-items (More 1) (wrong 1) _ (λ is waiting rows h. omega arith)
  line-rows Abort = before-items (More 1) (wrong 1) _ (λ is waiting rows h. omega arith)
  line-rows (Goto l) = before-items (More 1) (wrong 1) _ (λ is waiting rows h. omega arith)
  line-rows (Label l) = before-items (More 1) (wrong 1) _ (λ is waiting rows h. omega arith)
  line-rows (Store (Constant c) v) = before-items (More (3 + value_rows v)) (wrong (3 + value_rows v)) _ (λ is waiting rows h. omega (arith, value-rows sizes v))
  line-rows (Store (Variable n) v) = before-items (More (3 + value_rows v)) (wrong (3 + value_rows v)) _ (λ is waiting rows h. omega (arith, value-rows sizes v))
  line-rows (Store (Declared n) v) = before-items (More (3 + value_rows v)) (wrong (3 + value_rows v)) _ (λ is waiting rows h. omega (arith, value-rows sizes v))
  line-rows (Store (Temporary n) v) = before-items (More (3 + value_rows v)) (wrong (3 + value_rows v)) _ (λ is waiting rows h. omega (arith, value-rows sizes v))
  line-rows (Put array index a) = before-items (More 5) (wrong 5) _ (λ is waiting rows h. omega (arith, atom-rows sizes index, atom-rows sizes a))
  line-rows Opens = before-block (More 1) (wrong 1) _ (λ is later waiting rows h. omega arith)
  line-rows (While a) = before-block (More 3) (wrong 3) _ (λ is later waiting rows h. omega (arith, atom-rows sizes a))
  line-rows (If a) = before-branches (More 3) (wrong 3) (atom_tree sizes a) (λ is on_false later waiting rows h. omega (arith, atom-rows sizes a))
  line-rows Turns = before-items (More 1) (wrong 1) _ (λ is waiting rows h. omega arith)
  line-rows Closes = before-items (More 0) (wrong 0) _ (λ is waiting rows h. omega arith)
  line-rows (Return a) = before-items (More 2) (wrong 2) _ (λ is waiting rows h. omega (arith, atom-rows sizes a))
  line-rows (OpensCall (Constant c) f) = before-arguments (More 4) (wrong 4) _ (λ e arguments is waiting rows h. omega arith)
  line-rows (OpensCall (Variable n) f) = before-arguments (More 4) (wrong 4) _ (λ e arguments is waiting rows h. omega arith)
  line-rows (OpensCall (Declared n) f) = before-arguments (More 4) (wrong 4) _ (λ e arguments is waiting rows h. omega arith)
  line-rows (OpensCall (Temporary n) f) = before-arguments (More 4) (wrong 4) _ (λ e arguments is waiting rows h. omega arith)
  line-rows (Argument a) = before-arguments (More 2) (wrong 2) _ (λ e arguments is waiting rows h. omega (arith, atom-rows sizes a))
  line-rows (LastArgument a) = before-items (More 2) (wrong 2) _ (λ is waiting rows h. omega (arith, atom-rows sizes a))
  line-rows (OpensFunction f) = before-block (More 2) (wrong 2) _ (λ is later waiting rows h. omega arith)
  line-rows (OpensParameters f) = before-parameters (More 1) (wrong 1) _ (λ word words body later waiting rows h. omega arith)
  line-rows (Parameter n) = before-parameters (More 1) (wrong 1) _ (λ word words body later waiting rows h. omega arith)
  line-rows (LastParameter n) = before-block (More 2) (wrong 2) _ (λ is later waiting rows h. omega arith)

  lines-rows : (lines : List LineContent) → Rowed (read_before (trees sizes lines) (reading no_item outermost)) (lines_rows lines)
  unfolding Rowed waiting_rows statement_rows read_before
  lines-rows [] = refl
  lines-rows (line ∷ lines) = line-rows line (read_before (trees sizes lines) (reading no_item outermost)) (lines_rows lines) (lines-rows lines)

  -- The rows of a program are those counted, and row 0.
  pub program-rows : (lines : List LineContent) (items : Items) → read_lines (trees sizes lines) ≡ Some items → statement_rows (block items) ≡ 1 + lines_rows lines
  unfolding read_lines Rowed waiting_rows statement_rows
  program-rows lines items e = from (read_before (trees sizes lines) (reading no_item outermost)) (lines-rows lines) e
    where
      from : (r : Reading) → Rowed r (lines_rows lines) → whole r ≡ Some items → 1 + items_rows items ≡ 1 + lines_rows lines
      from malformed h q = not_some q
      from (passing e arguments is waiting) h q = not_some q
      from (taking word words body later waiting) h q = not_some q
      from (reading is outermost) h q = let same : is ≡ items = cc in let rows : items_rows is ≡ items_rows items = ap items_rows same in omega arith
      from (reading is (closed later waiting)) h q = not_some q
      from (reading is (else_waiting on_false waiting)) h q = not_some q
