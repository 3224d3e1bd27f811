-- Lines: a kernel program as lines, and the program that lines are. Structure only: what stands in a line is in Page.
use Rattle.std.specs.Prelude.{List, [], ◌∷◌, ◌++◌, ℕ, ◌+◌, None, Option, Some}
use Rattle.language.specs.Trees.{Expression, constant, read, minus, not, binary, and, or, comma, conditional, assign, compound, prefix, postfix, call, Place, Arguments, no_more, ◌also◌, Mark, Statement, empty, express, block, if_then, if_else, while, do_while, for, switch, break, continue, goto, guarded_if, guarded_do, abort, declare, give_back, Items, none as no_item, ◌then◌, ◌here◌, define}

-- What a line says. Blocks end in a line of their own, so that their ends do not hang on the indent; "pages give each argument a line", and
-- each parameter.
pub data PageLine : Type 0 where
  single : Statement → PageLine  -- `;`, an assignment, goto, abort, return
  mark : Mark → PageLine  -- a label
  opens : PageLine  -- `{`
  opens_while : Expression → PageLine  -- `while (X) {`
  opens_if : Expression → PageLine  -- `if (X) {`
  turns : PageLine  -- `} else {`
  closes : PageLine  -- `}`
  opens_call : Place → ℕ → PageLine  -- `P = fN(`
  argument : Expression → PageLine  -- `X,`
  last_argument : Expression → PageLine  -- `X);`
  opens_function : ℕ → PageLine  -- `int fN() {`
  opens_parameters : ℕ → PageLine  -- `int fN(`
  parameter : ℕ → PageLine  -- `int lN,`
  last_parameter : ℕ → PageLine  -- `int lN) {`

-- A line, and the number of blocks below row 0 around it.
pub data Indented : Type 0 where
  indented : ℕ → PageLine → Indented

-- ---- the lines of a call and of a definition

-- An argument, and those behind it.
unfoldable pub argument_lines : ℕ → Expression → Arguments → List Indented
argument_lines level e no_more = indented level (last_argument e) ∷ []
argument_lines level e (next also arguments) = indented level (argument e) ∷ argument_lines level next arguments

abbrev pub expressed_lines : ℕ → Expression → List Indented
expressed_lines level e = indented level (single (express e)) ∷ []

-- A call without arguments is one line, as every other value is.
abbrev pub assigned_lines : ℕ → Place → Expression → List Indented
assigned_lines level p (call f (e also arguments)) = indented level (opens_call p f) ∷ argument_lines level e arguments
assigned_lines level p (call f no_more) = expressed_lines level (assign p (call f no_more))
assigned_lines level p (constant v) = expressed_lines level (assign p (constant v))
assigned_lines level p (read q) = expressed_lines level (assign p (read q))
assigned_lines level p (minus e) = expressed_lines level (assign p (minus e))
assigned_lines level p (not e) = expressed_lines level (assign p (not e))
assigned_lines level p (binary o a b) = expressed_lines level (assign p (binary o a b))
assigned_lines level p (and a b) = expressed_lines level (assign p (and a b))
assigned_lines level p (or a b) = expressed_lines level (assign p (or a b))
assigned_lines level p (comma a b) = expressed_lines level (assign p (comma a b))
assigned_lines level p (conditional c a b) = expressed_lines level (assign p (conditional c a b))
assigned_lines level p (assign q e) = expressed_lines level (assign p (assign q e))
assigned_lines level p (compound o q e) = expressed_lines level (assign p (compound o q e))
assigned_lines level p (prefix o q) = expressed_lines level (assign p (prefix o q))
assigned_lines level p (postfix o q) = expressed_lines level (assign p (postfix o q))

abbrev pub expression_lines : ℕ → Expression → List Indented
expression_lines level (assign p e) = assigned_lines level p e
expression_lines level (constant v) = expressed_lines level (constant v)
expression_lines level (read q) = expressed_lines level (read q)
expression_lines level (minus e) = expressed_lines level (minus e)
expression_lines level (not e) = expressed_lines level (not e)
expression_lines level (binary o a b) = expressed_lines level (binary o a b)
expression_lines level (and a b) = expressed_lines level (and a b)
expression_lines level (or a b) = expressed_lines level (or a b)
expression_lines level (comma a b) = expressed_lines level (comma a b)
expression_lines level (conditional c a b) = expressed_lines level (conditional c a b)
expression_lines level (compound o q e) = expressed_lines level (compound o q e)
expression_lines level (prefix o q) = expressed_lines level (prefix o q)
expression_lines level (postfix o q) = expressed_lines level (postfix o q)
expression_lines level (call f arguments) = expressed_lines level (call f arguments)

-- A parameter, and those behind it; the last one's line opens the function's block.
unfoldable pub parameter_lines : ℕ → ℕ → List ℕ → List Indented
parameter_lines level word [] = indented level (last_parameter word) ∷ []
parameter_lines level word (next ∷ words) = indented level (parameter word) ∷ parameter_lines level next words

abbrev pub definition_lines : ℕ → ℕ → List ℕ → List Indented
definition_lines level f [] = indented level (opens_function f) ∷ []
definition_lines level f (word ∷ words) = indented level (opens_parameters f) ∷ parameter_lines level word words

-- ---- the lines of a program, none for what the kernel does not have

unfoldable mutual
  pub statement_lines : ℕ → Statement → List Indented
  statement_lines level empty = indented level (single empty) ∷ []
  statement_lines level (express e) = expression_lines level e
  statement_lines level (block is) = indented level opens ∷ (items_lines (level + 1) is ++ (indented level closes ∷ []))
  statement_lines level (if_else e on_true on_false) =
      indented level (opens_if e) ∷ (branch_lines (level + 1) on_true ++ (indented level turns ∷ (branch_lines (level + 1) on_false ++ (indented level closes ∷ []))))
  statement_lines level (while e body) = indented level (opens_while e) ∷ (branch_lines (level + 1) body ++ (indented level closes ∷ []))
  statement_lines level (goto l) = indented level (single (goto l)) ∷ []
  statement_lines level abort = indented level (single abort) ∷ []
  statement_lines level (give_back value) = indented level (single (give_back value)) ∷ []
  statement_lines level (if_then e on_true) = []
  statement_lines level (do_while body e) = []
  statement_lines level (for first test action body) = []
  statement_lines level (switch e is) = []
  statement_lines level break = []
  statement_lines level continue = []
  statement_lines level (guarded_if arms) = []
  statement_lines level (guarded_do arms) = []
  statement_lines level (declare word e) = []

  -- A branch or body is a block: its items stand between the lines of its owner.
  pub branch_lines : ℕ → Statement → List Indented
  branch_lines level (block is) = items_lines level is
  branch_lines level empty = []
  branch_lines level (express e) = []
  branch_lines level (if_then e on_true) = []
  branch_lines level (if_else e on_true on_false) = []
  branch_lines level (while e body) = []
  branch_lines level (do_while body e) = []
  branch_lines level (for first test action body) = []
  branch_lines level (switch e is) = []
  branch_lines level break = []
  branch_lines level continue = []
  branch_lines level (goto l) = []
  branch_lines level (guarded_if arms) = []
  branch_lines level (guarded_do arms) = []
  branch_lines level abort = []
  branch_lines level (declare word e) = []
  branch_lines level (give_back value) = []

  pub items_lines : ℕ → Items → List Indented
  items_lines level no_item = []
  items_lines level (s then is) = statement_lines level s ++ items_lines level is
  items_lines level (m here is) = indented level (mark m) ∷ items_lines level is
  items_lines level (define f words body is) = definition_lines level f words ++ (items_lines (level + 1) body ++ (indented level closes ∷ items_lines level is))

-- The lines without their levels.
unfoldable pub plain : List Indented → List PageLine
plain [] = []
plain (indented level line ∷ lines) = line ∷ plain lines

-- ---- reading, from the last line to the first

-- Lists that wait while the lines of a block are read, the innermost first.
pub data Waiting : Type 0 where
  outermost : Waiting
  closed : Items → Waiting → Waiting  -- the list behind a `}`
  turned : Items → Waiting → Waiting  -- the branch behind a `} else {`

-- The items that the lines so far come to, and the lists that wait for the line that opens their block.
pub data Reading : Type 0 where
  reading : Items → Waiting → Reading
  passing : Expression → Arguments → Items → Waiting → Reading  -- an argument and those behind it, which wait for the line of their call, before those items
  taking : ℕ → List ℕ → Items → Items → Waiting → Reading  -- a parameter and those behind it, which wait for the line of their definition; its items, and those behind it
  malformed : Reading

-- A line that opens a block takes back the list behind its `}`.
abbrev pub takes_back : (Items → Items → Waiting → Reading) → Items → Waiting → Reading
takes_back f is outermost = malformed
takes_back f is (closed later waiting) = f is later waiting
takes_back f is (turned later waiting) = malformed

-- `if (X) {` takes back the branch behind its `} else {`, and the list behind its `}`.
abbrev pub opened_if : Expression → Items → Waiting → Reading
opened_if e is outermost = malformed
opened_if e is (closed later waiting) = malformed
opened_if e is (turned on_false outermost) = malformed
opened_if e is (turned on_false (closed later waiting)) = reading (if_else e (block is) (block on_false) then later) waiting
opened_if e is (turned on_false (turned later waiting)) = malformed

-- A line that stands before items, before arguments, or before parameters.
abbrev pub before_items : (Items → Waiting → Reading) → Reading → Reading
before_items f (reading is waiting) = f is waiting
before_items f (passing e arguments is waiting) = malformed
before_items f (taking word words body later waiting) = malformed
before_items f malformed = malformed

abbrev pub before_arguments : (Expression → Arguments → Items → Waiting → Reading) → Reading → Reading
before_arguments f (reading is waiting) = malformed
before_arguments f (passing e arguments is waiting) = f e arguments is waiting
before_arguments f (taking word words body later waiting) = malformed
before_arguments f malformed = malformed

abbrev pub before_parameters : (ℕ → List ℕ → Items → Items → Waiting → Reading) → Reading → Reading
before_parameters f (reading is waiting) = malformed
before_parameters f (passing e arguments is waiting) = malformed
before_parameters f (taking word words body later waiting) = f word words body later waiting
before_parameters f malformed = malformed

-- A line before what others came to.
abbrev pub read_line : PageLine → Reading → Reading
read_line (single s) r = before_items (λ is waiting. reading (s then is) waiting) r
read_line (mark m) r = before_items (λ is waiting. reading (m here is) waiting) r
read_line opens r = before_items (takes_back (λ is later waiting. reading (block is then later) waiting)) r
read_line (opens_while e) r = before_items (takes_back (λ is later waiting. reading (while e (block is) then later) waiting)) r
read_line (opens_if e) r = before_items (opened_if e) r
read_line turns r = before_items (λ is waiting. reading no_item (turned is waiting)) r
read_line closes r = before_items (λ is waiting. reading no_item (closed is waiting)) r
read_line (last_argument e) r = before_items (λ is waiting. passing e no_more is waiting) r
read_line (argument e) r = before_arguments (λ next arguments is waiting. passing e (next also arguments) is waiting) r
read_line (opens_call p f) r = before_arguments (λ e arguments is waiting. reading (express (assign p (call f (e also arguments))) then is) waiting) r
read_line (opens_function f) r = before_items (takes_back (λ is later waiting. reading (define f [] is later) waiting)) r
read_line (last_parameter word) r = before_items (takes_back (λ is later waiting. taking word [] is later waiting)) r
read_line (parameter word) r = before_parameters (λ next words body later waiting. taking word (next ∷ words) body later waiting) r
read_line (opens_parameters f) r = before_parameters (λ word words body later waiting. reading (define f (word ∷ words) body later) waiting) r

unfoldable pub read_before : List PageLine → Reading → Reading
read_before [] r = r
read_before (line ∷ lines) r = read_line line (read_before lines r)

-- Every block that was closed has been opened.
abbrev pub whole : Reading → Option Items
whole (reading is outermost) = Some is
whole (reading is (closed later waiting)) = None
whole (reading is (turned later waiting)) = None
whole (passing e arguments is waiting) = None
whole (taking word words body later waiting) = None
whole malformed = None

-- The items that lines are.
unfoldable pub read_lines : List PageLine → Option Items
read_lines lines = whole (read_before lines (reading no_item outermost))
