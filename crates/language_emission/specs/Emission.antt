-- Emission: the words of a tree's rows, each part "written from the first free row onward": a row, then its parts in the order of
-- its fields; the items of a list one behind the other. Decode reads the rows back.
use Rattle.std.specs.Prelude.{Bool, false, List, [], ◌∷◌, ◌++◌, ℕ, ◌+◌, ℤ, pos, length}
use Rattle.words.specs.Word.{pick}
use Rattle.words.specs.declared.Operator.{Operator}
use Rattle.words.specs.declared.Operator.TheVariants.{Add, Subtract, Multiply, Divide, Remainder, Less, Greater, LessOrEqual, GreaterOrEqual, Equal, NotEqual}
use Rattle.language.specs.Trees.{Expression, constant, read, minus, not, binary, and, or, comma, conditional, assign, compound, prefix, postfix, call, Place, variable, element, Arguments, no_more, ◌also◌, Part, absent, present, Mark, case, default, label, Statement, empty, express, block, if_then, if_else, while, do_while, for, switch, break, continue, goto, guarded_if, guarded_do, abort, declare, give_back, Arms, no_arm, arm, Items, none, ◌then◌, ◌here◌, define}
use Rattle.language.specs.Sizes.{expression_rows, place_rows, part_rows, statement_rows, items_rows}

-- "kind, a, b, c, d, next"; a is a value or a number, the others are numbers.
abbrev pub row_of : ℕ → ℤ → ℕ → ℕ → ℕ → ℕ → List ℤ
row_of kind a b c d next = pos kind ∷ a ∷ pos b ∷ pos c ∷ pos d ∷ pos next ∷ []

-- An operator's place in the list + − × / % < > <= >= == !=, from 0: kinds 6 to 16, and 22 to 26.
abbrev pub operator_number : Operator → ℕ
operator_number Add = 0
operator_number Subtract = 1
operator_number Multiply = 2
operator_number Divide = 3
operator_number Remainder = 4
operator_number Less = 5
operator_number Greater = 6
operator_number LessOrEqual = 7
operator_number GreaterOrEqual = 8
operator_number Equal = 9
operator_number NotEqual = 10

-- The link to arguments that would begin at `base`.
abbrev pub arguments_link : Arguments → ℕ → ℕ
arguments_link no_more base = 0
arguments_link (e also arguments) base = base

unfoldable mutual
  -- The rows of an expression, from the row `base` on.
  pub emit_expression : Expression → ℕ → List ℤ
  emit_expression (constant v) base = row_of 1 v 0 0 0 0
  emit_expression (read p) base = emit_place p base
  emit_expression (minus e) base = row_of 4 (pos (base + 1)) 0 0 0 0 ++ emit_expression e (base + 1)
  emit_expression (not e) base = row_of 5 (pos (base + 1)) 0 0 0 0 ++ emit_expression e (base + 1)
  emit_expression (binary o a b) base =
      row_of (6 + operator_number o) (pos (base + 1)) (base + 1 + expression_rows a) 0 0 0 ++ emit_expression a (base + 1) ++ emit_expression b (base + 1 + expression_rows a)
  emit_expression (and a b) base = row_of 17 (pos (base + 1)) (base + 1 + expression_rows a) 0 0 0 ++ emit_expression a (base + 1) ++ emit_expression b (base + 1 + expression_rows a)
  emit_expression (or a b) base = row_of 18 (pos (base + 1)) (base + 1 + expression_rows a) 0 0 0 ++ emit_expression a (base + 1) ++ emit_expression b (base + 1 + expression_rows a)
  emit_expression (comma a b) base = row_of 20 (pos (base + 1)) (base + 1 + expression_rows a) 0 0 0 ++ emit_expression a (base + 1) ++ emit_expression b (base + 1 + expression_rows a)
  emit_expression (conditional c a b) base =
      row_of 19 (pos (base + 1)) (base + 1 + expression_rows c) (base + 1 + expression_rows c + expression_rows a) 0 0
      ++ emit_expression c (base + 1) ++ emit_expression a (base + 1 + expression_rows c) ++ emit_expression b (base + 1 + expression_rows c + expression_rows a)
  emit_expression (assign p e) base = row_of 21 (pos (base + 1)) (base + 1 + place_rows p) 0 0 0 ++ emit_place p (base + 1) ++ emit_expression e (base + 1 + place_rows p)
  emit_expression (compound o p e) base =
      row_of (22 + operator_number o) (pos (base + 1)) (base + 1 + place_rows p) 0 0 0 ++ emit_place p (base + 1) ++ emit_expression e (base + 1 + place_rows p)
  emit_expression (prefix o p) base = row_of (27 + operator_number o) (pos (base + 1)) 0 0 0 0 ++ emit_place p (base + 1)
  emit_expression (postfix o p) base = row_of (29 + operator_number o) (pos (base + 1)) 0 0 0 0 ++ emit_place p (base + 1)
  emit_expression (call f arguments) base = row_of 31 (pos f) (arguments_link arguments (base + 1)) 0 0 0 ++ emit_arguments arguments (base + 1)

  pub emit_place : Place → ℕ → List ℤ
  emit_place (variable i) base = row_of 2 (pos i) 0 0 0 0
  emit_place (element array e) base = row_of 3 (pos array) (base + 1) 0 0 0 ++ emit_expression e (base + 1)

  -- The rows of arguments, from the row `base` on.
  pub emit_arguments : Arguments → ℕ → List ℤ
  emit_arguments no_more base = []
  emit_arguments (e also arguments) base =
      row_of 32 (pos (base + 1)) 0 0 0 (arguments_link arguments (base + 1 + expression_rows e)) ++ emit_expression e (base + 1) ++ emit_arguments arguments (base + 1 + expression_rows e)

-- A part of a for or the value of a return, and the link to it.
abbrev pub emit_part : Part → ℕ → List ℤ
emit_part absent base = []
emit_part (present e) base = emit_expression e base

abbrev pub part_link : Part → ℕ → ℕ
part_link absent base = 0
part_link (present e) base = base

-- The link to a list that would begin at `base`: 0 where it is empty. `follows` says that other items stand behind the list, as part
-- of a longer one.
abbrev pub list_link : Bool → Items → ℕ → ℕ
list_link follows none base = pick follows base 0
list_link follows (s then is) base = base
list_link follows (m here is) base = base
list_link follows (define f words body is) base = base

abbrev pub emit_mark : Mark → ℕ → List ℤ
emit_mark (case v) next = row_of 48 v 0 0 0 next
emit_mark default next = row_of 49 (pos 0) 0 0 0 next
emit_mark (label l) next = row_of 53 (pos l) 0 0 0 next

-- The link to arms that would begin at `base`.
abbrev pub arms_link : Arms → ℕ → ℕ
arms_link no_arm base = 0
arms_link (arm e s arms) base = base

-- The link to parameters that would begin at `base`; and their rows from there on.
abbrev pub parameters_link : List ℕ → ℕ → ℕ
parameters_link [] base = 0
parameters_link (word ∷ words) base = base

unfoldable pub emit_parameters : List ℕ → ℕ → List ℤ
emit_parameters [] base = []
emit_parameters (word ∷ words) base = row_of 58 (pos word) 0 0 0 (parameters_link words (base + 1)) ++ emit_parameters words (base + 1)

unfoldable mutual
  -- The rows of a statement, from the row `base` on; `next` is its own next field.
  pub emit_statement : Statement → ℕ → ℕ → List ℤ
  emit_statement empty base next = row_of 40 (pos 0) 0 0 0 next
  emit_statement (express e) base next = row_of 41 (pos (base + 1)) 0 0 0 next ++ emit_expression e (base + 1)
  emit_statement (block is) base next = row_of 42 (pos (list_link false is (base + 1))) 0 0 0 next ++ emit_items false is (base + 1)
  emit_statement (if_then e on_true) base next =
      row_of 43 (pos (base + 1)) (base + 1 + expression_rows e) 0 0 next ++ emit_expression e (base + 1) ++ emit_statement on_true (base + 1 + expression_rows e) 0
  emit_statement (if_else e on_true on_false) base next =
      row_of 43 (pos (base + 1)) (base + 1 + expression_rows e) (base + 1 + expression_rows e + statement_rows on_true) 0 next
      ++ emit_expression e (base + 1) ++ emit_statement on_true (base + 1 + expression_rows e) 0 ++ emit_statement on_false (base + 1 + expression_rows e + statement_rows on_true) 0
  emit_statement (while e body) base next =
      row_of 44 (pos (base + 1)) (base + 1 + expression_rows e) 0 0 next ++ emit_expression e (base + 1) ++ emit_statement body (base + 1 + expression_rows e) 0
  emit_statement (do_while body e) base next =
      row_of 45 (pos (base + 1)) (base + 1 + statement_rows body) 0 0 next ++ emit_statement body (base + 1) 0 ++ emit_expression e (base + 1 + statement_rows body)
  emit_statement (for first test action body) base next =
      row_of 46 (pos (part_link first (base + 1))) (part_link test (base + 1 + part_rows first)) (part_link action (base + 1 + part_rows first + part_rows test)) (base + 1 + part_rows first + part_rows test + part_rows action) next
      ++ emit_part first (base + 1) ++ emit_part test (base + 1 + part_rows first) ++ emit_part action (base + 1 + part_rows first + part_rows test)
      ++ emit_statement body (base + 1 + part_rows first + part_rows test + part_rows action) 0
  emit_statement (switch e is) base next =
      row_of 47 (pos (base + 1)) (list_link false is (base + 1 + expression_rows e)) 0 0 next ++ emit_expression e (base + 1) ++ emit_items false is (base + 1 + expression_rows e)
  emit_statement break base next = row_of 50 (pos 0) 0 0 0 next
  emit_statement continue base next = row_of 51 (pos 0) 0 0 0 next
  emit_statement (goto l) base next = row_of 52 (pos l) 0 0 0 next
  emit_statement (guarded_if arms) base next = row_of 54 (pos (arms_link arms (base + 1))) 0 0 0 next ++ emit_arms arms (base + 1)
  emit_statement (guarded_do arms) base next = row_of 55 (pos (arms_link arms (base + 1))) 0 0 0 next ++ emit_arms arms (base + 1)
  emit_statement abort base next = row_of 57 (pos 0) 0 0 0 next
  emit_statement (declare i e) base next = row_of 58 (pos i) (base + 1) 0 0 next ++ emit_expression e (base + 1)
  emit_statement (give_back value) base next = row_of 60 (pos (part_link value (base + 1))) 0 0 0 next ++ emit_part value (base + 1)

  -- The rows of arms, from the row `base` on.
  pub emit_arms : Arms → ℕ → List ℤ
  emit_arms no_arm base = []
  emit_arms (arm e s arms) base =
      row_of 56 (pos (base + 1)) (base + 1 + expression_rows e) 0 0 (arms_link arms (base + 1 + expression_rows e + statement_rows s))
      ++ emit_expression e (base + 1) ++ emit_statement s (base + 1 + expression_rows e) 0 ++ emit_arms arms (base + 1 + expression_rows e + statement_rows s)

  -- The rows of a list, or of a part of one, from the row `base` on. The next field of an item is the row behind it.
  pub emit_items : Bool → Items → ℕ → List ℤ
  emit_items follows none base = []
  emit_items follows (s then is) base = emit_statement s base (list_link follows is (base + statement_rows s)) ++ emit_items follows is (base + statement_rows s)
  emit_items follows (m here is) base = emit_mark m (list_link follows is (base + 1)) ++ emit_items follows is (base + 1)
  -- a definition: its row, its parameters, its block; and then the items behind it
  emit_items follows (define f words body is) base =
      let own = base + 1 + length words in
      let behind = own + 1 + items_rows body in
      row_of 59 (pos f) (parameters_link words (base + 1)) own 0 (list_link follows is behind)
      ++ emit_parameters words (base + 1) ++ (row_of 42 (pos (list_link false body (own + 1))) 0 0 0 0 ++ emit_items false body (own + 1)) ++ emit_items follows is behind

-- The table of a program.
unfoldable pub emit : Statement → List ℤ
emit program = emit_statement program 0 0
