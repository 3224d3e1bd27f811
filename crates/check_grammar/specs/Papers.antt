-- Papers: what documents 01 and 02 say of each kind, in their own lines and ranges. The table of kinds says the same (PaperLaws).
use Rattle.std.specs.Prelude.{Bool, ◌||◌, List, [], ◌∷◌, ℕ}
use Rattle.words.specs.Word.{pick}
use Rattle.words.specs.Kinds.{unused, value, variable, array, label, declared_number, function_number, expression, optional_expression, place, branch, optional_branch, optional_item, body_block, optional_arm, optional_argument, optional_parameter, expression_row, place_row, statement_row, arm_row, argument_row, between, Forms, in_both, in_source, in_kernel, KindRow, kind_row}
use Rattle.words.specs.declared.Kind.TheVariants.{Other}

-- A line is about the kinds from one number to another, and says what a, b, c and d hold.
pub record KindLine : Type 0 where
  pub least : ℕ
  pub most : ℕ
  pub a : ℕ
  pub b : ℕ
  pub c : ℕ
  pub d : ℕ

abbrev pub line : ℕ → ℕ → ℕ → ℕ → ℕ → ℕ → KindLine
line least most a b c d = record { least = least; most = most; a = a; b = b; c = c; d = d }

unfoldable pub lines : List KindLine
lines =
    line 1 1 value unused unused unused ∷  -- "1 constant | a value"
    line 2 2 variable unused unused unused ∷  -- "2 variable | a number"
    line 3 3 array expression unused unused ∷  -- "3 element | a array, b index"
    line 4 5 expression unused unused unused ∷  -- "4 minus, 5 not | a operand"
    line 6 16 expression expression unused unused ∷  -- "6 to 16: + − × / % < > <= >= == != | a left, b right"
    line 17 18 expression expression unused unused ∷  -- "17 and, 18 or | a left, b right"
    line 19 19 expression expression expression unused ∷  -- "19 conditional | a test, b yes, c no"
    line 20 20 expression expression unused unused ∷  -- "20 comma | a, b"
    line 21 26 place expression unused unused ∷  -- "21 assign; 22 to 26: += −= ×= /= %= | a place, b value"
    line 27 30 place unused unused unused ∷  -- "27 ++e, 28 −−e, 29 e++, 30 e−− | a place"
    line 40 40 unused unused unused unused ∷  -- "40 empty, 50 break, 51 continue | none"
    line 50 51 unused unused unused unused ∷
    line 41 41 expression unused unused unused ∷  -- "41 expression statement | a"
    line 42 42 optional_item unused unused unused ∷  -- "42 block | a first item or 0"
    line 43 43 expression branch optional_branch unused ∷  -- "43 if | a test, b then, c else or 0"
    line 44 44 expression branch unused unused ∷  -- "44 while | a test, b body"
    line 45 45 branch expression unused unused ∷  -- "45 do | a body, b test"
    line 46 46 optional_expression optional_expression optional_expression branch ∷  -- "46 for | a start, b test, c step (each may be 0), d body"
    line 47 47 expression optional_item unused unused ∷  -- "47 switch | a selector, b first item or 0"
    line 48 48 value unused unused unused ∷  -- "48 case | a value"
    line 49 49 unused unused unused unused ∷  -- "49 default | none"
    line 52 53 label unused unused unused ∷  -- "52 goto, 53 label (kernel only) | a label number"
    line 54 55 optional_arm unused unused unused ∷  -- "kind 54 (guarded if) and 55 (guarded do), each with a the first arm or 0"
    line 56 56 expression body_block unused unused ∷  -- "kind 56 (arm): a guard, b block, next the next arm"
    line 57 57 unused unused unused unused ∷  -- "the kernel's new kind 57 (abort, no fields)"
    line 58 58 declared_number expression unused unused ∷  -- "Kind 58: a variable number below V, b initial expression"
    line 59 59 function_number optional_parameter body_block unused ∷  -- "Kind 59 defines a function: a its number, b first parameter or 0 .., c a block"
    line 31 31 function_number optional_argument unused unused ∷  -- "Kind 31, an expression, calls: a number, b first argument or 0"
    line 32 32 expression unused unused unused ∷  -- "kind 32 is an argument with a an expression and next"
    line 60 60 optional_expression unused unused unused ∷  -- "Kind 60 returns a, or 0 where a is 0"
    []

-- "'Place' means a row of kind 2 or 3." "Kinds 1 to 30 are expressions, the rest statements." "An arm elsewhere, or another kind among
-- arms, gets 4": an arm is no statement. "Kind 31, an expression, calls"; of an argument: "elsewhere, or another kind among arguments, 4".
abbrev pub what_said : ℕ → ℕ
what_said number =
    pick (between 2 3 number) place_row
    (pick (between 1 31 number) expression_row
    (pick (between 32 32 number) argument_row (pick (between 56 56 number) arm_row statement_row)))

-- "Items of a block or switch are linked by next. Expressions have next 0 (it counts as an unused field)". Of an arm: "next the next arm"; of
-- an argument: "and next".
abbrev pub next_said : ℕ → ℕ
next_said number =
    pick (between 1 31 number) unused
    (pick (between 32 32 number) optional_argument (pick (between 56 56 number) optional_arm optional_item))

-- The kinds that the paragraph on the kernel form names: constant, variable, element, minus; "kinds 6 to 16"; "assigns"; empty,
-- expression statement, block, if, while; goto, label.
abbrev pub in_paragraph : ℕ → Bool
in_paragraph number = between 1 4 number || (between 6 16 number || (between 21 21 number || (between 40 44 number || between 52 53 number)))

-- Functions, in the source and, as "kernel calls", "a kernel return" and parameters that "in the kernel .. name their words", there too.
abbrev pub of_functions : ℕ → Bool
of_functions number = between 31 32 number || between 58 60 number

-- "(kernel only)". "The kernel's new kind 57". "Kinds not named in this paragraph are not in the kernel language."
abbrev pub forms_said : ℕ → Forms
forms_said number =
    pick (between 52 53 number || between 57 57 number) in_kernel (pick (in_paragraph number || of_functions number) in_both in_source)

abbrev pub row_said : ℕ → KindLine → KindRow
row_said number l =
    record { what = what_said number; a = l.a; b = l.b; c = l.c; d = l.d; next = next_said number; forms = forms_said number }

unfoldable pub said_by : List KindLine → ℕ → KindRow
said_by [] number = kind_row Other
said_by (l ∷ ls) number = pick (between l.least l.most number) (row_said number l) (said_by ls number)

-- What the papers say of a number; a number on no line is no kind.
unfoldable pub said : ℕ → KindRow
said number = said_by lines number
