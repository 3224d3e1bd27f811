-- Examples: the page of document 01's program in kernel form, one with every statement, and pages that are none. By computation.
use Rattle.std.specs.Prelude.{◌≡◌, refl, List, [], ◌∷◌, pos, negsuc, None, Some}
use Rattle.std.proofs.Common.{ap, ◌∙◌}
use Prim.Native.String.{String}
use Rattle.words.specs.Word.{is_word}
use Rattle.words.specs.Layout.{Layout, store_size}
use Rattle.words.specs.declared.Operator.TheVariants.{Add, Subtract, LessOrEqual}
use Rattle.text_numbers.specs.Number.{digits, digits_within, number_bytes, is_digit, decimal, natural_of, word, positive, negative, number_of}
use Rattle.text_lines.specs.Line.{together, lines_of}
use Rattle.language.specs.Trees.{Expression, constant, read, minus, binary, assign, compound, postfix, call, Place, variable, element, no_more, ◌also◌, present, label, Statement, empty, express, block, if_else, while, goto, abort, give_back, Items, none as no_item, ◌then◌, ◌here◌, define}
use Rattle.translation.specs.Translate.{translate}
use Rattle.translation.proofs.WorkedExamples.{worked-translation}
use Rattle.page.specs.declared.Sizes.{Sizes}
use Rattle.page.specs.Lines.{closes, indented, argument_lines, parameter_lines, statement_lines, read_before, read_lines}
use Rattle.page.specs.Page.{ended, name, blanks, parted, right_set, padded, line_bytes, lines_bytes, page_bytes}
use Rattle.page.specs.Reading.{same, pieces, filled, without, read_operator, read_name, read_atom, read_place, page_lines, read_page}
use Rattle.page.specs.Texts.{bytes_of, quoted}

abbrev set : Place → Expression → Statement
set p e = express (assign p e)

-- ---- document 01's program in kernel form: one variable and one array of 3, so S = 4

abbrev four : Sizes
four = record { store = 4; declared = 0 }

abbrev worked : Items
worked =
    set (variable 0) (constant (pos 2)) then
    set (variable 4) (read (variable 0)) then
    set (variable 0) (binary Add (read (variable 4)) (constant (pos 1))) then
    set (variable 0) (binary Subtract (read (variable 0)) (constant (pos 1))) then
    set (element 0 (read (variable 0))) (read (variable 4)) then
    no_item

abbrev worked_lines : List String
worked_lines =
    "    1 v0 = 2;                                                                   " ∷
    "    2 t0 = v0;                                                                  " ∷
    "    3 v0 = t0 + 1;                                                              " ∷
    "    4 v0 = v0 - 1;                                                              " ∷
    "    5 a0[v0] = t0;                                                              " ∷ []

pub worked-page : page_bytes four worked ≡ quoted worked_lines
unfolding quoted bytes_of digits digits_within number_bytes statement_lines ended name blanks parted right_set padded line_bytes lines_bytes page_bytes
worked-page = refl

abbrev layout : Layout
layout = record { variables = 1; lengths = 3 ∷ [] }

-- v0 = 2; a[v0 -= 1] = v0++;
abbrev source : Items
source = set (variable 0) (constant (pos 2)) then set (element 0 (compound Subtract (variable 0) (constant (pos 1)))) (postfix Add (variable 0)) then no_item

pub worked-translated : page_bytes four (translate (store_size layout) source) ≡ quoted worked_lines
worked-translated = ap (page_bytes four) worked-translation ∙ worked-page

-- ---- every statement: two variables and one array of 3, so S = 5, and two declared words

abbrev five : Sizes
five = record { store = 5; declared = 2 }

abbrev every : Items
every =
    set (variable 8198) (binary LessOrEqual (constant (negsuc 2147483647)) (constant (negsuc 2147483647))) then
    while (constant (pos 1)) (block
    (set (variable 7) (minus (constant (negsuc 4))) then
    if_else (read (variable 7)) (block no_item) (block (goto 1 then no_item)) then
    set (element 0 (read (variable 8))) (read (variable 1)) then
    set (variable 6) (read (variable 5)) then
    set (variable 0) (read (element 0 (constant (pos 2)))) then
    empty then
    block (abort then no_item) then
    label 2 here no_item)) then
    label 1 here no_item

abbrev every_lines : List String
every_lines =
    "    1 t8191 = -2147483648 <= -2147483648;                                       " ∷
    "    2 while (1) {                                                               " ∷
    "    3   t0 = - -5;                                                              " ∷
    "    4   if (t0) {                                                               " ∷
    "    5   } else {                                                                " ∷
    "    6     goto L1;                                                              " ∷
    "    7   }                                                                       " ∷
    "    8   a0[t1] = v1;                                                            " ∷
    "    9   l1 = l0;                                                                " ∷
    "   10   v0 = a0[2];                                                             " ∷
    "   11   ;                                                                       " ∷
    "   12   {                                                                       " ∷
    "   13     abort();                                                              " ∷
    "   14   }                                                                       " ∷
    "   15   L2:;                                                                    " ∷
    "   16 }                                                                         " ∷
    "   17 L1:;                                                                      " ∷ []

pub every-page : page_bytes five every ≡ quoted every_lines
unfolding quoted bytes_of digits digits_within number_bytes statement_lines ended name blanks parted right_set padded line_bytes lines_bytes page_bytes
every-page = refl

pub every-read : read_page five (quoted every_lines) ≡ Some every
unfolding quoted bytes_of digits digits_within number_bytes is_digit decimal natural_of word positive negative number_of is_word together lines_of statement_lines read_before read_lines ended name blanks parted right_set padded line_bytes lines_bytes page_bytes same pieces filled without read_operator read_name read_atom read_place page_lines read_page
every-read = refl

-- ---- functions: their definitions first, a line for each parameter and each argument

abbrev functions : Items
functions =
    define 0 [] (give_back (present (constant (negsuc 6))) then no_item)
    (define 1 (5 ∷ 6 ∷ [])
    (set (variable 7) (call 0 no_more) then
    give_back (present (read (variable 6))) then
    no_item)
    (block (set (variable 8) (call 1 (constant (pos 2) also (read (variable 0) also no_more))) then no_item) then
    no_item))

abbrev function_lines : List String
function_lines =
    "    1 int f0() {                                                                " ∷
    "    2   return -7;                                                              " ∷
    "    3 }                                                                         " ∷
    "    4 int f1(                                                                   " ∷
    "    5 int l0,                                                                   " ∷
    "    6 int l1) {                                                                 " ∷
    "    7   t0 = f0();                                                              " ∷
    "    8   return l1;                                                              " ∷
    "    9 }                                                                         " ∷
    "   10 {                                                                         " ∷
    "   11   t1 = f1(                                                                " ∷
    "   12   2,                                                                      " ∷
    "   13   v0);                                                                    " ∷
    "   14 }                                                                         " ∷ []

pub functions-page : page_bytes five functions ≡ quoted function_lines
unfolding quoted bytes_of digits digits_within number_bytes argument_lines parameter_lines statement_lines ended name blanks parted right_set padded line_bytes lines_bytes page_bytes
functions-page = refl

pub functions-read : read_page five (quoted function_lines) ≡ Some functions
unfolding quoted bytes_of digits digits_within number_bytes is_digit decimal natural_of word positive negative number_of is_word together lines_of argument_lines parameter_lines statement_lines read_before read_lines ended name blanks parted right_set padded line_bytes lines_bytes page_bytes same pieces filled without read_operator read_name read_atom read_place page_lines read_page
functions-read = refl

-- ---- a line deep inside: the indent stops at 36 columns

abbrev deep_line : List String
deep_line = "40980                                     }                                     " ∷ []

pub deep-line : line_bytes five 40980 (indented 500 closes) ≡ quoted deep_line
unfolding quoted bytes_of digits digits_within blanks parted right_set padded line_bytes
deep-line = refl

-- ---- no pages: a line one column to the right; a block that is not closed

abbrev shifted : List String
shifted = "    1  v0 = 2;                                                                  " ∷ []

abbrev unclosed : List String
unclosed = "    1 {                                                                         " ∷ []

pub shifted-refused : read_page four (quoted shifted) ≡ None
unfolding quoted bytes_of digits digits_within number_bytes is_digit decimal natural_of word positive negative number_of is_word together lines_of statement_lines read_before read_lines ended name blanks parted right_set padded line_bytes lines_bytes page_bytes same pieces filled without read_operator read_name read_atom read_place page_lines read_page
shifted-refused = refl

pub unclosed-refused : read_page four (quoted unclosed) ≡ None
unfolding quoted bytes_of is_digit decimal natural_of together lines_of read_before read_lines same pieces filled without read_place page_lines read_page
unclosed-refused = refl
