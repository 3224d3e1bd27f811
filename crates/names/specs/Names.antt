-- Names: Change 11, names inside a block, and Change 13, parameters. The store word that a number means at a row, and the table in which each
-- name stands for its store word.
use Rattle.std.specs.Prelude.{◌≡◌, Bool, false, ◌&&◌, ◌||◌, List, ℕ, zero, suc, ◌+◌, ◌/◌, ◌%◌, eqb, ℤ, pos, length}
use Rattle.words.specs.Word.{pick}
use Rattle.words.specs.Table.{word_at, number_at}
use Rattle.words.specs.Declarations.{is_declaration, declarations_before, declaration_limit}
use Rattle.words.specs.Links.{link, note}
use Rattle.check_function_causes.specs.Functions.{function_around}
use Rattle.check_grammar.specs.Grammar.{tabulate}

-- The table of so many words that holds `word row field` in each field of each row.
abbrev pub table_of : (ℕ → ℕ → ℤ) → ℕ → List ℤ
table_of word words = tabulate (λ w. word (w / 6) (w % 6)) 0 words

-- ---- names and links

-- A row that names a variable.
unfoldable pub is_name : List ℤ → ℕ → Bool
is_name rows row = eqb (number_at rows row 0) 2

-- No row is a declaration.
abbrev pub NoDeclaration : List ℤ → Type 0
NoDeclaration rows = (row : ℕ) → is_declaration rows row ≡ false

-- ---- scope

-- "From its next item to the block's end": a declaration hands itself to its next item; every row hands what it has to its parts, a
-- declaration to its b too, and to its next item. So a block hands on what stood in front of it, and not what it declares.
unfoldable pub in_scope : List ℤ → ℕ → ℕ → ℕ → ℕ
in_scope rows owner field own = pick (eqb field 5 && is_declaration rows owner) owner own

-- The innermost declaration in whose scope a row stands; 0 where there is none.
unfoldable pub scope_at : List ℤ → ℕ → ℕ
scope_at rows row = note (in_scope rows) 0 rows row

-- ---- words

-- "Each declaration has its own store word after the first S, in row order".
unfoldable pub word_of : ℕ → List ℤ → ℕ → ℕ
word_of S rows declaration = S + declarations_before rows declaration

-- ---- what a number means

-- "That number means the new object, hiding the outer one": the first with the number, from this declaration outward through so many;
-- 0 where there is none.
unfoldable pub meant_from : ℕ → List ℤ → ℕ → ℕ → ℕ
meant_from zero rows declaration number = 0
meant_from (suc outward) rows declaration number =
    let rest = meant_from outward rows (scope_at rows declaration) number in
    pick (eqb declaration 0 || eqb (number_at rows declaration 1) number) declaration rest

-- The parameter with the number, from this one on through so many; 0 where there is none.
unfoldable pub parameter_from : ℕ → List ℤ → ℕ → ℕ → ℕ
parameter_from zero rows parameter number = 0
parameter_from (suc most) rows parameter number =
    let rest = parameter_from most rows (link rows parameter 5) number in
    pick (is_declaration rows parameter) (pick (eqb (number_at rows parameter 1) number) parameter rest) 0

-- The parameter that a number means in the function that a row defines; 0 where there is none, and where the row is 0. "Parameters count in
-- D", so there are no more of them than declarations.
unfoldable pub parameter_at : List ℤ → ℕ → ℕ → ℕ
parameter_at rows definition number =
    let first = link rows definition 2 in
    pick (eqb definition 0) 0 (parameter_from declaration_limit rows first number)

-- The declaration that a number means at a row; 0 where it means the header's variable. "Parameters count .. for scope .. as c's first items":
-- what a function's block declares hides them, and definitions come first, so that nothing else is declared around them.
unfoldable pub meant_at : List ℤ → ℕ → ℕ → ℕ
meant_at rows row number =
    let declaration = meant_from declaration_limit rows (scope_at rows row) number in
    pick (eqb declaration 0) (parameter_at rows (function_around rows row) number) declaration

-- ---- the resolved table

-- Field a of a name: the word of the declaration that it means, or the header's variable, whose number is its word.
unfoldable pub variable_word : ℕ → List ℤ → ℕ → ℤ
variable_word S rows row =
    let declaration = meant_at rows row (number_at rows row 1) in
    pick (eqb declaration 0) (word_at rows row 1) (pos (word_of S rows declaration))

-- Field a of a row: a declaration's own word, the word of a name; else as it was.
unfoldable pub resolved_name : ℕ → List ℤ → ℕ → ℤ
resolved_name S rows row =
    pick (is_declaration rows row) (pos (word_of S rows row))
    (pick (is_name rows row) (variable_word S rows row) (word_at rows row 1))

unfoldable pub resolved_word : ℕ → List ℤ → ℕ → ℕ → ℤ
resolved_word S rows row field = pick (eqb field 1) (resolved_name S rows row) (word_at rows row field)

-- The table with store words for names. S: the words of the header's variables and arrays.
unfoldable pub resolved : ℕ → List ℤ → List ℤ
resolved S rows = table_of (resolved_word S rows) (length rows)
