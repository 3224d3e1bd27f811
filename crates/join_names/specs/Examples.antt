-- Examples: joins of programs that declare the same number, in functions too, their names resolved, by computing. S is 10.
use Rattle.std.specs.Prelude.{◌≡◌, refl, List, [], ◌∷◌, ℕ, ℤ, pos}
use Rattle.words.specs.Word.{natural}
use Rattle.words.specs.Table.{word_at, number_at}
use Rattle.words.specs.Kinds.{kinds, kind_in, kind_of, is_link, sort_at, sort_of, sort_in, kind_row, expression_fields, statement_fields, mark_fields, definition_fields, member_fields}
use Rattle.words.specs.Search.{lowest}
use Rattle.words.specs.Links.{link, target, linker, received, note_by, note}
use Rattle.words.specs.Declarations.{is_declaration, declarations_before}
use Rattle.names.specs.Names.{is_name, in_scope, scope_at, word_of, meant_from, parameter_from, parameter_at, meant_at, variable_word, resolved_name, resolved_word, resolved}
use Rattle.check_function_causes.specs.Functions.{is_definition, around_of, function_around}
use Rattle.join.specs.Join.{is_of_definition, is_other, before, functions_from, item_from, functions_of, first_item, place_of, front_of, placed_link, placed_word, placed_rows, first_placement, second_placement, outer_block, joined_rows}

-- A row and the rows behind it.
abbrev row : ℕ → ℕ → ℕ → ℕ → ℕ → ℕ → List ℤ → List ℤ
row kind a b c d next rest = pos kind ∷ pos a ∷ pos b ∷ pos c ∷ pos d ∷ pos next ∷ rest

-- { int v0 = 7; v0; }
abbrev declares : ℕ → ℕ → List ℤ
declares a b = row 42 1 0 0 0 0 (row 58 a 2 0 0 3 (row 1 7 0 0 0 0 (row 41 4 0 0 0 0 (row 2 b 0 0 0 0 []))))

-- { v0; }
abbrev names : ℕ → List ℤ
names a = row 42 1 0 0 0 0 (row 41 2 0 0 0 0 (row 2 a 0 0 0 0 []))

-- { { int v0 = 7; v0; } { int v0 = 7; v0; } }: each program has an object of its own
abbrev twice : ℕ → ℕ → ℕ → ℕ → List ℤ
twice a b c d =
    row 42 1 0 0 0 0 (row 42 2 0 0 0 6 (row 58 a 3 0 0 4 (row 1 7 0 0 0 0 (row 41 5 0 0 0 0 (row 2 b 0 0 0 0 (
    row 42 7 0 0 0 0 (row 58 c 8 0 0 9 (row 1 7 0 0 0 0 (row 41 10 0 0 0 0 (row 2 d 0 0 0 0 []))))))))))

pub twice-resolved : resolved 10 (joined_rows (declares 0 0) (declares 0 0)) ≡ twice 10 10 11 11
unfolding joined_rows outer_block first_placement second_placement placed_rows placed_word placed_link front_of place_of first_item functions_of functions_from item_from before is_other is_of_definition is_definition function_around around_of resolved resolved_word resolved_name variable_word number_at natural word_at meant_at parameter_at parameter_from word_of meant_from declarations_before scope_at is_declaration is_name in_scope note note_by received linker lowest target link is_link sort_at sort_of sort_in kind_of kind_in kinds kind_row expression_fields statement_fields mark_fields definition_fields member_fields
twice-resolved = refl

-- { { int v0 = 7; v0; } { v0; } }: the first's object is not the second's
abbrev once : ℕ → ℕ → ℕ → List ℤ
once a b c =
    row 42 1 0 0 0 0 (row 42 2 0 0 0 6 (row 58 a 3 0 0 4 (row 1 7 0 0 0 0 (row 41 5 0 0 0 0 (row 2 b 0 0 0 0 (
    row 42 7 0 0 0 0 (row 41 8 0 0 0 0 (row 2 c 0 0 0 0 []))))))))

pub once-resolved : resolved 10 (joined_rows (declares 0 0) (names 0)) ≡ once 10 10 0
unfolding joined_rows outer_block first_placement second_placement placed_rows placed_word placed_link front_of place_of first_item functions_of functions_from item_from before is_other is_of_definition is_definition function_around around_of resolved resolved_word resolved_name variable_word number_at natural word_at meant_at parameter_at parameter_from word_of meant_from declarations_before scope_at is_declaration is_name in_scope note note_by received linker lowest target link is_link sort_at sort_of sort_in kind_of kind_in kinds kind_row expression_fields statement_fields mark_fields definition_fields member_fields
once-resolved = refl

-- f0() { int v0 = 7; } int v0 = 7;
abbrev within : List ℤ
within = row 42 1 0 0 0 0 (row 59 0 0 2 0 5 (row 42 3 0 0 0 0 (row 58 0 4 0 0 0 (row 1 7 0 0 0 0 (row 58 0 6 0 0 0 (row 1 7 0 0 0 0 []))))))

-- the words of both functions come before those of the programs' own items
pub functions-resolved : resolved 10 (joined_rows within within)
    ≡ (row 42 1 0 0 0 0 (
    row 59 0 0 2 0 5 (row 42 3 0 0 0 0 (row 58 10 4 0 0 0 (row 1 7 0 0 0 0 (
    row 59 1 0 6 0 9 (row 42 7 0 0 0 0 (row 58 11 8 0 0 0 (row 1 7 0 0 0 0 (
    row 42 10 0 0 0 12 (row 58 12 11 0 0 0 (row 1 7 0 0 0 0 (
    row 42 13 0 0 0 0 (row 58 13 14 0 0 0 (row 1 7 0 0 0 0 [])))))))))))))))
unfolding joined_rows outer_block first_placement second_placement placed_rows placed_word placed_link front_of place_of first_item functions_of functions_from item_from before is_other is_of_definition is_definition function_around around_of resolved resolved_word resolved_name variable_word number_at natural word_at meant_at parameter_at parameter_from word_of meant_from declarations_before scope_at is_declaration is_name in_scope note note_by received linker lowest target link is_link sort_at sort_of sort_in kind_of kind_in kinds kind_row expression_fields statement_fields mark_fields definition_fields member_fields
functions-resolved = refl
