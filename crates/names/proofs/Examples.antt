-- Examples: resolved tables, by computing. S is 10 in all of them.
use Rattle.std.specs.Prelude.{◌≡◌, refl, List, [], ◌∷◌, ℕ, ℤ, pos}
use Rattle.words.specs.Word.{natural}
use Rattle.words.specs.Table.{word_at, number_at}
use Rattle.words.specs.Kinds.{kinds, kind_in, kind_of, is_link, sort_at, sort_of, sort_in, kind_row, expression_fields, statement_fields, mark_fields, definition_fields, member_fields}
use Rattle.words.specs.Search.{lowest}
use Rattle.words.specs.Links.{link, target, linker, received, note_by, note}
use Rattle.names.specs.Names.{is_name, in_scope, scope_at, word_of, meant_from, parameter_from, parameter_at, meant_at, variable_word, resolved_name, resolved_word, resolved}
use Rattle.words.specs.Declarations.{is_declaration, declarations_before}
use Rattle.words_roles.specs.Roles.{is_definition}
use Rattle.check_function_causes.specs.Functions.{around_of, function_around}

-- A row and the rows behind it.
abbrev row : ℕ → ℕ → ℕ → ℕ → ℕ → ℕ → List ℤ → List ℤ
row kind a b c d next rest = pos kind ∷ pos a ∷ pos b ∷ pos c ∷ pos d ∷ pos next ∷ rest

-- Before and behind a declaration in its own list, in its own b, behind the block; an inner name beside an outer one:
-- { v0 = 1; int v0 = v1; { int v1 = v0; v1 = v0; } v1; }
abbrev nested : ℕ → ℕ → ℕ → ℕ → ℕ → ℕ → ℕ → ℕ → List ℤ
nested a b c d e f g h =
    row 42 1 0 0 0 0 (row 41 2 0 0 0 5 (row 21 3 4 0 0 0 (row 2 a 0 0 0 0 (row 1 1 0 0 0 0 (
    row 58 b 6 0 0 7 (row 2 c 0 0 0 0 (row 42 8 0 0 0 14 (row 58 d 9 0 0 10 (row 2 e 0 0 0 0 (
    row 41 11 0 0 0 0 (row 21 12 13 0 0 0 (row 2 f 0 0 0 0 (row 2 g 0 0 0 0 (row 41 15 0 0 0 0 (
    row 2 h 0 0 0 0 [])))))))))))))))

pub nested-resolved : resolved 10 (nested 0 0 1 1 0 1 0 1) ≡ nested 0 10 1 11 10 11 10 1
unfolding resolved resolved_word resolved_name variable_word number_at natural word_at meant_at parameter_at function_around around_of is_definition word_of meant_from declarations_before scope_at is_declaration is_name in_scope note note_by received linker lowest target link is_link sort_at sort_of sort_in kind_of kind_in kinds kind_row expression_fields statement_fields mark_fields member_fields
nested-resolved = refl

-- One number three deep; each b names the object outside: { int v0 = 1; { int v0 = v0; { int v0 = v0; v0; } v0; } v0; }
abbrev shadows : ℕ → ℕ → ℕ → ℕ → ℕ → ℕ → ℕ → ℕ → List ℤ
shadows a b c d e f g h =
    row 42 1 0 0 0 0 (row 58 a 2 0 0 3 (row 1 1 0 0 0 0 (row 42 4 0 0 0 13 (row 58 b 5 0 0 6 (
    row 2 c 0 0 0 0 (row 42 7 0 0 0 11 (row 58 d 8 0 0 9 (row 2 e 0 0 0 0 (row 41 10 0 0 0 0 (
    row 2 f 0 0 0 0 (row 41 12 0 0 0 0 (row 2 g 0 0 0 0 (row 41 14 0 0 0 0 (row 2 h 0 0 0 0 []))))))))))))))

pub shadows-resolved : resolved 10 (shadows 0 0 0 0 0 0 0 0) ≡ shadows 10 11 10 12 11 12 11 10
unfolding resolved resolved_word resolved_name variable_word number_at natural word_at meant_at parameter_at function_around around_of is_definition word_of meant_from declarations_before scope_at is_declaration is_name in_scope note note_by received linker lowest target link is_link sort_at sort_of sort_in kind_of kind_in kinds kind_row expression_fields statement_fields mark_fields member_fields
shadows-resolved = refl

-- A declaration in a loop's body reaches neither its parts nor what follows it: { for (v0; v0; v0) { int v0 = 5; v0; } v0; }
abbrev looped : ℕ → ℕ → ℕ → ℕ → ℕ → ℕ → List ℤ
looped a b c d e f =
    row 42 1 0 0 0 0 (row 46 2 3 4 5 10 (row 2 a 0 0 0 0 (row 2 b 0 0 0 0 (row 2 c 0 0 0 0 (
    row 42 6 0 0 0 0 (row 58 d 7 0 0 8 (row 1 5 0 0 0 0 (row 41 9 0 0 0 0 (row 2 e 0 0 0 0 (
    row 41 11 0 0 0 0 (row 2 f 0 0 0 0 [])))))))))))

pub looped-resolved : resolved 10 (looped 0 0 0 0 0 0) ≡ looped 0 0 0 10 10 0
unfolding resolved resolved_word resolved_name variable_word number_at natural word_at meant_at parameter_at function_around around_of is_definition word_of meant_from declarations_before scope_at is_declaration is_name in_scope note note_by received linker lowest target link is_link sort_at sort_of sort_in kind_of kind_in kinds kind_row expression_fields statement_fields mark_fields member_fields
looped-resolved = refl

-- Words go by row number, whatever the lists: { { int v0 = 1; v0; } { int v0 = 2; v0; } }, the second block's rows first
abbrev crossed : ℕ → ℕ → ℕ → ℕ → List ℤ
crossed a b c d =
    row 42 1 0 0 0 0 (row 42 7 0 0 0 2 (row 42 3 0 0 0 0 (row 58 a 4 0 0 5 (row 1 2 0 0 0 0 (
    row 41 6 0 0 0 0 (row 2 b 0 0 0 0 (row 58 c 8 0 0 9 (row 1 1 0 0 0 0 (row 41 10 0 0 0 0 (
    row 2 d 0 0 0 0 []))))))))))

pub crossed-resolved : resolved 10 (crossed 0 0 0 0) ≡ crossed 10 10 11 11
unfolding resolved resolved_word resolved_name variable_word number_at natural word_at meant_at parameter_at function_around around_of is_definition word_of meant_from declarations_before scope_at is_declaration is_name in_scope note note_by received linker lowest target link is_link sort_at sort_of sort_in kind_of kind_in kinds kind_row expression_fields statement_fields mark_fields member_fields
crossed-resolved = refl

-- A declaration as last item: nobody names its word: { { v0; int v0 = v0; } v0; }
abbrev last : ℕ → ℕ → ℕ → ℕ → List ℤ
last a b c d =
    row 42 1 0 0 0 0 (row 42 2 0 0 0 6 (row 41 3 0 0 0 4 (row 2 a 0 0 0 0 (row 58 b 5 0 0 0 (
    row 2 c 0 0 0 0 (row 41 7 0 0 0 0 (row 2 d 0 0 0 0 [])))))))

pub last-resolved : resolved 10 (last 0 0 0 0) ≡ last 0 10 0 0
unfolding resolved resolved_word resolved_name variable_word number_at natural word_at meant_at parameter_at function_around around_of is_definition word_of meant_from declarations_before scope_at is_declaration is_name in_scope note note_by received linker lowest target link is_link sort_at sort_of sort_in kind_of kind_in kinds kind_row expression_fields statement_fields mark_fields member_fields
last-resolved = refl

-- A parameter reaches the whole function, an inner name hides it, and outside the number means the variable:
-- function 0 (v0) { v0; { int v0 = v0; v0; } } v0;
abbrev parameters : ℕ → ℕ → ℕ → ℕ → ℕ → ℕ → List ℤ
parameters a b c d e f =
    row 42 1 0 0 0 0 (row 59 0 2 3 0 11 (row 58 a 0 0 0 0 (row 42 4 0 0 0 0 (row 41 5 0 0 0 6 (
    row 2 b 0 0 0 0 (row 42 7 0 0 0 0 (row 58 c 8 0 0 9 (row 2 d 0 0 0 0 (row 41 10 0 0 0 0 (
    row 2 e 0 0 0 0 (row 41 12 0 0 0 0 (row 2 f 0 0 0 0 []))))))))))))

pub parameters-resolved : resolved 10 (parameters 0 0 0 0 0 0) ≡ parameters 10 10 11 10 11 0
unfolding resolved resolved_word resolved_name variable_word number_at natural word_at meant_at parameter_at parameter_from function_around around_of is_definition word_of meant_from declarations_before scope_at is_declaration is_name in_scope note note_by received linker lowest target link is_link sort_at sort_of sort_in kind_of kind_in kinds kind_row expression_fields statement_fields mark_fields definition_fields member_fields
parameters-resolved = refl
