-- Function sample: a small kernel program with a function, which is legal, and what the check answers where it is damaged, by computing.
use Rattle.std.specs.Prelude.{◌≡◌, refl, List, [], ◌∷◌, ℕ, ℤ, pos, set, Ok}
use Rattle.words.specs.Word.{natural}
use Rattle.words.specs.Table.{word_at, number_at}
use Rattle.words.specs.Layout.{layout_of, sum, store_size, header_store, all_within, header_fits, count_fits}
use Rattle.words.specs.Links.{fits, is_expression, is_place, is_statement, is_block, is_argument, link, target, linker, received, note_by, note}
use Rattle.words.specs.Kinds.{sort_of, sort_at, in_language, is_link, is_required, sort_in, kind_of, kind_in, kinds, kind_row, expression_fields, statement_fields, mark_fields, definition_fields, member_fields, parameter_fields}
use Rattle.words.specs.Search.{lowest, some, lowest_row, some_field}
use Rattle.words.specs.Declarations.{is_declaration}
use Rattle.words_roles.specs.Roles.{is_definition, links_parameter, is_parameter_by, is_parameter, parameter_sort, role_sort}
use Rattle.check_fields.specs.Fields.{foreign, leads_right, mislinked, bounds_of, number_fits, outside}
use Rattle.check_structure.specs.Links.{links_among, link_count, lone_block, not_once, deeper, depth_at, too_deep}
use Rattle.check_structure.specs.Refusal.{at, unless, ◌next◌, row_causes, structural_refusal}
use Rattle.check_items.specs.Items.{earlier_of, earlier_at, some_from, some_earlier}
use Rattle.check_declaration_causes.specs.Causes.{same_number, declared_before}
use Rattle.check_function_causes.specs.Functions.{is_call, is_return, definition_from, function_at, around_of, function_around, rows_from, list_length}
use Rattle.check_function_causes.specs.Causes.{returns_outside, out_of_order, not_lower, wrong_count, wrong_call_of, wrong_call, function_refusal}
use Rattle.check_kernel_statements.specs.Statements.{is_atom, is_atom_minus, is_atom_operation, is_atom_element, atom_arguments, is_atom_call, fits_variable, is_assignment, is_block as is_kernel_block, is_kernel_if, is_kernel_while, is_kernel_expression, is_kernel_return, is_kernel_parameter, is_of_function, is_kernel_statement, not_kernel_form}
use Rattle.check_labels.specs.Labels.{is_label, repeated_label, owning, owner_at, around_at, label_behind, label_ahead, goto_without_label, label_fault}
use Rattle.check_kernel.specs.Refusal.{form_causes, kernel_causes, refusal}
use Rattle.check_kernel.specs.Sample.{row, refused}

-- One variable (0), one array of 3, one declared word (4), one temporary (5).
abbrev header : List ℤ
header = pos 1 ∷ pos 1 ∷ pos 1 ∷ pos 3 ∷ []

-- function 0 (v4) { return v4 }; v5 = function 0 (7)
abbrev program : List ℤ
program =
    row 42 1 0 0 0
    (row 59 0 2 3 6
    (row 58 4 0 0 0
    (row 42 4 0 0 0
    (row 60 5 0 0 0
    (row 2 4 0 0 0
    (row 41 7 0 0 0
    (row 21 8 9 0 0
    (row 2 5 0 0 0
    (row 31 0 10 0 0
    (row 32 11 0 0 0
    (row 1 7 0 0 0 [])))))))))))

-- The same with one word changed.
abbrev changed : ℕ → ℕ → List ℤ
changed word value = set program word (pos value)

-- What the check answers, of the program and of the changes: a parameter with an initial expression; one with the number of the variable, with S−1, and
-- with the temporary's; a return of nothing; a definition with the number 1; a call of function 1.
pub record Answers : Type 0 where
  pub whole : refusal header program ≡ (Ok tt)
  pub initial : refusal header (changed 14 5) ≡ refused 4 2
  pub variable-word : refusal header (changed 13 0) ≡ refused 6 2
  pub below_S : refusal header (changed 13 3) ≡ refused 6 2
  pub temporary_word : refusal header (changed 13 5) ≡ refused 6 2
  pub out-of-order : refusal header (changed 7 1) ≡ refused 23 1
  pub no-function : refusal header (changed 55 1) ≡ refused 24 9

pub function-answers : Answers
unfolding natural word_at number_at layout_of sum store_size header_store all_within header_fits count_fits foreign fits leads_right mislinked role_sort parameter_sort parameter_fields is_parameter is_parameter_by links_parameter bounds_of number_fits outside sort_of sort_in kind_of kind_in kinds kind_row expression_fields statement_fields mark_fields definition_fields member_fields sort_at in_language is_expression is_place is_statement is_block is_argument is_link is_required link target links_among link_count lone_block not_once linker received note_by note deeper depth_at too_deep at unless ◌next◌ row_causes structural_refusal lowest some lowest_row some_field is_label repeated_label owning owner_at around_at label_behind label_ahead goto_without_label label_fault is_declaration earlier_of earlier_at some_from some_earlier same_number declared_before is_return is_definition is_call definition_from function_at around_of function_around rows_from list_length not_lower wrong_count wrong_call_of returns_outside out_of_order wrong_call function_refusal form_causes kernel_causes refusal is_atom is_atom_minus is_atom_operation is_atom_element atom_arguments is_atom_call is_kernel_return is_kernel_parameter is_of_function fits_variable is_assignment is_kernel_block is_kernel_if is_kernel_while is_kernel_expression is_kernel_statement not_kernel_form
function-answers = record { whole = refl; initial = refl; variable-word = refl; below_S = refl; temporary_word = refl; out-of-order = refl; no-function = refl }
