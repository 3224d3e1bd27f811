-- A legal kernel program that shows a temporary: v0 = t0. So that temporaries are hidden is a theorem about translations; it does not hold of
-- every kernel program. Both facts by computing.
use Rattle.std.specs.Prelude.{◌≡◌, refl, List, [], ◌∷◌, ◌++◌, ℕ, ℤ, pos, get_or, Ok}
use Rattle.std.proofs.Common.{ap, arith}
use Rattle.words.specs.Word.{is_word, same_word, natural}
use Rattle.words.specs.Table.{word_at, number_at}
use Rattle.words.specs.Kinds.{kind_of, kind_in, kind_at, kinds, sort_in, kind_row, expression_fields, statement_fields, mark_fields, definition_fields, member_fields, sort_of, sort_at, in_language, is_link, is_required}
use Rattle.words.specs.Layout.{layout_of, sum, array_length, array_base, store_size, header_store, all_within, header_fits, count_fits}
use Rattle.words.specs.Links.{fits, is_expression, is_place, is_statement, link, target, linker, received, note_by, note}
use Rattle.words.specs.Search.{lowest, some, lowest_row, some_field}
use Rattle.computation.specs.Run.{run}
use Rattle.language.specs.Rule.{row}
use Rattle.language.specs.Decode.{expression_of, arguments_of, values_of, values_by, expression_at, arguments_at, parameters_by, parameters_at, statement_of, items_of, arms_of, trees_of, trees_by, statement_at, items_at, decode}
use Rattle.language.specs.Meaning.{evaluate, perform}
use Rattle.language.specs.Functions.{function_of, function_count, storing, invoke, call_by, context_of}
use Rattle.words.specs.Declarations.{is_declaration}
use Rattle.language.specs.Program.{contents, table_program, run_table_under, run_table}
use Rattle.language_programs.specs.Program.{run_program}
use Rattle.words_roles.specs.Roles.{links_parameter, is_parameter_by, is_parameter, role_sort}
use Rattle.check_fields.specs.Fields.{foreign, leads_right, mislinked, bounds_of, number_fits, outside}
use Rattle.check_structure.specs.Links.{links_among, link_count, lone_block, not_once, deeper, depth_at, too_deep}
use Rattle.check_structure.specs.Refusal.{at, unless, ◌next◌, row_causes, structural_refusal}
use Rattle.words.specs.Declarations.{is_declaration}
use Rattle.check_declaration_causes.specs.Causes.{declared_before}
use Rattle.check_labels.specs.Labels.{is_label, repeated_label, owning, owner_at, around_at, label_behind, label_ahead, goto_without_label, label_fault}
use Rattle.words_roles.specs.Roles.{is_definition, links_parameter, is_parameter_by, is_parameter, role_sort}
use Rattle.check_function_causes.specs.Functions.{is_call, is_return}
use Rattle.check_function_causes.specs.Causes.{returns_outside, out_of_order, wrong_call, function_refusal}
use Rattle.check_kernel.specs.Refusal.{form_causes, kernel_causes, refusal}
use Rattle.check_kernel_statements.specs.Statements.{is_atom, is_atom_minus, is_atom_operation, is_atom_element, fits_variable, is_assignment, is_block, is_kernel_if, is_kernel_while, is_kernel_expression, is_kernel_statement, not_kernel_form, is_atom_call, is_kernel_return, is_kernel_parameter, is_of_function, atom_arguments}
use Rattle.translation_fate.specs.Views.{DispatcherView, HidesTemporaries}

-- One variable and one temporary, which is variable number 1: v0 = t0.
abbrev pub showing_header : List ℤ
showing_header = pos 1 ∷ pos 0 ∷ pos 1 ∷ []

abbrev pub showing_rows : List ℤ
showing_rows = row 42 1 0 0 0 0
    ++ row 41 2 0 0 0 0
    ++ row 21 3 4 0 0 0
    ++ row 2 0 0 0 0 0
    ++ row 2 1 0 0 0 0

pub showing-accepted : refusal showing_header showing_rows ≡ Ok tt
unfolding natural word_at number_at layout_of sum store_size header_store all_within header_fits count_fits foreign fits leads_right mislinked role_sort is_parameter is_parameter_by links_parameter bounds_of number_fits outside kind_of kind_in kinds sort_in kind_row expression_fields statement_fields mark_fields definition_fields member_fields sort_of sort_at in_language is_expression is_place is_statement is_link is_required link target links_among link_count lone_block not_once linker received note_by note deeper depth_at too_deep at unless ◌next◌ row_causes structural_refusal lowest some lowest_row some_field is_label repeated_label owning owner_at around_at label_behind label_ahead goto_without_label label_fault is_declaration declared_before is_return is_definition is_call returns_outside out_of_order wrong_call function_refusal form_causes kernel_causes refusal is_atom is_atom_minus is_atom_operation is_atom_element is_atom_call is_kernel_return is_kernel_parameter is_of_function fits_variable is_assignment is_block is_kernel_if is_kernel_while is_kernel_expression is_kernel_statement not_kernel_form atom_arguments
showing-accepted = refl

-- The variable as the dispatcher sees it.
abbrev shown_word : DispatcherView → ℕ
shown_word view = natural (get_or view.words 0 (pos 0))

-- Started with 0 and with 1 in the temporary, it shows 0 and 1.
pub shows-temporary : HidesTemporaries showing_header showing_rows → ⊥
unfolding is_word same_word natural word_at number_at kinds kind_in kind_of kind_at layout_of sum store_size array_length array_base run expression_of arguments_of values_of values_by expression_at arguments_at is_declaration parameters_by parameters_at statement_of items_of arms_of trees_of trees_by statement_at items_at decode evaluate perform function_of function_count storing invoke call_by context_of contents table_program run_table_under run_table run_program
shows-temporary hides = let differ : ◌≡◌ {A = ℕ} 0 1 = ap shown_word (hides (pos 0 ∷ []) (pos 0 ∷ []) (pos 1 ∷ []) refl refl refl 5) in omega arith
