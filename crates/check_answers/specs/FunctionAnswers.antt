-- Function answers: the checks answer each sample with functions as they must, by computing brief tests that answer the same.
use Rattle.std.specs.Prelude.{◌≡◌, refl, List, map, ℤ, Result}
use Rattle.words.specs.Refusals.{NumberedRefusal}
use Rattle.std.proofs.Common.{ap, ◌∙◌}
use Rattle.words.specs.Word.{same_word, natural}
use Rattle.words.specs.Table.{word_at, number_at}
use Rattle.words.specs.Layout.{layout_of, sum, store_size, header_store, all_within, header_fits, count_fits}
use Rattle.words.specs.Links.{fits, is_expression, is_place, is_statement, is_block, is_arm, is_argument, link, target, linker, received, note_by, note}
use Rattle.words.specs.Kinds.{kind_of, kind_in, kinds, sort_in, kind_row, expression_fields, statement_fields, mark_fields, definition_fields, member_fields, parameter_fields, sort_of, sort_at, in_language, is_link, is_required}
use Rattle.words.specs.Search.{lowest, some, lowest_row, some_field}
use Rattle.words.specs.Declarations.{is_declaration, declarations_before}
use Rattle.words_roles.specs.Roles.{is_definition, links_parameter, is_parameter_by, is_parameter, parameter_sort, role_sort}
use Rattle.check_fields.specs.Fields.{foreign, leads_right, mislinked, bounds_of, number_fits, outside}
use Rattle.check_structure.specs.Links.{lone_block, not_once}
use Rattle.check_structure.specs.Refusal.{at, unless, ◌next◌}
use Rattle.names.specs.Names.{is_name}
use Rattle.check_items.specs.Items.{item_of, item_at, earlier_of, earlier_at, some_from, some_earlier}
use Rattle.check_marks.specs.Marks.{same_mark, repeated}
use Rattle.check_notes.specs.RowNotes.{handed, note_at}
use Rattle.check_places.specs.Places.{out_of_place, misplaced}
use Rattle.check_declaration_causes.specs.Causes.{outside_block, names_number, named_within, named_from, names_itself, same_number, declared_before, one_too_many, declaration_refusal, declared_twice}
use Rattle.check_parameter_causes.specs.Parameters.{body_of, body_at, some_of_list, declared_as_parameter}
use Rattle.check_function_causes.specs.Functions.{is_call, is_return, definition_from, function_at, around_of, function_around, rows_from, list_length}
use Rattle.check_function_causes.specs.Causes.{returns_outside, out_of_order, not_lower, wrong_count, wrong_call_of, wrong_call, function_refusal}
use Rattle.check_source.specs.Refusal.{wrongly_placed, refusal as source_refusal}
use Rattle.check_kernel_statements.specs.Statements.{is_atom, is_atom_minus, is_atom_operation, is_atom_element, atom_arguments, is_atom_call, fits_variable, is_assignment, is_block as is_kernel_block, is_kernel_if, is_kernel_while, is_kernel_expression, is_kernel_return, is_kernel_parameter, is_of_function, is_kernel_statement, not_kernel_form}
use Rattle.check_labels.specs.Labels.{is_label, repeated_label, owning, owner_at, around_at, label_behind, label_ahead, goto_without_label, label_fault}
use Rattle.check_kernel.specs.Refusal.{refusal as kernel_refusal}
use Rattle.check_plain.specs.Refusal.{plain_refusal}
use Rattle.check_brief.specs.Brief.{targets, times, brief_causes, brief_structure, brief_depth, brief_source, brief_kernel}
use Rattle.check_brief.specs.BriefLaws.{same_source, same-kernel, map_same}
use Rattle.check_answers.specs.Sample.{Sample}
use Rattle.check_answers.specs.FunctionSamples.{function_samples}
use Rattle.check_answers.specs.KernelFunctionSamples.{kernel_function_samples, plain_samples}

abbrev pub expected : Sample → Result (Unit {0}) NumberedRefusal
expected sample = sample.answer

-- ---- source programs

abbrev pub source_checked : Sample → Result (Unit {0}) NumberedRefusal
source_checked sample = source_refusal sample.header sample.rows

abbrev source_tested : Sample → Result (Unit {0}) NumberedRefusal
source_tested sample = brief_source sample.header sample.rows

source-tested : map source_tested function_samples ≡ map expected function_samples
unfolding same_word natural word_at number_at layout_of sum store_size header_store all_within header_fits count_fits foreign fits leads_right mislinked bounds_of number_fits outside kind_of kind_in kinds sort_in kind_row expression_fields statement_fields mark_fields definition_fields member_fields sort_of sort_at in_language is_expression is_place is_statement is_block is_arm is_link is_required link target lone_block not_once linker received note_by note at unless ◌next◌ lowest some lowest_row some_field targets times brief_causes brief_structure brief_depth brief_source same_mark item_of item_at earlier_of earlier_at some_from some_earlier repeated handed note_at out_of_place misplaced is_declaration declarations_before is_name outside_block names_number named_within named_from names_itself same_number declared_before one_too_many declaration_refusal is_definition is_call is_return returns_outside out_of_order wrong_call function_refusal wrongly_placed role_sort is_parameter is_parameter_by links_parameter declared_twice declared_as_parameter is_argument parameter_sort parameter_fields function_around around_of function_at definition_from not_lower wrong_count wrong_call_of rows_from list_length body_of body_at some_of_list
source-tested = refl

pub source-functions-answer : map source_checked function_samples ≡ map expected function_samples
source-functions-answer = map_same source_checked source_tested (λ sample. same_source sample.header sample.rows) function_samples ∙ source-tested

-- ---- kernel programs

abbrev pub kernel_checked : Sample → Result (Unit {0}) NumberedRefusal
kernel_checked sample = kernel_refusal sample.header sample.rows

abbrev kernel_tested : Sample → Result (Unit {0}) NumberedRefusal
kernel_tested sample = brief_kernel sample.header sample.rows

kernel-tested : map kernel_tested kernel_function_samples ≡ map expected kernel_function_samples
unfolding natural word_at number_at layout_of sum store_size header_store all_within header_fits count_fits foreign fits leads_right mislinked role_sort is_parameter is_parameter_by links_parameter bounds_of number_fits outside kind_of kind_in kinds sort_in kind_row expression_fields statement_fields mark_fields member_fields sort_of sort_at in_language is_expression is_place is_statement is_link is_required link target lone_block not_once linker received note_by note at unless ◌next◌ lowest some lowest_row some_field targets times brief_causes brief_structure brief_depth brief_kernel is_label repeated_label owning owner_at around_at label_behind label_ahead goto_without_label label_fault is_declaration declared_before is_definition is_call is_return returns_outside out_of_order wrong_call function_refusal is_atom is_atom_minus is_atom_operation is_atom_element is_atom_call is_kernel_return is_kernel_parameter is_of_function fits_variable is_assignment is_kernel_block is_kernel_if is_kernel_while is_kernel_expression is_kernel_statement not_kernel_form atom_arguments is_argument parameter_sort parameter_fields function_around around_of function_at definition_from not_lower wrong_count wrong_call_of rows_from list_length definition_fields is_block same_number earlier_of earlier_at some_from some_earlier
kernel-tested = refl

pub kernel-functions-answer : map kernel_checked kernel_function_samples ≡ map expected kernel_function_samples
kernel-functions-answer = map_same kernel_checked kernel_tested (λ sample. same-kernel sample.header sample.rows) kernel_function_samples ∙ kernel-tested

-- ---- before a flat list

abbrev pub plain_checked : Sample → Result (Unit {0}) NumberedRefusal
plain_checked sample = plain_refusal sample.header sample.rows

-- 25 behind the brief test.
abbrev brief_plain : List ℤ → List ℤ → Result (Unit {0}) NumberedRefusal
brief_plain header rows = brief_kernel header rows next at 25 (lowest_row rows (is_definition rows))

same-plain : (header rows : List ℤ) → plain_refusal header rows ≡ brief_plain header rows
unfolding plain_refusal
same-plain header rows = ap (λ (verdict : Result (Unit {0}) NumberedRefusal). verdict next at 25 (lowest_row rows (is_definition rows))) (same-kernel header rows)

abbrev plain_tested : Sample → Result (Unit {0}) NumberedRefusal
plain_tested sample = brief_plain sample.header sample.rows

plain-tested : map plain_tested plain_samples ≡ map expected plain_samples
unfolding natural word_at number_at layout_of sum store_size header_store all_within header_fits count_fits foreign fits leads_right mislinked role_sort is_parameter is_parameter_by links_parameter bounds_of number_fits outside kind_of kind_in kinds sort_in kind_row expression_fields statement_fields mark_fields member_fields sort_of sort_at in_language is_expression is_place is_statement is_link is_required link target lone_block not_once linker received note_by note at unless ◌next◌ lowest some lowest_row some_field targets times brief_causes brief_structure brief_depth brief_kernel is_label repeated_label owning owner_at around_at label_behind label_ahead goto_without_label label_fault is_declaration declared_before is_definition is_call is_return returns_outside out_of_order wrong_call function_refusal is_atom is_atom_minus is_atom_operation is_atom_element is_atom_call is_kernel_return is_kernel_parameter is_of_function fits_variable is_assignment is_kernel_block is_kernel_if is_kernel_while is_kernel_expression is_kernel_statement not_kernel_form atom_arguments is_argument parameter_sort parameter_fields function_around around_of function_at definition_from not_lower wrong_count wrong_call_of rows_from list_length definition_fields is_block same_number earlier_of earlier_at some_from some_earlier
plain-tested = refl

pub plain-functions-answer : map plain_checked plain_samples ≡ map expected plain_samples
plain-functions-answer = map_same plain_checked plain_tested (λ sample. same-plain sample.header sample.rows) plain_samples ∙ plain-tested
