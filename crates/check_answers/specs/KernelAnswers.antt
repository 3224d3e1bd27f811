-- Kernel answers: the kernel check answers each kernel sample as it must, by computing a brief test that answers the same.
use Rattle.std.specs.Prelude.{◌≡◌, refl, map, Result}
use Rattle.words.specs.Refusals.{NumberedRefusal}
use Rattle.std.proofs.Common.{◌∙◌}
use Rattle.words.specs.Word.{natural}
use Rattle.words.specs.Table.{word_at, number_at}
use Rattle.words.specs.Layout.{layout_of, sum, store_size, header_store, all_within, header_fits, count_fits}
use Rattle.words.specs.Links.{fits, is_expression, is_place, is_statement, link, target, linker, received, note_by, note}
use Rattle.words_roles.specs.Roles.{links_parameter, is_parameter_by, is_parameter, role_sort}
use Rattle.check_fields.specs.Fields.{foreign, leads_right, mislinked, bounds_of, number_fits, outside}
use Rattle.words.specs.Kinds.{kind_of, kind_in, kinds, sort_in, kind_row, expression_fields, statement_fields, mark_fields, member_fields, sort_of, sort_at, in_language, is_link, is_required}
use Rattle.check_structure.specs.Links.{lone_block, not_once}
use Rattle.check_structure.specs.Refusal.{at, unless, ◌next◌}
use Rattle.words.specs.Search.{lowest, some, lowest_row, some_field}
use Rattle.words.specs.Declarations.{is_declaration}
use Rattle.check_declaration_causes.specs.Causes.{declared_before}
use Rattle.words_roles.specs.Roles.{is_definition, links_parameter, is_parameter_by, is_parameter, role_sort}
use Rattle.check_function_causes.specs.Functions.{is_call, is_return}
use Rattle.check_function_causes.specs.Causes.{returns_outside, out_of_order, wrong_call, function_refusal}
use Rattle.check_labels.specs.Labels.{is_label, repeated_label, owning, owner_at, around_at, label_behind, label_ahead, goto_without_label, label_fault}
use Rattle.check_kernel.specs.Refusal.{refusal}
use Rattle.check_kernel_statements.specs.Statements.{is_atom, is_atom_minus, is_atom_operation, is_atom_element, fits_variable, is_assignment, is_block, is_kernel_if, is_kernel_while, is_kernel_expression, is_kernel_statement, not_kernel_form, is_atom_call, is_kernel_return, is_kernel_parameter, is_of_function, atom_arguments}
use Rattle.check_brief.specs.Brief.{targets, times, brief_causes, brief_structure, brief_depth, brief_kernel}
use Rattle.check_brief.specs.BriefLaws.{same-kernel, map_same}
use Rattle.check_answers.specs.Sample.{Sample}
use Rattle.check_answers.specs.KernelSamples.{kernel_samples}

abbrev pub checked : Sample → Result (Unit {0}) NumberedRefusal
checked sample = refusal sample.header sample.rows

abbrev pub expected : Sample → Result (Unit {0}) NumberedRefusal
expected sample = sample.answer

-- A brief test of it.
abbrev tested : Sample → Result (Unit {0}) NumberedRefusal
tested sample = brief_kernel sample.header sample.rows

samples-tested : map tested kernel_samples ≡ map expected kernel_samples
unfolding natural word_at number_at layout_of sum store_size header_store all_within header_fits count_fits foreign fits leads_right mislinked role_sort is_parameter is_parameter_by links_parameter bounds_of number_fits outside kind_of kind_in kinds sort_in kind_row expression_fields statement_fields mark_fields member_fields sort_of sort_at in_language is_expression is_place is_statement is_link is_required link target lone_block not_once linker received note_by note at unless ◌next◌ lowest some lowest_row some_field targets times brief_causes brief_structure brief_depth brief_kernel is_label repeated_label owning owner_at around_at label_behind label_ahead goto_without_label label_fault is_declaration declared_before is_definition is_call is_return returns_outside out_of_order wrong_call function_refusal is_atom is_atom_minus is_atom_operation is_atom_element is_atom_call is_kernel_return is_kernel_parameter is_of_function fits_variable is_assignment is_block is_kernel_if is_kernel_while is_kernel_expression is_kernel_statement not_kernel_form atom_arguments
samples-tested = refl

pub kernel-answers : map checked kernel_samples ≡ map expected kernel_samples
kernel-answers = map_same checked tested (λ sample. same-kernel sample.header sample.rows) kernel_samples ∙ samples-tested
