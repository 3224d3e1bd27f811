-- Kernel rules accepted: the kernel check accepts every rule in kernel form, by computing a brief test; so each is legal.
use Rattle.std.specs.Prelude.{◌≡◌, refl, List, [], ◌∷◌, map, Ok, Result}
use Rattle.words.specs.Refusals.{NumberedRefusal}
use Rattle.std.proofs.Common.{◌∙◌}
use Rattle.words.specs.Word.{natural}
use Rattle.words.specs.Table.{word_at, number_at}
use Rattle.words.specs.Layout.{layout_of, sum, store_size, all_within, header_fits, count_fits, header_store}
use Rattle.language.specs.Rule.{Rule}
use Rattle.language.specs.KernelRules.{kernel_table}
use Rattle.words.specs.Links.{fits, is_expression, is_place, is_statement, link, target, linker, received, note_by, note}
use Rattle.words_roles.specs.Roles.{links_parameter, is_parameter_by, is_parameter, role_sort}
use Rattle.check_fields.specs.Fields.{foreign, leads_right, mislinked, bounds_of, number_fits, outside}
use Rattle.words.specs.Kinds.{kind_of, kind_in, kinds, sort_in, kind_row, expression_fields, statement_fields, mark_fields, member_fields, sort_of, sort_at, in_language, is_link, is_required}
use Rattle.check_structure.specs.Links.{lone_block, not_once}
use Rattle.check_structure.specs.Refusal.{at, unless, ◌next◌}
use Rattle.words.specs.Search.{lowest, some, lowest_row, some_field}
use Rattle.check_kernel.specs.Accepts.{accepted-legal}
use Rattle.words.specs.Declarations.{is_declaration}
use Rattle.check_declaration_causes.specs.Causes.{declared_before}
use Rattle.words_roles.specs.Roles.{is_definition, links_parameter, is_parameter_by, is_parameter, role_sort}
use Rattle.check_function_causes.specs.Functions.{is_call, is_return}
use Rattle.check_function_causes.specs.Causes.{returns_outside, out_of_order, wrong_call, function_refusal}
use Rattle.check_labels.specs.Labels.{is_label, repeated_label, owning, owner_at, around_at, label_behind, label_ahead, goto_without_label, label_fault}
use Rattle.check_kernel.specs.Legal.{Legal}
use Rattle.check_kernel.specs.Refusal.{refusal}
use Rattle.check_kernel_statements.specs.Statements.{is_atom, is_atom_minus, is_atom_operation, is_atom_element, fits_variable, is_assignment, is_block, is_kernel_if, is_kernel_while, is_kernel_expression, is_kernel_statement, not_kernel_form, is_atom_call, is_kernel_return, is_kernel_parameter, is_of_function, atom_arguments}
use Rattle.check_brief.specs.Brief.{targets, times, brief_causes, brief_structure, brief_depth, brief_kernel}
use Rattle.check_brief.specs.BriefLaws.{same-kernel, map_same}

-- What the kernel check answers of a rule's program.
abbrev pub checked : Rule → Result (Unit {0}) NumberedRefusal
checked rule = refusal rule.header rule.rows

abbrev pub accepted : Rule → Result (Unit {0}) NumberedRefusal
accepted rule = Ok tt

-- A brief test of it.
abbrev tested : Rule → Result (Unit {0}) NumberedRefusal
tested rule = brief_kernel rule.header rule.rows

table-tested : map tested kernel_table ≡ map accepted kernel_table
unfolding natural word_at number_at layout_of sum store_size header_store all_within header_fits count_fits foreign fits leads_right mislinked role_sort is_parameter is_parameter_by links_parameter bounds_of number_fits outside kind_of kind_in kinds sort_in kind_row expression_fields statement_fields mark_fields member_fields sort_of sort_at in_language is_expression is_place is_statement is_link is_required link target lone_block not_once linker received note_by note at unless ◌next◌ lowest some lowest_row some_field targets times brief_causes brief_structure brief_depth brief_kernel is_label repeated_label owning owner_at around_at label_behind label_ahead goto_without_label label_fault is_declaration declared_before is_definition is_call is_return returns_outside out_of_order wrong_call function_refusal is_atom is_atom_minus is_atom_operation is_atom_element is_atom_call is_kernel_return is_kernel_parameter is_of_function fits_variable is_assignment is_block is_kernel_if is_kernel_while is_kernel_expression is_kernel_statement not_kernel_form atom_arguments
table-tested = refl

pub kernel-rules-accepted : map checked kernel_table ≡ map accepted kernel_table
kernel-rules-accepted = map_same checked tested (λ rule. same-kernel rule.header rule.rows) kernel_table ∙ table-tested

-- Each of a list of rules is a legal kernel program.
abbrev pub AllLegal : List Rule → Type 0
AllLegal [] = Unit {0}
AllLegal (rule ∷ rest) = Legal rule.header rule.rows × AllLegal rest

accepted-all-legal : (rules : List Rule) → map checked rules ≡ map accepted rules → AllLegal rules
accepted-all-legal [] e = tt
accepted-all-legal (rule ∷ rest) e =
    let first : checked rule ≡ Ok tt = cc in
    let others : map checked rest ≡ map accepted rest = cc in
    (accepted-legal rule.header rule.rows first, accepted-all-legal rest others)

pub kernel-rules-legal : AllLegal kernel_table
kernel-rules-legal = accepted-all-legal kernel_table kernel-rules-accepted
