-- Source answers: the check answers each source sample as it must, by computing a brief test that answers the same.
use Rattle.std.specs.Prelude.{◌≡◌, refl, map, Result}
use Rattle.words.specs.Refusals.{NumberedRefusal}
use Rattle.std.proofs.Common.{◌∙◌}
use Rattle.words.specs.Word.{same_word, natural}
use Rattle.words.specs.Table.{word_at, number_at}
use Rattle.words.specs.Layout.{layout_of, sum, store_size, header_store, all_within, header_fits, count_fits}
use Rattle.words.specs.Links.{fits, is_expression, is_place, is_statement, is_block, is_arm, link, target, linker, received, note_by, note}
use Rattle.words_roles.specs.Roles.{links_parameter, is_parameter_by, is_parameter, role_sort}
use Rattle.check_fields.specs.Fields.{foreign, leads_right, mislinked, bounds_of, number_fits, outside}
use Rattle.words.specs.Kinds.{kind_of, kind_in, kinds, sort_in, kind_row, expression_fields, statement_fields, mark_fields, definition_fields, member_fields, sort_of, sort_at, in_language, is_link, is_required}
use Rattle.check_structure.specs.Links.{lone_block, not_once}
use Rattle.check_structure.specs.Refusal.{at, unless, ◌next◌}
use Rattle.words.specs.Search.{lowest, some, lowest_row, some_field}
use Rattle.check_items.specs.Items.{item_of, item_at, earlier_of, earlier_at, some_from, some_earlier}
use Rattle.check_marks.specs.Marks.{same_mark, repeated}
use Rattle.check_notes.specs.RowNotes.{handed, note_at}
use Rattle.check_places.specs.Places.{out_of_place, misplaced}
use Rattle.words.specs.Declarations.{is_declaration, declarations_before}
use Rattle.names.specs.Names.{is_name}
use Rattle.check_declaration_causes.specs.Causes.{outside_block, names_number, named_within, named_from, names_itself, same_number, declared_before, one_too_many, declaration_refusal, declared_twice}
use Rattle.check_parameter_causes.specs.Parameters.{body_of, body_at, some_of_list, declared_as_parameter}
use Rattle.check_function_causes.specs.Functions.{is_call, is_return}
use Rattle.words_roles.specs.Roles.{links_parameter, is_parameter_by, is_parameter, role_sort, is_definition}
use Rattle.check_function_causes.specs.Causes.{returns_outside, out_of_order, wrong_call, function_refusal}
use Rattle.check_source.specs.Refusal.{wrongly_placed, refusal}
use Rattle.check_brief.specs.Brief.{targets, times, brief_causes, brief_structure, brief_depth, brief_source}
use Rattle.check_brief.specs.BriefLaws.{same_source, map_same}
use Rattle.check_answers.specs.Sample.{Sample}
use Rattle.check_answers.specs.SourceSamples.{source_samples}

abbrev pub checked : Sample → Result (Unit {0}) NumberedRefusal
checked sample = refusal sample.header sample.rows

abbrev pub expected : Sample → Result (Unit {0}) NumberedRefusal
expected sample = sample.answer

-- A brief test of it.
abbrev tested : Sample → Result (Unit {0}) NumberedRefusal
tested sample = brief_source sample.header sample.rows

samples-tested : map tested source_samples ≡ map expected source_samples
unfolding same_word natural word_at number_at layout_of sum store_size header_store all_within header_fits count_fits foreign fits leads_right mislinked bounds_of number_fits outside kind_of kind_in kinds sort_in kind_row expression_fields statement_fields mark_fields definition_fields member_fields sort_of sort_at in_language is_expression is_place is_statement is_block is_arm is_link is_required link target lone_block not_once linker received note_by note at unless ◌next◌ lowest some lowest_row some_field targets times brief_causes brief_structure brief_depth brief_source same_mark item_of item_at earlier_of earlier_at some_from some_earlier repeated handed note_at out_of_place misplaced is_declaration declarations_before is_name outside_block names_number named_within named_from names_itself same_number declared_before one_too_many declaration_refusal is_definition is_call is_return returns_outside out_of_order wrong_call function_refusal wrongly_placed role_sort is_parameter is_parameter_by links_parameter declared_twice declared_as_parameter body_of body_at some_of_list
samples-tested = refl

pub source-answers : map checked source_samples ≡ map expected source_samples
source-answers = map_same checked tested (λ sample. same_source sample.header sample.rows) source_samples ∙ samples-tested
