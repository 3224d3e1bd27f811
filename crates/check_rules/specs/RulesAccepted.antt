-- Rules accepted: the check accepts every rule of the table, by computing a brief test; so each is legal, and the check does not turn all
-- programs down.
use Rattle.std.specs.Prelude.{◌≡◌, refl, List, [], ◌∷◌, map, Ok, Result}
use Rattle.words.specs.Refusals.{NumberedRefusal}
use Rattle.std.proofs.Common.{◌∙◌}
use Rattle.words.specs.Word.{same_word, natural}
use Rattle.words.specs.Table.{word_at, number_at}
use Rattle.words.specs.Layout.{layout_of, sum, store_size, all_within, header_fits, count_fits, header_store}
use Rattle.language.specs.Rule.{Rule}
use Rattle.language.specs.Rules.{table}
use Rattle.words.specs.Links.{fits, is_expression, is_place, is_statement, is_block, is_arm, link, target, linker, received, note_by, note}
use Rattle.words_roles.specs.Roles.{links_parameter, is_parameter_by, is_parameter, role_sort}
use Rattle.check_fields.specs.Fields.{foreign, leads_right, mislinked, bounds_of, number_fits, outside}
use Rattle.words.specs.Kinds.{sort_of, sort_at, in_language, is_link, is_required, kinds, kind_in, kind_of, sort_in, kind_row, expression_fields, statement_fields, mark_fields, member_fields}
use Rattle.check_structure.specs.Links.{lone_block, not_once}
use Rattle.check_structure.specs.Refusal.{at, unless, ◌next◌}
use Rattle.words.specs.Search.{lowest, some, lowest_row, some_field}
use Rattle.check_items.specs.Items.{item_of, earlier_of, earlier_at, some_from, some_earlier}
use Rattle.check_marks.specs.Marks.{same_mark, repeated}
use Rattle.check_notes.specs.RowNotes.{handed, note_at}
use Rattle.check_places.specs.Places.{out_of_place, misplaced}
use Rattle.words.specs.Declarations.{is_declaration}
use Rattle.check_parameter_causes.specs.Parameters.{declared_as_parameter}
use Rattle.check_declaration_causes.specs.Causes.{outside_block, names_itself, declared_before, declared_twice, one_too_many, declaration_refusal}
use Rattle.check_function_causes.specs.Functions.{is_call, is_return}
use Rattle.words_roles.specs.Roles.{links_parameter, is_parameter_by, is_parameter, role_sort, is_definition}
use Rattle.check_function_causes.specs.Causes.{returns_outside, out_of_order, wrong_call, function_refusal}
use Rattle.check_source.specs.Refusal.{wrongly_placed, refusal}
use Rattle.check_source.specs.Legal.{Legal}
use Rattle.check_source.proofs.AcceptsLegal.{accepts-legal}
use Rattle.check_brief.specs.Brief.{targets, times, brief_causes, brief_structure, brief_depth, brief_source}
use Rattle.check_brief.specs.BriefLaws.{same_source, map_same}

-- What the check answers of a rule's program.
abbrev pub checked : Rule → Result (Unit {0}) NumberedRefusal
checked rule = refusal rule.header rule.rows

abbrev pub accepted : Rule → Result (Unit {0}) NumberedRefusal
accepted rule = Ok tt

-- A brief test of it.
abbrev tested : Rule → Result (Unit {0}) NumberedRefusal
tested rule = brief_source rule.header rule.rows

table-tested : map tested table ≡ map accepted table
unfolding same_word natural word_at number_at layout_of sum store_size header_store all_within header_fits count_fits foreign fits leads_right mislinked role_sort is_parameter is_parameter_by links_parameter bounds_of number_fits outside kind_of kind_in kinds sort_in kind_row expression_fields statement_fields mark_fields member_fields sort_of sort_at in_language is_expression is_place is_statement is_block is_arm is_link is_required link target lone_block not_once linker received note_by note at unless ◌next◌ lowest some lowest_row some_field targets times brief_causes brief_structure brief_depth brief_source same_mark item_of earlier_of earlier_at some_from some_earlier repeated handed note_at out_of_place misplaced is_declaration outside_block names_itself declared_before declared_twice declared_as_parameter one_too_many declaration_refusal is_definition is_call is_return returns_outside out_of_order wrong_call function_refusal wrongly_placed
table-tested = refl

pub rules-accepted : map checked table ≡ map accepted table
rules-accepted = map_same checked tested (λ rule. same_source rule.header rule.rows) table ∙ table-tested

-- Each of a list of rules is legal.
abbrev pub AllLegal : List Rule → Type 0
AllLegal [] = Unit {0}
AllLegal (rule ∷ rest) = Legal rule.header rule.rows × AllLegal rest

pub accepted-all-legal : (rules : List Rule) → map checked rules ≡ map accepted rules → AllLegal rules
accepted-all-legal [] e = tt
accepted-all-legal (rule ∷ rest) e =
    let first : checked rule ≡ Ok tt = cc in
    let others : map checked rest ≡ map accepted rest = cc in
    ((accepts-legal rule.header rule.rows).0 first, accepted-all-legal rest others)

pub rules-legal : AllLegal table
rules-legal = accepted-all-legal table rules-accepted
