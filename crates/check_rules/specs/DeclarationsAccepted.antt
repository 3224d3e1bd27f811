-- Declarations accepted: the check accepts every declaration program, by computing a brief test; so each is legal. Its resolved table is its
-- rule's; so its run comes to what the rule says.
use Rattle.std.specs.Prelude.{◌≡◌, refl, List, [], ◌∷◌, map, ℤ, Result}
use Rattle.words.specs.Refusals.{NumberedRefusal}
use Rattle.std.proofs.Common.{ap, ap₂, ◌∙◌}
use Rattle.words.specs.Word.{same_word, natural}
use Rattle.words.specs.Table.{word_at, number_at}
use Rattle.words.specs.Layout.{layout_of, sum, store_size, all_within, header_fits, count_fits, header_store}
use Rattle.words.specs.Declarations.{is_declaration, declarations_before}
use Rattle.words.specs.declared.Form.TheVariants.{Source}
use Rattle.words.specs.Links.{fits, is_expression, is_place, is_statement, is_block, is_arm, link, target, linker, received, note_by, note}
use Rattle.words.specs.Kinds.{sort_of, sort_at, in_language, is_link, is_required, kinds, kind_in, kind_of, sort_in, kind_row, expression_fields, statement_fields, mark_fields, member_fields}
use Rattle.words.specs.Search.{lowest, some, lowest_row, some_field}
use Rattle.words_roles.specs.Roles.{links_parameter, is_parameter_by, is_parameter, role_sort, is_definition}
use Rattle.check_fields.specs.Fields.{foreign, leads_right, mislinked, bounds_of, number_fits, outside}
use Rattle.check_structure.specs.Links.{lone_block, not_once}
use Rattle.check_structure.specs.Refusal.{at, unless, ◌next◌}
use Rattle.names.specs.Names.{is_name, in_scope, scope_at, word_of, meant_from, parameter_at, meant_at, variable_word, resolved_name, resolved_word, resolved}
use Rattle.check_items.specs.Items.{item_of, item_at, earlier_of, earlier_at, some_from, some_earlier}
use Rattle.check_marks.specs.Marks.{same_mark, repeated}
use Rattle.check_notes.specs.RowNotes.{handed, note_at}
use Rattle.check_places.specs.Places.{out_of_place, misplaced}
use Rattle.check_declaration_causes.specs.Causes.{outside_block, names_number, named_within, named_from, names_itself, same_number, declared_before, one_too_many, declaration_refusal, declared_twice}
use Rattle.check_function_causes.specs.Functions.{is_call, is_return, around_of, function_around}
use Rattle.check_function_causes.specs.Causes.{returns_outside, out_of_order, wrong_call, function_refusal}
use Rattle.check_parameter_causes.specs.Parameters.{body_of, body_at, some_of_list, declared_as_parameter}
use Rattle.check_source.specs.Refusal.{wrongly_placed}
use Rattle.language.specs.Program.{Finished, run_table}
use Rattle.language.specs.Rule.{Rule}
use Rattle.language.specs.RulesHold.{runs, expected}
use Rattle.language.proofs.RulesHold.{rules-hold}
use Rattle.language_programs.specs.Program.{resolved_rows, run_program}
use Rattle.check_brief.specs.Brief.{targets, times, brief_causes, brief_structure, brief_depth, brief_source}
use Rattle.check_brief.specs.BriefLaws.{same_source, map_same}
use Rattle.check_rules.specs.RulesAccepted.{checked, accepted, AllLegal, accepted-all-legal}
use Rattle.check_rules.specs.DeclarationPrograms.{DeclarationProgram, declaration_programs, as_rule}

-- ---- legal

abbrev pub programs : List Rule
programs = map as_rule declaration_programs

-- A brief test of the check.
abbrev tested : Rule → Result (Unit {0}) NumberedRefusal
tested rule = brief_source rule.header rule.rows

programs-tested : map tested programs ≡ map accepted programs
unfolding same_word natural word_at number_at layout_of sum store_size header_store all_within header_fits count_fits foreign fits leads_right mislinked bounds_of number_fits outside kind_of kind_in kinds sort_in kind_row expression_fields statement_fields mark_fields member_fields sort_of sort_at in_language is_expression is_place is_statement is_block is_arm is_link is_required link target lone_block not_once linker received note_by note at unless ◌next◌ lowest some lowest_row some_field targets times brief_causes brief_structure brief_depth brief_source same_mark item_of item_at earlier_of earlier_at some_from some_earlier repeated handed note_at out_of_place misplaced is_declaration declarations_before is_name outside_block names_number named_within named_from names_itself same_number declared_before one_too_many declaration_refusal is_definition is_call is_return returns_outside out_of_order wrong_call function_refusal wrongly_placed role_sort is_parameter is_parameter_by links_parameter declared_twice declared_as_parameter body_at body_of some_of_list
programs-tested = refl

pub declarations-accepted : map checked programs ≡ map accepted programs
declarations-accepted = map_same checked tested (λ rule. same_source rule.header rule.rows) programs ∙ programs-tested

pub declarations-legal : AllLegal programs
declarations-legal = accepted-all-legal programs declarations-accepted

-- ---- runs

abbrev resolved_table : DeclarationProgram → List ℤ
resolved_table program = resolved_rows Source program.rule.header program.rows

abbrev table_of_rule : DeclarationProgram → List ℤ
table_of_rule program = program.rule.rows

pub declarations-resolved : map resolved_table declaration_programs ≡ map table_of_rule declaration_programs
unfolding resolved resolved_word resolved_name variable_word number_at natural word_at meant_at parameter_at function_around around_of is_definition word_of meant_from declarations_before scope_at is_declaration is_name in_scope note note_by received linker lowest target link is_link sort_at sort_of sort_in kind_of kind_in kinds kind_row expression_fields statement_fields mark_fields member_fields layout_of sum store_size
declarations-resolved = refl

-- What the run of a program comes to.
abbrev pub program_runs : Rule → Finished
program_runs rule = run_program Source rule.header rule.rows rule.budget rule.store

abbrev rule_of : DeclarationProgram → Rule
rule_of program = program.rule

-- a run of the rule's table is one of the program
all-run : (ps : List DeclarationProgram) → map resolved_table ps ≡ map table_of_rule ps → map (runs Source) (map rule_of ps) ≡ map expected (map rule_of ps)
    → map program_runs (map as_rule ps) ≡ map expected (map as_rule ps)
unfolding run_program
all-run [] same hold = refl
all-run (p ∷ ps) same hold =
    let table : resolved_table p ≡ table_of_rule p = cc in
    let tables : map resolved_table ps ≡ map table_of_rule ps = cc in
    let run : runs Source (rule_of p) ≡ expected (rule_of p) = cc in
    let others : map (runs Source) (map rule_of ps) ≡ map expected (map rule_of ps) = cc in
    ap₂ ◌∷◌ (ap (λ (rows : List ℤ). run_table Source p.rule.header rows p.rule.budget p.rule.store) table ∙ run) (all-run ps tables others)

pub declarations-hold : map program_runs programs ≡ map expected programs
declarations-hold = all-run declaration_programs declarations-resolved rules-hold.declarations
