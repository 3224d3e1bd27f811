-- Sample: a small kernel program that is legal, and what the check answers where it is damaged, by computing. So the check does not
-- turn all programs down.
use Rattle.std.specs.Prelude.{◌≡◌, refl, List, [], ◌∷◌, ℕ, ℤ, pos, set, Err, Ok, Result}
use Rattle.words.specs.Refusals.{NumberedRefusal}
use Rattle.words.specs.Word.{natural}
use Rattle.words.specs.Table.{word_at, number_at}
use Rattle.words.specs.Layout.{layout_of, sum, store_size, header_store, all_within, header_fits, count_fits}
use Rattle.words.specs.Links.{fits, is_expression, is_place, is_statement, link, target, linker, received, note_by, note}
use Rattle.words_roles.specs.Roles.{links_parameter, is_parameter_by, is_parameter, role_sort}
use Rattle.check_fields.specs.Fields.{foreign, leads_right, mislinked, bounds_of, number_fits, outside}
use Rattle.words.specs.Kinds.{sort_of, sort_at, in_language, is_link, is_required, sort_in, kind_of, kind_in, kinds, kind_row, expression_fields, statement_fields, mark_fields, member_fields}
use Rattle.check_structure.specs.Links.{links_among, link_count, lone_block, not_once, deeper, depth_at, too_deep}
use Rattle.check_structure.specs.Refusal.{at, unless, ◌next◌, row_causes, structural_refusal}
use Rattle.words.specs.Search.{lowest, some, lowest_row, some_field}
use Rattle.check_kernel.specs.Accepts.{accepted-legal}
use Rattle.check_labels.specs.Labels.{is_label, repeated_label, owning, owner_at, around_at, label_behind, label_ahead, goto_without_label, label_fault}
use Rattle.check_kernel.specs.Legal.{Legal}
use Rattle.check_kernel.specs.Refusal.{form_causes, kernel_causes, refusal}
use Rattle.check_kernel_statements.specs.Statements.{is_atom, is_atom_minus, is_atom_operation, is_atom_element, fits_variable, is_assignment, is_block, is_kernel_if, is_kernel_while, is_kernel_expression, is_kernel_statement, not_kernel_form, is_atom_call, is_kernel_return, is_kernel_parameter, is_of_function}
use Rattle.words.specs.Declarations.{is_declaration}
use Rattle.check_declaration_causes.specs.Causes.{declared_before}
use Rattle.check_function_causes.specs.Functions.{is_definition, is_call, is_return}
use Rattle.check_function_causes.specs.Causes.{returns_outside, out_of_order, wrong_call, function_refusal}

-- One variable (0), one temporary (4), one array of 3.
abbrev header : List ℤ
header = pos 1 ∷ pos 0 ∷ pos 1 ∷ pos 3 ∷ []

abbrev pub row : ℕ → ℕ → ℕ → ℕ → ℕ → List ℤ → List ℤ
row kind a b c following rest = pos kind ∷ pos a ∷ pos b ∷ pos c ∷ pos 0 ∷ pos following ∷ rest

-- v4 = 7; if (v4) { goto 0 } else {} ; label 0
abbrev program : List ℤ
program =
    row 42 1 0 0 0
    (row 41 2 0 0 5
    (row 21 3 4 0 0
    (row 2 4 0 0 0
    (row 1 7 0 0 0
    (row 43 6 7 9 10
    (row 2 4 0 0 0
    (row 42 8 0 0 0
    (row 52 0 0 0 0
    (row 42 0 0 0 0
    (row 40 0 0 0 11
    (row 53 0 0 0 0 [])))))))))))

-- The same with one word changed.
abbrev changed : ℕ → ℕ → List ℤ
changed word value = set program word (pos value)

abbrev pub refused : ℕ → ℕ → Result (Unit {0}) NumberedRefusal
refused cause place = Err (record { number = cause; place = place })

-- What the check answers, of the program and of four changes: variable number V; an else that is no block; a goto without its label; a
-- label repeated.
pub record Answers : Type 0 where
  pub whole : refusal header program ≡ (Ok tt)
  pub variable_V : refusal header (changed 19 1) ≡ refused 6 3
  pub no_block : refusal header (changed 54 40) ≡ refused 12 5
  pub no_label : refusal header (changed 49 1) ≡ refused 13 8
  pub label_twice : refusal header (changed 60 53) ≡ refused 13 11

pub sample-answers : Answers
unfolding natural word_at number_at layout_of sum store_size header_store all_within header_fits count_fits foreign fits leads_right mislinked role_sort is_parameter is_parameter_by links_parameter bounds_of number_fits outside sort_of sort_in kind_of kind_in kinds kind_row expression_fields statement_fields mark_fields member_fields sort_at in_language is_expression is_place is_statement is_link is_required link target links_among link_count lone_block not_once linker received note_by note deeper depth_at too_deep at unless ◌next◌ row_causes structural_refusal lowest some lowest_row some_field is_label repeated_label owning owner_at around_at label_behind label_ahead goto_without_label label_fault is_declaration declared_before is_return is_definition is_call returns_outside out_of_order wrong_call function_refusal form_causes kernel_causes refusal is_atom is_atom_minus is_atom_operation is_atom_element is_atom_call is_kernel_return is_kernel_parameter is_of_function fits_variable is_assignment is_block is_kernel_if is_kernel_while is_kernel_expression is_kernel_statement not_kernel_form
sample-answers = record { whole = refl; variable_V = refl; no_block = refl; no_label = refl; label_twice = refl }

pub sample-legal : Legal header program
sample-legal = accepted-legal header program sample-answers.whole
