-- Declaration programs: the rules with declarations as source programs, whose names are numbers below V. Each stands with the rule that its
-- resolved table runs.
use Rattle.std.specs.Prelude.{List, [], ◌∷◌, ℤ}
use Rattle.language.specs.Rule.{Rule}
use Rattle.language.specs.DeclarationRules.{initial_value, faulting_value, declaring_loop, outer_around, inner_hides, rows_crossed, declared_object, initial_value_faults, declared_anew, outer_object_around, inner_object_hides, words_in_row_order}

pub record DeclarationProgram : Type 0 where
  pub rows : List ℤ
  pub rule : Rule

abbrev declaring : List ℤ → Rule → DeclarationProgram
declaring rows rule = record { rows = rows; rule = rule }

-- Every object is declared as v0.
abbrev pub declaration_programs : List DeclarationProgram
declaration_programs =
    declaring (initial_value 0) declared_object ∷
    declaring (faulting_value 0) initial_value_faults ∷
    declaring (declaring_loop 0) declared_anew ∷
    declaring (outer_around 0) outer_object_around ∷
    declaring (inner_hides 0 0) inner_object_hides ∷
    declaring (rows_crossed 0 0) words_in_row_order ∷
    []

-- The program with the start, the budget and the answer of its rule.
abbrev pub as_rule : DeclarationProgram → Rule
as_rule program = record {
  header = program.rule.header;
  rows = program.rows;
  store = program.rule.store;
  budget = program.rule.budget;
  comes_to = program.rule.comes_to;
}
