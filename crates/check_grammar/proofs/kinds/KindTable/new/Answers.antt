-- The array is the table of kinds, by computing both.
use mathlib.Core.Path.{refl}
use Rattle.words.specs.Kinds.{kind_of, kind_in, kinds, kind_row, expression_fields, statement_fields, mark_fields, definition_fields, member_fields}
use Rattle.check_grammar.specs.Grammar.{grammar}
use Rattle.check_grammar.proofs.kinds.KindTable.new.Goals as goal

pub invariant_of-result : goal.invariant_of-result
unfolding grammar kind_of kind_in kinds kind_row expression_fields statement_fields mark_fields definition_fields member_fields
invariant_of-result c = record { is_grammar = refl }
