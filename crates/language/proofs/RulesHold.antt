-- The theorem: every rule of the four tables holds, by computing the run of its rows.
use Rattle.std.specs.Prelude.{refl}
use Rattle.words.specs.Word.{is_word, same_word, natural}
use Rattle.words.specs.Table.{word_at, number_at}
use Rattle.words.specs.Kinds.{kinds, kind_in, kind_of, kind_at}
use Rattle.words.specs.Declarations.{is_declaration}
use Rattle.words.specs.Layout.{layout_of, sum, array_length, array_base}
use Rattle.arithmetic.specs.Arithmetic.{in_word, is_true, bit, truth, logical_not, minus, dividing, remainder_by, apply, element}
use Rattle.computation.specs.Run.{run}
use Rattle.language.specs.Trees.{same_mark, has}
use Rattle.language.specs.Decode.{expression_of, arguments_of, values_of, values_by, expression_at, arguments_at, parameters_by, parameters_at, statement_of, items_of, arms_of, trees_of, trees_by, statement_at, items_at, decode}
use Rattle.language.specs.Meaning.{evaluate, perform}
use Rattle.language.specs.Functions.{function_of, function_count, storing, invoke, call_by, context_of}
use Rattle.language.specs.Program.{contents, table_program, run_table_under, run_table}
use Rattle.language.specs.RulesHold.{RulesHold}

pub rules-hold : RulesHold
unfolding is_word same_word natural word_at number_at kinds kind_in kind_of kind_at layout_of sum array_length array_base in_word is_true bit truth logical_not minus dividing remainder_by apply element run same_mark has expression_of arguments_of values_of values_by expression_at arguments_at is_declaration parameters_by parameters_at statement_of items_of arms_of trees_of trees_by statement_at items_at decode evaluate perform function_of function_count storing invoke call_by context_of contents table_program run_table_under run_table
rules-hold = record { source = refl; kernel = refl; declarations = refl; functions = refl }
