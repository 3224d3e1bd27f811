-- Parameters: those of a legal kernel table have words of their own: cause 6 keeps each among the declared words, cause 19 no two of a function the same.
use Rattle.std.proofs.Common.{sym}
use Rattle.std.specs.Prelude.{List, ℕ, ℤ}
use Rattle.words.specs.Table.{number_at}
use Rattle.words.specs.Layout.{layout_of, store_size, declared_of}
use Rattle.words.specs.declared.Form.TheVariants.{Kernel}
use Rattle.language.specs.Program.{contents}
use Rattle.check_parameter_causes.specs.Demands.{Parameter}
use Rattle.accepted_calls.specs.Tables.{FunctionTable}
use Rattle.accepted_calls.proofs.Counts.{parameter-inside}
use Rattle.accepted_calls.proofs.Structured.{function-table}
use Rattle.check_kernel.specs.Legal.{Legal}
use Rattle.accepted_kernel.specs.Parameters.{parameter-words}
use Rattle.translation_legal.specs.OwnWords.{ParameterWord, OwnParameters}
use Rattle.translation_legal.proofs.ParameterLists.{own-lists}

module _ (header rows : List ℤ) (legal : Legal header rows) where
  functions : FunctionTable rows
  functions = function-table Kernel _ rows legal.structured legal.well_called

  within : (definition row : ℕ) → Parameter rows definition row → ParameterWord (store_size (layout_of Kernel header)) (declared_of Kernel header) (number_at rows row 1)
  within definition row own = let word = parameter-words header rows legal functions definition row own in record { least = word.0; most = word.1 }

  pub legal-parameters : OwnParameters (store_size (layout_of Kernel header)) (declared_of Kernel header) (contents rows)
  legal-parameters =
      own-lists (store_size (layout_of Kernel header)) (declared_of Kernel header) rows functions within
      (λ definition earlier row before own b e.
      legal.not_twice row (parameter-inside rows functions definition own) (functions.links.parameter definition row own) earlier b (functions.links.parameter definition earlier before) (sym e))
