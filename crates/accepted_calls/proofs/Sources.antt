-- Sources: what the translator asks of the functions and calls of a table holds.
use Rattle.std.specs.Prelude.{◌≡◌, List, ℕ, ◌≤◌, ℤ}
use Rattle.std.proofs.Common.{subst, sym}
use Rattle.words.specs.Table.{number_at}
use Rattle.language_shapes.specs.Functions.{SoundFunctions}
use Rattle.accepted_calls.specs.Tables.{FunctionTable, FewParameters}
use Rattle.accepted_calls.specs.Kinds.{block-kind}
use Rattle.accepted_calls.proofs.Front.{program-first}
use Rattle.accepted_calls.proofs.Calls.{call-defined, call-fitting, calls-in-order, few_parameters}
use Rattle.accepted_calls.proofs.Behind.{call-behind}

pub sound-functions : (rows : List ℤ) → FunctionTable rows → number_at rows 0 5 ≡ 0 → FewParameters rows → SoundFunctions rows
sound-functions rows table lone few = record {
  root = block-kind rows 0 table.block;
  order = calls-in-order rows table;
  in_front = program-first rows table;
  body-block = table.links.body-block;
  defined = call-defined rows table;
  behind = call-behind rows table lone;
  few_arguments = λ row n k. subst (λ (x : ℕ). x ≤ 64) (sym (call-fitting rows table row n k)) (few_parameters rows table few (number_at rows row 1));
}
