-- Parameter lists: where each parameter of a table names a word among D behind the first S, and no two of a function the same, the functions of its
-- program have words of their own.
use Rattle.std.specs.Prelude.{◌≡◌, refl, List, ℕ, ◌<◌, ℤ}
use Rattle.std.proofs.Common.{sym, ap, subst, arith}
use Rattle.words.specs.Table.{number_at}
use Rattle.words.specs.Links.{link}
use Rattle.language.specs.Decode.{parameter_list_at}
use Rattle.language.specs.Functions.{Function}
use Rattle.language.specs.Program.{contents}
use Rattle.check_structure.specs.LinkLaws.{part-inside}
use Rattle.check_structure.specs.Structured.{Leads}
use Rattle.check_structure.specs.Lists.{Before, adjacent, further}
use Rattle.check_function_causes.specs.Demands.{Listed, ended, counted}
use Rattle.check_function_causes.proofs.FrontLaws.{front-defines, front-inside}
use Rattle.check_function_causes.proofs.LengthLaws.{length-listed}
use Rattle.check_parameter_causes.specs.Demands.{Parameter, first_parameter, next_parameter}
use Rattle.accepted_calls.specs.Tables.{FunctionTable}
use Rattle.accepted_calls.proofs.Counts.{parameter-inside, parameter-list}
use Rattle.accepted_calls.proofs.Front.{function-own, function-defined}
use Rattle.translation_legal.specs.OwnWords.{NotAmong, Apart, ParameterWord, OwnWords, OwnParameters}

module _ (S D : ℕ) (table : List ℤ) (functions : FunctionTable table)
    (within : (definition row : ℕ) → Parameter table definition row → ParameterWord S D (number_at table row 1))
    (differ : (definition earlier row : ℕ) → Parameter table definition earlier → Parameter table definition row → Before table earlier row → number_at table row 1 ≡ number_at table earlier 1 → ⊥) where
  next-leads : {definition row : ℕ} → Parameter table definition row → 0 < link table row 5 → Leads table row 5
  next-leads {definition} {row} own p = functions.tree.forward row 5 (parameter-inside table functions definition own) (omega arith) p

  -- the words behind a parameter are others
  others : {definition earlier row count : ℕ} → Parameter table definition earlier → Listed table row count → (0 < row → Parameter table definition row × Before table earlier row) → NotAmong (number_at table earlier 1) (parameter_list_at table row)
  unfolding NotAmong
  others before ended own = tt
  others {definition} {earlier} before (counted {row} {count} p rest) own =
      let here = (own p).0 in
      rw (parameter-list table functions definition row p here) (
        differ definition earlier row before here (own p).1,
        others before rest (λ s. let leads = next-leads here s in (next_parameter here leads, further (own p).1 leads)),
      )

  own-words : {definition row count : ℕ} → Listed table row count → (0 < row → Parameter table definition row) → OwnWords S D (parameter_list_at table row)
  unfolding Apart
  own-words ended own = record { declared = tt; apart = tt }
  own-words {definition} (counted {row} {count} p rest) own =
      let here = own p in
      let onward = own-words rest (λ s. next_parameter here (next-leads here s)) in
      rw (parameter-list table functions definition row p here) (record {
        declared = (within definition row here, onward.declared);
        apart = (others here rest (λ s. let leads = next-leads here s in (next_parameter here leads, adjacent leads)), onward.apart);
      })

  pub own-lists : OwnParameters S D (contents table)
  own-lists f h =
      let definition = (function-defined table functions f h).definition in
      let front = (function-defined table functions f h).front in
      let listed = length-listed table functions.tree (link table definition 2) (part-inside table functions.tree definition 2 (link table definition 2) (front-inside table front) (omega arith) refl) in
      subst (OwnWords S D) (sym (ap (λ (function : Function). function.parameters) (function-own table functions front)))
      (own-words listed (λ p. first_parameter (front-defines table front) (functions.tree.forward definition 2 (front-inside table front) (omega arith) p)))
