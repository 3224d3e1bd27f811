-- Functions of a source program: it has some where a row of it is a definition, and then its translation has its first one in row 1.
use Rattle.std.specs.Prelude.{◌≡◌, refl, true, false, List, ℕ, ◌<◌, ℤ, Some}
use Rattle.std.proofs.Common.{sym, ap, ◌∙◌, true≢false, arith}
use Rattle.std.proofs.Math.Decide.{ℕ_discrete}
use Rattle.words.specs.Table.{row_count, number_at}
use Rattle.words.specs.Layout.{layout_of, store_size}
use Rattle.words.specs.Search.{lowest_row}
use Rattle.words.specs.SearchLaws.{lowest-at}
use Rattle.words.specs.declared.Form.TheVariants.{Source}
use Rattle.language.specs.Trees.{block, Items}
use Rattle.language.specs.Functions.{function_count}
use Rattle.language.specs.Program.{contents}
use Rattle.language_programs.specs.Program.{resolved_rows}
use Rattle.translation.specs.KernelForm.{KernelProgram, kernel_main, kernel_define}
use Rattle.check_structure.specs.NoteLaws.{above_zero}
use Rattle.names.proofs.ResolvedLaws.{resolved-count}
use Rattle.check_function_causes.specs.Functions.{is_definition}
use Rattle.check_function_causes.proofs.FrontLaws.{front-defines, front-inside}
use Rattle.check_source.specs.Legal.{Legal}
use Rattle.accepted_calls.specs.Tables.{FunctionTable}
use Rattle.accepted_calls.proofs.Front.{function-below, function-defined}
use Rattle.accepted_calls.specs.Resolved.{same-definition, resolved-alike}
use Rattle.accepted.proofs.Resolved.{table-functions}
use Rattle.language_emission.specs.Emitted.{EmittedStatement, block_at, EmittedItems, define-at}
use Rattle.translation_legal.proofs.EmittedFunctions.{plain-count}
use Rattle.flat_source.specs.SourceFlat.{WithoutFunctions}

module _ (header rows : List ℤ) (legal : Legal header rows) where
  abbrev S : ℕ
  S = store_size (layout_of Source header)

  abbrev table : List ℤ
  table = resolved_rows Source header rows

  functions : FunctionTable table
  functions = table-functions header rows legal

  pub none-without : WithoutFunctions rows → function_count (contents table) ≡ 0
  none-without none = go (ℕ_discrete (function_count (contents table)) 0)
    where
      go : Dec (function_count (contents table) ≡ 0) → function_count (contents table) ≡ 0
      go (yes z) = z
      go (no z) =
          let front = (function-defined table functions 0 (above_zero _ z)).front in
          let row = (function-defined table functions 0 (above_zero _ z)).definition in
          absurd (true≢false (sym (front-defines table front) ∙ same-definition (resolved-alike S rows) row ∙ none row (rw (resolved-count S rows) at (front-inside table front))))

  pub some_with : (row : ℕ) → row < row_count rows → is_definition rows row ≡ true → 0 < function_count (contents table)
  some_with row n d =
      let own = same-definition (resolved-alike S rows) row ∙ d in
      let place = function-below table functions (functions.well_called.in_order row (rw (resolved-count S rows) n) own) in
      omega arith

-- ---- the table of a program with functions

-- The first definition stands in row 1, behind the block of the program.
pub first-definition : (rows : List ℤ) (program : Items) → EmittedStatement rows (block program) 0 0 → KernelProgram program → 0 < function_count program → lowest_row rows (is_definition rows) ≡ Some 1
unfolding lowest_row is_definition
first-definition rows program (block_at r m) form some = go m form some
  where
    first : (k : ℕ) → k ≡ 0 → is_definition rows k ≡ false
    first k z = rw (z, r.kind_is)

    go : {is : Items} → EmittedItems rows is 1 → KernelProgram is → 0 < function_count is → lowest_row rows (is_definition rows) ≡ Some 1
    go m (kernel_main k) some = absurd (let none = plain-count k in omega arith)
    go (define-at q p b n) (kernel_define k form) some =
        lowest-at (is_definition rows) 1 (row_count rows) 0 (omega arith) (omega (arith, q.inside)) (rw q.kind_is) (λ k l h. first k (omega arith))
