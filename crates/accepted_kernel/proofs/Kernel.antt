-- Kernel: what a legal kernel program gives to its users.
use Rattle.std.specs.Prelude.{◌≡◌, List, ◌≤◌, ℤ}
use Rattle.std.proofs.Common.{arith}
use Rattle.words.specs.Laws.{by_cases}
use Rattle.words.specs.Table.{row_count, Whole}
use Rattle.words.specs.Layout.{layout_of, header_store}
use Rattle.words.specs.declared.Form.TheVariants.{Kernel}
use Rattle.computation.specs.Run.{Limit, start}
use Rattle.language.specs.Trees.{block}
use Rattle.language.specs.Decode.{decode}
use Rattle.language.specs.Meaning.{next}
use Rattle.language.specs.Functions.{function_count, context_of}
use Rattle.language.specs.Calls.{CallsInOrder}
use Rattle.language.proofs.PlainTables.{no-functions}
use Rattle.language.specs.Program.{contents, table_program, run_table_under}
use Rattle.language.specs.Sizes.{statement_rows, statement_depth}
use Rattle.language.specs.Sound.{Sound}
use Rattle.translation.specs.KernelForm.{KernelProgram}
use Rattle.translation.specs.PlainKernel.{PlainKernel, plain-kernel}
use Rattle.check_function_causes.specs.Functions.{is_definition}
use Rattle.check_kernel.specs.Legal.{Legal}
use Rattle.check_plain.specs.Plain.{Plain}
use Rattle.check_plain.specs.PlainLaws.{plain-number}
use Rattle.accepted_calls.specs.Tables.{FunctionTable}
use Rattle.accepted_calls.proofs.Calls.{calls-in-order}
use Rattle.accepted_calls.proofs.Front.{function-below}
use Rattle.accepted_calls.proofs.Structured.{function-table}
use Rattle.accepted.specs.Gives.{Gives}
use Rattle.accepted.proofs.Sound.{header-sound}
use Rattle.accepted.proofs.Statements.{program-block}
use Rattle.accepted.proofs.Rows.{decoded-rows}
use Rattle.accepted.proofs.Depth.{structured-depth}
use Rattle.accepted_kernel.specs.Jumps.{program-lands}
use Rattle.accepted_kernel.specs.Lists.{contents-form}

module _ (header rows : List ℤ) (legal : Legal header rows) where
  -- A run may walk its rows.
  pub legal-sound : Sound rows (layout_of Kernel header) (header_store Kernel header)
  legal-sound = header-sound Kernel header rows legal.structured

  -- Its tree is the block of its items, which have kernel form.
  pub legal-block : decode rows ≡ block (contents rows)
  legal-block = program-block Kernel _ rows legal.structured

  pub legal-form : KernelProgram (contents rows)
  legal-form = contents-form header rows legal

  -- Its functions and calls are in order.
  functions : FunctionTable rows
  functions = function-table Kernel _ rows legal.structured legal.well_called

  pub legal-calls : CallsInOrder (contents rows)
  legal-calls = calls-in-order rows functions

  -- It is plain where its tree has no functions.
  pub functionless-plain : function_count (contents rows) ≡ 0 → Plain header rows
  functionless-plain e =
      record { legal = legal; no_definition = λ row n. by_cases (is_definition rows row) (λ d. absurd (let some = function-below rows functions (legal.well_called.in_order row n d) in omega arith)) (λ d. d) }

  -- Its tree has as many rows as the table. "Depth up to 512."
  pub legal-rows : statement_rows (block (contents rows)) ≡ row_count rows
  legal-rows = rw legal-block at (decoded-rows Kernel _ rows legal.structured legal.well_called.in_order)

  pub legal-depth : statement_depth (block (contents rows)) ≤ 512
  legal-depth = rw legal-block at (structured-depth Kernel _ rows legal.structured legal.shallow)

  -- "Goto: the run goes on at its label": a run that comes to its end is not on its way to a label, under any limit and from any store.
  pub legal-jumps : (limit : Limit) (store : List ℤ) → Gives (λ signal. signal ≡ next) (run_table_under limit Kernel header rows store)
  unfolding run_table_under table_program
  legal-jumps limit store = rw legal-block (program-lands (context_of (layout_of Kernel header) (contents rows)) limit (contents rows) legal-form (start store))

-- A plain one has no functions, so that its items are plain.
module _ (header rows : List ℤ) (plain : Plain header rows) where
  whole : Whole rows
  whole = (legal-sound header rows plain.legal).whole

  pub plain-functionless : function_count (contents rows) ≡ 0
  plain-functionless = no-functions rows whole (plain-number header rows plain)

  pub plain-program : PlainKernel (contents rows)
  plain-program = plain-kernel plain-functionless (legal-form header rows plain.legal) (legal-calls header rows plain.legal)
