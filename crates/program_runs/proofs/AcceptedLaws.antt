-- Laws of accepted programs, of both forms: what the entries need to hand them on to the machine.
use Rattle.std.specs.Prelude.{◌≡◌, true, ℕ, ◌+◌, ◌≤◌, ◌<◌, ℤ, length, Ok}
use Rattle.std.proofs.Common.{sym, ◌∙◌, arith}
use Rattle.std.proofs.Math.Path.{ap}
use mathlib.Core.List.{List}
use Rattle.words.specs.Table.{row_count}
use Rattle.words.specs.Declarations.{declaration_count, declaration_limit}
use Rattle.words.specs.Layout.{header_fits, count_fits, layout_of, store_size, declared_of, header_store, store_words, row_limit}
use Rattle.words.specs.Laws.{header_fits-facts, count_fits-facts, row_limit-most}
use Rattle.words.specs.StoreLaws.{source-store, source-small, kernel-small}
use Rattle.words.specs.declared.Form.{Form}
use Rattle.words.specs.declared.Form.TheVariants.{Source, Kernel}
use Rattle.language.specs.Program.{run_table}
use Rattle.check_fields.specs.Fields.{bounds_of}
use Rattle.check_structure.specs.Structured.{Structured}
use Rattle.names.proofs.ResolvedLaws.{resolved-length}
use Rattle.language_programs.specs.Program.{resolved_rows, run_program}
use Rattle.language_programs.specs.ResolvedRows.{resolved-store}
use Rattle.check_function_causes.specs.Demands.{WellCalled}
use Rattle.machine_operations.specs.Functions.{SoundCalls}
use Rattle.accepted_calls.specs.Tables.{FunctionTable, FewParameters}
use Rattle.accepted_calls.proofs.Structured.{function-table}
use Rattle.accepted_kernel.specs.Parameters.{parameter-words}
use Rattle.accepted_calls.proofs.Few.{few_declared, few-worded}
use Rattle.accepted_calls.proofs.Calls.{sound-calls}
use Rattle.check_source.specs.Legal.{Legal}
use Rattle.check_source.proofs.AcceptsLegal.{accepts-legal as source-accepts}
use Rattle.check_source.specs.DeclarationLaws.{legal-declarations}
use Rattle.check_kernel.specs.Legal.{Legal as KernelLegal}
use Rattle.check_kernel.specs.Accepts.{accepts-legal as kernel-accepts}
use Rattle.accepted_rows.specs.ResolvedPrograms.{accepted-words, undeclared-table}
use Rattle.accepted.proofs.Sound.{store-sound}
use Rattle.accepted.proofs.Resolved.{table-functions, table-few, table-sound}
use Rattle.machine.specs.Whole.{Runnable}
use Rattle.program_runs.specs.Runs.{refusal_of}

accepted-structured : (form : Form) (header rows : List ℤ) → refusal_of form header rows ≡ (Ok tt) → (header_fits form header ≡ true) × Structured form (bounds_of form header) rows
accepted-structured Source header rows e = let legal = (source-accepts header rows).0 e in (legal.header-fits, legal.structured)
accepted-structured Kernel header rows e = let legal = (kernel-accepts header rows).0 e in (legal.header-fits, legal.structured)

-- "At most 64" parameters: in the source they count with the declarations, in the kernel each of a function's has a word of its own.
accepted-few : (form : Form) (header rows : List ℤ) → refusal_of form header rows ≡ (Ok tt) → FunctionTable rows → FewParameters rows
accepted-few Source header rows e table = few_declared rows table (legal-declarations header rows ((source-accepts header rows).0 e))
accepted-few Kernel header rows e table =
    let legal = (kernel-accepts header rows).0 e in
    few-worded rows table (store_size (layout_of Kernel header)) (declared_of Kernel header) legal.not_twice (parameter-words header rows legal table)
    (header_fits-facts Kernel header legal.header-fits).few_declared

accepted-called : (form : Form) (header rows : List ℤ) → refusal_of form header rows ≡ (Ok tt) → WellCalled rows
accepted-called Source header rows e = ((source-accepts header rows).0 e).well_called
accepted-called Kernel header rows e = ((kernel-accepts header rows).0 e).well_called

module _ (form : Form) (header rows : List ℤ) (accepted : refusal_of form header rows ≡ (Ok tt)) where
  -- its functions and calls
  accepted-functions : FunctionTable rows
  accepted-functions = function-table form (bounds_of form header) rows (accepted-structured form header rows accepted).1 (accepted-called form header rows accepted)

  pub accepted-header : header_fits form header ≡ true
  accepted-header = (accepted-structured form header rows accepted).0

  pub accepted-count : count_fits form (length rows) ≡ true
  accepted-count = (accepted-structured form header rows accepted).1.count-fits

  pub accepted-rows : row_count rows ≤ row_limit form
  accepted-rows = omega (arith, (count_fits-facts form (length rows) accepted-count).most)

  -- the machine may walk the rows as they stand
  pub accepted-runnable : (store : List ℤ) → length store ≡ store_words form header rows → Runnable form header rows store
  accepted-runnable store size = record {
    fits = accepted-header;
    sound = rw size (store-sound form header rows (accepted-structured form header rows accepted).1);
    calls = sound-calls rows accepted-functions (accepted-few form header rows accepted accepted-functions);
    words = size;
    few_rows = omega (arith, accepted-rows, row_limit-most form);
  }

-- ---- source programs

-- the calls of the resolved table
resolved-calls : (header rows : List ℤ) → Legal header rows → SoundCalls (resolved_rows Source header rows)
resolved-calls header rows legal = sound-calls (resolved_rows Source header rows) (table-functions header rows legal) (table-few header rows legal)

-- The machine may walk the resolved table, wherever it stands, and its run is the program's.
module _ (header rows table : List ℤ) (is : table ≡ resolved_rows Source header rows) where
  pub table-runnable : refusal_of Source header rows ≡ (Ok tt) → (store : List ℤ) → length store ≡ store_words Source header rows → Runnable Source header table store
  table-runnable accepted store size = record {
    fits = accepted-header Source header rows accepted;
    sound = rw (is, size, source-store header rows) (table-sound header rows ((source-accepts header rows).0 accepted));
    calls = rw is (resolved-calls header rows ((source-accepts header rows).0 accepted));
    words = size ∙ sym (ap (store_words Source header) is ∙ resolved-store header rows);
    few_rows = omega (arith, ap length is, resolved-length (store_size (layout_of Source header)) rows, accepted-words header rows accepted);
  }

  pub table-rows : refusal_of Source header rows ≡ (Ok tt) → row_count table ≤ 2048
  table-rows accepted = omega (arith, ap length is, resolved-length (store_size (layout_of Source header)) rows, accepted-words header rows accepted)

  pub table-run : (budget : ℕ) (store : List ℤ) → run_table Source header table budget store ≡ run_program Source header rows budget store
  unfolding run_program
  table-run budget store = ap (λ (rows : List ℤ). run_table Source header rows budget store) is

-- With a store of S words there are no declarations: the rows are their own resolved table.
pub undeclared-store : (header rows : List ℤ) → refusal_of Source header rows ≡ (Ok tt) → (words : ℕ) → words ≡ store_words Source header rows → words ≡ store_size (layout_of Source header)
    → rows ≡ resolved_rows Source header rows
undeclared-store header rows accepted words all first = sym (undeclared-table header rows accepted (omega (arith, all, first, source-store header rows)))

-- "There are D of them, at most 64."
pub accepted-declarations : (header rows : List ℤ) → refusal_of Source header rows ≡ (Ok tt) → declaration_count rows ≤ declaration_limit
accepted-declarations header rows e = legal-declarations header rows ((source-accepts header rows).0 e)

pub source_words : (header rows : List ℤ) → refusal_of Source header rows ≡ (Ok tt) → store_words Source header rows ≤ 8256
source_words header rows e =
    omega (arith, source-small header rows (accepted-header Source header rows e), accepted-declarations header rows e)

pub kernel_words : (header rows : List ℤ) → refusal_of Kernel header rows ≡ (Ok tt) → header_store Kernel header ≤ 16448
kernel_words header rows e = kernel-small header (accepted-header Kernel header rows e)
