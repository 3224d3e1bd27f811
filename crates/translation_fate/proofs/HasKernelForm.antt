-- The theorem: every accepted program has a kernel form that is legal, shares its fate, makes the same writes and hides its temporaries.
use Rattle.std.specs.Prelude.{◌≡◌, refl, List, ◌++◌, ℕ, ◌+◌, ◌*◌, ◌≤◌, ℤ, length, take}
use Rattle.std.proofs.Common.{sym, ap₂, ◌∙◌, append_assoc, length-append, take_at, take-take}
use Rattle.std.proofs.Math.Path.{ap}
use native.Mathlib.Omega.{arith}
use Rattle.words.specs.Table.{row_count}
use Rattle.words.specs.Declarations.{declaration_count}
use Rattle.words.specs.Layout.{Layout, layout_of, store_size, store_words, declared_of, temporaries_of}
use Rattle.words.specs.StoreLaws.{source-store, size-least}
use Rattle.words.specs.Laws.{count_fits-facts}
use Rattle.words.specs.declared.Form.TheVariants.{Source, Kernel}
use Rattle.words.specs.declared.Ending.{Ending}
use Rattle.words.specs.declared.Ending.TheVariants.{Spent}
use Rattle.computation.specs.Run.{Result, ok, stopped, spent, fault, steps, run, start, final, ending_of, Settled}
use Rattle.computation.proofs.RunLaws.{store-keeps-length}
use Rattle.computation.specs.Unlimited.{Ends}
use Rattle.computation.specs.WritesMade.{made}
use Rattle.language.specs.Trees.{block, Items}
use Rattle.language.specs.Decode.{decode}
use Rattle.language.specs.Meaning.{Signal, exec}
use Rattle.language.specs.FunctionWrites.{functions_write}
use Rattle.language.specs.Program.{Finished, contents, finished, table_program, run_table_under, run_table}
use Rattle.language_programs.specs.Program.{resolved_rows, run_under, run_program}
use Rattle.language.specs.Sizes.{statement_rows, statement_depth}
use Rattle.language.specs.WellFormed.{SourceTree}
use Rattle.translation.specs.Translate.{translate, temporaries}
use Rattle.translation.proofs.TranslatePreserves.{source_program, kernel_program, SameWords, SharedFate as TreesShareFate, translation-preserves}
use Rattle.translation.proofs.WritesShown.{SameWrites as TreesWriteAlike}
use Rattle.translation.proofs.SameWrites.{translation-writes}
use Rattle.translation.proofs.TranslateBounds.{rows_bound, temporaries-bound}
use Rattle.translation.specs.Copies.{statement_copies, own_copies, own_results, program_total}
use Rattle.translation.proofs.CopyLaws.{copies-exactly}
use Rattle.translation_form.proofs.TranslateKernel.{header-layout, header-declared, header-temporaries}
use Rattle.language_emission.specs.EmissionLaws.{length-emit}
use Rattle.check_structure.specs.StructuredLaws.{structured-tree}
use Rattle.translation_legal.specs.OwnWords.{OwnParameters}
use Rattle.translation_legal.proofs.EmittedLegal.{translated-legal, translated-decodes, translated-contents}
use Rattle.check_source.specs.Legal.{Legal}
use Rattle.check_source.proofs.AcceptsLegal.{accepts-legal as source-accepts}
use Rattle.check_source.specs.DeclarationLaws.{legal-declarations}
use Rattle.check_kernel.specs.Accepts.{accepts-legal as kernel-accepts}
use Rattle.accepted.proofs.Resolved.{table-block, table-functions, table-tree, table-rows, table-depth}
use Rattle.translation_fate.specs.Fate.{SourceEnds, KernelEnds, SharedFate}
use Rattle.translation_fate.specs.SameWrites.{SameWrites}
use Rattle.translation_fate.specs.Views.{DispatcherView, dispatcher_view, HidesTemporaries}
use Rattle.translation_fate.specs.DeclaredWords.{declared-hidden, declared-write-alike}
use Rattle.translation_fate.specs.ParameterWords.{own-parameters}
use Rattle.translation_fate.specs.KernelForms.{kernel_header_of, kernel_rows_of, KernelFormOf, HasKernelForm}
use Rattle.translation_fate.proofs.KernelFormLaws.{program, first, few, shallow, declared, own, shared-fate, same_writes, hides_temporaries, kernel-rows, source-rows, kernel-temporaries, copies_allowed}

module _ (header rows : List ℤ) (legal : Legal header rows) where
  kernel-form-of : KernelFormOf header rows (kernel_header_of header rows) (kernel_rows_of header rows)
  unfolding kernel_header_of kernel_rows_of
  kernel-form-of = record {
    accepted = (kernel-accepts (kernel_header_of header rows) (kernel_rows_of header rows)).1 (rw (source-store header rows) (translated-legal header (program header rows legal) legal.header-fits (few header rows legal) (shallow header rows legal) (declaration_count rows) (declared header rows legal) (table-tree header rows legal) (own header rows legal)));
    share_fate = λ store own others temporaryWords s d k t. shared-fate header rows legal store own others temporaryWords s d k t;
    write_alike = λ store own others temporaryWords s d k t. same_writes header rows legal store own others temporaryWords s d k t;
    hides_temporaries = hides_temporaries header rows legal;
    few_rows = omega (arith, kernel-rows header rows legal, rows_bound (first header rows legal) (program header rows legal), source-rows header rows legal);
    few_temporaries = omega (arith, kernel-temporaries header rows legal, temporaries-bound (program header rows legal), source-rows header rows legal);
    copies_allowed = copies_allowed header rows legal;
  }

-- Demands 2 and 3 and Changes 9 and 14, for every accepted program.
pub has-kernel-form : (header rows : List ℤ) → HasKernelForm header rows
has-kernel-form header rows e = kernel-form-of header rows ((source-accepts header rows).0 e)
