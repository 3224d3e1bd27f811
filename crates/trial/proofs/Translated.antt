-- The kernel form of a program within the limits: 35 and 15,480 words hold its tables, 1,600 its store. So neither 10 nor 11 comes.
use Rattle.std.specs.Prelude.{Err, Ok, Result}
use mathlib.Core.Path.{◌≡◌, sym, ◌∙◌}
use mathlib.Core.List.{List}
use Prim.Native.Nat.{ℕ, ◌+◌, ◌≤◌}
use native.Mathlib.Omega.{arith}
use lib.IntN.{ℤ}
use lib.ListN.{length}
use Rattle.words.specs.Declarations.{declaration_count}
use Rattle.words.specs.Layout.{layout_of, store_size, header_store, store_words, temporaries_of}
use Rattle.words.specs.Laws.{header_fits-facts, count_fits-facts}
use Rattle.words.specs.StoreLaws.{kernel-store}
use Rattle.words.specs.declared.Form.TheVariants.{Source, Kernel}
use Rattle.words.specs.Refusals.{NumberedRefusal}
use Rattle.language.specs.Program.{contents}
use Rattle.language_programs.specs.Program.{resolved_rows}
use Rattle.translation.specs.Translate.{temporaries}
use Rattle.translation_form.proofs.TranslateKernel.{header-layout, header-declared}
use Rattle.translation_fate.specs.KernelForms.{kernel_header_of, kernel_rows_of, KernelFormOf, HasKernelForm}
use Rattle.translator.specs.Translation.{answer_and_tables, translate_result}
use Rattle.translator.proofs.TranslationLaws.{HasRoom, translation-refused}
use Rattle.program_runs.proofs.AcceptedLaws.{accepted-header, accepted-count, accepted-declarations}
use Rattle.trial.specs.Output.{kernel_output}
use Rattle.trial.specs.Conditions.{Translates, KernelFits}

module _ {header rows : List ℤ} {room : ℕ} (t : Translates header rows room) (has : HasKernelForm header rows) where
  abbrev kernel_header : List ℤ
  kernel_header = kernel_header_of header rows

  abbrev kernel_rows : List ℤ
  kernel_rows = kernel_rows_of header rows

  form : KernelFormOf header rows kernel_header kernel_rows
  form = has t.accepted

  few-numbers : length kernel_header ≤ 35
  few-numbers = let most = (header_fits-facts Kernel kernel_header (accepted-header Kernel kernel_header kernel_rows form.accepted)).most in omega arith

  few-row-words : length kernel_rows ≤ 15480
  few-row-words =
      let whole = (count_fits-facts Kernel (length kernel_rows) (accepted-count Kernel kernel_header kernel_rows form.accepted)).whole in
      omega (arith, form.few_rows, t.few_rows)

  kernel_words : store_words Kernel kernel_header kernel_rows ≡ store_size (layout_of Source header) + (declaration_count rows + temporaries_of Kernel kernel_header)
  unfolding header_store kernel_header_of
  kernel_words = kernel-store kernel_header kernel_rows ∙ rw (header-layout (layout_of Source header) (declaration_count rows) (temporaries (contents (resolved_rows Source header rows))), header-declared (layout_of Source header) (declaration_count rows) (temporaries (contents (resolved_rows Source header rows))))

  kernel-fits : KernelFits kernel_header kernel_rows (store_size (layout_of Source header)) room
  kernel-fits = record {
    accepted = form.accepted;
    inside = omega (arith, kernel_words);
    few_words = omega (arith, kernel_words, form.few_temporaries, accepted-declarations header rows t.accepted, t.few_words, t.few_rows);
    line = t.line;
  }

  -- the same of tables and a number that are these
  module _ (readHeader readRows : List ℤ) (words : ℕ) (h : readHeader ≡ kernel_header) (r : readRows ≡ kernel_rows) (w : words ≡ store_size (layout_of Source header)) where
    pub read_fits : KernelFits readHeader readRows words room
    read_fits = rw (h, r, w) kernel-fits

    pub read-output : kernel_output words readHeader readRows ≡ kernel_output (store_size (layout_of Source header)) kernel_header kernel_rows
    read-output = rw (h, r, w)

  -- tables of 35 and 15,480 words hold it
  module _ (outHeader outRows : List ℤ) (h : length outHeader ≡ 35) (r : length outRows ≡ 15480) where
    has-room : HasRoom header rows outHeader outRows
    has-room = record { header_room = omega (arith, few-numbers); rows_room = omega (arith, few-row-words) }

    pub translated-accepted : {G : Type 0} (headerLeft rows_left : List ℤ) (refusal : NumberedRefusal) → answer_and_tables (Err refusal) headerLeft rows_left ≡ translate_result header rows outHeader outRows → G
    translated-accepted headerLeft rows_left refusal e =
        let d : ◌≡◌ {A = Result (Unit {0}) NumberedRefusal} (Ok tt) (Err refusal) = sym t.accepted ∙ translation-refused header rows outHeader outRows headerLeft rows_left refusal (λ a. has-room) e in
        absurd (let z : ◌≡◌ {A = ℕ} 0 1 = cc in omega arith)
