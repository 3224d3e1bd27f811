-- The theorems: every accepted program without functions shares its fate with the flat list of its translation, from demand 3 and the equal fate of a
-- kernel program and its list, one behind the other; the translation of one with functions gets 25.
use Rattle.std.specs.Prelude.{◌≡◌, List, ◌++◌, ℕ, ◌+◌, ◌≤◌, ◌<◌, ℤ, length, take, Err, Ok}
use Rattle.std.proofs.Math.Path.{ap}
use Rattle.std.proofs.Common.{◌∙◌, arith}
use Rattle.words.specs.Declarations.{declaration_count}
use Rattle.words.specs.Layout.{layout_of, store_size, store_words, temporaries_of, behind_of}
use Rattle.words.specs.StoreLaws.{source-store}
use Rattle.words.specs.Laws.{count_fits-facts}
use Rattle.words.specs.declared.Form.TheVariants.{Source, Kernel}
use Rattle.language.specs.Trees.{block, Items}
use Rattle.language.specs.Functions.{function_count}
use Rattle.language.specs.FunctionWrites.{functions_write}
use Rattle.language.specs.Program.{contents}
use Rattle.language.specs.Sizes.{statement_rows}
use Rattle.language_programs.specs.Program.{resolved_rows, run_program}
use Rattle.translation.specs.Translate.{translate, temporaries}
use Rattle.translation.specs.KernelForm.{items_times, KernelTree}
use Rattle.translation.proofs.FunctionCode.{code-count}
use Rattle.translation_form.proofs.TranslateKernel.{translation-is-kernel, header-layout, header-behind}
use Rattle.check_structure.specs.Refusal.{at, ◌next◌}
use Rattle.check_source.specs.Refusal.{refusal as source_refusal}
use Rattle.check_source.specs.Legal.{Legal as SourceLegal}
use Rattle.check_source.proofs.AcceptsLegal.{accepts-legal as source-accepts}
use Rattle.check_source.specs.DeclarationLaws.{legal-declarations}
use Rattle.check_kernel.specs.Legal.{Legal as KernelLegal}
use Rattle.check_kernel.specs.Accepts.{accepts-legal as kernel-accepts}
use Rattle.accepted.proofs.Resolved.{table-tree, table-rows, table-depth}
use Rattle.accepted_kernel.proofs.Kernel.{functionless-plain}
use Rattle.check_plain.specs.Plain.{Plain}
use Rattle.check_plain.specs.Refusal.{plain_refusal}
use Rattle.language_emission.specs.Emission.{emit}
use Rattle.language_emission.specs.KernelKinds.{a_block}
use Rattle.language_emission.proofs.EmittedLaws.{emitted}
use Rattle.translation_legal.specs.FormKinds.{program-kinds}
use Rattle.translation_legal.proofs.EmittedLegal.{translated-contents}
use Rattle.translation_fate.specs.Fate.{SharedFate as SourceKernelFate}
use Rattle.translation_fate.specs.KernelForms.{kernel_header_of, kernel_rows_of, KernelFormOf}
use Rattle.translation_fate.proofs.HasKernelForm.{has-kernel-form}
use Rattle.flat.specs.Refusal.{refusal as flat_refusal}
use Rattle.flat.proofs.Accepts.{legal_accepted as flat-accepts}
use Rattle.flat_fate.specs.Addresses.{flat_of}
use Rattle.flat_fate.proofs.CodeLegal.{flattened-legal}
use Rattle.flat_fate.specs.FlatWords.{words_from, flattened, SharedFate as KernelFlatFate}
use Rattle.flat_fate.proofs.FlatWordsLaws.{shares_fate}
use Rattle.flat_source.specs.SourceFlat.{SourceEnds, FlatEnds, SharedFate, WithoutFunctions, HasFlatForm, FunctionsRefused}
use Rattle.flat_source.specs.SourceFunctions.{none-without, some_with, first-definition}

module _ (header rows : List ℤ) (accepted : source_refusal header rows ≡ (Ok tt)) where
  abbrev K : List ℤ
  K = kernel_header_of header rows

  abbrev R : List ℤ
  R = kernel_rows_of header rows

  abbrev program : Items
  program = contents (resolved_rows Source header rows)

  abbrev translation : Items
  translation = translate (store_words Source header rows) program

  legal : SourceLegal header rows
  legal = (source-accepts header rows).0 accepted

  kernel_form : KernelFormOf header rows K R
  kernel_form = has-kernel-form header rows accepted

  kernel-legal : KernelLegal K R
  kernel-legal = (kernel-accepts K R).0 kernel_form.accepted

  few : statement_rows (block program) ≤ 2048
  few = let c = count_fits-facts Source (length rows) legal.structured.count-fits in omega (arith, c.most, table-rows header rows legal)

  kernel-tree : KernelTree (layout_of Source header) (declaration_count rows + temporaries program) translation
  kernel-tree = rw (source-store header rows) (translation-is-kernel (layout_of Source header) (declaration_count rows) (legal-declarations header rows legal) program (table-tree header rows legal) few (table-depth header rows legal))

  -- the kernel's items are the translation's, in which a label stands once
  kernel-items : contents R ≡ translation
  unfolding kernel_rows_of
  kernel-items =
      rw (source-store header rows)
      (translated-contents header program legal.header-fits few (table-depth header rows legal) (declaration_count rows) (legal-declarations header rows legal) (table-tree header rows legal))

  once : (l : ℕ) → items_times l (contents R) ≤ 1
  once l = rw kernel-items (kernel-tree.labels_once l)

  -- the translation has the functions of its source
  same_count : function_count (contents R) ≡ function_count program
  unfolding translate
  same_count = ap function_count kernel-items ∙ code-count (functions_write program) (store_words Source header rows) program 1 (table-tree header rows legal).placed

  module _ (none : WithoutFunctions rows) where
    functionless : function_count (contents R) ≡ 0
    functionless = same_count ∙ none-without header rows legal none

    plain : Plain K R
    plain = functionless-plain K R kernel-legal functionless

  module _ (none : WithoutFunctions rows) (store declared flatDeclared temporaryWords : List ℤ) (outer : length store ≡ store_size (layout_of Source header)) (all : length declared ≡ declaration_count rows)
      (flat-all : length flatDeclared ≡ declaration_count rows) (enough : length temporaryWords ≡ temporaries_of Kernel K) where
    first : SourceKernelFate header rows K R store declared flatDeclared temporaryWords
    first = kernel_form.share_fate store declared flatDeclared temporaryWords outer all flat-all enough

    second : KernelFlatFate K R (flattened R) (store ++ (flatDeclared ++ temporaryWords))
    second = shares_fate K R (plain none) once (store ++ (flatDeclared ++ temporaryWords))

    shared : SharedFate header rows K (flattened R) store declared flatDeclared temporaryWords
    unfolding run_program
    shared = record {
      end-together = (forth, back);
      same_ending = λ b d s t. let k = first.end-together.0 (record { budget = b; ends = s }) in second.same_ending k.budget d k.ends t ∙ first.same_ending b k.budget s k.ends;
      same-cells = λ b d s t. let k = first.end-together.0 (record { budget = b; ends = s }) in ap (take (store_size (layout_of Source header))) (second.same_store k.budget d k.ends t) ∙ first.same-cells b k.budget s k.ends;
    }
      where
        forth : SourceEnds header rows K (flattened R) store declared flatDeclared temporaryWords → FlatEnds header rows K (flattened R) store declared flatDeclared temporaryWords
        forth e =
            let k = first.end-together.0 (record { budget = e.budget; ends = e.ends }) in
            let f = second.end-together.0 (record { budget = k.budget; ends = k.ends }) in
            record { budget = f.budget; ends = f.ends }

        back : FlatEnds header rows K (flattened R) store declared flatDeclared temporaryWords → SourceEnds header rows K (flattened R) store declared flatDeclared temporaryWords
        back e =
            let k = second.end-together.1 (record { budget = e.budget; ends = e.ends }) in
            let f = first.end-together.1 (record { budget = k.budget; ends = k.ends }) in
            record { budget = f.budget; ends = f.ends }

  -- the kernel's own tree, under the kernel's header
  own-tree : KernelTree (layout_of Kernel K) (behind_of Kernel K) (contents R)
  unfolding kernel_header_of
  own-tree = rw (header-layout (layout_of Source header) (declaration_count rows) (temporaries program), header-behind (layout_of Source header) (declaration_count rows) (temporaries program), kernel-items) kernel-tree

  takes : WithoutFunctions rows → flat_refusal K (flattened R) ≡ (Ok tt)
  unfolding flattened
  takes none = flat-accepts K (words_from 0 (flat_of (contents R))) (flattened-legal K (contents R) kernel-legal.header-fits own-tree (functionless none))

  -- ---- with functions

  refused : 0 < function_count program → plain_refusal K R ≡ Err (record { number = 25; place = 1 })
  unfolding plain_refusal kernel_rows_of ◌next◌ at translate
  refused some =
      let count = code-count (functions_write program) (store_words Source header rows) program 1 (table-tree header rows legal).placed in
      rw (kernel_form.accepted, first-definition (emit (block translation)) translation (emitted (a_block (program-kinds kernel-tree.form))) kernel-tree.form (omega arith))

-- The flat list of every translation without functions is legal and shares the source program's fate.
pub has-flat-form : (header rows : List ℤ) → HasFlatForm header rows
has-flat-form header rows accepted none =
    record {
      accepted = takes header rows accepted none;
      share_fate = λ store declared flatDeclared temporaryWords s d f t. shared header rows accepted none store declared flatDeclared temporaryWords s d f t;
    }

-- The flat list refuses every translation with functions.
pub functions-refused : (header rows : List ℤ) → FunctionsRefused header rows
functions-refused header rows accepted row n d = refused header rows accepted (some_with header rows (legal header rows accepted) row n d)
