-- The theorem: every accepted program has a kernel form that is legal, shares its fate, makes the same writes and hides its temporaries. From
-- the theorems about trees (`translation-preserves`, `translation-writes`, `temporaries-hidden`, `translated-legal`), since decode reads both
-- tables; and from the independence of declared words.
use Rattle.std.specs.Prelude.{◌≡◌, refl, List, ◌++◌, ℕ, ◌+◌, ◌*◌, ◌≤◌, ℤ, length, take}
use Rattle.std.proofs.Common.{sym, ap₂, ◌∙◌, append_assoc, length-append, take_at, take-take}
use Rattle.std.proofs.Math.Path.{ap}
use native.Mathlib.Omega.{arith}
use Rattle.words.specs.Table.{row_count}
use Rattle.words.specs.Declarations.{declaration_count}
use Rattle.words.specs.Layout.{Layout, layout_of, store_size, store_words, declared_of, temporaries_of}
use Rattle.words.specs.StoreLaws.{source-store, size-least}
use Rattle.words.specs.Laws.{count_fits-facts}
use Rattle.words.specs.declared.Form.TheVariants.{Source, Kernel}
use Rattle.words.specs.declared.Ending.{Ending}
use Rattle.words.specs.declared.Ending.TheVariants.{Spent}
use Rattle.computation.specs.Run.{Result, ok, stopped, spent, fault, steps, run, start, final, ending_of, Settled}
use Rattle.computation.proofs.RunLaws.{store-keeps-length}
use Rattle.computation.specs.Unlimited.{Ends}
use Rattle.computation.specs.WritesMade.{made}
use Rattle.language.specs.Trees.{block, Items}
use Rattle.language.specs.Decode.{decode}
use Rattle.language.specs.Meaning.{Signal, exec}
use Rattle.language.specs.FunctionWrites.{functions_write}
use Rattle.language.specs.Program.{Finished, contents, finished, table_program, run_table_under, run_table}
use Rattle.language_programs.specs.Program.{resolved_rows, run_under, run_program}
use Rattle.language.specs.Sizes.{statement_rows, statement_depth}
use Rattle.language.specs.WellFormed.{SourceTree}
use Rattle.translation.specs.Translate.{translate, temporaries}
use Rattle.translation.proofs.TranslatePreserves.{source_program, kernel_program, SameWords, SharedFate as TreesShareFate, translation-preserves}
use Rattle.translation.proofs.WritesShown.{SameWrites as TreesWriteAlike}
use Rattle.translation.proofs.SameWrites.{translation-writes}
use Rattle.translation_form.proofs.TemporariesHidden.{Shown}
use Rattle.translation_form.proofs.HiddenTemporaries.{temporaries-hidden}
use Rattle.translation.proofs.TranslateBounds.{rows_bound, temporaries-bound}
use Rattle.translation.specs.Copies.{statement_copies, own_copies, own_results, program_total}
use Rattle.translation.proofs.CopyLaws.{copies-exactly}
use Rattle.translation_form.proofs.TranslateKernel.{header-layout, header-declared, header-temporaries}
use Rattle.language_emission.specs.EmissionLaws.{length-emit}
use Rattle.check_structure.specs.StructuredLaws.{structured-tree}
use Rattle.translation_legal.specs.OwnWords.{OwnParameters}
use Rattle.translation_legal.proofs.EmittedLegal.{translated-legal, translated-decodes, translated-contents}
use Rattle.check_source.specs.Legal.{Legal}
use Rattle.check_source.proofs.AcceptsLegal.{accepts-legal as source-accepts}
use Rattle.check_source.specs.DeclarationLaws.{legal-declarations}
use Rattle.check_kernel.specs.Accepts.{accepts-legal as kernel-accepts}
use Rattle.accepted.proofs.Resolved.{table-block, table-functions, table-tree, table-rows, table-depth}
use Rattle.translation_fate.specs.Fate.{SourceEnds, KernelEnds, SharedFate}
use Rattle.translation_fate.specs.SameWrites.{SameWrites}
use Rattle.translation_fate.specs.Views.{DispatcherView, dispatcher_view, HidesTemporaries}
use Rattle.translation_fate.specs.DeclaredWords.{declared-hidden, declared-write-alike}
use Rattle.translation_fate.specs.ParameterWords.{own-parameters}
use Rattle.translation_fate.specs.KernelForms.{kernel_header_of, kernel_rows_of, KernelFormOf, HasKernelForm}

-- ---- ended is settled

settled-ends : {A : Type 0} (r : Result A) → Settled r → ending_of r ≡ Spent → ⊥
settled-ends (ok a σ) s e = let z : ◌≡◌ {A = ℕ} 0 1 = cc in omega arith
settled-ends (stopped spent σ) s e = s
settled-ends (stopped (fault sort) σ) s e = let z : ◌≡◌ {A = ℕ} 0 1 = cc in omega arith

ends-settled : {A : Type 0} (r : Result A) → (ending_of r ≡ Spent → ⊥) → Settled r
ends-settled (ok a σ) e = tt
ends-settled (stopped spent σ) e = e refl
ends-settled (stopped (fault sort) σ) e = tt

-- ---- results that show the same

-- the first S words of more that are the same
same_view : (S more : ℕ) → S ≤ more → (r q : Result Signal) → Shown more r q → dispatcher_view S (finished r) ≡ dispatcher_view S (finished q)
same_view S more most r q h = ap₂ (λ (ending : Ending) (words : List ℤ). record { ending = ending; words = words }) h.same_ending words
  where
    words : take S (final r).store ≡ take S (final q).store
    words = sym (take-take S more (final r).store most) ∙ ap (take S) h.same_words ∙ take-take S more (final q).store most

module _ (header rows : List ℤ) (legal : Legal header rows) where
  abbrev pub L : Layout
  L = layout_of Source header

  abbrev pub program : Items
  program = contents (resolved_rows Source header rows)

  -- where the temporaries begin
  abbrev pub first : ℕ
  first = store_words Source header rows

  inside : store_size L ≤ first
  inside = size-least Source header rows

  tree : SourceTree L first program
  tree = rw (source-store header rows) (table-tree header rows legal)

  pub source-rows : statement_rows (block program) ≡ row_count rows
  source-rows = table-rows header rows legal

  few-source-rows : row_count rows ≤ 2048
  few-source-rows = let c = count_fits-facts Source (length rows) legal.structured.count-fits in omega (arith, c.most)

  pub few : statement_rows (block program) ≤ 2048
  few = omega (arith, source-rows, few-source-rows)

  pub shallow : statement_depth (block program) ≤ 64
  shallow = table-depth header rows legal

  pub own : OwnParameters (store_size L) (declaration_count rows) program
  own = own-parameters (store_size L) rows (structured-tree Source _ rows legal.structured) (table-functions header rows legal)

  -- ---- the kernel's tables say the translation

  kernel-layout : layout_of Kernel (kernel_header_of header rows) ≡ L
  unfolding kernel_header_of
  kernel-layout = header-layout L (declaration_count rows) (temporaries program)

  pub kernel-temporaries : temporaries_of Kernel (kernel_header_of header rows) ≡ temporaries program
  unfolding kernel_header_of
  kernel-temporaries = header-temporaries L (declaration_count rows) (temporaries program)

  -- "At most 64."
  pub declared : declaration_count rows ≤ 64
  declared = legal-declarations header rows legal

  kernel-declared : declared_of Kernel (kernel_header_of header rows) ≡ declaration_count rows
  unfolding kernel_header_of
  kernel-declared = header-declared L (declaration_count rows) (temporaries program)

  kernel-tree : decode (kernel_rows_of header rows) ≡ block (translate first program)
  unfolding kernel_rows_of
  kernel-tree = rw (source-store header rows) (translated-decodes header program legal.header-fits few shallow (declaration_count rows) declared (table-tree header rows legal))

  kernel-contents : contents (kernel_rows_of header rows) ≡ translate first program
  unfolding kernel_rows_of
  kernel-contents = rw (source-store header rows) (translated-contents header program legal.header-fits few shallow (declaration_count rows) declared (table-tree header rows legal))

  pub kernel-rows : row_count (kernel_rows_of header rows) ≡ statement_rows (block (translate first program))
  unfolding kernel_rows_of
  kernel-rows = let l = length-emit (block (translate first program)) in omega arith

  -- ---- from one store of S+D words, the kernel with these temporaries

  module _ (store temporaryWords : List ℤ) (all_words : length store ≡ first) (enough : length temporaryWords ≡ temporaries_of Kernel (kernel_header_of header rows)) where
    trees : TreesShareFate L first program store temporaryWords
    trees = translation-preserves L first inside program store temporaryWords tree all_words (omega (arith, kernel-temporaries))

    tree-writes : TreesWriteAlike L first program store temporaryWords
    tree-writes = translation-writes L first inside program store temporaryWords tree all_words (omega (arith, kernel-temporaries))

    abbrev source : ℕ → Result Signal
    source b = run (steps b) (source_program L program) (start store)

    abbrev kernel : ℕ → Result Signal
    kernel d = run (steps d) (kernel_program L first program) (start (store ++ temporaryWords))

    source-under : (b : ℕ) → run_under (steps b) Source header rows store ≡ source b
    unfolding run_under run_table_under table_program
    source-under b = rw (table-block header rows legal)

    kernel-under : (d : ℕ) → run_under (steps d) Kernel (kernel_header_of header rows) (kernel_rows_of header rows) (store ++ temporaryWords) ≡ kernel d
    unfolding run_under run_table_under table_program
    kernel-under d = rw (kernel-layout, kernel-tree, kernel-contents)

    kernel-run : (d : ℕ) → run_program Kernel (kernel_header_of header rows) (kernel_rows_of header rows) d (store ++ temporaryWords) ≡ finished (kernel d)
    unfolding run_table run_under run_program
    kernel-run d = ap finished (kernel-under d)

    -- the first S words of all that are the same
    cells : (b d : ℕ) → SameWords (statement_rows (block (translate first program))) (length temporaryWords) (final (source b)) (final (kernel d))
        → take (store_size L) (final (kernel d)).store ≡ take (store_size L) (final (source b)).store
    cells b d w =
        let keeps : length (final (source b)).store ≡ first = store-keeps-length (steps b) (source_program L program) (start store) ∙ all_words in
        sym (take-take (store_size L) first (final (kernel d)).store inside) ∙ ap (λ (words : List ℤ). take (store_size L) (take first words)) w.same_words
        ∙ ap (take (store_size L)) (take_at (final (source b)).store w.left first keeps)

  -- ---- "whatever the D words held at the start": the source on declared words of its own

  module _ (store declaredWords kernelDeclared temporaryWords : List ℤ) (outer : length store ≡ store_size L) (all : length declaredWords ≡ declaration_count rows)
      (kernel-all : length kernelDeclared ≡ declaration_count rows) (enough : length temporaryWords ≡ temporaries_of Kernel (kernel_header_of header rows)) where
    abbrev K : List ℤ
    K = kernel_header_of header rows

    abbrev R : List ℤ
    R = kernel_rows_of header rows

    -- the kernel's first words, on which the source is run too
    abbrev common : List ℤ
    common = store ++ kernelDeclared

    common-words : length common ≡ first
    common-words = omega (arith, length-append store kernelDeclared, source-store header rows)

    abbrev source_on : ℕ → Result Signal
    source_on = source common temporaryWords common-words enough

    abbrev kernel_on : ℕ → Result Signal
    kernel_on = kernel common temporaryWords common-words enough

    fate : TreesShareFate L first program common temporaryWords
    fate = trees common temporaryWords common-words enough

    source-shown : (b : ℕ) → Shown (store_size L) (run_under (steps b) Source header rows (store ++ declaredWords)) (source_on b)
    source-shown b = rw (source-under common temporaryWords common-words enough b) at (declared-hidden header rows legal store kernelDeclared declaredWords outer kernel-all all (steps b))

    source-ending : (b : ℕ) → (run_program Source header rows b (store ++ declaredWords)).ending ≡ ending_of (source_on b)
    unfolding run_table run_under run_program
    source-ending b = (source-shown b).same_ending

    source-count : (b : ℕ) → (run_program Source header rows b (store ++ declaredWords)).count ≡ (final (source_on b)).count
    unfolding run_table run_under run_program
    source-count b = (source-shown b).same_count

    source-cells : (b : ℕ) → take (store_size L) (run_program Source header rows b (store ++ declaredWords)).store ≡ take (store_size L) (final (source_on b)).store
    unfolding run_table run_under run_program
    source-cells b = (source-shown b).same_words

    kernel-on-under : (d : ℕ) → run_under (steps d) Kernel K R (store ++ (kernelDeclared ++ temporaryWords)) ≡ kernel_on d
    kernel-on-under d = rw (← append_assoc store kernelDeclared temporaryWords) (kernel-under common temporaryWords common-words enough d)

    kernel-on : (d : ℕ) → run_program Kernel K R d (store ++ (kernelDeclared ++ temporaryWords)) ≡ finished (kernel_on d)
    unfolding run_table run_under run_program
    kernel-on d = ap finished (kernel-on-under d)

    source-settled : (b : ℕ) → ((run_program Source header rows b (store ++ declaredWords)).ending ≡ Spent → ⊥) → Settled (source_on b)
    source-settled b e = ends-settled (source_on b) (rw (source-ending b) at e)

    kernel-settled : (d : ℕ) → ((run_program Kernel K R d (store ++ (kernelDeclared ++ temporaryWords))).ending ≡ Spent → ⊥) → Settled (kernel_on d)
    kernel-settled d e = ends-settled (kernel_on d) (rw (kernel-on d) at e)

    source-ends : SourceEnds header rows K R store declaredWords kernelDeclared temporaryWords → Ends (source_program L program) (start common)
    source-ends e = record { budget = e.budget; settled = source-settled e.budget e.ends }

    ends-source : Ends (source_program L program) (start common) → SourceEnds header rows K R store declaredWords kernelDeclared temporaryWords
    ends-source e = record { budget = e.budget; ends = rw (source-ending e.budget) (settled-ends (source_on e.budget) e.settled) }

    kernel-ends : KernelEnds header rows K R store declaredWords kernelDeclared temporaryWords → Ends (kernel_program L first program) (start (common ++ temporaryWords))
    kernel-ends e = record { budget = e.budget; settled = kernel-settled e.budget e.ends }

    ends-kernel : Ends (kernel_program L first program) (start (common ++ temporaryWords)) → KernelEnds header rows K R store declaredWords kernelDeclared temporaryWords
    ends-kernel e = record { budget = e.budget; ends = rw (kernel-on e.budget) (settled-ends (kernel_on e.budget) e.settled) }

    pub shared-fate : SharedFate header rows K R store declaredWords kernelDeclared temporaryWords
    shared-fate = record {
      end-together = (λ e. ends-kernel (fate.ends_together.0 (source-ends e)), λ e. ends-source (fate.ends_together.1 (kernel-ends e)));
      same_ending = λ b d s t. rw (source-ending b, kernel-on d) (fate.same_ending b d (source-settled b s) (kernel-settled d t));
      same-cells = λ b d s t.
          ap (λ (end : Finished). take (store_size L) end.store) (kernel-on d)
          ∙ cells common temporaryWords common-words enough b d (fate.same_state b d (source-settled b s) (kernel-settled d t)) ∙ sym (source-cells b);
      count-bound = λ b d s t. rw (source-count b, kernel-on d, kernel-rows) (fate.same_state b d (source-settled b s) (kernel-settled d t)).few_steps;
    }

    writes-on : TreesWriteAlike L first program common temporaryWords
    writes-on = tree-writes common temporaryWords common-words enough

    source-writes : (N : ℕ) → made (store_size L) (run_under (steps N) Source header rows (store ++ declaredWords)) ≡ made (store_size L) (source_on N)
    source-writes N = declared-write-alike header rows legal store kernelDeclared declaredWords outer kernel-all all (steps N) ∙ ap (made (store_size L)) (source-under common temporaryWords common-words enough N)

    pub same_writes : SameWrites header rows K R store declaredWords kernelDeclared temporaryWords
    same_writes = record {
      kernel_follows = λ N. rw (kernel-rows, source-writes N, kernel-on-under (statement_rows (block (translate first program)) * N)) (writes-on.kernel_follows N);
      source_follows = λ N. record { within = writes-on.source_steps N; as_first = rw (kernel-on-under N, source-writes (writes-on.source_steps N)) (writes-on.source_follows N) };
    }

  pub hides_temporaries : HidesTemporaries (kernel_header_of header rows) (kernel_rows_of header rows)
  hides_temporaries store temporaryWords others words are others-are budget =
      let all_words : length store ≡ first = rw (kernel-layout, kernel-declared, ← source-store header rows) at words in
      let h = temporaries-hidden L first inside program tree store all_words (steps budget) temporaryWords others (omega (arith, are, others-are)) in
      rw (kernel-run store temporaryWords all_words are budget, kernel-run store others all_words others-are budget, kernel-layout) (same_view (store_size L) first inside _ _ h)

  pub copies_allowed : statement_copies first (decode (kernel_rows_of header rows)) ≡ program_total (own_copies (functions_write program)) program + program_total (own_results (functions_write program)) program
  unfolding statement_copies store_size
  copies_allowed = ap (statement_copies first) kernel-tree ∙ copies-exactly L first program tree
