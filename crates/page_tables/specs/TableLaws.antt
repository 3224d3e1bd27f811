-- Laws of tables: the page of every legal kernel table has 80 columns, few lines, and gives back its rows, up to numbering; that of a
-- translation gives back its very rows.
use Rattle.std.specs.Prelude.{◌≡◌, true, List, ℕ, ◌+◌, ◌*◌, ◌-◌, ◌^◌, ◌≤◌, ◌<◌, ℤ, pos, length, get_or, Some}
use Rattle.std.proofs.Common.{ap, sym, ◌∙◌}
use Rattle.std.proofs.Math.Path.{subst}
use Rattle.std.proofs.Math.Logic.{⊎_elim}
use native.Mathlib.Omega.{arith}
use Rattle.std.specs.Int.Signed.{mag}
use Rattle.words.specs.Table.{row_count}
use Rattle.words.specs.Layout.{Layout, layout_of, store_size, header_store, declared_of, behind_of, header_fits}
use Rattle.words.specs.Laws.{header_fits-facts, count_fits-facts}
use Rattle.words.specs.declared.Form.TheVariants.{Source, Kernel}
use Rattle.language.specs.Trees.{block, Items}
use Rattle.language.specs.Functions.{function_count}
use Rattle.language.specs.Calls.{arity_in, CallsInOrder}
use Rattle.language.specs.Decode.{decode}
use Rattle.language.specs.Program.{contents}
use Rattle.language.specs.Sizes.{statement_rows, statement_depth}
use Rattle.language.specs.WellFormed.{SourceTree}
use Rattle.check_fields.specs.Fields.{bounds_of}
use Rattle.check_fields.specs.declared.Bounds.{Bounds}
use Rattle.check_structure.specs.Structured.{Structured}
use Rattle.translation.specs.KernelForm.{KernelProgram, KernelName, name_variable, name_temporary}
use Rattle.translation.specs.Translate.{translate, temporaries, kernel_header}
use Rattle.language_emission.specs.Emission.{emit}
use Rattle.language_emission.specs.EmissionLaws.{length-emit}
use Rattle.language_emission.specs.KernelKinds.{a_block}
use Rattle.language_emission.proofs.EmittedLaws.{emitted}
use Rattle.language_emission.proofs.ReadBack.{decode-emit}
use Rattle.translation_legal.specs.FormKinds.{program-kinds}
use Rattle.translation_legal.proofs.EmittedStructured.{emitted-structured}
use Rattle.translation_legal.specs.OwnWords.{OwnWords, OwnParameters, FrontParameters}
use Rattle.translation_legal.proofs.Parameters.{own-front}
use Rattle.translation_legal.proofs.EmittedLegal.{translated-legal, translated-decodes}
use Rattle.check_kernel.specs.Legal.{Legal}
use Rattle.accepted.specs.NamedWords.{NamesVariable}
use Rattle.accepted.proofs.Fields.{header-declared}
use Rattle.accepted.proofs.Names.{named-contents}
use Rattle.accepted.specs.Worded.{ValuedStatement, ValuedItems, IsWord}
use Rattle.accepted.proofs.Words.{structured-worded}
use Rattle.accepted_kernel.proofs.Kernel.{legal-block, legal-form, legal-calls, legal-rows}
use Rattle.page.specs.Page.{first_temporary, name, page_bytes}
use Rattle.page.proofs.LinesLaws.{lines-few}
use Rattle.page.proofs.Fits.{AllFit, program-fits}
use Rattle.page.proofs.ReadBack.{page-read-back}
use Rattle.page.proofs.Widths.{variable-width, behind-width, lines-columns}
use Rattle.page.specs.Tables.{sizes_of, table_lines, table_page, read_table, GivenBack}
use Rattle.page_tables.specs.Parameters.{legal-parameters}
use Rattle.page_tables.specs.Programs.{functions-few, legal-fits}
use Rattle.page_tables.specs.Renumbering.{renumbered}

-- ---- every legal table

-- The words are words of 32 bits.
module _ (header rows : List ℤ) (legal : Legal header rows) (words : (i : ℕ) → mag (get_or rows i (pos 0)) < 2 ^ 31) where
  abbrev bounds : Bounds
  bounds = bounds_of Kernel header

  form : KernelProgram (contents rows)
  form = legal-form header rows legal

  calls : CallsInOrder (contents rows)
  calls = legal-calls header rows legal

  -- "in the kernel they name their words, S to S+D−1", and no two of a function the same
  own : OwnParameters (store_size (layout_of Kernel header)) (declared_of Kernel header) (contents rows)
  own = legal-parameters header rows legal

  front : FrontParameters (OwnWords (store_size (layout_of Kernel header)) (declared_of Kernel header)) (contents rows)
  front = own-front (store_size (layout_of Kernel header)) (declared_of Kernel header) (contents rows) calls.numbered own

  valued : ValuedItems IsWord (contents rows)
  unfolding ValuedStatement
  valued = rw (legal-block header rows legal) at (structured-worded Kernel bounds rows legal.structured words)

  -- A parameter names a declared word, "S to S+D−1".
  abbrev pub NamesParameter : ℕ → Type 0
  NamesParameter i = ((sizes_of header).store ≤ i) × (i < first_temporary (sizes_of header))

  few-functions : function_count (contents rows) ≤ 40980
  unfolding statement_rows
  few-functions =
      let few = (count_fits-facts Kernel (length rows) legal.structured.count-fits).most in
      omega (arith, functions-few form, legal-rows header rows legal)

  pub lines_fit : AllFit (NamesVariable bounds) bounds.arrays NamesParameter (table_lines rows)
  lines_fit =
      program-fits (NamesVariable bounds) bounds.arrays NamesParameter (arity_in (contents rows)) (function_count (contents rows)) few-functions 0
      (legal-fits (NamesVariable bounds) bounds.arrays NamesParameter (store_size (layout_of Kernel header)) (declared_of Kernel header) (λ word w. (w.least, w.most)) few-functions form calls front)
      (named-contents Kernel bounds rows legal.structured (header-declared Kernel header) (NamesVariable bounds) (λ number n. n)) valued

  -- "Variable .. number outside" is refused: a name has at most five columns.
  pub name-width : (i : ℕ) → NamesVariable bounds i → length (name (sizes_of header) i) ≤ 5
  unfolding bounds_of header_store
  name-width i =
      let f = header_fits-facts Kernel header legal.header-fits in
      ⊎_elim (λ v. variable-width (sizes_of header) i (omega (arith, f.few_variables))) (λ t. behind-width (sizes_of header) i t.0 (omega (arith, t.1, f.few_declared, f.few_temporaries)))

  pub parameter-width : (i : ℕ) → NamesParameter i → length (name (sizes_of header) i) ≤ 5
  parameter-width i p =
      let f = header_fits-facts Kernel header legal.header-fits in
      behind-width (sizes_of header) i p.0 (omega (arith, p.1, f.few_declared))

  pub few_arrays : bounds.arrays ≤ 32
  unfolding bounds_of
  few_arrays = (header_fits-facts Kernel header legal.header-fits).few_arrays

  -- Row 0 has no line and every other row at most two: five columns hold every line's number.
  pub lines-of-rows : length (table_lines rows) + 2 ≤ 2 * row_count rows
  lines-of-rows = omega (arith, lines-few (legal-form header rows legal), legal-rows header rows legal)

  -- "Lines of 80 columns plus a newline".
  pub page-columns : length (table_page header rows) ≡ 81 * length (table_lines rows)
  unfolding table_page page_bytes
  page-columns =
      let few = (count_fits-facts Kernel (length rows) legal.structured.count-fits).most in
      lines-columns (sizes_of header) name-width parameter-width few_arrays 1 (table_lines rows) (omega (arith, lines-of-rows)) lines_fit

  page-gives : read_table header (table_page header rows) ≡ Some (emit (block (contents rows)))
  unfolding read_table table_page
  page-gives = rw (page-read-back (sizes_of header) (legal-form header rows legal) lines_fit)

  -- the rows read are a structured table too
  kernel-name : (i : ℕ) → NamesVariable bounds i → KernelName (layout_of Kernel header) (behind_of Kernel header) i
  unfolding bounds_of header_store
  kernel-name i =
      let S = store_size (layout_of Kernel header) in
      ⊎_elim (λ v. name_variable v)
      (λ n.
      let h = n.0 in
      let k = n.1 in
      let back : S + (i - S) ≡ i = omega arith in
      let few : i - S < behind_of Kernel header = omega arith in
      subst (KernelName (layout_of Kernel header) (behind_of Kernel header)) back (name_temporary few))

  structured-back : Structured Kernel bounds (emit (block (contents rows)))
  unfolding bounds_of
  structured-back =
      let few = (count_fits-facts Kernel (length rows) legal.structured.count-fits).most in
      emitted-structured header (omega (arith, legal-rows header rows legal)) form
      (named-contents Kernel bounds rows legal.structured (header-declared Kernel header) (KernelName (layout_of Kernel header) (behind_of Kernel header)) kernel-name) front

  decodes-back : decode (emit (block (contents rows))) ≡ decode rows
  decodes-back = decode-emit (a_block (program-kinds form)) ∙ sym (legal-block header rows legal)

  -- "Read with the header by docs/, the lines give back the same rows, up to numbering."
  pub gives_back : GivenBack header rows (table_page header rows)
  gives_back = record {
    given = emit (block (contents rows));
    read = page-gives;
    same_program = record {
      same_tree = decodes-back;
      as_many = omega (arith, length-emit (block (contents rows)), legal-rows header rows legal);
    };
    renumbered = renumbered bounds rows (emit (block (contents rows))) legal.structured structured-back legal.formed (sym decodes-back);
  }

-- ---- translations

-- A table that was emitted from a tree comes back to the word.
emitted-gives-back : (header : List ℤ) (program : Items) → Legal header (emit (block program)) → decode (emit (block program)) ≡ block program
    → ((i : ℕ) → mag (get_or (emit (block program)) i (pos 0)) < 2 ^ 31) → read_table header (table_page header (emit (block program))) ≡ Some (emit (block program))
emitted-gives-back header program legal decodes words =
    let rows = emit (block program) in
    page-gives header rows legal words ∙ ap (λ s. Some (emit s)) (sym (legal-block header rows legal) ∙ decodes)

-- So does every translation: its header and its table, where the check has found the program's limits and its tree well formed.
module _ (header : List ℤ) (program : Items) (fit : header_fits Source header ≡ true) (few : statement_rows (block program) ≤ 2048) (shallow : statement_depth (block program) ≤ 64)
    (D : ℕ) (declared : D ≤ 64) (source : SourceTree (layout_of Source header) (store_size (layout_of Source header) + D) program)
    (own-words : OwnParameters (store_size (layout_of Source header)) D program) where
  abbrev layout : Layout
  layout = layout_of Source header

  abbrev kernel_rows : List ℤ
  kernel_rows = emit (block (translate (store_size layout + D) program))

  abbrev header_of_kernel : List ℤ
  header_of_kernel = kernel_header layout D (temporaries program)

  pub translation-gives-back : ((i : ℕ) → mag (get_or kernel_rows i (pos 0)) < 2 ^ 31) → read_table header_of_kernel (table_page header_of_kernel kernel_rows) ≡ Some kernel_rows
  translation-gives-back =
      emitted-gives-back header_of_kernel (translate (store_size layout + D) program)
      (translated-legal header program fit few shallow D declared source own-words) (translated-decodes header program fit few shallow D declared source)
