-- Laws of an accepted source program: what the measures and the writers ask of its resolved table, and that its kernel form is as large as it
-- is measured.
use Rattle.std.specs.Prelude.{◌≡◌, refl, true, List, ℕ, ◌+◌, ◌*◌, ◌≤◌, ◌<◌, ℤ, length, Ok}
use Rattle.std.proofs.Math.Path.{sym, ap, ap₂}
use Rattle.std.proofs.Common.{subst, ◌∙◌, arith}
use Rattle.std.proofs.Math.Logic.{⊎_elim}
use Rattle.words.specs.Table.{row_count, number_at}
use Rattle.words.specs.Kinds.{kind_at, expression_fields, statement_fields, kind_row, sort_in}
use Rattle.words.specs.Layout.{header_fits, layout_of, store_size, store_words}
use Rattle.words.specs.Declarations.{declaration_count}
use Rattle.words.specs.StoreLaws.{source-store, source-small}
use Rattle.words.specs.Laws.{header_fits-facts, count_fits-facts}
use Rattle.words.specs.declared.Form.TheVariants.{Source as SourceForm}
use Rattle.words.specs.declared.Kind.TheVariants.{OfExpression, OfStatement}
use Rattle.words.specs.declared.ExpressionKind.TheVariants.{Variable}
use Rattle.words.specs.declared.StatementKind.TheVariants.{Block, Declare}
use Rattle.language.specs.Trees.{block}
use Rattle.language.specs.Decode.{expression_at}
use Rattle.language.specs.Program.{contents}
use Rattle.check_fields.specs.Fields.{word_range, resolved_bounds}
use Rattle.names.proofs.ResolvedLaws.{resolved-length}
use Rattle.accepted_calls.specs.Resolved.{resolved-called}
use Rattle.language_programs.specs.Program.{resolved_rows}
use Rattle.translation.specs.declared.Use.{Use}
use Rattle.translation.specs.Translate.{expression_levels, temporaries, translate, kernel_header}
use Rattle.translation.specs.TranslateSize.{program_size}
use Rattle.translation.proofs.TranslateRows.{translation-rows}
use Rattle.translation.proofs.TranslateBounds.{rows_bound, levels-most, temporaries-bound}
use Rattle.language_emission.specs.Emission.{emit}
use Rattle.language_emission.specs.EmissionLaws.{length-emit}
use Rattle.check_source.specs.Refusal.{refusal as source_refusal}
use Rattle.check_source.specs.Legal.{Legal}
use Rattle.check_source.proofs.AcceptsLegal.{accepts-legal}
use Rattle.accepted.specs.NamedWords.{NamesVariable}
use Rattle.accepted.proofs.Fields.{resolved-declared, names-variable, names-declared}
use Rattle.check_source.specs.DeclarationLaws.{legal-declarations}
use Rattle.accepted.proofs.Names.{source-name}
use Rattle.accepted.proofs.Resolved.{table-structured, table-sound, table-calls, table-rows}
use Rattle.accepted.proofs.RowsBelow.{expression-below}
use Rattle.write_sets.specs.Named.{Named}
use Rattle.language_shapes.specs.Source.{NamesFrom, Source}
use Rattle.measures_table.specs.Parts.{called_in}
use Rattle.measures_table.specs.Measures.{Measured, ProgramMeasured}
use Rattle.measures_table.specs.MeasureLaws.{limited-small}
use Rattle.measures_table.specs.declared.StatementMeasures.{StatementMeasures}
use Rattle.writers_programs.specs.Asks.{ProgramAsks, kernel_program}
use Rattle.translation_fate.specs.KernelForms.{kernel_header_of, kernel_rows_of}
use Rattle.translator.specs.HeaderLaws.{kernel-header-length}

module _ (header rows : List ℤ) (accepted : source_refusal header rows ≡ (Ok tt)) where
  legal : Legal header rows
  legal = (accepts-legal header rows).0 accepted

  pub accepted-header : header_fits SourceForm header ≡ true
  accepted-header = legal.header-fits

  -- "At most 64."
  pub few_declarations : declaration_count rows ≤ 64
  few_declarations = legal-declarations header rows legal

  -- the table that is measured and written
  abbrev resolved : List ℤ
  resolved = resolved_rows SourceForm header rows

  abbrev S : ℕ
  S = store_size (layout_of SourceForm header)

  few_rows : row_count resolved ≤ 2048
  few_rows = omega (arith, resolved-length S rows, (count_fits-facts SourceForm (length rows) legal.structured.count-fits).most)

  -- the variables are the first words of the store, the declared words stand behind the first S
  named : (i : ℕ) → NamesVariable (resolved_bounds (layout_of SourceForm header) (declaration_count rows)) i → Named S i
  unfolding store_size
  named i names =
      let n = source-name (layout_of SourceForm header) (word_range (layout_of SourceForm header) (declaration_count rows)) (S + declaration_count rows) (omega arith) i names in
      record {
        within = omega (arith, n.inside, few_declarations);
        variable = λ h. ⊎_elim (λ b. omega (arith, b, (header_fits-facts SourceForm header accepted-header).few_variables)) (λ b. absurd (omega (arith, b, h))) n.apart;
      }

  -- "Numbers V to S−1 name nothing", and a source has no temporaries.
  variables-named : (row : ℕ) → row < row_count resolved → kind_at resolved row ≡ OfExpression Variable → Named S (number_at resolved row 1)
  unfolding sort_in kind_row expression_fields
  variables-named row inside k = named (number_at resolved row 1) (names-variable SourceForm _ resolved (table-structured header rows legal) row inside k 1 refl)

  declared-named : (row : ℕ) → row < row_count resolved → kind_at resolved row ≡ OfStatement Declare → Named S (number_at resolved row 1)
  unfolding sort_in kind_row statement_fields
  declared-named row inside k =
      named (number_at resolved row 1) (resolved-declared (layout_of SourceForm header) (declaration_count rows) _ (names-declared SourceForm _ resolved (table-structured header rows legal) row inside k 1 refl))

  accepted-names : NamesFrom S resolved
  accepted-names = record { small = omega (arith, (header_fits-facts SourceForm header accepted-header).small_store); variables = variables-named; declared = declared-named }

  -- What the write sets ask, where S is as the code has it.
  pub names-from : {size : ℕ} → size ≡ S → NamesFrom size resolved
  names-from e = subst (λ (size : ℕ). NamesFrom size resolved) (sym e) accepted-names

  -- What the measures ask.
  pub accepted-source : Source resolved
  accepted-source =
      let h = header_fits-facts SourceForm header accepted-header in
      record {
        layout = layout_of SourceForm header;
        words = S + declaration_count rows;
        sound = table-sound header rows legal;
        few_rows = few_rows;
        store = S;
        names = accepted-names;
        few_arrays = h.few_arrays;
        functions = table-calls header rows legal;
      }

  -- where the temporaries begin, S+D
  abbrev first : ℕ
  first = store_words SourceForm header rows

  pub first_is : (size D : ℕ) → size ≡ S → D ≡ declaration_count rows → size + D ≡ first
  first_is size D e d = omega (arith, source-store header rows)

  pub first-low : first ≤ 8256
  first-low = omega (arith, source-small header rows accepted-header, few_declarations)

  -- "At most 20×n+20 kernel rows and at most 4×n temporaries."
  size_low : 1 + program_size (called_in resolved) (contents resolved) ≤ 40980
  size_low = omega (arith, rows_bound first (contents resolved), translation-rows first (contents resolved), table-rows header rows legal, few_rows, resolved-length S rows)

  levels-low : temporaries (contents resolved) ≤ 2048
  levels-low = omega (arith, temporaries-bound (contents resolved), table-rows header rows legal, few_rows, resolved-length S rows)

  -- each row is linked once, so no expression has more rows than the table; nor more levels
  few_levels : (row : ℕ) → row < row_count resolved → (u : Use) → expression_levels (called_in resolved) (expression_at resolved row) u ≤ 2048
  few_levels row inside u =
      omega (arith, levels-most (called_in resolved) (expression_at resolved row) u, expression-below SourceForm _ resolved (table-structured header rows legal) (resolved-called S rows legal.well_called).in_order row inside, few_rows)

  -- the measures of the program
  module _ {p : StatementMeasures} (counts : ProgramMeasured (called_in resolved) (contents resolved) p) where
    size_is : p.rows ≡ program_size (called_in resolved) (contents resolved)
    size_is = counts.rows_are ∙ limited-small _ (omega (arith, size_low))

    levels-is : p.levels ≡ temporaries (contents resolved)
    unfolding temporaries
    levels-is = counts.levels_are ∙ limited-small _ (omega (arith, levels-low))

    -- What the writer of the rows asks of a table that holds the kernel rows.
    pub accepted-asks : {table : List ℕ} → Measured resolved table → (words : ℕ) → 6 * (1 + p.rows) ≤ words → ProgramAsks resolved table first p.rows p.levels words
    unfolding temporaries
    accepted-asks m words h = record {
      writing = record { measured = m; small_store = omega (arith, first-low); few_levels = few_levels };
      size_is = size_is;
      levels_are = levels-is;
      store_low = omega (arith, first-low, levels-is, levels-low);
      room = record { inside = h; low = omega (arith, size_is, size_low) };
    }

    pub temporaries-low : p.levels ≤ 8192
    temporaries-low = omega (arith, levels-is, levels-low)

    pub row-words-low : 6 * (1 + p.rows) ≤ 245880
    row-words-low = omega (arith, size_is, size_low)

    -- The header and the rows that the writers write are those of the kernel form.
    pub header_is : (D : ℕ) → D ≡ declaration_count rows → kernel_header (layout_of SourceForm header) D p.levels ≡ kernel_header_of header rows
    unfolding kernel_header_of
    header_is D e = ap₂ (kernel_header (layout_of SourceForm header)) e levels-is

    pub row-words : 6 * (1 + p.rows) ≡ length (kernel_rows_of header rows)
    unfolding kernel_rows_of
    row-words = omega (arith, size_is, translation-rows first (contents resolved), length-emit (block (translate first (contents resolved))))

  pub rows_are : (begin : ℕ) → begin ≡ first → emit (kernel_program begin (contents resolved)) ≡ kernel_rows_of header rows
  unfolding kernel_rows_of
  rows_are begin e = ap emit (ap (λ (n : ℕ). kernel_program n (contents resolved)) e)

  pub header-words : length header + 2 ≡ length (kernel_header_of header rows)
  unfolding kernel_header_of
  header-words = sym (kernel-header-length header (declaration_count rows) (temporaries (contents resolved)) accepted-header)
