-- Resolved: what a legal source program gives of its resolved table, whose names are store words: the table that runs and translations read.
use Rattle.std.specs.Prelude.{◌≡◌, List, ℕ, ◌+◌, ◌^◌, ◌≤◌, ◌<◌, ℤ, pos, get_or}
use Rattle.std.proofs.Math.Path.{subst}
use Rattle.std.proofs.Common.{◌∙◌, arith}
use Rattle.std.specs.Int.Signed.{mag}
use Rattle.words.specs.Table.{row_count}
use Rattle.words.specs.Declarations.{declaration_count}
use Rattle.words.specs.Layout.{Layout, layout_of, store_size, store_words}
use Rattle.words.specs.Laws.{header_fits-facts}
use Rattle.words.specs.StoreLaws.{source-header-store}
use Rattle.words.specs.declared.Form.TheVariants.{Source}
use Rattle.computation.specs.Run.{Limit, start}
use Rattle.language.specs.Trees.{block}
use Rattle.language.specs.Decode.{decode}
use Rattle.language.specs.Meaning.{next}
use Rattle.language.specs.Functions.{context_of}
use Rattle.language.specs.Program.{contents, table_program, run_table_under}
use Rattle.language.specs.Sizes.{statement_rows, statement_depth}
use Rattle.language.specs.Sound.{Sound}
use Rattle.language.specs.WellFormed.{SourceName, SourceTree}
use Rattle.check_fields.specs.Fields.{variable_range, word_range, bounds_in, bounds_of, source_bounds, resolved_bounds}
use Rattle.check_structure.specs.Structured.{Structured}
use Rattle.check_structure.specs.StructuredLaws.{structured-tree}
use Rattle.names.specs.Names.{resolved}
use Rattle.names.proofs.ResolvedLaws.{resolved-count, resolved-shallow}
use Rattle.names.proofs.ResolvedNames.{resolved-holds}
use Rattle.names.proofs.ResolvedStructured.{resolved-structured}
use Rattle.check_function_causes.specs.Demands.{WellCalled}
use Rattle.language_shapes.specs.Functions.{SoundFunctions}
use Rattle.accepted_calls.specs.Tables.{FunctionTable, FewParameters}
use Rattle.accepted_calls.proofs.Calls.{calls-in-order}
use Rattle.accepted_calls.proofs.Few.{few_declared}
use Rattle.accepted_calls.proofs.Sources.{sound-functions}
use Rattle.accepted_calls.specs.Resolved.{resolved-called}
use Rattle.accepted_calls.proofs.Structured.{function-table}
use Rattle.language_programs.specs.ResolvedRows.{resolved-store}
use Rattle.check_source.specs.Legal.{Legal}
use Rattle.check_source.specs.Carried.{resolved-placed}
use Rattle.accepted.proofs.Statements.{program-block}
use Rattle.accepted.proofs.Fields.{resolved-declared}
use Rattle.accepted.proofs.Names.{named-contents, source-name}
use Rattle.accepted.proofs.Places.{placed-contents}
use Rattle.accepted.specs.Gives.{Gives}
use Rattle.accepted.specs.Endings.{program-ends}
use Rattle.accepted.proofs.Sound.{structured-sound}
use Rattle.accepted.proofs.Rows.{decoded-rows}
use Rattle.accepted.proofs.Depth.{structured-depth}
use Rattle.accepted.specs.Worded.{IsWord, Worded}
use Rattle.accepted.proofs.Words.{structured-worded}

module _ (header rows : List ℤ) (legal : Legal header rows) where
  abbrev L : Layout
  L = layout_of Source header

  abbrev S : ℕ
  S = store_size L

  -- "The source store is S+D words."
  abbrev words : ℕ
  words = S + declaration_count rows

  abbrev table : List ℤ
  table = resolved S rows

  header-bounds : Structured Source (source_bounds L) rows
  unfolding bounds_of
  header-bounds = subst (λ (words : ℕ). Structured Source (bounds_in L (variable_range L) words) rows) (source-header-store header) legal.structured

  -- Numbers within its bounds are those of variables, or words of declarations.
  pub table-structured : Structured Source (resolved_bounds L (declaration_count rows)) table
  table-structured = resolved-structured Source L rows header-bounds

  -- A run may walk its rows.
  pub table-sound : Sound table L words
  table-sound = structured-sound Source L (word_range L (declaration_count rows)) words table (omega arith) (omega arith) table-structured

  -- Its tree is the block of its items.
  pub table-block : decode table ≡ block (contents table)
  table-block = program-block Source _ table table-structured

  -- Its functions and calls are the program's, and as their trees ask.
  table-called : WellCalled table
  table-called = resolved-called S rows legal.well_called

  pub table-functions : FunctionTable table
  table-functions = function-table Source _ table table-structured table-called

  -- "At most 64" parameters: they count with the declarations.
  pub table-few : FewParameters table
  unfolding store_words
  table-few = few_declared table table-functions (omega (arith, resolved-store header rows, legal.well_declared.few_declarations))

  -- What the translator asks of its functions and calls.
  pub table-calls : SoundFunctions table
  table-calls = sound-functions table table-functions table-structured.lone table-few

  -- Their numbers are in range, their jumps in place, their calls in order.
  pub table-tree : SourceTree L words (contents table)
  table-tree = record {
    named = named-contents Source _ table table-structured (resolved-declared L (declaration_count rows)) (SourceName L words) (source-name L (word_range L (declaration_count rows)) words (omega arith));
    placed = placed-contents _ table table-structured (resolved-placed S rows legal.placed) table-called.in_order;
    calls = calls-in-order table table-functions;
  }

  -- Its tree has as many rows as the table.
  pub table-rows : statement_rows (block (contents table)) ≡ row_count rows
  table-rows = rw table-block at (decoded-rows Source _ table table-structured table-called.in_order) ∙ resolved-count S rows

  -- "The limit is 64."
  pub table-depth : statement_depth (block (contents table)) ≤ 64
  table-depth = rw table-block at (structured-depth Source _ table table-structured (resolved-shallow S rows Source legal.shallow))

  -- Its constants and case values are words.
  pub table-worded : ((i : ℕ) → mag (get_or rows i (pos 0)) < 2 ^ 31) → Worded (decode table)
  table-worded own = structured-worded Source _ table table-structured (resolved-holds S rows (structured-tree Source _ rows header-bounds) IsWord own small)
    where
      small : (word : ℕ) → word < words → IsWord (pos word)
      small word h = omega (arith, (header_fits-facts Source header legal.header-fits).small_store, legal.well_declared.few_declarations)

  -- A run that comes to its end is not on its way out of a loop or switch, nor to a mark, under any limit and from any store.
  pub table-ends-normally : (limit : Limit) (store : List ℤ) → Gives (λ signal. signal ≡ next) (run_table_under limit Source header table store)
  unfolding run_table_under table_program
  table-ends-normally limit store = rw table-block (program-ends (context_of L (contents table)) limit (contents table) table-tree.placed (start store))
