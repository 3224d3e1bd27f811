-- Source: what a legal source program gives to its users.
use Rattle.std.specs.Prelude.{◌≡◌, List, ℕ, ◌^◌, ◌≤◌, ◌<◌, ℤ, pos, get_or, length}
use Rattle.std.proofs.Math.Logic.{inl}
use Rattle.std.proofs.Common.{arith}
use Rattle.std.specs.Int.Signed.{mag}
use Rattle.words.specs.Table.{row_count}
use Rattle.words.specs.Layout.{layout_of, store_size, header_store}
use Rattle.words.specs.declared.Form.TheVariants.{Source}
use Rattle.computation.specs.Run.{Limit, start}
use Rattle.language.specs.Trees.{block}
use Rattle.language.specs.Decode.{decode}
use Rattle.language.specs.Meaning.{next}
use Rattle.language.specs.Functions.{context_of}
use Rattle.language.specs.Program.{contents, table_program, run_table_under}
use Rattle.language.specs.Sizes.{statement_rows, statement_depth}
use Rattle.language.specs.Sound.{Sound}
use Rattle.language.specs.WellFormed.{NamedItems, SourceName, SourceTree}
use Rattle.check_fields.specs.Fields.{bounds_of}
use Rattle.accepted_calls.specs.Tables.{FunctionTable}
use Rattle.accepted_calls.proofs.Calls.{calls-in-order}
use Rattle.accepted_calls.proofs.Structured.{function-table}
use Rattle.check_source.specs.Legal.{Legal}
use Rattle.accepted.proofs.Fields.{header-declared}
use Rattle.accepted.proofs.Statements.{program-block}
use Rattle.accepted.proofs.Names.{named-contents, source-variable}
use Rattle.accepted.proofs.Places.{placed-contents}
use Rattle.accepted.specs.Gives.{Gives}
use Rattle.accepted.specs.Endings.{program-ends}
use Rattle.accepted.proofs.Sound.{header-sound}
use Rattle.accepted.proofs.Rows.{decoded-rows}
use Rattle.accepted.proofs.Depth.{structured-depth}
use Rattle.accepted.specs.Worded.{Worded}
use Rattle.accepted.proofs.Words.{structured-worded}

module _ (header rows : List ℤ) (legal : Legal header rows) where
  -- Numbers within the bounds of a source header are those of its variables and arrays.
  numbers-named : (first : ℕ) → store_size (layout_of Source header) ≤ first → NamedItems (SourceName (layout_of Source header) first) (length (layout_of Source header).lengths) (contents rows)
  unfolding bounds_of store_size
  numbers-named first fits =
      named-contents Source (bounds_of Source header) rows legal.structured (header-declared Source header) (SourceName (layout_of Source header) first)
      (λ number n. let below = source-variable header number n in record { inside = omega arith; apart = inl below })

  -- A run may walk its rows.
  pub legal-sound : Sound rows (layout_of Source header) (header_store Source header)
  legal-sound = header-sound Source header rows legal.structured

  -- Its tree is the block of its items.
  pub legal-block : decode rows ≡ block (contents rows)
  legal-block = program-block Source _ rows legal.structured

  -- Its functions and calls are as their trees ask.
  pub legal-functions : FunctionTable rows
  legal-functions = function-table Source _ rows legal.structured legal.well_called

  -- Their numbers are in range, their jumps in place, wherever the temporaries begin.
  pub legal-tree : (first : ℕ) → store_size (layout_of Source header) ≤ first → SourceTree (layout_of Source header) first (contents rows)
  legal-tree first fits = record {
    named = numbers-named first fits;
    placed = placed-contents _ rows legal.structured legal.placed legal.well_called.in_order;
    calls = calls-in-order rows legal-functions;
  }

  -- Its tree has as many rows as the table.
  pub legal-rows : statement_rows (block (contents rows)) ≡ row_count rows
  legal-rows = rw legal-block at (decoded-rows Source _ rows legal.structured legal.well_called.in_order)

  -- "The limit is 64."
  pub legal-depth : statement_depth (block (contents rows)) ≤ 64
  legal-depth = rw legal-block at (structured-depth Source _ rows legal.structured legal.shallow)

  -- Its constants and case values are words of the table.
  pub legal-worded : ((i : ℕ) → mag (get_or rows i (pos 0)) < 2 ^ 31) → Worded (decode rows)
  legal-worded = structured-worded Source _ rows legal.structured

  -- A run that comes to its end is not on its way out of a loop or switch, nor to a mark, under any limit and from any store: `Plain`
  -- says no less than document 01's "ends plainly".
  pub legal-ends-normally : (limit : Limit) (store : List ℤ) → Gives (λ signal. signal ≡ next) (run_table_under limit Source header rows store)
  unfolding run_table_under table_program
  legal-ends-normally limit store = rw legal-block (program-ends (context_of (layout_of Source header) (contents rows)) limit (contents rows) (placed-contents _ rows legal.structured legal.placed legal.well_called.in_order) (start store))
