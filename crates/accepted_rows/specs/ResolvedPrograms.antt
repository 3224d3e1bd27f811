-- Laws of an accepted source program's resolved table: what writing it asks, that it is lent, and where it is the rows themselves.
use Rattle.std.specs.Prelude.{◌≡◌, true, List, ℕ, ◌-◌, ◌≤◌, ℤ, length, take, Ok}
use Rattle.std.proofs.Common.{sym, ◌∙◌, arith}
use Rattle.words.specs.Over.{over}
use Rattle.words.specs.OverLaws.{written-part}
use Rattle.words.specs.Declarations.{declaration_count}
use Rattle.words.specs.Layout.{header_fits, layout_of, store_size}
use Rattle.words.specs.Laws.{header_fits-facts, count_fits-facts}
use Rattle.words.specs.declared.Form.TheVariants.{Source}
use Rattle.check_structure.specs.Structured.{Tree}
use Rattle.check_structure.specs.StructuredLaws.{structured-tree}
use Rattle.names.proofs.ResolvedLaws.{resolved-length}
use Rattle.language_programs.specs.Program.{resolved_rows}
use Rattle.language_programs.specs.ResolvedRows.{undeclared-rows}
use Rattle.check_source.specs.Refusal.{refusal}
use Rattle.check_source.specs.Legal.{Legal}
use Rattle.check_source.proofs.AcceptsLegal.{accepts-legal}

module _ (header rows : List ℤ) (accepted : refusal header rows ≡ Ok tt) where
  legal : Legal header rows
  legal = (accepts-legal header rows).0 accepted

  pub accepted-header : header_fits Source header ≡ true
  accepted-header = legal.header-fits

  pub accepted-tree : Tree rows
  accepted-tree = structured-tree Source _ rows legal.structured

  -- "S is at most 8,192."
  pub accepted-size : store_size (layout_of Source header) ≤ 8192
  accepted-size = (header_fits-facts Source header accepted-header).small_store

  -- "1 to 2,048 rows"
  pub accepted-words : length rows ≤ 12288
  accepted-words = (count_fits-facts Source (length rows) legal.structured.count-fits).most

  -- without declarations the rows are read as they stand
  pub undeclared-table : declaration_count rows ≡ 0 → resolved_rows Source header rows ≡ rows
  undeclared-table none = undeclared-rows header rows accepted-tree none

-- The first words of a table into which it was written, as many as the rows have, are lent.
pub lent-table : (header rows table left : List ℤ) (words : ℕ) → words ≡ length rows → left ≡ over (resolved_rows Source header rows) table → take (words - 0) left ≡ resolved_rows Source header rows
lent-table header rows table left words all written = written-part (resolved_rows Source header rows) table left words (all ∙ sym (resolved-length (store_size (layout_of Source header)) rows)) written
