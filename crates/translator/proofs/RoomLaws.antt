-- Laws of room: from n source rows, 20×n+20 rows and two words more than the source header are room enough, so that an accepted program is
-- translated and number 10 is not given. The emission writes six words a row, and the rows of the translation are bounded.
use Rattle.std.specs.Prelude.{◌≡◌, List, ◌+◌, ◌*◌, ◌≤◌, ℤ, length, Ok}
use Rattle.std.proofs.Common.{arith}
use borrow.Author.Tests.{le-leb}
use Rattle.words.specs.Table.{row_count}
use Rattle.words.specs.Layout.{store_words}
use Rattle.words.specs.Laws.{header_fits-facts}
use Rattle.words.specs.declared.Form.TheVariants.{Source}
use Rattle.language.specs.Trees.{block}
use Rattle.language.specs.Program.{contents}
use Rattle.language_programs.specs.Program.{resolved_rows}
use Rattle.translation.specs.Translate.{translate}
use Rattle.translation.proofs.TranslateBounds.{rows_bound}
use Rattle.language_emission.specs.EmissionLaws.{length-emit}
use Rattle.check_source.specs.Refusal.{refusal as source_refusal}
use Rattle.check_source.proofs.AcceptsLegal.{accepts-legal}
use Rattle.accepted.proofs.Resolved.{table-rows}
use Rattle.translation_fate.specs.KernelForms.{kernel_header_of, kernel_rows_of}
use Rattle.translator.specs.Translation.{translate_result}
use Rattle.translator.specs.AcceptedLaws.{accepted-header, header-words}

module _ (header rows : List ℤ) (accepted : source_refusal header rows ≡ (Ok tt)) where
  -- "From n source rows come at most 20×n+20 kernel rows", of six words each.
  pub row-words-bound : length (kernel_rows_of header rows) ≤ 6 * (20 * row_count rows + 20)
  unfolding kernel_rows_of
  row-words-bound =
      let program = contents (resolved_rows Source header rows) in
      omega (arith, length-emit (block (translate (store_words Source header rows) program)), rows_bound (store_words Source header rows) program, table-rows header rows ((accepts-legal header rows).0 accepted))

  -- V, D, T and up to 32 array lengths.
  pub header-words-bound : length (kernel_header_of header rows) ≤ 35
  header-words-bound = omega (arith, header-words header rows accepted, (header_fits-facts Source header (accepted-header header rows accepted)).most)

  pub room-suffices : (outHeader outRows : List ℤ) → length header + 2 ≤ length outHeader → 6 * (20 * row_count rows + 20) ≤ length outRows
      → (translate_result header rows outHeader outRows).answer ≡ Ok ((length (kernel_header_of header rows)), (length (kernel_rows_of header rows)))
  unfolding translate_result
  room-suffices outHeader outRows h r =
      rw (accepted, le-leb (length (kernel_header_of header rows)) (length outHeader) (omega (arith, header-words header rows accepted)), le-leb (length (kernel_rows_of header rows)) (length outRows) (omega (arith, row-words-bound)))
