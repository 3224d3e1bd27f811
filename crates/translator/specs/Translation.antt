-- Translation: the answer, and what stands in both tables after it.
use Rattle.std.specs.Prelude.{◌≡◌, ◌&&◌, List, ℕ, ◌≤◌, leb, ℤ, length, take, Err, Ok, Result}
use Rattle.words.specs.Refusals.{NumberedRefusal}
use Rattle.words.specs.Word.{pick}
use Rattle.words.specs.Numbers.{Numbers, done, refused}
use Rattle.check_source.specs.Refusal.{refusal as source_refusal}
use Rattle.words.specs.Over.{over}
use Rattle.translation_fate.specs.KernelForms.{kernel_header_of, kernel_rows_of, KernelFormOf}

-- A translation in numbers: the words of the kernel header and of the kernel rows, or the refusal.
abbrev pub translate_numbers : Result (ℕ × ℕ) NumberedRefusal → Numbers
translate_numbers (Ok (headerWords, row_words)) = done headerWords row_words
translate_numbers (Err refusal) = refused refusal.number refusal.place

-- What a translation gives: its answer, that answer in numbers, and the tables that it leaves.
pub record TranslateResult : Type 0 where
  pub answer : Result (ℕ × ℕ) NumberedRefusal
  pub numbers : Numbers
  pub header : List ℤ
  pub rows : List ℤ

-- An answer and the tables that it leaves.
abbrev pub answer_and_tables : Result (ℕ × ℕ) NumberedRefusal → List ℤ → List ℤ → TranslateResult
answer_and_tables answer header rows = record { answer = answer; numbers = translate_numbers answer; header = header; rows = rows }

-- Where both tables have room, the kernel header and rows are written from their start: "Rows of an output table .. beyond the
-- result keep their content." Else cause 10, "output table shorter than its result needs".
abbrev pub written : (kernel_header kernel_rows header rows : List ℤ) → TranslateResult
written kernel_header kernel_rows header rows =
    pick (leb (length kernel_header) (length header) && leb (length kernel_rows) (length rows))
    (answer_and_tables (Ok ((length kernel_header), (length kernel_rows))) (over kernel_header header) (over kernel_rows rows))
    (answer_and_tables (Err (record { number = 10; place = 0 })) header rows)

-- The check's causes first; then the kernel form of docs/REWRITING.md. `outHeader` and `outRows` are the tables lent for it.
abbrev pub translate_after : Result (Unit {0}) NumberedRefusal → (header rows outHeader outRows : List ℤ) → TranslateResult
translate_after (Err refusal) header rows outHeader outRows = answer_and_tables (Err refusal) outHeader outRows
translate_after (Ok tt) header rows outHeader outRows = written (kernel_header_of header rows) (kernel_rows_of header rows) outHeader outRows

unfoldable pub translate_result : (header rows outHeader outRows : List ℤ) → TranslateResult
translate_result header rows outHeader outRows = translate_after (source_refusal header rows) header rows outHeader outRows

-- ---- the words written

-- Demands 2 and 3 and Change 14 about what stands in both tables after a translation: the program is accepted, and the first words of
-- the tables, as many as the answer says, are a legal kernel program that shares its fate and makes its writes.
pub record WroteKernelForm (header rows : List ℤ) (headerWords row_words : ℕ) (headerLeft rows_left : List ℤ) : Type 0 where
  pub source_accepted : source_refusal header rows ≡ (Ok tt)
  pub header_inside : headerWords ≤ length headerLeft
  pub rows_inside : row_words ≤ length rows_left
  pub kernel_form : KernelFormOf header rows (take headerWords headerLeft) (take row_words rows_left)

-- The same by the answer; a refusal writes nothing.
abbrev pub WritesKernelForm : (header rows : List ℤ) → Result (ℕ × ℕ) NumberedRefusal → (headerLeft rows_left : List ℤ) → Type 0
WritesKernelForm header rows (Ok (headerWords, row_words)) headerLeft rows_left = WroteKernelForm header rows headerWords row_words headerLeft rows_left
WritesKernelForm header rows (Err refusal) headerLeft rows_left = Unit {0}
