-- The round trips: "Text that is accepted and written again gives the same bytes; rows written and read give the same rows."
-- Both follow from the laws of texts, since reader and writer share the causes 1, 2 and 10.
use Rattle.std.specs.Prelude.{◌≡◌, true, List, [], ◌∷◌, ℕ, ◌≤◌, leb, ℤ, length, take}
use Rattle.std.proofs.Common.{le-leb}
use Rattle.words.specs.Layout.{header_fits}
use Rattle.words.specs.Laws.{header_fits-facts, count_fits-facts}
use Rattle.words.specs.declared.Form.{Form}
use Rattle.text_form.specs.Text.{text_bytes, header_sized}
use Rattle.words.specs.Over.{over}
use Rattle.text_form.specs.Answers.{finished, read_result, write_bytes, write_result}
use Rattle.text_lines.specs.LineLaws.{Words}
use Rattle.text_form.proofs.TextLaws.{text-shows}
use Rattle.text_form.specs.Passing.{Passes}
use Rattle.text_form.proofs.AnswerLaws.{passes-cause, read-passing, accepted, written}

-- ---- text that is accepted and written again

write_again : (form : Form) (text : List ℕ) (header rows : List ℤ) (buffer : List ℕ) → Passes form header (length rows) → text_bytes header rows ≡ text → length text ≤ length buffer
    → write_result form header rows buffer ≡ record { outcome = finished (length text ∷ []); text = over text buffer }
unfolding write_result write_bytes
write_again form text header rows buffer p e room =
    rw (e, passes-cause form header (length rows) (leb (length text) (length buffer)) p (le-leb (length text) (length buffer) room))

-- A text that the reader accepts, from any tables, is written again from the tables it left: the same bytes.
pub text-round-trip : (form : Form) (text : List ℕ) (header rows : List ℤ) (headerWords row_words : ℕ)
    → (read_result form text header rows).outcome ≡ finished (headerWords ∷ row_words ∷ [])
    → (buffer : List ℕ) → length text ≤ length buffer
    → write_result form (take headerWords (read_result form text header rows).header) (take row_words (read_result form text header rows).rows) buffer
    ≡ record { outcome = finished (length text ∷ []); text = over text buffer }
text-round-trip form text header rows headerWords row_words f buffer room =
    let a = accepted form text header rows headerWords row_words f in
    rw (a.header_read, a.rows_read) (write_again form text a.program.header a.program.rows buffer a.passes a.is_text.written room)

-- ---- rows written and read

fits-sized : (form : Form) (header : List ℤ) → header_fits form header ≡ true → header_sized form header ≡ true
fits-sized form header h =
    let f = header_fits-facts form header h in
    rw (le-leb _ _ f.least, le-leb _ _ f.most)

read_again : (form : Form) (header rows : List ℤ) → Passes form header (length rows) → Words header → Words rows
    → (headerTable rowTable : List ℤ) → length header ≤ length headerTable → length rows ≤ length rowTable
    → read_result form (text_bytes header rows) headerTable rowTable
    ≡ record { outcome = finished (length header ∷ length rows ∷ []); header = over header headerTable; rows = over rows rowTable }
read_again form header rows p w v headerTable rowTable h r =
    let parses = text-shows form header rows (fits-sized form header p.header-fits) (count_fits-facts form (length rows) p.count-fits).whole w v in
    read-passing form (text_bytes header rows) (record { header = header; rows = rows }) parses p headerTable rowTable h r

-- A header and rows that the writer accepts are read back from the bytes it wrote, into any tables that hold them.
pub rows-round-trip : (form : Form) (header rows : List ℤ) (buffer : List ℕ) (bytes : ℕ) → Words header → Words rows
    → (write_result form header rows buffer).outcome ≡ finished (bytes ∷ [])
    → (headerTable rowTable : List ℤ) → length header ≤ length headerTable → length rows ≤ length rowTable
    → read_result form (take bytes (write_result form header rows buffer).text) headerTable rowTable
    ≡ record { outcome = finished (length header ∷ length rows ∷ []); header = over header headerTable; rows = over rows rowTable }
rows-round-trip form header rows buffer bytes w v f headerTable rowTable h r =
    let b = written form header rows buffer bytes f in
    rw b.text_written (read_again form header rows b.passes w v headerTable rowTable h r)
