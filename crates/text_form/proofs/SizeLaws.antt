-- SizeLaws: what reader and writer answer fits the tables and the buffer that they were lent.
use Rattle.std.specs.Prelude.{◌≡◌, List, ℕ, ◌≤◌, ℤ, length, Ok, Result}
use Rattle.words.specs.Refusals.{NumberedRefusal}
use Rattle.std.proofs.Common.{sym, ap, ◌∙◌}
use Rattle.words.specs.declared.Form.{Form}
use Rattle.text_form.specs.Answers.{read_outcome, write_outcome, read_result, Reads, write_result, Writes}
use Rattle.text_form.proofs.AnswerLaws.{accepted, written}

-- A text that was read fits both tables.
pub read_fits : (form : Form) (text : List ℕ) (header rows headerLeft rows_left : List ℤ) (answer : Result (ℕ × ℕ) NumberedRefusal) (headerWords row_words : ℕ)
    → Reads (read_result form text header rows) answer headerLeft rows_left → answer ≡ Ok (headerWords, row_words) → (headerWords ≤ length header) × (row_words ≤ length rows)
read_fits form text header rows headerLeft rows_left answer headerWords row_words reads e =
    let a = accepted form text header rows headerWords row_words (sym reads.outcome ∙ ap read_outcome e) in
    (a.header_room, a.rows_room)

-- A text that was written fits the buffer.
pub write-fits : (form : Form) (header rows : List ℤ) (buffer left : List ℕ) (answer : Result ℕ NumberedRefusal) (bytes : ℕ)
    → Writes (write_result form header rows buffer) answer left → answer ≡ Ok bytes → bytes ≤ length buffer
write-fits form header rows buffer left answer bytes writes e = (written form header rows buffer bytes (sym writes.outcome ∙ ap write_outcome e)).room
