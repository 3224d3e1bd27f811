-- Sizes: the numbers of one size, or of two, are those of each entry that gives them.
use Rattle.std.specs.Prelude.{◌≡◌, ℕ, Err, Ok, Result, refl}
use Rattle.words.specs.Refusals.{NumberedRefusal}
use Rattle.text_form.specs.Answers.{read_outcome, write_outcome}
use Rattle.exports.specs.Numbers.{size_answer, sizes_answer, outcome_answer, translate_answer, join_answer, flatten_answer, page_answer}

pub sizes-read : (r : Result (ℕ × ℕ) NumberedRefusal) → sizes_answer r ≡ outcome_answer (read_outcome r)
sizes-read (Ok (header, rows)) = refl
sizes-read (Err refusal) = refl

pub sizes-translated : (r : Result (ℕ × ℕ) NumberedRefusal) → sizes_answer r ≡ translate_answer r
sizes-translated (Ok (header, rows)) = refl
sizes-translated (Err refusal) = refl

pub size-written : (r : Result ℕ NumberedRefusal) → size_answer r ≡ outcome_answer (write_outcome r)
size-written (Ok size) = refl
size-written (Err refusal) = refl

pub size-joined : (r : Result ℕ NumberedRefusal) → size_answer r ≡ join_answer r
size-joined (Ok size) = refl
size-joined (Err refusal) = refl

pub size-flattened : (r : Result ℕ NumberedRefusal) → size_answer r ≡ flatten_answer r
size-flattened (Ok size) = refl
size-flattened (Err refusal) = refl

pub size-page : (r : Result ℕ NumberedRefusal) → size_answer r ≡ page_answer r
size-page (Ok size) = refl
size-page (Err refusal) = refl
