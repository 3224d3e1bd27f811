-- Laws of the translation's answer: which of three it is; a translation that was made stands at the start of both tables, so that the
-- words there are a legal kernel program that shares the source's fate and makes its writes.
use Rattle.std.specs.Prelude.{◌≡◌, Bool, true, false, ◌&&◌, List, ℕ, ◌-◌, ◌≤◌, ◌<◌, leb, ℤ, length, take, Err, Ok, Result}
use Rattle.std.proofs.Math.Path.{refl, sym, ap}
use Rattle.std.proofs.Common.{◌∙◌, arith, leb-true, le-leb}
use Rattle.std.proofs.Math.Bool.{and-false}
use Rattle.std.proofs.lemmas.Bool.{lt-leb}
use Rattle.words.specs.Word.{pick}
use Rattle.words.specs.Over.{over}
use Rattle.words.specs.OverLaws.{first_of, length_over, written-part}
use Rattle.words.specs.Refusals.{NumberedRefusal}
use Rattle.check_source.specs.Refusal.{refusal as source_refusal}
use Rattle.translation_fate.specs.KernelForms.{kernel_header_of, kernel_rows_of, HasKernelForm}
use Rattle.translator.specs.Translation.{TranslateResult, answer_and_tables, written, translate_after, translate_result, WritesKernelForm}

-- an answer with counts is no refusal
no-refusal : {G : Type 0} {headerWords row_words : ℕ} {refusal : NumberedRefusal} → ◌≡◌ {A = Result (ℕ × ℕ) NumberedRefusal} (Ok (headerWords, row_words)) (Err refusal) → G
no-refusal {headerWords = headerWords} {row_words = row_words} {refusal = refusal} e = absurd (let z : ◌≡◌ {A = ℕ} 0 1 = cc in omega arith)

module _ (kernel_header kernel_rows header rows : List ℤ) where
  abbrev pub too_short : TranslateResult
  too_short = answer_and_tables (Err (record { number = 10; place = 0 })) header rows

  pub header-short : length header < length kernel_header → too_short ≡ written kernel_header kernel_rows header rows
  header-short h = rw (lt-leb _ _ h)

  pub rows_short : length rows < length kernel_rows → too_short ≡ written kernel_header kernel_rows header rows
  rows_short h = rw (lt-leb _ _ h, and-false)

  pub both-written : length kernel_header ≤ length header → length kernel_rows ≤ length rows
      → answer_and_tables (Ok ((length kernel_header), (length kernel_rows))) (over kernel_header header) (over kernel_rows rows) ≡ written kernel_header kernel_rows header rows
  both-written h k = rw (le-leb _ _ h, le-leb _ _ k)

module _ (header rows outHeader outRows : List ℤ) where
  abbrev kernel_header : List ℤ
  kernel_header = kernel_header_of header rows

  abbrev kernel_rows : List ℤ
  kernel_rows = kernel_rows_of header rows

  -- Both tables have room for the kernel form.
  pub record HasRoom : Type 0 where
    pub header_room : length kernel_header ≤ length outHeader
    pub rows_room : length kernel_rows ≤ length outRows

  module _ (headerLeft rows_left : List ℤ) where
    -- what the writers leave for an accepted program is the translation's result
    pub accepted-result : (answer : Result (ℕ × ℕ) NumberedRefusal) → source_refusal header rows ≡ (Ok tt) → answer_and_tables answer headerLeft rows_left ≡ translate_after (Ok tt) header rows outHeader outRows
        → answer_and_tables answer headerLeft rows_left ≡ translate_result header rows outHeader outRows
    unfolding translate_result
    accepted-result answer accepted e = rw accepted e

    -- ---- a translation that was made

    -- The check accepts the program; the kernel form has so many words, which fit both tables and stand at their start.
    pub record Made (headerWords row_words : ℕ) : Type 0 where
      pub accepted : source_refusal header rows ≡ (Ok tt)
      pub header_room : headerWords ≤ length outHeader
      pub rows_room : row_words ≤ length outRows
      pub header-kept : length headerLeft ≡ length outHeader
      pub rows-kept : length rows_left ≡ length outRows
      pub header-written : take (headerWords - 0) headerLeft ≡ kernel_header
      pub rows_written : take (row_words - 0) rows_left ≡ kernel_rows

    module _ (headerWords row_words : ℕ) where
      made-written : (a b : Bool) → leb (length kernel_header) (length outHeader) ≡ a → leb (length kernel_rows) (length outRows) ≡ b → source_refusal header rows ≡ (Ok tt)
          → answer_and_tables (Ok (headerWords, row_words)) headerLeft rows_left
          ≡ pick (a && b) (answer_and_tables (Ok ((length kernel_header), (length kernel_rows))) (over kernel_header outHeader) (over kernel_rows outRows)) (too_short kernel_header kernel_rows outHeader outRows)
          → Made headerWords row_words
      made-written true true h r accepted e =
          let counts : ◌≡◌ {A = Result (ℕ × ℕ) NumberedRefusal} (Ok (headerWords, row_words)) (Ok (length kernel_header, length kernel_rows)) = ap (λ (result : TranslateResult). result.answer) e in
          let both : ◌≡◌ {A = ℕ × ℕ} (headerWords, row_words) (length kernel_header, length kernel_rows) = cc in
          let first : headerWords ≡ length kernel_header = ap (λ (p : ℕ × ℕ). p.0) both in
          let second : row_words ≡ length kernel_rows = ap (λ (p : ℕ × ℕ). p.1) both in
          record {
            accepted = accepted;
            header_room = omega (arith, leb-true (length kernel_header) (length outHeader) h);
            rows_room = omega (arith, leb-true (length kernel_rows) (length outRows) r);
            header-kept = length_over kernel_header outHeader headerLeft (ap (λ (result : TranslateResult). result.header) e) (leb-true (length kernel_header) (length outHeader) h);
            rows-kept = length_over kernel_rows outRows rows_left (ap (λ (result : TranslateResult). result.rows) e) (leb-true (length kernel_rows) (length outRows) r);
            header-written = written-part kernel_header outHeader headerLeft headerWords first (ap (λ (result : TranslateResult). result.header) e);
            rows_written = written-part kernel_rows outRows rows_left row_words second (ap (λ (result : TranslateResult). result.rows) e);
          }
      made-written true false h r accepted e = no-refusal (ap (λ (result : TranslateResult). result.answer) e)
      made-written false b h r accepted e = no-refusal (ap (λ (result : TranslateResult). result.answer) e)

      pub translation-made : answer_and_tables (Ok (headerWords, row_words)) headerLeft rows_left ≡ translate_result header rows outHeader outRows → Made headerWords row_words
      unfolding translate_result
      translation-made e = go (source_refusal header rows) refl e
        where
          go : (verdict : Result (Unit {0}) NumberedRefusal) → source_refusal header rows ≡ verdict → answer_and_tables (Ok (headerWords, row_words)) headerLeft rows_left ≡ translate_after verdict header rows outHeader outRows
              → Made headerWords row_words
          go (Err refusal) v e = no-refusal (ap (λ (result : TranslateResult). result.answer) e)
          go (Ok tt) v e = made-written (leb (length kernel_header) (length outHeader)) (leb (length kernel_rows) (length outRows)) refl refl v e

    -- ---- the words written

    pub writes-kernel-form : (answer : Result (ℕ × ℕ) NumberedRefusal) → HasKernelForm header rows → answer_and_tables answer headerLeft rows_left ≡ translate_result header rows outHeader outRows
        → WritesKernelForm header rows answer headerLeft rows_left
    writes-kernel-form (Err refusal) has e = tt
    writes-kernel-form (Ok (headerWords, row_words)) has e =
        let made = translation-made headerWords row_words e in
        record {
          source_accepted = made.accepted;
          header_inside = omega (arith, made.header_room, made.header-kept);
          rows_inside = omega (arith, made.rows_room, made.rows-kept);
          kernel_form = rw (sym (first_of headerLeft headerWords) ∙ made.header-written, sym (first_of rows_left row_words) ∙ made.rows_written) (has made.accepted);
        }

    -- ---- a translation that was refused

    -- Where an accepted program's kernel form has room, a refusal is the check's.
    pub translation-refused : (refusal : NumberedRefusal) → (source_refusal header rows ≡ (Ok tt) → HasRoom)
        → answer_and_tables (Err refusal) headerLeft rows_left ≡ translate_result header rows outHeader outRows → source_refusal header rows ≡ Err refusal
    unfolding translate_result
    translation-refused refusal room e = go (source_refusal header rows) refl e
      where
        go : (verdict : Result (Unit {0}) NumberedRefusal) → source_refusal header rows ≡ verdict → answer_and_tables (Err refusal) headerLeft rows_left ≡ translate_after verdict header rows outHeader outRows
            → source_refusal header rows ≡ Err refusal
        go (Err other) v e =
            let told : ◌≡◌ {A = Result (ℕ × ℕ) NumberedRefusal} (Err refusal) (Err other) = ap (λ (result : TranslateResult). result.answer) e in
            let same : other ≡ refusal = cc in
            v ∙ ap Err same
        go (Ok tt) v e =
            let fits = room v in
            no-refusal (sym (ap (λ (result : TranslateResult). result.answer) (e ∙ sym (both-written kernel_header kernel_rows outHeader outRows fits.header_room fits.rows_room))))
