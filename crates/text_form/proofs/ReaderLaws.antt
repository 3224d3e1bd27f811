-- ReaderLaws: the lines of a well-formed text, as the functions that store their numbers are lent them.
use Rattle.std.specs.Prelude.{◌≡◌, refl, true, List, ℕ, ◌+◌, ◌-◌, ◌≤◌, ℤ, length, take, drop, Option, None, Some, Result, Ok, Err, MatchResult}
use Rattle.std.specs.Option.{ok_or}
use Rattle.std.specs.Result.{IsErrAnd}
use Rattle.words.specs.Refusals.{NumberedRefusal}
use Rattle.std.proofs.Common.{sym, ap, ◌∙◌, arith}
use Rattle.words.specs.declared.Form.{Form}
use Rattle.text_lines.specs.Line.{lines_of, fields_of, numbers_of}
use Rattle.text_form.specs.Text.{parsed, rows_from}
use Rattle.words.specs.Over.{over}
use Rattle.text_form.specs.Answers.{cause_of}
use Rattle.text_lines.specs.Reader.{numbers_in, Holds}
use Rattle.text_form.specs.Reader.{HoldsExactly, words_in, HoldsRows, HasLines}
use Rattle.words.specs.OverLaws.{first_of, rest_of, written-part}

-- ---- numbers stored in a scratch array

module _ {read : Option (List ℤ)} {numbers : ℕ} (h : HoldsExactly read numbers) where
  pub scratch-holds : (table : List ℤ) → length table ≡ 35 → Holds read table
  scratch-holds table e = record { well_formed = h.well_formed; room = omega (arith, h.size, h.few) }

  pub scratch-part : (table written : List ℤ) → written ≡ over (numbers_in read) table → take (numbers - 0) written ≡ numbers_in read
  scratch-part table written e = written-part (numbers_in read) table written numbers (sym h.size) e

-- ---- the lines of a well-formed text, as their readers are lent them

module _ {width : ℕ} {form : Form} {text : List ℕ} {end numbers words : ℕ} (l : HasLines width form text end numbers words) where
  pub lent-line : numbers_of (fields_of (take (end - 0) text)) ≡ Some l.program.header
  lent-line = rw (first_of text end) l.first-line

  lent_rows : rows_from width 2 (lines_of (take (length text - (end + 1)) (drop (end + 1) text))) ≡ parsed l.program.rows
  lent_rows = rw (rest_of text (end + 1)) l.other_lines

  pub line-exactly : HoldsExactly (numbers_of (fields_of (take (end - 0) text))) numbers
  line-exactly = record { well_formed = rw lent-line; size = rw lent-line l.header_size; few = l.few }

  pub line-cause : (said : Option ℕ) → said ≡ cause_of form (numbers_in (numbers_of (fields_of (take (end - 0) text)))) words true → cause_of form l.program.header words true ≡ said
  line-cause said e = sym (rw lent-line at e)

  pub line-holds : (header : List ℤ) → numbers ≤ length header → Holds (numbers_of (fields_of (take (end - 0) text))) header
  line-holds header h = record { well_formed = rw lent-line; room = rw lent-line (omega (arith, l.header_size)) }

  pub line-written : (header written : List ℤ) → written ≡ over (numbers_in (numbers_of (fields_of (take (end - 0) text)))) header → written ≡ over l.program.header header
  line-written header written e = rw lent-line at e

  pub rows-hold : (rows : List ℤ) → words ≤ length rows → HoldsRows (rows_from width 2 (lines_of (take (length text - (end + 1)) (drop (end + 1) text)))) rows
  rows-hold rows h = record { well_formed = rw lent_rows; room = rw lent_rows (omega (arith, l.rows_size)) }

  pub rows_written : (rows written : List ℤ) → written ≡ over (words_in (rows_from width 2 (lines_of (take (length text - (end + 1)) (drop (end + 1) text))))) rows → written ≡ over l.program.rows rows
  rows_written rows written e = rw lent_rows at e

-- ---- what `?`, `ok_or` and `map_err` hand on

pub err-is : {T E : Type 0} (r : Result T E) (e : E) → IsErrAnd r (λ d. d ≡ e) → r ≡ Err e
err-is (Ok x) e h = absurd h
err-is (Err d) e h = ap Err h

pub ok_or-err : {T : Type 0} (o : Option T) (r : Result T ℕ) (d e : ℕ) → r ≡ ok_or o d → r ≡ Err e → (o ≡ None) × (e ≡ d)
ok_or-err None r d e h f = (refl, (let same : ◌≡◌ {A = Result _ ℕ} (Err d) (Err e) = sym h ∙ f in cc))
ok_or-err (Some x) r d e h f = absurd (let same : Ok x ≡ Err e = sym h ∙ f in let z : ◌≡◌ {A = ℕ} 0 1 = cc in omega arith)

pub mapped-ok : {T D E : Type 0} (r : Result T E) (m : Result T D) (P : E → D → Type 0) (x : T) → MatchResult r (λ y. m ≡ Ok y) (λ e. IsErrAnd m (P e)) → m ≡ Ok x → r ≡ Ok x
mapped-ok (Ok y) m P x h f = let same : ◌≡◌ {A = Result _ _} (Ok y) (Ok x) = sym h ∙ f in (let k : y ≡ x = cc in ap Ok k)
mapped-ok (Err e) m P x h f = absurd (rw f at h)

pub mapped-malformed : {T : Type 0} (r : Result T ℕ) (m : Result T NumberedRefusal) (P : ℕ → NumberedRefusal → Type 0) (d : NumberedRefusal)
    → MatchResult r (λ y. m ≡ Ok y) (λ e. IsErrAnd m (P e)) → m ≡ Err d → ((e : ℕ) (f : NumberedRefusal) → P e f → f ≡ record { number = 14; place = e })
    → (line : ℕ) × (r ≡ Err line) × (d ≡ record { number = 14; place = line })
mapped-malformed (Ok y) m P d h f g = absurd (let same : Ok y ≡ Err d = sym h ∙ f in let z : ◌≡◌ {A = ℕ} 0 1 = cc in omega arith)
mapped-malformed (Err e) m P d h f g = (e, refl, g e d (rw f at h))
