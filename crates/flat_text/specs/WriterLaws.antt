-- WriterLaws: what a writer of flat lists gives, by its causes; a list that was written is read back, and a text that was read is written alike.
use Rattle.std.specs.Prelude.{◌≡◌, true, false, List, [], ◌∷◌, ℕ, ◌*◌, ◌%◌, ◌<◌, ◌≤◌, leb, eqb, ℤ, length, Err, Ok}
use Rattle.std.proofs.Math.Path.{refl, ap}
use Rattle.std.proofs.Common.{arith, eq-eqb, le-leb}
use Rattle.words.specs.Layout.{header_fits}
use Rattle.words.specs.Laws.{header_fits-facts, leading-limits}
use Rattle.words.specs.declared.Form.TheVariants.{Kernel}
use Rattle.text_numbers.specs.Writer.{Put}
use Rattle.text_lines.specs.LineLaws.{Words}
use Rattle.text_form.specs.Text.{parsed, header_sized, Program}
use Rattle.text_form.proofs.TextLaws.{table-shows, table-reads}
use Rattle.text_form.specs.Answers.{cause_unless, finished, write_bytes, Writes}
use Rattle.text_form.specs.Writer.{Fills}
use Rattle.flat.specs.Words.{line_count}
use Rattle.flat_text.specs.Text.{flat_bytes, parse_flat}
use Rattle.flat_text.specs.Answers.{flat_write_cause, flat_write_result}

-- ---- the causes

pub writes-unfit : (header list : List ℤ) (text : List ℕ) → header_fits Kernel header ≡ false → Writes (flat_write_result header list text) (Err (record { number = 1; place = 0 })) text
unfolding flat_write_result flat_write_cause cause_unless write_bytes
writes-unfit header list text e = rw e (record { outcome = refl; text_left = refl })

-- a header within its limits, and lines of five words
pub record Lined (header list : List ℤ) : Type 0 where
  pub fits : header_fits Kernel header ≡ true
  pub even : length list % 5 ≡ 0

pub writes-uneven : (header list : List ℤ) (text : List ℕ) → header_fits Kernel header ≡ true → eqb (length list % 5) 0 ≡ false → Writes (flat_write_result header list text) (Err (record { number = 2; place = 0 })) text
unfolding flat_write_result flat_write_cause cause_unless write_bytes
writes-uneven header list text e f = rw (e, f) (record { outcome = refl; text_left = refl })

module _ {header list : List ℤ} (l : Lined header list) where
  pub lined-filled : 0 < length header
  lined-filled = omega (arith, (header_fits-facts Kernel header l.fits).least, leading-limits Kernel)

  pub lined-whole : length list ≡ 5 * line_count list
  lined-whole = omega (arith, l.even)

  even-test : eqb (length list % 5) 0 ≡ true
  even-test = eq-eqb _ _ l.even

  pub writes_short : (text : List ℕ) → leb (length (flat_bytes header list)) (length text) ≡ false → Writes (flat_write_result header list text) (Err (record { number = 10; place = 0 })) text
  unfolding flat_write_result flat_write_cause cause_unless write_bytes
  writes_short text e = rw (l.fits, even-test, e) (record { outcome = refl; text_left = refl })

  pub lined-fills : (text : List ℕ) → length (flat_bytes header list) ≤ length text → Fills 5 (line_count list) header list text
  lined-fills text h = record { filled = lined-filled; wide = omega arith; whole = lined-whole; room = h }

  pub writes-all : (text : List ℕ) → leb (length (flat_bytes header list)) (length text) ≡ true → (count : ℕ) (left : List ℕ) → Put (flat_bytes header list) text count left
      → Writes (flat_write_result header list text) (Ok count) left
  unfolding flat_write_result flat_write_cause cause_unless write_bytes
  writes-all text e count left p =
      rw (l.fits, even-test, e) (record { outcome = ap (λ (n : ℕ). finished (n ∷ [])) p.size; text_left = p.written })

  -- ---- round trips

  sized : header_sized Kernel header ≡ true
  sized = let f = header_fits-facts Kernel header l.fits in rw (le-leb _ _ f.least, le-leb _ _ f.most)

  -- a list that can be written is read back from its text
  pub list-shows : Words header → Words list → parse_flat (flat_bytes header list) ≡ parsed (record { header = header; rows = list })
  list-shows w v = table-shows 5 (line_count list) Kernel header list (omega arith) sized lined-whole w v

-- a text that was read is the text of its header and list
pub list-reads : (text : List ℕ) (program : Program) → parse_flat text ≡ parsed program → flat_bytes program.header program.rows ≡ text
list-reads text program e =
    let a = table-reads 5 Kernel text program e in
    let n : line_count program.rows ≡ a.count = omega (arith, a.size) in
    rw n a.written
