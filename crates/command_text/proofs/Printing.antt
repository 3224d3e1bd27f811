-- Tables that have room for a program, and that the text of a table has room.
use mathlib.Core.Path.{sym, ap, ◌∙◌}
use mathlib.Core.List.{List, ◌++◌, append_assoc}
use Prim.Native.Nat.{ℕ, ◌+◌, ◌-◌, ◌≤◌}
use native.Mathlib.Omega.{arith}
use lib.IntN.{ℤ, pos}
use lib.ListN.{length, take, drop, take-append-drop, length-replicate}
use lib.Seq.{drop-append-le}
use borrow.Rule.Slice.PartMut.{mid_of, put_mid, mid_len}
use Rattle.words.specs.Laws.{header_fits-facts, count_fits-facts, leading-limits, row_limit-most}
use Rattle.words.specs.Over.{over}
use Rattle.words.specs.declared.Form.{Form}
use Rattle.words.specs.declared.Form.TheVariants.{Kernel, Source}
use Rattle.text_numbers.specs.Writer.{Put}
use Rattle.text_lines.specs.Writer.{Measured}
use Rattle.words.specs.Table.{row_count}
use Rattle.text_form.specs.Writer.{Fills}
use Rattle.text_form.proofs.Sizing.{bytes-text}
use Rattle.command_text.specs.Texts.{Roomy, output_room, Tabled, Printable}
use Rattle.words.specs.Layout.{zeros}

-- tables for a kernel program serve either form
pub roomy-any : (form : Form) {header rows : List ℤ} → Roomy Kernel header rows → Roomy form header rows
roomy-any form r = record {
  header_room = omega (arith, r.header_room, leading-limits form);
  rows_room = omega (arith, r.rows_room, row_limit-most form);
}

-- bytes put into the first `size` bytes of a buffer are put at its start
pub put_first : (bytes buffer : List ℕ) (size count : ℕ) (lent : List ℕ) → length bytes ≤ length (mid_of 0 (size - 0) buffer) → Put bytes (mid_of 0 (size - 0) buffer) count lent
    → Put bytes buffer count (put_mid 0 (size - 0) buffer lent)
unfolding over
put_first bytes buffer size count lent h p =
    let first = take (size - 0) buffer in
    let rest = drop (size - 0) buffer in
    record {
      size = p.size;
      written =
          ap (λ (l : List ℕ). l ++ rest) p.written
          ∙ append_assoc bytes (drop (length bytes) first) rest
          ∙ ap (λ (l : List ℕ). bytes ++ l) (sym (drop-append-le (length bytes) first rest h) ∙ ap (λ (l : List ℕ). drop (length bytes) l) (take-append-drop (size - 0) buffer));
    }

-- a program is a table of rows of six words
pub printable-table : {header rows : List ℤ} → Printable header rows → Tabled 6 (row_count rows) header rows
printable-table {header} {rows} p =
    let h = header_fits-facts p.form header p.passes.header-fits in
    let c = count_fits-facts p.form (length rows) p.passes.count-fits in
    record {
      filled = omega (arith, h.least, leading-limits p.form);
      header_few = omega (arith, h.most, leading-limits p.form);
      wide = omega arith;
      whole = sym c.whole;
      rows_few = omega (arith, c.most, row_limit-most p.form);
    }

module _ {width count : ℕ} {header rows : List ℤ} (t : Tabled width count header rows) {first others : ℕ} (h : Measured header first) (r : Measured rows others) where
  pub few_bytes : first + others ≤ output_room
  few_bytes = omega (arith, h.most, r.most, t.rows_few, t.header_few)

  -- the bytes that both sizes add up to hold the text
  pub sizes-fill : (out : List ℕ) → output_room ≤ length out → Fills width count header rows (mid_of 0 (first + others - 0) out)
  sizes-fill out o =
      let total = bytes-text width count header rows t.wide t.filled t.whole in
      record {
        filled = t.filled;
        wide = t.wide;
        whole = t.whole;
        room = omega (arith, total, h.sum, r.sum, mid_len 0 (first + others) out (omega (arith, few_bytes)));
      }

-- arrays for a source program
pub source-roomy : Roomy Source (zeros 33) (zeros 12288)
source-roomy = record { header_room = omega (arith, length-replicate 33 (pos 0)); rows_room = omega (arith, length-replicate 12288 (pos 0)) }
