-- The numbers of a value's line: that they have room, how they are put together, and that they are those of its day.
use mathlib.Core.Path.{◌≡◌, refl, sym, ap, ◌∙◌}
use mathlib.Core.List.{List, [], ◌∷◌}
use Prim.Native.Nat.{ℕ, ◌+◌, ◌-◌, ◌*◌, ◌^◌, ◌≤◌, ◌<◌}
use native.Mathlib.Omega.{arith}
use lib.IntN.{ℤ, pos}
use lib.ListN.{length, take, get_or, set, length-map, length-replicate}
use lib.Signed.{mag}
use mir.Syntax.{w32}
use mir.Val.{to_z, of_z}
use mir.Facts.{to_z_pos}
use Rattle.words.specs.Over.{over}
use Rattle.words.specs.OverLaws.{part, back_in, first_of, written-part, over-next}
use Rattle.words.specs.Word.{natural}
use Rattle.words.specs.Layout.{layout_of, store_size, store_words, zeros}
use Rattle.words.specs.Laws.{back, header_fits-facts}
use Rattle.words.specs.StoreLaws.{size-least}
use Rattle.words.specs.declared.Form.TheVariants.{Source}
use Rattle.text_lines.specs.Line.{TextLine, line_bytes}
use Rattle.text_lines.specs.Writer.{Measured}
use Rattle.text_lines.proofs.Sizing.{bytes-line}
use Rattle.day_form.specs.Lines.{line_words}
use Rattle.day_run.specs.Days.{Day, new_day, do_lines, pairs_of}
use Rattle.day_run.proofs.DayLaws.{lines-counted}
use Rattle.day_run.specs.Conditions.{day_left}
use Rattle.day_run.specs.declared.Tally.{Tally}
use Rattle.day_values.specs.Values.{day_of, day_numbers, day_line}
use Rattle.day_values.specs.Conditions.{Fits}

-- ---- how many bytes a line of numbers has

module _ {numbers : List ℤ} {size : ℕ} (m : Measured numbers size) (some : 0 < length numbers) where
  pub line-fits : length numbers ≤ 259 → (room : ℕ) → 12 * 259 ≤ room → length (line_bytes numbers) ≤ room
  line-fits few room h = omega (arith, bytes-line numbers some, m.sum, m.most)

  pub line-size : size ≡ length (line_bytes numbers)
  line-size = m.sum ∙ sym (bytes-line numbers some)

-- ---- the numbers of a line, put together in a table

module _ (value plain other : ℤ) (variables table first lent : List ℤ) (e : first ≡ over (value ∷ (plain ∷ (other ∷ []))) table) (f : lent ≡ over variables (part 3 first)) where
  pub table-line : (count : ℕ) → count ≡ length variables + 3 → take (count - 0) (back_in 3 first lent) ≡ value ∷ (plain ∷ (other ∷ variables))
  table-line count g =
      written-part (value ∷ (plain ∷ (other ∷ variables))) table _ count (omega arith) (over-next (value ∷ (plain ∷ (other ∷ []))) variables table first lent 3 refl e f)

-- the same as words that went through their bits
pub as-words : (value : ℤ) (plain other : ℕ) (variables : List ℤ) → mag value < 2 ^ 31 → (plain ≤ 200) × (other ≤ 200)
    → to_z w32 (of_z w32 value) ∷ (to_z w32 plain ∷ (to_z w32 other ∷ variables)) ≡ value ∷ (pos plain ∷ (pos other ∷ variables))
as-words value plain other variables h few = rw (back value h, to_z_pos w32 {n = plain} (omega (arith, few.0)), to_z_pos w32 {n = other} (omega (arith, few.1)))

-- ---- the store of a rule

pub variables_inside : {header rows : List ℤ} {text : List ℕ} → Fits header rows text → ((layout_of Source header).variables ≤ store_words Source header rows) × ((layout_of Source header).variables ≤ 256)
unfolding store_size
variables_inside {header} {rows} f = (omega (arith, size-least Source header rows), (header_fits-facts Source header f.header-fits).few_variables)

pub variables-are : (header : List ℤ) (number : ℕ) → number ≡ natural (get_or header 0 (pos 0)) → number ≡ (layout_of Source header).variables
unfolding layout_of
variables-are header number e = e

pub zeros-length : (store : List ℤ) (words : ℕ) → store ≡ zeros words → length store ≡ words
zeros-length store words e = ap length e ∙ length-replicate words (pos 0)

-- the value stored in zeros
pub value-stored : (store left : List ℤ) (words variable : ℕ) (value : ℤ) → store ≡ zeros words → left ≡ set store variable (to_z w32 (of_z w32 value)) → mag value < 2 ^ 31 → left ≡ set (zeros words) variable value
value-stored store left words variable value z e h = e ∙ rw (z, back value h)

-- ---- a day that was done

module _ (header rows : List ℤ) (lines : List TextLine) (start : List ℤ) (tally : Tally) (store : List ℤ) (e : day_left tally store ≡ do_lines header rows (pairs_of lines) (new_day start)) where
  pub day-counted : length lines ≤ 200 → (tally.plain ≤ 200) × (tally.other ≤ 200)
  day-counted h =
      let sum = lines-counted header rows (pairs_of lines) (new_day start) in
      let size : length (pairs_of lines) ≡ length lines = length-map lines line_words in
      let plain : (do_lines header rows (pairs_of lines) (new_day start)).plain ≡ tally.plain = ap (λ (d : Day). d.plain) (sym e) in
      let other : (do_lines header rows (pairs_of lines) (new_day start)).other ≡ tally.other = ap (λ (d : Day). d.other) (sym e) in
      (omega arith, omega arith)

  pub day-line : (variable variables : ℕ) (value : ℤ) → start ≡ set (zeros (store_words Source header rows)) variable value → variables ≡ (layout_of Source header).variables
      → line_bytes (value ∷ (pos tally.plain ∷ (pos tally.other ∷ take (variables - 0) store))) ≡ day_line header rows variable (pairs_of lines) value
  unfolding day_line day_numbers day_of
  day-line variable variables value s v = rw (← s, ← e, first_of store variables, v)
