-- The walk over the fields of a line that stores its numbers: those that were read stand at the start of the table.
use Rattle.std.specs.Prelude.{None, Option, Some}
use mathlib.Core.Path.{◌≡◌, sym, ap, ◌∙◌}
use mathlib.Core.List.{List, ◌++◌}
use Prim.Native.Nat.{ℕ, ◌+◌, ◌≤◌, ◌<◌}
use native.Mathlib.Omega.{arith}
use lib.IntN.{ℤ}
use lib.ListN.{length, get_or, set, length-append}
use mir.Facts.{to_z-of_z}
use Rattle.std.specs.Int.{w32}
use Rattle.text_numbers.specs.Number.{number_of}
use Rattle.text_lines.specs.Line.{numbers_of}
use Rattle.words.specs.Over.{over}
use Rattle.text_lines.specs.Reader.{numbers_in, Holds}
use Rattle.text_numbers.specs.NumberLaws.{not_some, number-reads}
use Rattle.words.specs.OverLaws.{length_over, over-set, over_none}
use Rattle.text_numbers.proofs.Signs.{again}
use Rattle.text_lines.proofs.Pieces.{behind, Counted, counted_start, counted-end, counted-bad, counted_next, start-before, next-before}

-- the numbers of the first fields were written over `table`, which gave `written`
pub record Stored (fields : List (List ℕ)) (count : ℕ) (table written : List ℤ) : Type 0 where
  pub counted : Counted fields count
  pub holds : Holds (numbers_of fields) table
  pub few : count ≤ length table
  pub over_table : written ≡ over counted.before table

pub stored-start : (fields : List (List ℕ)) (table : List ℤ) → Holds (numbers_of fields) table → Stored fields 0 table table
stored-start fields table h = record { counted = counted_start fields; holds = h; few = omega arith; over_table = rw (start-before fields) (over_none table) }

-- numbers that were read, of which some were read before
fewer : (before : List ℤ) (read : Option (List ℤ)) (numbers : List ℤ) → behind before read ≡ Some numbers → length before ≤ length numbers
unfolding behind
fewer before None numbers e = not_some e
fewer before (Some others) numbers e =
    let same : before ++ others ≡ numbers = cc in
    omega (arith, ap length same, length-append before others)

module _ {fields : List (List ℕ)} {count : ℕ} {table written : List ℤ} (s : Stored fields count table written) where
  pub stored-length : length written ≡ length table
  stored-length = length_over s.counted.before table written s.over_table (omega (arith, s.counted.size, s.few))

  pub stored-end : count ≡ length fields → written ≡ over (numbers_in (numbers_of fields)) table
  stored-end h = s.over_table ∙ ap (λ (read : Option (List ℤ)). over (numbers_in read) table) (sym (counted-end s.counted h))

  module _ (field : List ℕ) (next : (count < length fields) × (field ≡ get_or fields count field)) where
    pub stored-never : {G : Type 0} → number_of field ≡ None → G
    stored-never e = not_some (sym (counted-bad s.counted field next e) ∙ s.holds.well_formed)

    module _ (z : ℤ) (e : number_of field ≡ Some z) where
      next-few : count + 1 ≤ length table
      next-few =
          let n = counted_next s.counted field next z e in
          let f = fewer n.before _ _ (sym n.same ∙ s.holds.well_formed) in
          omega (arith, n.size, s.holds.room)

      pub stored-room : count < length written
      stored-room = omega (arith, next-few, stored-length)

      pub stored_next : Stored fields (count + 1) table (set written count (again z))
      stored_next =
          let same : again z ≡ z = to_z-of_z {w = w32} (record { sfits = (number-reads _ z e).fits }) in
          record {
            counted = counted_next s.counted field next z e;
            holds = s.holds;
            few = next-few;
            over_table = rw (same, next-before s.counted field next z e) (over-set s.counted.before table written count z s.over_table (sym s.counted.size) (omega (arith, next-few, s.counted.size)));
          }
