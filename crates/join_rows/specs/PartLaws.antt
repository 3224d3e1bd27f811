-- Laws of the parts of a join: the new block and the four parts behind it, written one behind the other, are the joined rows, and there is room for each.
use Rattle.std.specs.Prelude.{◌≡◌, Bool, ℕ, ◌+◌, ◌*◌, ◌≤◌, ℤ, length}
use Rattle.std.proofs.Math.Path.{refl}
use Rattle.std.proofs.Common.{◌∙◌, ap, arith, length-append, length-drop}
use Rattle.std.proofs.Math.Bool.{true, false}
use mathlib.Core.List.{List, ◌++◌, append_assoc}
use Rattle.words.specs.Over.{over}
use Rattle.words.specs.OverLaws.{length_over, part as rest, back_in, part-is, over-next}
use Rattle.words.specs.Table.{row_count, Whole}
use Rattle.words.specs.Links.{link}
use Rattle.join.proofs.Counting.{placed-length}
use Rattle.join.specs.Join.{is_other, before, Placement, front_of, placed_rows, first_placement, second_placement, outer_block, joined_rows}
use Rattle.join.proofs.JoinedRows.{rows-parts}
use Rattle.join_rows.specs.Standings.{part}

-- The rows of a part, and how many.
abbrev part_rows : Placement → Bool → List ℤ → List ℤ
part_rows placement definitions rows = placed_rows placement (part definitions rows) rows (row_count rows)

abbrev rows_in : Bool → List ℤ → ℕ
rows_in definitions rows = before (part definitions rows) (row_count rows)

both-parts : (rows : List ℤ) → rows_in true rows + rows_in false rows ≡ row_count rows
unfolding is_other
both-parts rows = rows-parts rows

-- the room behind the first words of a table
pub rest-room : (k n : ℕ) (l : List ℤ) → k + n ≤ length l → n ≤ length (rest k l)
rest-room k n l h = rw (part-is k l, length-drop k l) (omega arith)

-- ---- words written from the start of a table

-- The table m is l with the words u, of which there are k.
record Written (l u : List ℤ) (k : ℕ) (m : List ℤ) : Type 0 where
  is : m ≡ over u l
  count : k ≡ length u
  room : k ≤ length l

written-long : {l u : List ℤ} {k : ℕ} {m : List ℤ} → Written l u k m → length m ≡ length l
written-long {l} {u} {k} {m} w = let c = w.count in let r = w.room in length_over u l m w.is (omega arith)

-- A part of a program is written from word k on, up to word k'.
abbrev pub PartPut : Placement → Bool → List ℤ → ℕ → List ℤ → ℕ → List ℤ → Type 0
PartPut placement definitions rows k m k' m' =
    (m' ≡ back_in k m (over (part_rows placement definitions rows) (rest k m))) × (k' ≡ k + 6 * rows_in definitions rows)

-- one part more
part-written : (placement : Placement) (definitions : Bool) (rows : List ℤ) {l u : List ℤ} {k : ℕ} {m : List ℤ} (k' : ℕ) (m' : List ℤ) → Written l u k m → k + 6 * rows_in definitions rows ≤ length l
    → PartPut placement definitions rows k m k' m' → Written l (u ++ part_rows placement definitions rows) k' m'
part-written placement definitions rows {l} {u} {k} {m} k' m' w room e =
    let long = placed-length placement (part definitions rows) rows (row_count rows) in
    let both = length-append u (part_rows placement definitions rows) in
    let count = w.count in
    let more = e.1 in
    record {
      is = e.0 ∙ over-next u (part_rows placement definitions rows) l m (over (part_rows placement definitions rows) (rest k m)) k w.count w.is refl;
      count = omega arith;
      room = omega arith;
    }

-- ---- the join

-- Where both programs stand, and the first item of the new block.
pub record Joining (first second : List ℤ) (one two : Placement) (item : ℕ) (l : List ℤ) : Type 0 where
  pub whole_first : Whole first
  pub whole_second : Whole second
  pub few_first : row_count first ≤ 2048
  pub few_second : row_count second ≤ 2048
  pub of-first : one ≡ first_placement first second
  pub of-second : two ≡ second_placement first second
  pub begins : item ≡ front_of one first (link first 0 1)
  pub room : 6 + length first + length second ≤ length l

module _ {first second : List ℤ} {one two : Placement} {item : ℕ} {l : List ℤ} (j : Joining first second one two item l) where
  -- how many rows each part has
  abbrev n1 : ℕ
  n1 = rows_in true first

  abbrev n2 : ℕ
  n2 = rows_in true second

  abbrev n3 : ℕ
  n3 = rows_in false first

  abbrev n4 : ℕ
  n4 = rows_in false second

  -- the four parts have room behind the block, and few words
  record Rooms : Type 0 where
    fits : 6 + 6 * n1 + 6 * n2 + 6 * n3 + 6 * n4 ≤ length l
    few : 6 + 6 * n1 + 6 * n2 + 6 * n3 ≤ 65536

  rooms : Rooms
  rooms =
      let a = both-parts first in
      let b = both-parts second in
      let c = j.whole_first in
      let d = j.whole_second in
      let f = j.few_first in
      let g = j.few_second in
      let r = j.room in
      record { fits = omega arith; few = omega arith }

  -- what is written up to each part
  abbrev up_to1 : List ℤ
  up_to1 = outer_block item ++ part_rows one true first

  abbrev up_to2 : List ℤ
  up_to2 = up_to1 ++ part_rows two true second

  abbrev up_to3 : List ℤ
  up_to3 = up_to2 ++ part_rows one false first

  all-rows : up_to3 ++ part_rows two false second ≡ joined_rows first second
  unfolding joined_rows is_other
  all-rows =
      append_assoc up_to2 (part_rows one false first) (part_rows two false second)
      ∙ append_assoc up_to1 (part_rows two true second) (part_rows one false first ++ part_rows two false second)
      ∙ append_assoc (outer_block item) (part_rows one true first) (part_rows two true second ++ (part_rows one false first ++ part_rows two false second))
      ∙ rw (j.begins, j.of-first, j.of-second) refl

  -- There is room for a part from word k of the table m on.
  abbrev Fits : ℕ → List ℤ → ℕ → Type 0
  Fits k m n = (k ≤ 65536) × (k + 6 * n ≤ length m)

  module _ (m1 : List ℤ) (w1 : m1 ≡ over (outer_block item) l) where
    after1 : Written l (outer_block item) 6 m1
    unfolding outer_block
    after1 = record { is = w1; count = refl; room = (let r = j.room in omega arith) }

    pub fits1 : Fits 6 m1 n1
    fits1 = let r = rooms.fits in let same = written-long after1 in (omega arith, omega arith)

    module _ (k2 : ℕ) (m2 : List ℤ) (w2 : PartPut one true first 6 m1 k2 m2) where
      after2 : Written l up_to1 k2 m2
      after2 = part-written one true first k2 m2 after1 (let r = rooms.fits in omega arith) w2

      pub fits2 : Fits k2 m2 n2
      fits2 = let r = rooms.fits in let f = rooms.few in let e = w2.1 in let same = written-long after2 in (omega arith, omega arith)

      module _ (k3 : ℕ) (m3 : List ℤ) (w3 : PartPut two true second k2 m2 k3 m3) where
        after3 : Written l up_to2 k3 m3
        after3 = part-written two true second k3 m3 after2 (let r = rooms.fits in let e = w2.1 in omega arith) w3

        pub fits3 : Fits k3 m3 n3
        fits3 = let r = rooms.fits in let f = rooms.few in let e = w2.1 in let g = w3.1 in let same = written-long after3 in (omega arith, omega arith)

        module _ (k4 : ℕ) (m4 : List ℤ) (w4 : PartPut one false first k3 m3 k4 m4) where
          after4 : Written l up_to3 k4 m4
          after4 = part-written one false first k4 m4 after3 (let r = rooms.fits in let e = w2.1 in let g = w3.1 in omega arith) w4

          pub fits4 : Fits k4 m4 n4
          fits4 = let r = rooms.fits in let f = rooms.few in let e = w2.1 in let g = w3.1 in let h = w4.1 in let same = written-long after4 in (omega arith, omega arith)

          pub all-written : (k5 : ℕ) (m5 : List ℤ) → PartPut two false second k4 m4 k5 m5 → m5 ≡ over (joined_rows first second) l
          all-written k5 m5 w5 =
              let last = part-written two false second k5 m5 after4 (let r = rooms.fits in let e = w2.1 in let g = w3.1 in let h = w4.1 in omega arith) w5 in
              last.is ∙ ap (λ (u : List ℤ). over u l) all-rows
