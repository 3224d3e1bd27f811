-- Marks: a mark counts the links to its row, up to 2. One law for a mark more, one for what all marks say.
use mathlib.Core.Path.{◌≡◌, refl, sym, ap, ◌∙◌}
use mathlib.Core.Bool.{Bool, true, false}
use mathlib.Core.List.{List}
use Prim.Native.Nat.{ℕ, zero, suc, ◌+◌, ◌*◌, ◌/◌, ◌%◌, ◌≤◌, ◌<◌}
use native.Mathlib.Nat.{add-zero}
use native.Mathlib.Omega.{arith}
use native.Mathlib.Numerals.{add-one}
use native.Mathlib.Decide.{ℕ_discrete}
use lib.Arith.{lt_of_le-ne}
use lib.Dec.{eqb}
use lib.IntN.{ℤ}
use lib.ListN.{length, get_or, set, length-set}
use lib.Seq.{set_out, set-get_or, get_or-set_same, get_or-set_other}
use borrow.Author.Tests.{lt-ltb, le-ltb, eq-eqb, ne_eqb}
use Rattle.words.specs.Word.{pick}
use Rattle.words.specs.Table.{row_count}
use Rattle.words.specs.Layout.{count_fits}
use Rattle.words.specs.Laws.{count_fits-facts}
use Rattle.words.specs.declared.Form.{Form}
use Rattle.words.specs.Links.{link, target}
use Rattle.check_structure.specs.Links.{links_among, link_count, not_once}
use Rattle.check_structure.specs.LinkLaws.{word-of, links-hit, links-miss}
use Rattle.check_structure.specs.NoteLaws.{above_zero}
use Rattle.check_structure.specs.Passes.{capped, raised, marked, marked_link, Unmarked, Marked, Cleared}
use Rattle.words_roles.specs.Passes.{Blank}

-- ---- what `mark` does

pub mark-low : (marks : List ℕ) (row : ℕ) → get_or marks row 0 < 2 → set marks row (get_or marks row 0 + 1) ≡ marked marks row
unfolding marked raised
mark-low marks row h = rw (lt-ltb _ _ h)

pub mark-high : (marks : List ℕ) (row : ℕ) → 2 ≤ get_or marks row 0 → marks ≡ marked marks row
unfolding marked raised
mark-high marks row h = rw (le-ltb _ _ h) (sym (set-get_or marks row 0))

pub mark-out : (marks : List ℕ) (row : ℕ) → length marks ≤ row → marks ≡ marked marks row
unfolding marked
mark-out marks row h = sym (set_out marks row _ h)

-- ---- marks and counts

raised-capped : (n : ℕ) → raised (capped n) ≡ capped (n + 1)
unfolding raised capped
raised-capped zero = refl
raised-capped (suc zero) = refl
raised-capped (suc (suc n)) = rw (add-one (suc (suc n)))

pub capped-one : (n : ℕ) → eqb (capped n) 1 ≡ eqb n 1
unfolding capped
capped-one zero = refl
capped-one (suc zero) = refl
capped-one (suc (suc n)) = sym (ne_eqb (suc (suc n)) 1 (λ e. omega arith))

pub blank-start : (form : Form) (rows : List ℤ) (marks : List ℕ) → count_fits form (length rows) ≡ true → Unmarked form marks → Blank rows marks
blank-start form rows marks fits u =
    let few = (count_fits-facts form (length rows) fits).most in
    let enough = u.room in
    record { room = omega arith; none = λ row n. u.none row (omega arith) }

pub marked_start : (rows : List ℤ) (before after : List ℕ) → row_count rows ≤ length before → Cleared (row_count rows) before after → Marked rows 0 after
unfolding links_among capped
marked_start rows before after room c = record { room = rw c.same room; counts = λ row p n. c.none row n }

-- ---- marks taken away

pub cleared-none : (marks : List ℕ) → Cleared 0 marks marks
cleared-none marks = record { same = refl; none = λ row n. absurd (omega arith) }

pub cleared_more : {count : ℕ} {before marks : List ℕ} → count < length before → Cleared count before marks → Cleared (count + 1) before (set marks count 0)
cleared_more {count} {before} {marks} h c = record { same = length-set marks count 0 ∙ c.same; none = λ row n. at row n (ℕ_discrete row count) }
  where
    at : (row : ℕ) → row < count + 1 → Dec (row ≡ count) → get_or (set marks count 0) row 0 ≡ 0
    at row n (yes q) = let same = c.same in rw q (get_or-set_same marks count 0 0 (omega arith))
    at row n (no q) = get_or-set_other marks count row 0 0 q ∙ c.none row (lt_of_le-ne (omega arith) q)

pub length_marked : (marks : List ℕ) (row : ℕ) → length (marked marks row) ≡ length marks
unfolding marked
length_marked marks row = length-set marks row _

pub length-marked_link : (marks : List ℕ) (linked : ℕ) → length (marked_link marks linked) ≡ length marks
unfolding marked_link marked
length-marked_link marks linked = go (eqb linked 0)
  where
    go : (b : Bool) → length (pick b marks (set marks linked (raised (get_or marks linked 0)))) ≡ length marks
    go true = refl
    go false = length-set marks linked _

-- a word more: the row that it links has one link more
module _ (rows : List ℤ) (word l : ℕ) (marks : List ℕ) (m : Marked rows word marks) (e : l ≡ target rows word) where
  missed : (row : ℕ) → row < row_count rows → 0 < row → (row ≡ l → ⊥) → get_or marks row 0 ≡ capped (links_among rows (word + 1) row)
  missed row n p q = m.counts row p n ∙ ap capped (rw (add-one word) (sym (links-miss rows word row (λ r. q (sym r ∙ sym e)))))

  marked-word : Dec (l ≡ 0) → Marked rows (word + 1) (marked_link marks l)
  unfolding marked_link marked
  marked-word (yes z) =
      rw (eq-eqb l 0 z) (record { room = m.room; counts = λ row p n. missed row n p (λ q. omega arith) })
  marked-word (no z) =
      rw (ne_eqb l 0 z) (record { room = rw length-set m.room; counts = λ row p n. go row p n (ℕ_discrete row l) })
    where
      go : (row : ℕ) → 0 < row → row < row_count rows → Dec (row ≡ l) → get_or (set marks l (raised (get_or marks l 0))) row 0 ≡ capped (links_among rows (word + 1) row)
      go row p n (yes q) =
          rw (← q) (get_or-set_same marks row (raised (get_or marks row 0)) 0 (let r = m.room in omega arith)
          ∙ ap raised (m.counts row p n) ∙ raised-capped (links_among rows word row)
          ∙ ap capped (rw (add-one word) (sym (links-hit rows word row (sym e ∙ sym q)))))
      go row p n (no q) = get_or-set_other marks l row (raised (get_or marks l 0)) 0 q ∙ missed row n p q

pub marked-begin : (rows : List ℤ) (row : ℕ) (marks : List ℕ) → Marked rows (6 * row) marks → Marked rows (6 * row + 0) marks
marked-begin rows row marks m = rw add-zero m

pub marked_next : (rows : List ℤ) (row : ℕ) (marks : List ℕ) → Marked rows (6 * row + 6) marks → Marked rows (6 * (row + 1)) marks
marked_next rows row marks m = let z : 6 * (row + 1) ≡ 6 * row + 6 = omega arith in rw z m

-- a field more
pub marked-field : (rows : List ℤ) (row field l : ℕ) (marks after : List ℕ) → field < 6 → Marked rows (6 * row + field) marks → l ≡ link rows row field
    → after ≡ marked_link marks l → Marked rows (6 * row + (field + 1)) after
unfolding target
marked-field rows row field l marks after h m e f =
    let at = word-of row field h in
    let next : 6 * row + field + 1 ≡ 6 * row + (field + 1) = omega arith in
    rw (f, ← next) (marked-word rows (6 * row + field) l marks m (rw (at.0, at.1) e) (ℕ_discrete l 0))

-- marks of the whole table say which rows are linked exactly once
pub marked-once : (rows : List ℤ) (marks : List ℕ) → 6 * row_count rows ≡ length rows → Marked rows (length rows) marks → (row : ℕ) → row < row_count rows
    → not_once rows (get_or marks row 0) row ≡ not_once rows (link_count rows row) row
unfolding not_once link_count
marked-once rows marks whole m row n = go (ℕ_discrete row 0)
  where
    go : Dec (row ≡ 0) → not_once rows (get_or marks row 0) row ≡ not_once rows (link_count rows row) row
    go (yes z) = rw z
    go (no z) = rw (m.counts row (above_zero row z) n, capped-one, whole)
