-- Laws of the brief notes: they are the notes.
use Rattle.std.specs.Prelude.{◌≡◌, Bool, List, ltb, ℤ, None, Option, Some}
use Rattle.std.proofs.Math.Path.{refl, sym, ap}
use Rattle.std.proofs.Common.{◌∙◌}
use Prim.Native.Nat.{ℕ, zero, suc, ◌+◌, ◌*◌, ◌/◌, ◌%◌, ◌≤◌, ◌<◌}
use native.Mathlib.Omega.{arith}
use Rattle.std.proofs.Math.Dec.{eqb}
use Rattle.words.specs.Layout.{depth_limit}
use Rattle.words.specs.Links.{target, linker, received, note_by, note}
use Rattle.words.specs.Search.{lowest}
use Rattle.words.specs.SearchLaws.{lowest-below}
use Rattle.words.specs.declared.Form.{Form}
use Rattle.check_structure.specs.Links.{deeper, depth_at, too_deep}
use Rattle.check_brief.specs.BriefNotes.{linked_from, linker_among, brief_note, brief_depth_at}

module _ (rows : List ℤ) where
  same-among : (count more word row : ℕ) → count ≤ more → linker_among count (linked_from rows word more) word row ≡ lowest (λ (w : ℕ). eqb (target rows w) row) word count
  unfolding linker_among linked_from lowest
  same-among zero more word row h = refl
  same-among (suc count) zero word row h = absurd (omega arith)
  same-among (suc count) (suc more) word row h = rw (same-among count more (word + 1) row (omega arith))

  same-linker : (words row : ℕ) → 6 * row ≤ words → linker_among (6 * row) (linked_from rows 0 words) 0 row ≡ linker rows row
  unfolding linker
  same-linker words row h = same-among (6 * row) words 0 row h

  linker-below : (row word : ℕ) → linker rows row ≡ Some word → word < 6 * row
  unfolding linker
  linker-below row word e = let b = lowest-below (λ (w : ℕ). eqb (target rows w) row) word (6 * row) 0 e in omega arith

  module _ (hand : ℕ → ℕ → ℕ → ℕ) (first words : ℕ) where
    same_received : (f g : ℕ → ℕ) (row : ℕ) → ((other : ℕ) → other < row → f other ≡ g other) → (found : Option ℕ) → linker rows row ≡ found → received hand first f found ≡ received hand first g found
    unfolding received
    same_received f g row same None e = refl
    same_received f g row same (Some word) e = ap (hand (word / 6) (word % 6)) (same (word / 6) (let b = linker-below row word e in omega arith))

    same-note : (links row : ℕ) → 6 * row ≤ words → brief_note links hand first (linked_from rows 0 words) row ≡ note_by links hand first rows row
    unfolding brief_note note_by
    same-note zero row h = refl
    same-note (suc links) row h =
        rw (same-linker words row h)
        (same_received (brief_note links hand first (linked_from rows 0 words)) (note_by links hand first rows) row (λ other b. same-note links other (omega arith)) (linker rows row) refl)

  same-depth-at : (row : ℕ) → depth_at rows row ≡ brief_depth_at rows row
  unfolding depth_at brief_depth_at note
  same-depth-at row = sym (same-note deeper 1 (6 * row) row row (omega arith))

-- the depth of a row, and whether it is too deep, by computing the brief note
pub depth-by : (rows : List ℤ) (row depth : ℕ) → brief_depth_at rows row ≡ depth → depth_at rows row ≡ depth
depth-by rows row depth e = same-depth-at rows row ∙ e

pub deep-by : (form : Form) (rows : List ℤ) (row : ℕ) (deep : Bool) → ltb (depth_limit form) (brief_depth_at rows row) ≡ deep → too_deep form rows row ≡ deep
unfolding too_deep
deep-by form rows row deep e = rw (same-depth-at rows row) e
