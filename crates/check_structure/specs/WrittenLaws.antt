-- Laws of written notes: a pass over the words, in order, writes every row's note.
use Rattle.std.specs.Prelude.{◌≡◌, Bool, List, ℕ, ◌+◌, ◌*◌, ◌/◌, ◌%◌, ◌≤◌, ◌<◌, eqb, ℤ, get_or, set}
use Rattle.std.proofs.Math.Path.{refl}
use Rattle.std.proofs.Math.Bool.{true, false}
use Rattle.std.proofs.Common.{arith}
use Rattle.std.proofs.Math.Decide.{ℕ_discrete}
use Rattle.std.proofs.Math.ListN.{length, length-set}
use borrow.Author.Tests.{eq-eqb, ne_eqb}
use Rattle.words.specs.Word.{pick}
use Rattle.words.specs.Table.{row_count}
use Rattle.words.specs.Links.{link, target, note}
use Rattle.check_structure.specs.NoteLaws.{above_zero, Noted, noted-none, noted-link, noted-all}
use Rattle.check_structure.specs.Structured.{Tree}
use Rattle.check_structure.specs.Passes.{written, Notes}

-- the row that a word links, in the code's terms
pub linked-inside : (rows : List ℤ) (word linked : ℕ) → Tree rows → word < length rows → linked ≡ link rows (word / 6) (word % 6) → (linked ≡ 0 → ⊥) → linked < row_count rows
linked-inside rows word linked t b e n =
    let whole = t.whole in
    let there : 0 < link rows (word / 6) (word % 6) = (let p = above_zero linked n in omega arith) in
    let inside = (t.forward (word / 6) (word % 6) (omega arith) (omega arith) there).inside in
    omega arith

module _ (hand : ℕ → ℕ → ℕ → ℕ) (rows : List ℤ) (word : ℕ) (notes : List ℕ) where
  pub written_none : (linked : ℕ) → linked ≡ target rows word → linked ≡ 0 → notes ≡ written hand rows word notes
  unfolding written
  written_none linked e z = rw (← e, eq-eqb _ _ z)

  pub written-link : (linked value : ℕ) → linked ≡ target rows word → (linked ≡ 0 → ⊥) → value ≡ hand (word / 6) (word % 6) (get_or notes (word / 6) 0) → set notes linked value ≡ written hand rows word notes
  unfolding written
  written-link linked value e n v = rw (← e, ne_eqb _ _ n, v)

  pub written-length : length (written hand rows word notes) ≡ length notes
  unfolding written
  written-length = go (eqb (target rows word) 0)
    where
      go : (b : Bool) → length (pick b notes (set notes (target rows word) (hand (word / 6) (word % 6) (get_or notes (word / 6) 0)))) ≡ length notes
      go true = refl
      go false = simp length-set

  pub written-noted : (first : ℕ) (t : Tree rows) → word < 6 * row_count rows → Noted hand first rows t word notes → Noted hand first rows t (word + 1) (written hand rows word notes)
  written-noted first t b d = go (ℕ_discrete (target rows word) 0)
    where
      go : Dec (target rows word ≡ 0) → Noted hand first rows t (word + 1) (written hand rows word notes)
      go (yes q) = rw (← written_none (target rows word) refl q) (noted-none hand first rows t word notes d q)
      go (no q) = rw (← written-link (target rows word) _ refl q refl) (noted-link hand first rows t word notes d b (above_zero _ q))

-- the pass is done
pub notes-written : (hand : ℕ → ℕ → ℕ → ℕ) (first : ℕ) (rows : List ℤ) (t : Tree rows) (words : ℕ) (notes : List ℕ) → 6 * row_count rows ≤ words → Noted hand first rows t words notes → Notes rows (note hand first rows) notes
notes-written hand first rows t words notes h d = record { room = d.room; is = noted-all hand first rows t words notes h d }
