-- Held values: the atom that holds a waiting value, and the copy that brings it there.
use Rattle.std.specs.Prelude.{Bool, ℕ, eqb}
use Rattle.words.specs.Word.{pick}
use Rattle.language.specs.Trees.{Items, none}
use Rattle.translation.specs.Translate.{Atom, top, held, temporary, atom, assigning, move_code}

-- What brings a waiting value to the atom that holds it: a copy, or nothing.
abbrev pub hold_code : (S t : ℕ) → Atom → (ℕ → Bool) → Items
hold_code S t h W = move_code S t h (held h W)

-- The same, by whether it is copied, as 1 or 0.
abbrev pub held_by : ℕ → Atom → Atom
held_by k h = pick (eqb k 1) top h

abbrev pub hold_by : (S t : ℕ) → ℕ → Atom → Items
hold_by S t k h = pick (eqb k 1) (assigning S (temporary S t) (atom S t h) none) none
