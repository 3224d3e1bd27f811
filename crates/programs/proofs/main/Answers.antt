-- `main`: each array has the length that it was made with, by a law: the lists are too long to count.
use mathlib.Core.Path.{◌≡◌, sym}
use Prim.Native.Nat.{ℕ}
use lib.IntN.{ℤ, pos}
use lib.ListN.{length, replicate, length-replicate}
use Rattle.programs.proofs.main.Goals as goal

counted : {A : Type 0} (n : ℕ) (a : A) → n ≡ length (replicate n a)
counted n a = sym (length-replicate n a)

pub slice_bounds-answer_input-end-2 : goal.slice_bounds-answer_input-end-2
slice_bounds-answer_input-end-2 c = counted {A = ℤ} 245880 (pos 0)

pub slice_bounds-answer_input-end-4 : goal.slice_bounds-answer_input-end-4
slice_bounds-answer_input-end-4 c = counted {A = ℤ} 245880 (pos 0)
