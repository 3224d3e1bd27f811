-- Rows put on the stack and taken off.
use mathlib.Core.Path.{◌≡◌, refl, sym, ap, ◌∙◌}
use mathlib.Core.Bool.{Bool, true, false}
use mathlib.Core.List.{List, ◌∷◌}
use Prim.Native.Nat.{ℕ, ◌+◌, ◌-◌, ◌≤◌, ◌<◌}
use native.Mathlib.Omega.{arith}
use lib.ListN.{length, set, drop}
use Rattle.words.specs.Word.{pick}
use Rattle.page_scan.specs.Stacks.{stack_of}
use Rattle.page_scan.specs.StackLaws.{pushed, popped}
use Rattle.page_rows.specs.Rows.{Left}

pub pick-most : (b : Bool) (n : ℕ) → pick b n 0 ≤ n
pick-most true n = omega arith
pick-most false n = omega arith

abbrev left : Bool → List ℕ → Left
left follows waiting = record { follows = follows; waiting = waiting }

pub popped-is : (n depth : ℕ) (waiting : List ℕ) (less : ℕ) → less ≡ depth - n → left true (stack_of less waiting) ≡ left true (drop n (stack_of depth waiting))
popped-is n depth waiting less e = ap (left true) (ap (λ (d : ℕ). stack_of d waiting) e ∙ sym (popped n depth waiting))

-- A row in 16 bits.
pub set-aside-is : (row depth : ℕ) (waiting : List ℕ) (narrowed : ℕ) → narrowed ≡ row → depth < length waiting
    → left false (stack_of (depth + 1) (set waiting depth narrowed)) ≡ left false (row ∷ stack_of depth waiting)
set-aside-is row depth waiting narrowed e h =
    ap (left false) (pushed depth narrowed waiting h ∙ ap (λ (n : ℕ). n ∷ stack_of depth waiting) e)
