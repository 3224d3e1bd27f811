-- A table with the words of one row put in: the row has them, the others keep theirs.
use mathlib.Core.Path.{◌≡◌, sym, ap, ◌∙◌}
use mathlib.Core.List.{List, ◌++◌}
use Prim.Native.Nat.{ℕ, ◌+◌, ◌*◌, ◌-◌, ◌≤◌, ◌<◌}
use native.Mathlib.Omega.{arith}
use lib.ListN.{length, take, drop, get_or, length-append, length-drop, get_or-append}
use lib.Seq.{get_or-append-add, get_or-drop, get_or-take, length-take-le}

-- Rows have w words; `ws` are those of the row.
module _ (w : ℕ) (t u ws : List ℕ) (row : ℕ) (size : length ws ≡ w) (fits : w * row + w ≤ length t) (is : u ≡ (take (w * row) t ++ ws) ++ drop (w * row + w) t) where
  before : length (take (w * row) t) ≡ w * row
  before = length-take-le (w * row) t (omega arith)

  head-length : length (take (w * row) t ++ ws) ≡ w * row + w
  head-length = length-append (take (w * row) t) ws ∙ omega (arith, before, size)

  pub stored-length : length u ≡ length t
  stored-length = ap length is ∙ length-append (take (w * row) t ++ ws) (drop (w * row + w) t) ∙ omega (arith, head-length, length-drop (w * row + w) t)

  pub own-words : (k : ℕ) → k < w → get_or u (w * row + k) 0 ≡ get_or ws k 0
  own-words k h =
      ap (λ (x : List ℕ). get_or x (w * row + k) 0) is
      ∙ get_or-append (take (w * row) t ++ ws) (drop (w * row + w) t) 0 (w * row + k) (omega (arith, head-length))
      ∙ ap (λ (n : ℕ). get_or (take (w * row) t ++ ws) (n + k) 0) (sym before)
      ∙ get_or-append-add (take (w * row) t) ws k 0

  pub other-words : (at : ℕ) → w * row + w ≤ at → get_or u at 0 ≡ get_or t at 0
  other-words at h =
      let past : at ≡ w * row + w + (at - (w * row + w)) = omega arith in
      ap (λ (x : List ℕ). get_or x at 0) is
      ∙ ap (λ (n : ℕ). get_or ((take (w * row) t ++ ws) ++ drop (w * row + w) t) n 0) (past ∙ ap (λ (n : ℕ). n + (at - (w * row + w))) (sym head-length))
      ∙ get_or-append-add (take (w * row) t ++ ws) (drop (w * row + w) t) (at - (w * row + w)) 0
      ∙ get_or-drop (w * row + w) t (at - (w * row + w)) 0
      ∙ ap (λ (n : ℕ). get_or t n 0) (sym past)

  pub earlier-words : (at : ℕ) → at < w * row → get_or u at 0 ≡ get_or t at 0
  earlier-words at h =
      ap (λ (x : List ℕ). get_or x at 0) is
      ∙ get_or-append (take (w * row) t ++ ws) (drop (w * row + w) t) 0 at (omega (arith, head-length))
      ∙ get_or-append (take (w * row) t) ws 0 at (omega (arith, before))
      ∙ get_or-take (w * row) t at 0 h
