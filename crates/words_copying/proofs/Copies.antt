-- A copy of words from the start of a table.
use mathlib.Core.Path.{◌≡◌, sym, ap, ◌∙◌}
use mathlib.Core.List.{List}
use Prim.Native.Nat.{ℕ, ◌+◌, ◌≤◌, ◌<◌}
use native.Mathlib.Nat.{zero-add}
use native.Mathlib.Numerals.{add-one}
use native.Mathlib.Omega.{arith}
use lib.IntN.{ℤ, pos}
use lib.ListN.{length, set, get_or}
use lib.Seq.{paste, paste-suc, length-paste, take-length}
use mir.Syntax.{w32}
use mir.Val.{SFits, to_z, of_z}
use mir.Facts.{to_z-of_z}
use Rattle.words.specs.Over.{over}

put-more : (d s : List ℤ) (o : List ℤ) (i : ℕ) (v : ℤ) → i < length s → length s ≤ length d → o ≡ paste d 0 s i → v ≡ get_or s i (pos 0) → set o i v ≡ paste d 0 s (i + 1)
put-more d s o i v h l e f =
    let z : 0 + i ≡ i = zero-add i in
    let p = paste-suc d 0 s i (pos 0) (omega arith) h in
    rw (e, f, add-one) (ap (λ (k : ℕ). set (paste d 0 s i) k (get_or s i (pos 0))) (sym z) ∙ p)

pub put-all : (d s : List ℤ) → paste d 0 s (length s) ≡ over s d
unfolding over
put-all d s = rw (take-length, zero-add)

pub put-kept : (d s o : List ℤ) (i : ℕ) → i ≤ length s → length s ≤ length d → o ≡ paste d 0 s i → length o ≡ length d
put-kept d s o i h l e = ap length e ∙ length-paste d 0 s i (omega arith) h

pub put_back : (d s o : List ℤ) (i : ℕ) → i < length s → length s ≤ length d → o ≡ paste d 0 s i → SFits w32 (get_or s i (pos 0))
    → set o i (to_z w32 (of_z w32 (get_or s i (pos 0)))) ≡ paste d 0 s (i + 1)
put_back d s o i h l e f = put-more d s o i _ h l e (to_z-of_z f)
