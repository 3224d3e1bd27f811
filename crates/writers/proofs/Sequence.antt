-- Sequence: one part written behind another, where the numbers and the flags are as the code computes them. The laws are those of the
-- chains; what a callee keeps of a length gives the lengths.
use mathlib.Core.Path.{◌≡◌, refl, sym, ap, subst, ◌∙◌}
use mathlib.Core.Bool.{Bool, true}
use mathlib.Core.List.{List, ◌++◌, append_assoc}
use Prim.Native.Nat.{ℕ, ◌+◌, ◌*◌, ◌-◌, ◌≤◌}
use native.Mathlib.Omega.{arith}
use lib.IntN.{ℤ}
use lib.ListN.{length, length-drop, drop}
use lib.Seq.{take_all}
use borrow.Rule.Slice.PartMut.{same_len_mid}
use Rattle.language.specs.Trees.{Items, none, ◌then◌, ◌here◌, define, ◌⧺◌}
use Rattle.language.specs.Sizes.{items_rows}
use Rattle.language_emission.specs.Emission.{emit_items}
use Rattle.language_emission.specs.EmissionLaws.{or_more}
use Rattle.words.specs.Over.{over}
use Rattle.writers_rows.specs.Room.{Room, more_rows}
use Rattle.writers_rows.specs.Chain.{part, back_in, PutWords, put_next, Wrote, wrote-next, more_is}

-- ---- lengths

part_length : (n : ℕ) (l : List ℤ) → length (part n l) ≡ length l - 6 * n
part_length n l = ap length (take_all (length l - 6 * n) (drop (6 * n) l) (rw length-drop (omega arith))) ∙ length-drop (6 * n) l

-- A table whose part is back has the length that it had.
pub back-length : (n : ℕ) (l m : List ℤ) → length m ≡ length (part n l) → length (back_in n l m) ≡ length l
back-length n l m e = same_len_mid (6 * n) (length l - 6 * n) l m e

-- Room for the rows behind the first n.
pub room-behind : {rows base words : ℕ} (n k : ℕ) (l : List ℤ) → Room rows base words → length l ≡ words → n + k ≤ rows → Room k (base + n) (length (part n l))
room-behind n k l room e h = record { inside = omega (arith, part_length n l, room.inside); low = omega (arith, room.low) }

-- ---- parts

pub put-behind : {u v : List ℤ} {n k : ℕ} {l l1 l2 : List ℤ} (total : ℕ) → total ≡ n + k → PutWords u n l l1 → PutWords v k (part n l1) l2 → PutWords (u ++ v) total l (back_in n l1 l2)
put-behind {u} {v} {n} {k} {l} {l1} {l2} total t p q = subst (λ (m : ℕ). PutWords (u ++ v) m l (back_in n l1 l2)) (sym t) (put_next p q)

pub wrote-behind : {first follows : Bool} {xs ys : Items} {n k base from : ℕ} {l l1 l2 : List ℤ} (total : ℕ) → total ≡ n + k → first ≡ or_more follows ys → from ≡ base + n
    → Wrote first xs base n l l1 → Wrote follows ys from k (part n l1) l2 → Wrote follows (xs ⧺ ys) base total l (back_in n l1 l2)
wrote-behind {first} {follows} {xs} {ys} {n} {k} {base} {from} {l} {l1} {l2} total t f b w v =
    let flag : first ≡ more_rows follows k = f ∙ more_is follows ys ∙ ap (more_rows follows) v.size in
    let before : Wrote (more_rows follows k) xs base n l l1 = subst (λ (x : Bool). Wrote x xs base n l l1) flag w in
    let behind : Wrote follows ys (base + n) k (part n l1) l2 = subst (λ (x : ℕ). Wrote follows ys x k (part n l1) l2) b v in
    subst (λ (x : ℕ). Wrote follows (xs ⧺ ys) base x l (back_in n l1 l2)) (sym t) (wrote-next before behind)

-- Nothing was written yet.
pub wrote_none : (follows : Bool) (base : ℕ) (l : List ℤ) → Wrote follows none base 0 l l
unfolding over emit_items items_rows
wrote_none follows base l = record { table = refl; size = refl }

pub append-four : (a b c d : List ℤ) → ((a ++ b) ++ c) ++ d ≡ a ++ ((b ++ c) ++ d)
append-four a b c d = simp append_assoc

-- ---- whether anything stands behind

pub more-rows : (follows : Bool) (xs : Items) (n : ℕ) → items_rows xs ≡ n → more_rows follows n ≡ or_more follows xs
more-rows follows xs n e = ap (more_rows follows) (sym e) ∙ sym (more_is follows xs)

pub more-append : (follows : Bool) (xs ys : Items) → or_more follows (xs ⧺ ys) ≡ or_more (or_more follows ys) xs
unfolding ◌⧺◌
more-append follows none ys = refl
more-append follows (s then xs) ys = refl
more-append follows (m here xs) ys = refl
more-append follows (define f words body xs) ys = refl

pub more-true : (xs : Items) → or_more true xs ≡ true
more-true none = refl
more-true (s then is) = refl
more-true (m here is) = refl
more-true (define f words body is) = refl
