-- Laws of `over`: values written one after the other from the start of a table or buffer, and parts that are lent and given back.
use Rattle.std.specs.Prelude.{◌≡◌, ℕ, ◌+◌, ◌-◌, ◌≤◌, ◌<◌, set}
use Rattle.std.proofs.Math.Path.{refl, sym, ap}
use Rattle.std.proofs.Common.{◌∙◌, add-one, length-drop, drop_of_length-le, drop_at, take_all}
use mathlib.Core.List.{List, [], ◌∷◌, ◌++◌, append_assoc, append-nil}
use native.Mathlib.Omega.{arith}
use Rattle.std.proofs.Math.ListN.{length, take, drop, length-append}
use Rattle.std.proofs.Math.Seq.{take_at, drop-drop, drop-cons, set-append_seam}
use borrow.Rule.Slice.PartMut.{mid_of, post_of, put_mid}
use Rattle.words.specs.Over.{over}

module _ {A : Type 0} where
  -- a shared part from the start
  pub first_of : (l : List A) (k : ℕ) → take (k - 0) l ≡ take k l
  first_of l k = let e : k - 0 ≡ k = omega arith in rw e

  -- a shared part to the end
  pub rest_of : (l : List A) (k : ℕ) → take (length l - k) (drop k l) ≡ drop k l
  rest_of l k = take_all (length l - k) (drop k l) (rw length-drop (omega arith))

  pub length_over : (u l m : List A) → m ≡ over u l → length u ≤ length l → length m ≡ length l
  unfolding over
  length_over u l m e h = rw e (simp (length-append, length-drop) (omega arith))

  -- what kept a buffer's length had room in it
  pub over-fits : (u l : List A) → length (over u l) ≡ length l → length u ≤ length l
  unfolding over
  over-fits u l e =
      let sum : length u + (length l - length u) ≡ length l = simp (length-append, length-drop) at e in
      omega arith

  -- the values that were written
  pub take-over : (u l : List A) → take (length u) (over u l) ≡ u
  unfolding over
  take-over u l = take_at u (drop (length u) l) (length u) refl

  -- the same, as a shared part from the start
  pub written-part : (u l m : List A) (k : ℕ) → k ≡ length u → m ≡ over u l → take (k - 0) m ≡ u
  written-part u l m k g e = let n : k - 0 ≡ length u = omega arith in rw (n, e) (take-over u l)

  -- one value more
  pub over-set : (u l m : List A) (k : ℕ) (b : A) → m ≡ over u l → k ≡ length u → length u < length l → set m k b ≡ over (u ++ (b ∷ [])) l
  unfolding over
  over-set u l m k b e f h =
      rw (e, f, drop-cons l (length u) b h, set-append_seam u _ _ b, length-append, append_assoc, add-one)

  pub over_none : (l : List A) → l ≡ over [] l
  unfolding over
  over_none l = refl

  -- the part from k on that is lent, and the buffer when the part is back
  abbrev pub part : ℕ → List A → List A
  part k l = mid_of k (length l - k) l

  abbrev pub back_in : ℕ → List A → List A → List A
  back_in k l m = put_mid k (length l - k) l m

  pub part-is : (k : ℕ) (l : List A) → part k l ≡ drop k l
  part-is k l = rest_of l k

  rest_is : (k : ℕ) (l : List A) → post_of k (length l - k) l ≡ []
  rest_is k l = drop_of_length-le (drop k l) {i = length l - k} (rw length-drop (omega arith))

  -- values v written from k on, after k values u were written from the start
  pub over-next : (u v l l1 l2 : List A) (k : ℕ) → k ≡ length u → l1 ≡ over u l → l2 ≡ over v (part k l1) → back_in k l1 l2 ≡ over (u ++ v) l
  unfolding over
  over-next u v l l1 l2 k g e1 e2 =
      let h = sym g in
      let d : drop k l1 ≡ drop k l = rw e1 (drop_at u _ k h ∙ ap (λ (n : ℕ). drop n l) h) in
      let t : take k l1 ≡ u = rw e1 (take_at u _ k h) in
      let e : l2 ≡ v ++ drop (length v) (drop k l) = e2 ∙ ap (λ (m : List A). v ++ drop (length v) m) (part-is k l1 ∙ d) in
      rw (rest_is k l1) (simp (append-nil, t, e, drop-drop, length-append, append_assoc, h))
