-- The loops over blanks: from the front, and from the end.
use mathlib.Core.Path.{◌≡◌, refl, sym, ap, ◌∙◌}
use mathlib.Core.List.{List, [], ◌∷◌, ◌++◌}
use Prim.Native.Nat.{ℕ, suc, ◌+◌, ◌-◌, ◌≤◌, ◌<◌}
use native.Mathlib.Omega.{arith}
use native.Mathlib.Numerals.{add-one}
use lib.ListN.{length, take, drop, get_or, drop_of_length-le}
use lib.Seq.{drop-cons, take-suc, take-length, length-take-le}
use borrow.Author.Tests.{eq-eqb, ne_eqb}
use Rattle.page_frame.specs.Frames.{leading_blanks, filled_size}
use Rattle.page_frame.proofs.BlankLaws.{filled-blank, filled-other}

-- the first i bytes are blanks
pub record Led (text : List ℕ) (i : ℕ) : Type 0 where
  pub inside : i ≤ length text
  pub same : leading_blanks text ≡ i + leading_blanks (drop i text)

pub led-start : (text : List ℕ) → Led text 0
led-start text = record { inside = omega arith; same = omega arith }

module _ {text : List ℕ} {i : ℕ} (l : Led text i) where
  pub led-end : length text ≤ i → i ≡ leading_blanks text
  unfolding leading_blanks
  led-end h = let none : leading_blanks (drop i text) ≡ 0 = rw (drop_of_length-le text {i = i} h) in omega (arith, l.same)

  pub led-here : i < length text → (get_or text i 0 ≡ 32 → ⊥) → i ≡ leading_blanks text
  unfolding leading_blanks
  led-here h f = let none : leading_blanks (drop i text) ≡ 0 = rw (drop-cons text i 0 h, ne_eqb _ _ f) in omega (arith, l.same)

  pub led-next : i < length text → get_or text i 0 ≡ 32 → Led text (i + 1)
  unfolding leading_blanks
  led-next h e =
      let more : leading_blanks (drop i text) ≡ suc (leading_blanks (drop (i + 1) text)) = rw (add-one i, drop-cons text i 0 h, eq-eqb _ _ e) in
      record { inside = omega arith; same = omega (arith, l.same) }

-- the bytes from `end` on are blanks
pub record Kept (text : List ℕ) (end : ℕ) : Type 0 where
  pub inside : end ≤ length text
  pub same : filled_size text ≡ filled_size (take end text)

pub kept-start : (text : List ℕ) → Kept text (length text)
kept-start text = record { inside = omega arith; same = ap filled_size (sym (take-length text)) }

module _ {text : List ℕ} {end : ℕ} (k : Kept text end) where
  pub kept-end : end ≤ 0 → end ≡ filled_size text
  unfolding filled_size
  kept-end h = let none : end ≡ 0 = omega arith in none ∙ sym (k.same ∙ ap (λ (n : ℕ). filled_size (take n text)) none)

  module _ (h : 0 < end) where
    one_more : take end text ≡ take (end - 1) text ++ (get_or text (end - 1) 0 ∷ [])
    one_more =
        let inside = k.inside in
        let same : end ≡ suc (end - 1) = omega arith in
        ap (λ (n : ℕ). take n text) same ∙ take-suc text (end - 1) 0 (omega arith)

    pub kept_here : (get_or text (end - 1) 0 ≡ 32 → ⊥) → end ≡ filled_size text
    kept_here f =
        let inside = k.inside in
        let size : length (take (end - 1) text) ≡ end - 1 = length-take-le (end - 1) text (omega arith) in
        omega (arith, k.same ∙ ap filled_size one_more ∙ filled-other (take (end - 1) text) (get_or text (end - 1) 0) f)

    pub kept_next : get_or text (end - 1) 0 ≡ 32 → Kept text (end - 1)
    kept_next e =
        let inside = k.inside in
        record {
          inside = omega arith;
          same = k.same ∙ ap filled_size (one_more ∙ ap (λ (byte : ℕ). take (end - 1) text ++ (byte ∷ [])) e) ∙ filled-blank (take (end - 1) text);
        }
