-- Comparing: bytes compared one by one, as `==`, `starts_with` and `ends_with` do.
use mathlib.Core.Path.{◌≡◌, refl, sym, ap, ◌∙◌}
use mathlib.Core.Bool.{Bool, true, false}
use mathlib.Core.List.{List, [], ◌∷◌}
use Prim.Native.Nat.{ℕ, suc}
use native.Mathlib.Omega.{arith}
use lib.Dec.{eqb}
use Prim.Native.Nat.{◌≤◌}
use lib.ListN.{length, take}
use lib.Seq.{take_all}
use borrow.Author.Tests.{eqb-true, eqb-false, eq-eqb, ne_eqb}
use Rattle.std.specs.Cmp.Lexicographic.{pointwise}
use Rattle.words.specs.Word.{pick}
use Rattle.words.specs.Laws.{by_cases}
use Rattle.page_words.specs.Compare.{is_prefix, is_word}

pub prefix-is : (bytes text : List ℕ) → pointwise eqb bytes (take (length bytes) text) ≡ is_prefix bytes text
unfolding is_prefix
prefix-is [] text = refl
prefix-is (byte ∷ bytes) [] = refl
prefix-is (byte ∷ bytes) (first ∷ text) =
    by_cases (eqb first byte)
    (λ e. rw (e, eq-eqb byte first (sym (eqb-true first byte e))) (prefix-is bytes text))
    (λ e. rw (e, ne_eqb byte first (λ q. eqb-false first byte e (sym q))))

none : (test : Bool) → pick test false false ≡ false
none true = refl
none false = refl

one-more : (m n : ℕ) → eqb (suc m) (suc n) ≡ eqb m n
one-more m n =
    by_cases (eqb m n)
    (λ t. eq-eqb (suc m) (suc n) (ap suc (eqb-true m n t)) ∙ sym t)
    (λ t. ne_eqb (suc m) (suc n) (λ e. eqb-false m n t (omega arith)) ∙ sym t)

pub word-is : (text word : List ℕ) → pointwise eqb text word ≡ is_word word text
unfolding is_word is_prefix
word-is [] [] = refl
word-is [] (byte ∷ word) = sym (none (eqb 0 (length (byte ∷ word))))
word-is (first ∷ text) [] = let e : eqb (length (first ∷ text)) 0 ≡ false = ne_eqb (length (first ∷ text)) 0 (λ q. omega arith) in rw e
word-is (first ∷ text) (byte ∷ word) =
    by_cases (eqb first byte)
    (λ e. rw (e, one-more (length text) (length word)) (word-is text word))
    (λ e. rw e (sym (none (eqb (suc (length text)) (suc (length word))))))

pub suffix-is : (bytes rest : List ℕ) → length rest ≤ length bytes → pointwise eqb bytes rest ≡ is_prefix bytes rest
suffix-is bytes rest h = ap (pointwise eqb bytes) (sym (take_all (length bytes) rest h)) ∙ prefix-is bytes rest
