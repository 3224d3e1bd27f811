-- How many bytes the words of lines take, counted word by word.
use mathlib.Core.Path.{◌≡◌, refl, ap, ◌∙◌}
use mathlib.Core.List.{List, [], ◌∷◌, ◌++◌}
use Prim.Native.Nat.{ℕ, ◌+◌, ◌*◌, ◌^◌, ◌≤◌, ◌<◌}
use native.Mathlib.Omega.{arith}
use native.Mathlib.Numerals.{add-one}
use lib.IntN.{ℤ, pos}
use lib.Signed.{mag}
use lib.ListN.{length, take, get_or, length-append}
use lib.Seq.{take-suc, take-length}
use Rattle.text_numbers.specs.Number.{number_bytes}
use Rattle.text_lines.specs.Line.{line_bytes}
use Rattle.text_lines.specs.Writer.{bytes_of, Measured}
use Rattle.text_numbers.specs.PutLaws.{number-eleven}
use Rattle.text_lines.proofs.Writing.{line-one, line-more}

-- ---- the bytes of words

pub bytes-append : (xs ys : List ℤ) → bytes_of (xs ++ ys) ≡ bytes_of xs + bytes_of ys
unfolding bytes_of
bytes-append [] ys = omega arith
bytes-append (z ∷ zs) ys = omega (arith, bytes-append zs ys)

bytes_one : (z : ℤ) → bytes_of (z ∷ []) ≡ length (number_bytes z) + 1
unfolding bytes_of
bytes_one z = omega arith

bytes-more : (z : ℤ) (zs : List ℤ) → bytes_of (z ∷ zs) ≡ length (number_bytes z) + 1 + bytes_of zs
unfolding bytes_of
bytes-more z zs = refl

pub bytes-line : (words : List ℤ) → 0 < length words → length (line_bytes words) ≡ bytes_of words
bytes-line [] h = absurd (omega arith)
bytes-line (z ∷ []) h = omega (arith, ap length (line-one (z ∷ []) refl), length-append (number_bytes z) (10 ∷ []), bytes_one z)
bytes-line (z ∷ (y ∷ zs)) h =
    omega (
      arith,
      ap length (line-more (z ∷ (y ∷ zs)) (omega arith)),
      length-append (number_bytes z ++ (9 ∷ [])) (line_bytes (y ∷ zs)),
      length-append (number_bytes z) (9 ∷ []),
      bytes-line (y ∷ zs) (omega arith),
      bytes-more z (y ∷ zs),
    )

-- ---- the sum over words

pub record Summed (words : List ℤ) (size i : ℕ) : Type 0 where
  pub inside : i ≤ length words
  pub sum : size ≡ bytes_of (take i words)
  pub most : size ≤ 12 * i

pub summed-start : (words : List ℤ) → Summed words 0 0
unfolding bytes_of
summed-start words = record { inside = omega arith; sum = refl; most = omega arith }

bytes_next : (words : List ℤ) (i : ℕ) → i < length words → bytes_of (take (i + 1) words) ≡ bytes_of (take i words) + (length (number_bytes (get_or words i (pos 0))) + 1)
bytes_next words i h =
    ap bytes_of (ap (λ (n : ℕ). take n words) (add-one i) ∙ take-suc words i (pos 0) h)
    ∙ bytes-append (take i words) _ ∙ ap (λ (n : ℕ). bytes_of (take i words) + n) (bytes_one (get_or words i (pos 0)))

module _ {words : List ℤ} {size i : ℕ} (s : Summed words size i) where
  pub summed-next : i < length words → mag (get_or words i (pos 0)) < 2 ^ 31 → (count : ℕ) → count ≡ length (number_bytes (get_or words i (pos 0))) → Summed words (size + (count + 1)) (i + 1)
  summed-next h f count e = record {
    inside = omega arith;
    sum = omega (arith, s.sum, bytes_next words i h);
    most = omega (arith, s.most, number-eleven (get_or words i (pos 0)) f);
  }

  pub summed-end : length words ≤ i → Measured words size
  summed-end h =
      let e : i ≡ length words = omega (arith, s.inside) in
      record {
        sum = omega (arith, s.sum, ap (λ (n : ℕ). bytes_of (take n words)) e, ap bytes_of (take-length words));
        most = omega (arith, s.most);
      }
