-- Sums along links: in a table whose rows but row 0 are each linked exactly once, what row 0 gathers along the links is the sum over all
-- rows. Each word of the table brings what it links; counted by the linked row, each row but row 0 is brought once.
use Rattle.std.specs.Prelude.{◌≡◌, List, ℤ}
use Rattle.std.proofs.Math.Path.{refl}
use Rattle.std.proofs.Common.{ap, ◌∙◌, add-mul, add-zero}
use Rattle.std.proofs.Math.Bool.{false}
use Prim.Native.Nat.{ℕ, zero, suc, ◌+◌, ◌*◌, ◌/◌, ◌%◌, ◌<◌}
use native.Mathlib.Omega.{arith}
use Rattle.std.proofs.Math.Nat.{zero-mul, one-mul, zero-add}
use Rattle.std.proofs.Math.Decide.{ℕ_discrete}
use Rattle.std.proofs.Math.Arith.{lt_of_le-ne}
use Rattle.std.proofs.Math.Dec.{eqb}
use borrow.Author.Tests.{eq-eqb, ne_eqb}
use Rattle.words.specs.Word.{pick, one}
use Rattle.words.specs.Table.{row_count}
use Rattle.words.specs.Links.{link, target}
use Rattle.check_structure.specs.Links.{links_among, link_count}
use Rattle.check_structure.specs.Structured.{Tree}
use Rattle.check_grammar.specs.GrammarLaws.{kind-links-none}
use Rattle.check_structure.specs.LinkLaws.{word-of}

-- f 0 + .. + f (count − 1)
unfoldable pub total : (ℕ → ℕ) → ℕ → ℕ
total f zero = 0
total f (suc count) = total f count + f count

-- f from + .. + f (from + count − 1)
unfoldable pub total_from : (ℕ → ℕ) → ℕ → ℕ → ℕ
total_from f from zero = 0
total_from f from (suc count) = f from + total_from f (from + 1) count

-- What a link brings; "0 means absent".
unfoldable pub along : (ℕ → ℕ) → ℕ → ℕ
along weight l = pick (eqb l 0) 0 (weight l)

-- ---- sums, term by term

total-same : (f g : ℕ → ℕ) (n : ℕ) → ((i : ℕ) → i < n → f i ≡ g i) → total f n ≡ total g n
unfolding total
total-same f g zero h = refl
total-same f g (suc n) h = rw (total-same f g n (λ i l. h i (omega arith)), h n (omega arith))

total-add : (f g : ℕ → ℕ) (n : ℕ) → total (λ i. f i + g i) n ≡ total f n + total g n
unfolding total
total-add f g zero = refl
total-add f g (suc n) = omega (arith, total-add f g n)

total-zero : (n : ℕ) → total (λ i. 0) n ≡ 0
unfolding total
total-zero zero = refl
total-zero (suc n) = omega (arith, total-zero n)

pub total-one : (n : ℕ) → total (λ i. 1) n ≡ n
unfolding total
total-one zero = refl
total-one (suc n) = omega (arith, total-one n)

first-apart : (f : ℕ → ℕ) (n : ℕ) → total f (suc n) ≡ f 0 + total (λ i. f (suc i)) n
unfolding total
first-apart f zero = omega arith
first-apart f (suc n) = omega (arith, first-apart f n)

module _ (weight : ℕ → ℕ) where
  -- ---- what one link brings, counted by the rows

  -- the share of row j + 1 in a link to row l
  abbrev share_of : ℕ → ℕ → ℕ
  share_of l j = one (eqb l (suc j)) * weight (suc j)

  misses : (l n : ℕ) → ((j : ℕ) → j < n → l ≡ suc j → ⊥) → total (share_of l) n ≡ 0
  misses l n h = total-same _ (λ j. 0) n (λ j k. rw (ne_eqb l (suc j) (h j k)) (zero-mul (weight (suc j)))) ∙ total-zero n

  last-share : (l n before : ℕ) → Dec (l ≡ suc n) → l < suc (suc n) → (l < suc n → before ≡ along weight l) → before ≡ total (share_of l) n
      → before + share_of l n ≡ along weight l
  unfolding along
  last-share l n before (yes q) h e z =
      let none : before ≡ 0 = z ∙ misses l n (λ j k f. omega arith) in
      let some : eqb l 0 ≡ false = ne_eqb l 0 (λ f. omega arith) in
      rw (some, eq-eqb l (suc n) q, none, one-mul, zero-add, q)
  last-share l n before (no q) h e z = rw (ne_eqb l (suc n) q, zero-mul, add-zero) (e (lt_of_le-ne (omega arith) q))

  shares : (n l : ℕ) → l < suc n → total (share_of l) n ≡ along weight l
  unfolding total along
  shares zero l h = let z : l ≡ 0 = omega arith in rw (eq-eqb l 0 z)
  shares (suc n) l h = last-share l n _ (ℕ_discrete l (suc n)) h (shares n l) refl

  -- ---- what the words of a table bring

  module _ (rows : List ℤ) where
    words-bring : (n words : ℕ) → ((word : ℕ) → word < words → target rows word < suc n)
        → total (λ j. links_among rows words (suc j) * weight (suc j)) n ≡ total (λ word. along weight (target rows word)) words
    unfolding links_among total
    words-bring n zero h = total-same _ (λ j. 0) n (λ j k. zero-mul (weight (suc j))) ∙ total-zero n
    words-bring n (suc words) h =
        total-same _ (λ j. links_among rows words (suc j) * weight (suc j) + share_of (target rows words) j) n (λ j k. rw add-mul)
        ∙ total-add (λ j. links_among rows words (suc j) * weight (suc j)) (share_of (target rows words)) n
        ∙ cc (words-bring n words (λ word k. h word (omega arith)), shares n (target rows words) (h words (omega arith)))

    -- what the fields of a row bring
    abbrev pub brought : ℕ → ℕ → ℕ
    brought row field = along weight (link rows row field)

    module _ (t : Tree rows) where
      word-links : (word row field : ℕ) → word ≡ 6 * row + field → field < 6 → target rows word ≡ link rows row field
      unfolding target
      word-links word row field e h = let at = word-of row field h in rw (e, at.0, at.1)

      word-brings : (word row field : ℕ) → word ≡ 6 * row + field → field < 6 → along weight (target rows word) ≡ brought row field
      word-brings word row field e h = ap (along weight) (word-links word row field e h)

      kind-brings : (row : ℕ) → brought row 0 ≡ 0
      unfolding along
      kind-brings row = rw (kind-links-none rows row)

      rows-bring : (n : ℕ) → total (λ word. along weight (target rows word)) (6 * n) ≡ total (λ row. total_from (brought row) 1 5) n
      unfolding total total_from
      rows-bring zero = refl
      rows-bring (suc n) =
          let w : ℕ = 6 * n in
          let six : 6 * suc n ≡ suc (suc (suc (suc (suc (suc w))))) = omega arith in
          rw six (omega (
            arith,
            rows-bring n,
            kind-brings n,
            word-brings w n 0 (omega arith) (omega arith),
            word-brings (suc w) n 1 (omega arith) (omega arith),
            word-brings (suc (suc w)) n 2 (omega arith) (omega arith),
            word-brings (suc (suc (suc w))) n 3 (omega arith) (omega arith),
            word-brings (suc (suc (suc (suc w)))) n 4 (omega arith) (omega arith),
            word-brings (suc (suc (suc (suc (suc w))))) n 5 (omega arith) (omega arith),
          ))

      target-inside : (word : ℕ) → word < 6 * row_count rows → target rows word < row_count rows
      unfolding target
      target-inside word h = go (link rows (word / 6) (word % 6)) refl
        where
          go : (l : ℕ) → link rows (word / 6) (word % 6) ≡ l → link rows (word / 6) (word % 6) < row_count rows
          go zero e = let some = t.some_rows in omega arith
          go (suc l) e = (t.forward (word / 6) (word % 6) (omega arith) (omega arith) (omega arith)).inside

      -- Row 0 gathers the whole table: where each row's weight is its own and what its links bring.
      pub gathers : (own : ℕ → ℕ) → ((row : ℕ) → row < row_count rows → weight row ≡ own row + total_from (brought row) 1 5) → weight 0 ≡ total own (row_count rows)
      unfolding link_count
      gathers own adds = go (row_count rows) refl
        where
          go : (count : ℕ) → row_count rows ≡ count → weight 0 ≡ total own (row_count rows)
          go zero e = absurd (let some = t.some_rows in omega arith)
          go (suc n) e =
              let all : total weight (suc n) ≡ total own (suc n) + total (λ row. total_from (brought row) 1 5) (suc n) =
              total-same weight (λ row. own row + total_from (brought row) 1 5) (suc n) (λ row k. adds row (omega arith)) ∙ total-add own (λ row. total_from (brought row) 1 5) (suc n) in
              let once : total (λ j. links_among rows (6 * suc n) (suc j) * weight (suc j)) n ≡ total (λ j. weight (suc j)) n =
              total-same _ _ n (λ j k. rw (linked j k) (one-mul (weight (suc j)))) in
              let brings = words-bring n (6 * suc n) (λ word k. let below = target-inside word (omega arith) in omega arith) in
              rw e (omega (arith, all, once, brings, rows-bring (suc n), first-apart weight n))
            where
              linked : (j : ℕ) → j < n → links_among rows (6 * suc n) (suc j) ≡ 1
              linked j k = rw e at (t.once (suc j) (omega arith) (omega arith))
