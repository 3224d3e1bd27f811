-- One row more in the chains: a goto or label becomes the head of its number's chain, and what was the head follows it.
use mathlib.Core.Path.{◌≡◌, subst, sym, ◌∙◌}
use mathlib.Core.Bool.{Bool, false, true≢false}
use mathlib.Core.List.{List}
use Prim.Native.Nat.{ℕ, ◌+◌, ◌≤◌, ◌<◌}
use native.Mathlib.Omega.{arith}
use native.Mathlib.Decide.{ℕ_discrete}
use lib.Arith.{lt_of_le-ne}
use lib.IntN.{ℤ}
use lib.ListN.{get_or, set, length-set, replicate, length-replicate, get_or-replicate}
use lib.Seq.{get_or-set_same, get_or-set_other}
use Rattle.words.specs.Table.{row_count, number_at}
use Rattle.words.specs.Kinds.{between}
use Rattle.check_labels.specs.Passes.{Jump, NextJump, Heads, Chain}

-- a later row, or the row itself
above : (row other : ℕ) → row ≤ other → (other ≡ row → ⊥) → row + 1 ≤ other
above row other h n = let l = lt_of_le-ne h (λ (q : row ≡ other). n (sym q)) in omega arith

module _ (rows : List ℤ) (row : ℕ) where
  -- a row that is no goto and no label with the number leaves its chain
  next-skip : (number next : ℕ) → (Jump rows number row → ⊥) → NextJump rows number (row + 1) next → NextJump rows number row next
  next-skip number next n j =
      record { least = (let l = j.least in omega arith); none_before = λ other h k b. go other h k b (ℕ_discrete other row); is = j.is }
    where
      go : (other : ℕ) → row ≤ other → other < next → Jump rows number other → Dec (other ≡ row) → ⊥
      go other h k b (yes q) = n (subst (Jump rows number) q b)
      go other h k b (no q) = j.none_before other (above row other h q) k b

  -- ---- a row that is neither goto nor label

  module _ (none : (number : ℕ) → Jump rows number row → ⊥) where
    pub heads-keep : (heads : List ℕ) → Heads rows (row + 1) heads → Heads rows row heads
    heads-keep heads h = record { room = h.room; head = λ number b. next-skip number (get_or heads number 0) (none number) (h.head number b) }

    pub chain-keep : (chain : List ℕ) → Chain rows (row + 1) chain → Chain rows row chain
    chain-keep chain c = record { room = c.room; follows = λ number other h b. go number other h b (ℕ_discrete other row) }
      where
        go : (number other : ℕ) → row ≤ other → Jump rows number other → Dec (other ≡ row) → NextJump rows number (other + 1) (get_or chain other 0)
        go number other h b (yes q) = absurd (none number (subst (Jump rows number) q b))
        go number other h b (no q) = c.follows number other (above row other h q) b

  -- ---- a goto or label with the number

  module _ (number : ℕ) (jump : Jump rows number row) (heads : List ℕ) (h : Heads rows (row + 1) heads) (small : number < 40980) where
    pub heads-set : Heads rows row (set heads number row)
    heads-set = record { room = rw length-set h.room; head = λ other b. go other b (ℕ_discrete other number) }
      where
        here : NextJump rows number row row
        here = record { least = omega arith; none_before = λ other a b j. omega arith; is = λ n. jump }

        go : (other : ℕ) → other < 40980 → Dec (other ≡ number) → NextJump rows other row (get_or (set heads number row) other 0)
        go other b (yes q) = rw (q, get_or-set_same heads number row 0 (let room = h.room in omega arith)) here
        go other b (no q) =
            rw (get_or-set_other heads number other row 0 q)
            (next-skip other (get_or heads other 0) (λ j. q (sym j.number_is ∙ jump.number_is)) (h.head other b))

    pub chain-set : (chain : List ℕ) → Chain rows (row + 1) chain → Chain rows row (set chain row (get_or heads number 0))
    chain-set chain c = record { room = rw length-set c.room; follows = λ other at l b. go other at l b (ℕ_discrete at row) }
      where
        go : (other at : ℕ) → row ≤ at → Jump rows other at → Dec (at ≡ row) → NextJump rows other (at + 1) (get_or (set chain row (get_or heads number 0)) at 0)
        go other at l b (yes q) =
            let same : other ≡ number = sym b.number_is ∙ rw q jump.number_is in
            rw (q, same, get_or-set_same chain row (get_or heads number 0) 0 (let room = c.room in let n = jump.inside in omega arith)) (h.head number small)
        go other at l b (no q) = rw (get_or-set_other chain row at (get_or heads number 0) 0 q) (c.follows other at (above row at l q) b)

-- no goto and no label
pub no_jump : (rows : List ℤ) (row : ℕ) (test : Bool) → test ≡ between 52 53 (number_at rows row 0) → test ≡ false → (number : ℕ) → Jump rows number row → ⊥
no_jump rows row test e f number j = true≢false (sym j.jump ∙ sym e ∙ f)

-- ---- no row is chained yet: each chain ends past the table

module _ (rows : List ℤ) (room end : ℕ) (past : row_count rows ≤ end) where
  pub heads-start : 40980 ≤ room → Heads rows (row_count rows) (replicate room end)
  heads-start h =
      record {
        room = rw length-replicate h;
        head = λ number b. rw (get_or-replicate room number end 0 (omega arith))
            (record { least = past; none_before = λ row l k j. (let n = j.inside in omega arith); is = λ n. absurd (omega arith) });
      }

  pub chain-start : row_count rows ≤ room → Chain rows (row_count rows) (replicate room end)
  chain-start h = record { room = rw length-replicate h; follows = λ number row l j. absurd (let n = j.inside in omega arith) }
