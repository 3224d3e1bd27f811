-- Laws of counting: what has a property stands at one place among what has it, in order; and the rows that are placed by it.
use Rattle.std.specs.Prelude.{◌≡◌, Bool, false, not, List, [], ◌++◌, ℤ, pos, length}
use Rattle.std.proofs.Math.Path.{refl, sym, ap}
use Rattle.std.proofs.Common.{◌∙◌}
use Rattle.std.proofs.Math.Bool.{true}
use Prim.Native.Nat.{ℕ, zero, suc, ◌+◌, ◌-◌, ◌*◌, ◌≤◌, ◌<◌}
use native.Mathlib.Omega.{arith}
use Rattle.std.proofs.Math.Decide.{ℕ_discrete, dec_lt}
use Rattle.std.proofs.Math.Arith.{lt_of_le-ne}
use Rattle.std.proofs.Math.ListN.{get_or, length-append, get_or-append}
use Rattle.std.proofs.Math.Seq.{get_or-append-add}
use Rattle.words.specs.Word.{pick}
use Rattle.words.specs.Laws.{by_cases}
use Rattle.check_grammar.specs.Grammar.{tabulate}
use Rattle.check_grammar.specs.GrammarLaws.{tabulated}
use Rattle.join.specs.Join.{before, Placement, placed_word, placed_rows}

module _ (property : ℕ → Bool) where
  pub before-has : (number : ℕ) → property number ≡ true → before property (suc number) ≡ before property number + 1
  unfolding before
  before-has number e = rw e

  pub before-not : (number : ℕ) → property number ≡ false → before property (suc number) ≡ before property number
  unfolding before
  before-not number e = rw e (omega arith)

  before-grows : (number more : ℕ) → before property number ≤ before property (number + more)
  unfolding before
  before-grows number zero = let e : number + 0 ≡ number = omega arith in rw e (omega arith)
  before-grows number (suc more) = let e : number + suc more ≡ suc (number + more) = omega arith in let earlier = before-grows number more in rw e (omega arith)

  pub before-most : (number most : ℕ) → number ≤ most → before property number ≤ before property most
  before-most number most h = let e : number + (most - number) ≡ most = omega arith in rw e at (before-grows number (most - number))

  -- in order
  pub before-less : (number most : ℕ) → number < most → property number ≡ true → before property number < before property most
  before-less number most h e =
      let up = before-has number e in
      let rest = before-most (suc number) most (omega arith) in
      omega arith

  -- at places of their own
  pub before-apart : (number other : ℕ) → property number ≡ true → property other ≡ true → before property number ≡ before property other → number ≡ other
  before-apart number other e f same = go (dec_lt number other) (dec_lt other number)
    where
      go : Dec (number < other) → Dec (other < number) → number ≡ other
      go (yes h) d = absurd (let l = before-less number other h e in omega arith)
      go (no h) (yes k) = absurd (let l = before-less other number k f in omega arith)
      go (no h) (no k) = omega (arith, h, k)

  -- The number at a place.
  pub record Counted (most place : ℕ) : Type 0 where
    pub number : ℕ
    pub below : number < most
    pub has : property number ≡ true
    pub is : before property number ≡ place

  pub counted : (most place : ℕ) → place < before property most → Counted most place
  unfolding before
  counted zero place h = absurd (omega arith)
  counted (suc most) place h =
      by_cases (property most) (λ e. here (ℕ_discrete (before property most) place) e (counted most place)) (λ e. earlier (counted most place (let same = before-not most e in omega arith)))
    where
      earlier : Counted most place → Counted (suc most) place
      earlier c = record { number = c.number; below = (let b = c.below in omega arith); has = c.has; is = c.is }

      here : Dec (before property most ≡ place) → property most ≡ true → (place < before property most → Counted most place) → Counted (suc most) place
      here (yes q) e rest = record { number = most; below = omega arith; has = e; is = q }
      here (no q) e rest = earlier (rest (let up = before-has most e in lt_of_le-ne (omega arith) (λ (z : place ≡ before property most). q (sym z))))

-- what has the property, and what has not
pub before-parts : (property : ℕ → Bool) (number : ℕ) → before property number + before (λ k. not (property k)) number ≡ number
unfolding before
before-parts property zero = refl
before-parts property (suc number) =
    let earlier = before-parts property number in
    by_cases (property number) (λ e. rw e (omega arith)) (λ e. rw e (omega arith))

-- ---- rows

module _ (placement : Placement) (property : ℕ → Bool) (rows : List ℤ) where
  six : (row : ℕ) → length (tabulate (placed_word placement rows row) 0 6) ≡ 6
  six row = refl

  pub placed-length : (count : ℕ) → length (placed_rows placement property rows count) ≡ 6 * before property count
  unfolding placed_rows before
  placed-length zero = refl
  placed-length (suc count) =
      let earlier = placed-length count in
      length-append (placed_rows placement property rows count) (pick (property count) (tabulate (placed_word placement rows count) 0 6) [])
      ∙ by_cases (property count) (λ e. rw e (omega arith)) (λ e. rw e (omega arith))

  abbrev last_row : ℕ → List ℤ
  last_row count = pick (property count) (tabulate (placed_word placement rows count) 0 6) []

  -- the words of a row
  pub placed-word : (count row field : ℕ) → row < count → property row ≡ true → field < 6 → get_or (placed_rows placement property rows count) (6 * before property row + field) (pos 0) ≡ placed_word placement rows row field
  unfolding placed_rows
  placed-word zero row field n e f = absurd (omega arith)
  placed-word (suc count) row field n e f = go (ℕ_discrete row count) (λ below. placed-word count row field below e f)
    where
      go : Dec (row ≡ count) → (row < count → get_or (placed_rows placement property rows count) (6 * before property row + field) (pos 0) ≡ placed_word placement rows row field) → get_or (placed_rows placement property rows count ++ last_row count) (6 * before property row + field) (pos 0) ≡ placed_word placement rows row field
      go (yes q) rest =
          let here : property count ≡ true = (rw q at e) in
          ap (λ (k : ℕ). get_or (placed_rows placement property rows count ++ last_row count) (k + field) (pos 0)) (ap (λ (k : ℕ). 6 * before property k) q ∙ sym (placed-length count))
          ∙ get_or-append-add (placed_rows placement property rows count) (last_row count) field (pos 0)
          ∙ ap (λ (b : Bool). get_or (pick b (tabulate (placed_word placement rows count) 0 6) []) field (pos 0)) here
          ∙ tabulated (pos 0) (placed_word placement rows count) 6 field f
          ∙ ap (λ (k : ℕ). placed_word placement rows k field) (sym q)
      go (no q) rest =
          let below : row < count = lt_of_le-ne (omega arith) q in
          let less = before-less property row count below e in
          let long = placed-length count in
          get_or-append (placed_rows placement property rows count) (last_row count) (pos 0) (6 * before property row + field) (omega arith)
          ∙ rest below
