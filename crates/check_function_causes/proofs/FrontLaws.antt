-- Laws of the front: the definition with a number is the one at that place of the run; so 23 is "a definition out of order or not at the
-- front".
use Rattle.std.specs.Prelude.{◌≡◌, refl, true, false, List, ℤ}
use Rattle.std.proofs.Math.Path.{subst, ap}
use Rattle.std.proofs.Common.{sym, ◌∙◌, true≢false}
use Prim.Native.Nat.{ℕ, zero, suc, ◌+◌, ◌≤◌, ◌<◌}
use native.Mathlib.Omega.{arith}
use Rattle.std.proofs.Math.Decide.{ℕ_discrete}
use borrow.Author.Tests.{eqb-true, eq-eqb, not-false}
use Rattle.words.specs.Table.{row_count, number_at}
use Rattle.words.specs.Laws.{by_cases}
use Rattle.words.specs.Links.{link}
use Rattle.check_structure.specs.NoteLaws.{above_zero}
use Rattle.check_structure.specs.Structured.{Leads, Tree}
use Rattle.check_function_causes.specs.Functions.{is_definition, is_return, definition_from, function_at}
use Rattle.check_function_causes.specs.Causes.{out_of_order}
use Rattle.check_function_causes.specs.Demands.{InFront, foremost, behind, DefinedInOrder}

-- A block defines no function; so row 0 does not.
pub block-undefined : (rows : List ℤ) (row : ℕ) → number_at rows row 0 ≡ 42 → is_definition rows row ≡ false
unfolding is_definition
block-undefined rows row block = rw block

pub block-no-return : (rows : List ℤ) (row : ℕ) → number_at rows row 0 ≡ 42 → is_return rows row ≡ false
unfolding is_return
block-no-return rows row block = rw block

-- ---- one definition at a time

module _ (rows : List ℤ) where
  pub from-here : (row : ℕ) → is_definition rows row ≡ true → definition_from 0 rows row ≡ row
  unfolding definition_from
  from-here row d = rw d

  pub from-behind : (row places : ℕ) → is_definition rows row ≡ true → definition_from (suc places) rows row ≡ definition_from places rows (link rows row 5)
  unfolding definition_from
  from-behind row places d = rw d

  pub from-other : (row places : ℕ) → is_definition rows row ≡ false → definition_from places rows row ≡ 0
  unfolding definition_from
  from-other row zero d = rw d
  from-other row (suc places) d = rw d

  -- ---- the run

  pub front-defines : {row place : ℕ} → InFront rows row place → is_definition rows row ≡ true
  front-defines (foremost leads d) = d
  front-defines (behind f leads d) = d

  -- places are below rows
  pub front-later : {row place : ℕ} → InFront rows row place → place < row
  front-later (foremost leads d) = leads.later
  front-later (behind f leads d) = let l = leads.later in let p = front-later f in omega arith

  pub front-inside : {row place : ℕ} → InFront rows row place → row < row_count rows
  front-inside (foremost leads d) = leads.inside
  front-inside (behind f leads d) = leads.inside

  front-from : {row place : ℕ} → InFront rows row place → (more : ℕ) → definition_from (place + more) rows (link rows 0 1) ≡ definition_from more rows row
  front-from (foremost leads d) more =
      let whole : 0 + more ≡ more = omega arith in
      ap (λ (places : ℕ). definition_from places rows (link rows 0 1)) whole
  front-from (behind {row} {place} f leads d) more =
      let on : place + 1 + more ≡ place + suc more = omega arith in
      ap (λ (places : ℕ). definition_from places rows (link rows 0 1)) on ∙ front-from f (suc more) ∙ from-behind row more (front-defines f)

  pub front-function : {row place : ℕ} → InFront rows row place → function_at rows place ≡ row
  unfolding function_at
  front-function {row} {place} f =
      let whole : place + 0 ≡ place = omega arith in
      ap (λ (places : ℕ). definition_from places rows (link rows 0 1)) (sym whole) ∙ front-from f 0 ∙ from-here row (front-defines f)

  module _ (t : Tree rows) (root : is_definition rows 0 ≡ false) where
    pub definition-some : (row : ℕ) → is_definition rows row ≡ true → row ≡ 0 → ⊥
    definition-some row d z = true≢false (sym d ∙ ap (is_definition rows) z ∙ root)

    pub definition-leads : (row field : ℕ) → row < row_count rows → field < 6 → is_definition rows (link rows row field) ≡ true → Leads rows row field
    definition-leads row field n h d = t.forward row field n h (above_zero _ (definition-some (link rows row field) d))

    -- a definition that is found stands there
    from_front : (places : ℕ) {row place : ℕ} → InFront rows row place → (definition_from places rows row ≡ 0 → ⊥) → InFront rows (definition_from places rows row) (place + places)
    from_front zero {row} {place} f some =
        let whole : place + 0 ≡ place = omega arith in
        rw (from-here row (front-defines f), whole) f
    from_front (suc places) {row} {place} f some =
        let is = from-behind row places (front-defines f) in
        let on : place + suc places ≡ place + 1 + places = omega arith in
        by_cases (is_definition rows (link rows row 5))
        (λ d. rw (is, on) (from_front places (behind f (definition-leads row 5 (front-inside f) (omega arith) d) d) (λ z. some (is ∙ z))))
        (λ d. absurd (some (is ∙ from-other (link rows row 5) places d)))

    pub function-front : (number : ℕ) → (function_at rows number ≡ 0 → ⊥) → InFront rows (function_at rows number) number
    unfolding function_at
    function-front number some =
        by_cases (is_definition rows (link rows 0 1))
        (λ d. let whole : 0 + number ≡ number = omega arith in
        rw whole at (from_front number (foremost (definition-leads 0 1 t.some_rows (omega arith) d) d) some))
        (λ d. absurd (some (from-other (link rows 0 1) number d)))

    pub function-inside : (number : ℕ) → function_at rows number < row_count rows
    function-inside number = go (ℕ_discrete (function_at rows number) 0)
      where
        go : Dec (function_at rows number ≡ 0) → function_at rows number < row_count rows
        go (yes z) = let some = t.some_rows in omega arith
        go (no z) = front-inside (function-front number z)

    -- no number from the number of rows on has a definition
    pub function-none : (number : ℕ) → row_count rows ≤ number → function_at rows number ≡ 0
    function-none number most = go (ℕ_discrete (function_at rows number) 0)
      where
        go : Dec (function_at rows number ≡ 0) → function_at rows number ≡ 0
        go (yes z) = z
        go (no z) = let f = function-front number z in let l = front-later f in let i = front-inside f in absurd (omega arith)

    -- ---- 23

    pub ordered : (row : ℕ) → out_of_order rows row ≡ false → DefinedInOrder rows row
    unfolding out_of_order
    ordered row e d =
        let is = eqb-true (function_at rows (number_at rows row 1)) row (not-false _ (rw d at e)) in
        subst (λ (x : ℕ). InFront rows x (number_at rows row 1)) is
        (function-front (number_at rows row 1) (λ z. definition-some row d (sym is ∙ z)))

    pub in_order : (row : ℕ) → DefinedInOrder rows row → out_of_order rows row ≡ false
    unfolding out_of_order
    in_order row o =
        by_cases (is_definition rows row)
        (λ d. rw (d, eq-eqb (function_at rows (number_at rows row 1)) row (front-function (o d))))
        (λ d. rw d)
